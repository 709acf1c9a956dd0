-- The clauses of soundness in two parts: the outline, which is looked at word by word, and the contents, which are looked at
-- where the outline holds. Assumes nothing.
use Rattle.std.specs.Prelude.{true, ◌≡◌, length, get_or}
use Rattle.rules.specs.Layout.{Lent, heap_of}
use Rattle.rules.specs.Sound.{setup_numbers, counts_within, cells_allowed, capacity_grown, states_settled, free_once, free_undefined, names_in_use, blocks_sound, text_block, vector_block, table_sound, written_out}

pub record Outline (l : Lent) : Type 0 where
  pub numbers : setup_numbers (get_or l.words 0 0) l ≡ true
  pub counts : counts_within l ≡ true
  pub growth : capacity_grown (heap_of l) ≡ true
  pub states : states_settled (heap_of l) ≡ true
  pub free_list : free_once (heap_of l) ≡ true
  pub free_cells : free_undefined (heap_of l) ≡ true
  pub spare : written_out l ≡ true

pub record Contents (l : Lent) : Type 0 where
  pub allowed : cells_allowed (heap_of l) ≡ true
  pub named : names_in_use (heap_of l) ≡ true
  pub texts : blocks_sound (length (heap_of l).bytes) text_block (heap_of l) ≡ true
  pub vectors : blocks_sound (length (heap_of l).elements) vector_block (heap_of l) ≡ true
  pub table : table_sound (heap_of l) ≡ true
