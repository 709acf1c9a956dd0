-- Sweeping in the lent words and the lent map, slot by slot: one that is still Allocated was not reached and is freed, one that
-- is Used is Allocated again. Document 01, "Slots and growth": "It frees, in rising order, what is not reached, writes Undefined
-- there, and puts each on top of the list." Assumes nothing.
use Rattle.std.specs.Prelude.{◌≡◌, true, List, [], ◌∷◌, ℕ, ◌+◌, ◌*◌, ◌/◌, ◌≤◌, ◌<◌, eqb, length, get_or}
use Rattle.laws.specs.Basics.{choose, keep, rising, basics}
use Rattle.rules.specs.Map.{Free, Allocated, Used, state_of, set_state, is_allocated}
use Rattle.rules.specs.Cells.{plain, undefined}
use Rattle.leaf_free.specs.FreeList.{capacity_of, count_of, place, pushed}
use Rattle.leaf_cells.specs.Cells.{stored_cell}
use Rattle.leaf_symbols.specs.Table.{dropped}

-- the two lists that a sweep changes
pub record Swept : Type 0 where
  pub words : List ℕ
  pub map : List ℕ

abbrev pub swept : List ℕ → List ℕ → Swept
swept ws m = record { words = ws; map = m }

-- a slot becomes Free, goes on top of the list, and holds Undefined
unfoldable pub freed : ℕ → Swept → Swept
freed s l = swept (stored_cell (pushed l.words s) s (plain undefined)) (set_state l.map s Free)

unfoldable pub kept : ℕ → Swept → Swept
kept s l = swept l.words (set_state l.map s Allocated)

-- by the state of the slot
unfoldable pub sweep_slot : ℕ → Swept → Swept
unfolding freed kept
sweep_slot s l =
    choose (eqb (state_of l.map s) Used) (kept s l) (choose (is_allocated l.map s) (freed s l) l)

unfoldable pub sweep_slots : List ℕ → Swept → Swept
unfolding sweep_slot
sweep_slots [] l = l
sweep_slots (s ∷ ss) l = sweep_slots ss (sweep_slot s l)

-- "in rising order", every slot below the capacity
unfoldable pub sweep_all : Swept → Swept
unfolding sweep_slots basics
sweep_all l = sweep_slots (rising 0 (capacity_of l.words)) l

-- the slots that will be freed
unfoldable pub doomed : List ℕ → ℕ → ℕ → List ℕ
unfolding basics
doomed m s n = keep (is_allocated m) (rising s n)

-- one slot can be swept: its row and its state are there, and a place of the list if it will be freed
pub record CanSlot (words map : List ℕ) (s : ℕ) : Type 0 where
  pub row : 8 * s + 16 ≤ length words
  pub state : s / 4 < length map
  pub list : is_allocated map s ≡ true → place (count_of words) < length words

-- all can: a row for each slot, its state, and a place of the list for each that will be freed
pub record CanSweep (words map : List ℕ) : Type 0 where
  pub header : 8 ≤ length words
  pub rows : 8 + 8 * capacity_of words ≤ length words
  pub states : capacity_of words ≤ 4 * length map
  pub list : count_of words + length (doomed map 0 (capacity_of words)) ≤ capacity_of words

-- and the symbol table stands in the rows
pub record CanDrop (words map : List ℕ) : Type 0 where
  pub sweep : CanSweep words map
  pub table : 8 * get_or words 3 0 + 8 ≤ length words

-- "A swept symbol leaves the table."
unfoldable pub sweep_dropped : Swept → Swept
unfolding sweep_all
sweep_dropped l = swept (dropped (sweep_all l).words (sweep_all l).map) (sweep_all l).map

unfoldable pub sweep_words : Unit {0}
unfolding freed kept sweep_slot sweep_slots sweep_all doomed sweep_dropped
sweep_words = tt
