-- What a collection keeps of a cell and of a value. Document 01: "A collection keeps each block that a surviving slot shows, once,
-- packed by lowest such slot; sharing stays." Assumes nothing.
use Rattle.std.specs.Prelude.{◌≡◌, List, ℕ, ◌+◌, ◌≤◌, ◌<◌}
use Rattle.rules.specs.Cells.{Scalar, Value, slot, scalar, Block, Cell, plain, pair, symbol, string, vector}
use Rattle.rules.specs.Heap.{Heap, cell_at, text_of, elements_of}
use Rattle.rules.specs.Collect.{Reached}

-- a cell of one heap and a cell of another: one variant, the same scalar, the same car and cdr, a block of the same size that
-- holds the same text or the same elements. Only where the block stands may differ.
pub data AsBefore (h k : Heap) : Cell → Cell → Type 0 where
  same_scalar : (x : Scalar) → AsBefore h k (plain x) (plain x)
  same_pair : (a d : ℕ) → AsBefore h k (pair a d) (pair a d)
  symbol_moved : (b c : Block) → c.size ≡ b.size → text_of k c ≡ text_of h b → AsBefore h k (symbol b) (symbol c)
  string_moved : (b c : Block) → c.size ≡ b.size → text_of k c ≡ text_of h b → AsBefore h k (string b) (string c)
  vector_moved : (b c : Block) → c.size ≡ b.size → elements_of k c ≡ elements_of h b → AsBefore h k (vector b) (vector c)

-- a scalar, or a slot that the roots reach
pub data ReachedValue (h : Heap) (roots : List ℕ) : Value → Type 0 where
  no_slot : {x : Scalar} → ReachedValue h roots (scalar x)
  at_slot : {s : ℕ} → Reached h roots s → ReachedValue h roots (slot s)

-- a reached slot whose block stands, in the other heap, over a place of an arena
pub record ShownOver (h : Heap) (roots : List ℕ) (k : Heap) (shows : Cell → Block) (place : ℕ) : Type 0 where
  pub by : ℕ
  pub reached : Reached h roots by
  pub begins : (shows (cell_at k by)).place ≤ place
  pub ends : place < (shows (cell_at k by)).place + (shows (cell_at k by)).size

-- a reached slot, the lowest that shows its block
pub record Lowest (h : Heap) (roots : List ℕ) (shows : Cell → Block) (s : ℕ) : Type 0 where
  pub reached : Reached h roots s
  pub first : (r : ℕ) → r < s → Reached h roots r → shows (cell_at h r) ≡ shows (cell_at h s) → ⊥
