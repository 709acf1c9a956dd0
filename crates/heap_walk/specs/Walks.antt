-- The rules' walk by what a cell holds. Assumes nothing.
use Rattle.std.specs.Prelude.{Bool, true, false, List, [], ℕ, suc}
use Rattle.rules.specs.Cells.{Value, slot, Cell, plain, pair, symbol, string, vector}
use Rattle.rules.specs.Heap.{Heap, capacity, elements_of}
use Rattle.rules.specs.Read.{Walk, in_order, walk}

-- a pair or a vector
abbrev pub has_parts : Cell → Bool
has_parts (plain x) = false
has_parts (pair a d) = true
has_parts (symbol b) = false
has_parts (string b) = false
has_parts (vector b) = true

-- "car before cdr, elements in order"
unfoldable pub walk_parts : ℕ → Heap → List ℕ → Cell → Walk → Walk
walk_parts n h path (plain x) w = w
walk_parts n h path (pair a d) w = walk n h path (slot d) (walk n h path (slot a) w)
walk_parts n h path (symbol b) w = w
walk_parts n h path (string b) w = w
walk_parts n h path (vector b) w = in_order (λ v w. walk n h path v w) (elements_of h b) w

-- nothing is met, nothing labelled
abbrev pub fresh_walk : Walk
fresh_walk = record { met = []; labels = [] }

-- the whole walk from a value
unfoldable pub whole_walk : Heap → Value → Walk
whole_walk h v = walk (suc (capacity h)) h [] v fresh_walk
