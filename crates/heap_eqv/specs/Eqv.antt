-- What comparing values asks of the lent lists, and what a value shows in them. Assumes nothing.
use Rattle.std.specs.Prelude.{◌≡◌, true, List, [], ℕ, ◌+◌, ◌≤◌}
use Rattle.rules.specs.Cells.{Value, slot, scalar, Cell, plain}
use Rattle.rules.specs.Heap.{Heap}
use Rattle.rules.specs.Layout.{Lent, heap_of}
use Rattle.rules.specs.Sound.{text_block, sound}
use Rattle.rules.specs.Calls.{value_in_use}
use Rattle.leaf_cells.specs.Cells.{loaded}

-- a heap of these bytes and nothing else: of a heap `eqv` of two cells looks at the bytes alone
unfoldable pub holding : List ℕ → Heap
holding bytes = record { chunk = 0; cells = []; map = []; free = []; table = []; bytes = bytes; elements = [] }

-- the text that a cell shows, if any, ends within a room
pub record Within (room : ℕ) (c : Cell) : Type 0 where
  pub ends : (text_block c).place + (text_block c).size ≤ room

-- a slot's cell as the words have it, or the scalar itself
unfoldable pub shown_in : List ℕ → Value → Cell
shown_in ws (slot s) = loaded ws s
shown_in ws (scalar x) = plain x

-- what the doors have tested: 20, and 14 of both values
pub record Comparable (l : Lent) (v w : Value) : Type 0 where
  pub lists_sound : sound l ≡ true
  pub first : value_in_use (heap_of l) v ≡ true
  pub second : value_in_use (heap_of l) w ≡ true
