-- A value where a slot or a cell is wanted: the slot that it is, or the cell that it would be. Assumes nothing.
use Rattle.std.specs.Prelude.{◌≡◌, List, [], ℕ, ◌+◌, ◌<◌}
use Rattle.rules.specs.Cells.{Value, slot, scalar, Cell, plain}
use Rattle.rules.specs.Heap.{Heap, capacity}
use Rattle.rules.specs.Layout.{words_of, map_bytes, filled}
use Rattle.rules.specs.Put.{making, put_as, in_slot, slot_in}
use Rattle.leaf_cells.specs.Cells.{cell_of}
use Rattle.heap_steps.specs.Steps.{Open}
use Rattle.heap_steps.specs.declared.Place.{Place}
use Rattle.heap_steps.specs.declared.Place.TheVariants.{At, New}

-- a slot, or the cell of a scalar
pub data Shape : Type 0 where
  at : ℕ → Shape
  new : Cell → Shape

abbrev pub shape_of : Value → Shape
shape_of (slot s) = at s
shape_of (scalar x) = new (plain x)

abbrev pub shown_place : Place → Shape
shown_place (At s) = at s
shown_place (New c) = new (cell_of c)

-- a value can be given a slot: it is one, or there is one to give
pub record SlotOpen (n : ℕ) (h : Heap) (v : Value) (words map : List ℕ) : Type 0 where
  pub words_are : words ≡ words_of n h
  pub map_is : map ≡ filled (map_bytes n) h.map
  pub room : (c : Cell) → shape_of v ≡ new c → Open n h words map

-- "every car and cdr in a slot", as the rules have it
pub record SlotMade (n : ℕ) (h : Heap) (v : Value) (s : ℕ) (words map : List ℕ) : Type 0 where
  pub slot_is : s ≡ slot_in (in_slot (put_as v (making h [])))
  pub words_are : words ≡ words_of n (in_slot (put_as v (making h []))).making.heap
  pub map_is : map ≡ filled (map_bytes n) (in_slot (put_as v (making h []))).making.heap.map

-- a value's cell can be copied into a slot
pub record CopyOpen (n : ℕ) (h : Heap) (s : ℕ) (v : Value) (words : List ℕ) : Type 0 where
  pub words_are : words ≡ words_of n h
  pub within : capacity h < n + 1
  pub slot_below : s < capacity h
  pub value_below : (t : ℕ) → shape_of v ≡ at t → t < n
