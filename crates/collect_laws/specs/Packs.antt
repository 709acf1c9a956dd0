-- The rules' packing of a whole heap, arena by arena. Document 01: "A collection keeps each block that a surviving slot shows,
-- once, packed by lowest such slot". Assumes nothing.
use Rattle.std.specs.Prelude.{[], ℕ}
use Rattle.rules.specs.Cells.{Value}
use Rattle.rules.specs.Heap.{Heap}
use Rattle.rules.specs.Collect.{Packing, Packed, pack_cells}

abbrev pub none_packed : Packed
none_packed = record { texts = record { room = []; moved = [] }; vectors = record { room = []; moved = [] } }

abbrev pub all_packed : Heap → Packed
all_packed h = pack_cells h h.cells none_packed

abbrev pub texts_of : Heap → Packing ℕ
texts_of h = (all_packed h).texts

abbrev pub vectors_of : Heap → Packing Value
vectors_of h = (all_packed h).vectors
