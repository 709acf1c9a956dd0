-- A heap in the making, in the lent lists: what a part of a put finds, and what it must leave. Assumes nothing.
use Rattle.std.specs.Prelude.{◌≡◌, true, List, ℕ, ◌*◌, ◌≤◌, ltb, length}
use Rattle.laws.specs.Basics.{every, join}
use Rattle.rules.specs.Heap.{Entry, capacity, used_count, fitting, most_growths}
use Rattle.rules.specs.Layout.{Rooms, words_of, map_bytes, filled, value_words}
use Rattle.rules.specs.Put.{Label, Making}
use Rattle.leaf_free.proofs.Allocating.{Growing}
use Rattle.rules.specs.Nodes.{Node, Reading, reads, faulty}
use Rattle.heap_labels.specs.Labels.{labels_in}
use Rattle.heap_atoms.specs.declared.Shape.{Shape}
use Rattle.heap_atoms.specs.declared.Shape.TheVariants as shape

-- the lists are those of the heap in the making, and the scratch has its labels
pub record Stands (r : Rooms) (m : Making) (count : ℕ) (words map bytes elems labels : List ℕ) : Type 0 where
  pub words_are : words ≡ words_of r.slots m.heap
  pub map_is : map ≡ filled (map_bytes r.slots) m.heap.map
  pub bytes_are : bytes ≡ filled r.bytes m.heap.bytes
  pub elems_are : elems ≡ filled (3 * r.elements) (join value_words m.heap.elements)
  pub labels_are : labels_in labels count ≡ m.labels
  pub labels_room : 130 ≤ length labels

-- what a put keeps: slots can be taken up to the limit, and entries and labels lead to slots below the capacity
pub record Able (r : Rooms) (limit : ℕ) (m : Making) : Type 0 where
  pub growing : Growing r.slots m.heap
  pub limit_is : limit ≡ fitting most_growths m.heap.chunk r.slots (capacity m.heap)
  pub table_size : length m.heap.table ≤ used_count m.heap
  pub table_below : every (λ (e : Entry). ltb e.slot (capacity m.heap)) m.heap.table ≡ true
  pub labels_below : every (λ (x : Label). ltb x.slot (capacity m.heap)) m.labels ≡ true

-- what is made is within the rooms
pub record Within (r : Rooms) (limit : ℕ) (m : Making) : Type 0 where
  pub used : used_count m.heap ≤ limit
  pub bytes : length m.heap.bytes ≤ r.bytes
  pub elements : length m.heap.elements ≤ r.elements
  pub labels : length m.labels ≤ 64

-- ---- what a datum begins with

pub data Head : Type 0 where
  an_atom a_pair : Head
  a_vector a_label : ℕ → Head

abbrev pub head_of_node : Node → Head
head_of_node (Node.atom a) = an_atom
head_of_node Node.pair = a_pair
head_of_node (Node.vector n) = a_vector n
head_of_node (Node.def l) = a_label l

abbrev pub head_of : Reading Node → Head
head_of (reads n rest) = head_of_node n
head_of (faulty x) = an_atom

abbrev pub shown_shape : Shape → Head
shown_shape shape.Atom = an_atom
shown_shape shape.Pair = a_pair
shown_shape (shape.Vector n) = a_vector n
shown_shape (shape.Label l) = a_label l
