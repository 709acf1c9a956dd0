-- What each part of a put is given and must leave: a tree stands at the start of the lent datum, and the lists afterwards
-- are those of the rules' put of that tree. Assumes nothing.
use Rattle.std.specs.Prelude.{◌≡◌, true, List, ◌++◌, ℕ, ◌+◌, ◌*◌, ◌<◌, ◌≤◌, length}
use Rattle.laws.specs.Basics.{every, join}
use Rattle.rules.specs.Nodes.{Atom, Node, write_node, node_fits}
use Rattle.rules.specs.Datum.{Datum, Data, how_many, encode, datum_fits, all_nodes}
use Rattle.rules.specs.Layout.{Rooms, words_of, map_bytes, filled}
use Rattle.rules.specs.Put.{Making, in_slot, slot_in, put_atom, put, put_all, store_at}
use Rattle.leaf_cells.specs.Elements.{value_of}
use Rattle.leaf_cells.specs.declared.Value.{Value}
use Rattle.heap_labels.specs.Labels.{labels_in}
use Rattle.heap_atoms.specs.Makings.{Stands, Able, Within}

-- a tree to be put, all of whose put is within the rooms
pub record Task (r : Rooms) (f : ℕ) (m : Making) (t : Datum) (rest : List ℕ) (count : ℕ) (datum words map bytes elems labels : List ℕ) : Type 0 where
  pub stands : Stands r m count words map bytes elems labels
  pub able : Able r f m
  pub within : Within r f (put t m).making
  pub datum_is : datum ≡ encode t ++ rest
  pub fits : datum_fits t ≡ true

-- it was put
pub record Done (r : Rooms) (m : Making) (t : Datum) (value : Value) (size count : ℕ) (words map bytes elems labels : List ℕ) : Type 0 where
  pub stands : Stands r (put t m).making count words map bytes elems labels
  pub value_is : value_of value ≡ (put t m).value
  pub size_is : size ≡ length (encode t)

-- a leaf of the tree: the elements are not touched, and the labels only read
pub record AtomTask (r : Rooms) (f : ℕ) (m : Making) (a : Atom) (rest : List ℕ) (count : ℕ) (datum words map bytes labels : List ℕ) : Type 0 where
  pub words_are : words ≡ words_of r.slots m.heap
  pub map_is : map ≡ filled (map_bytes r.slots) m.heap.map
  pub bytes_are : bytes ≡ filled r.bytes m.heap.bytes
  pub labels_are : labels_in labels count ≡ m.labels
  pub labels_room : 2 * count ≤ length labels
  pub able : Able r f m
  pub within : Within r f (put_atom a m).making
  pub datum_is : datum ≡ write_node (Node.atom a) ++ rest
  pub fits : node_fits (Node.atom a) ≡ true

pub record AtomDone (r : Rooms) (m : Making) (a : Atom) (count : ℕ) (value : Value) (size count' : ℕ) (words map bytes : List ℕ) : Type 0 where
  pub words_are : words ≡ words_of r.slots (put_atom a m).making.heap
  pub map_is : map ≡ filled (map_bytes r.slots) (put_atom a m).making.heap.map
  pub bytes_are : bytes ≡ filled r.bytes (put_atom a m).making.heap.bytes
  pub value_is : value_of value ≡ (put_atom a m).value
  pub size_is : size ≡ length (write_node (Node.atom a))
  pub count_is : count' ≡ count

-- the same where a slot is wanted
pub record SlotTask (r : Rooms) (f : ℕ) (m : Making) (t : Datum) (rest : List ℕ) (count : ℕ) (datum words map bytes elems labels : List ℕ) : Type 0 where
  pub stands : Stands r m count words map bytes elems labels
  pub able : Able r f m
  pub within : Within r f (in_slot (put t m)).making
  pub datum_is : datum ≡ encode t ++ rest
  pub fits : datum_fits t ≡ true

pub record SlotDone (r : Rooms) (m : Making) (t : Datum) (slot size count : ℕ) (words map bytes elems labels : List ℕ) : Type 0 where
  pub stands : Stands r (in_slot (put t m)).making count words map bytes elems labels
  pub slot_is : slot ≡ slot_in (in_slot (put t m))
  pub size_is : size ≡ length (encode t)

-- a tree to be put as the element at a place
pub record ElementTask (r : Rooms) (f : ℕ) (m : Making) (t : Datum) (rest : List ℕ) (place count : ℕ) (datum words map bytes elems labels : List ℕ) : Type 0 where
  pub task : Task r f m t rest count datum words map bytes elems labels
  pub room : place < length m.heap.elements

pub record ElementDone (r : Rooms) (m : Making) (t : Datum) (place size count : ℕ) (words map bytes elems labels : List ℕ) : Type 0 where
  pub stands : Stands r (store_at place (put t m)) count words map bytes elems labels
  pub size_is : size ≡ length (encode t)

-- data for the elements from place k on
abbrev pub encode_all : Data → List ℕ
encode_all ds = join write_node (all_nodes ds)

pub record AllTask (r : Rooms) (f : ℕ) (m : Making) (ds : Data) (rest : List ℕ) (k n count : ℕ) (datum words map bytes elems labels : List ℕ) : Type 0 where
  pub stands : Stands r m count words map bytes elems labels
  pub able : Able r f m
  pub within : Within r f (put_all ds k m)
  pub datum_is : datum ≡ encode_all ds ++ rest
  pub fits : every node_fits (all_nodes ds) ≡ true
  pub many : n ≡ how_many ds
  pub room : k + n ≤ length m.heap.elements

pub record AllDone (r : Rooms) (m : Making) (ds : Data) (k size count : ℕ) (words map bytes elems labels : List ℕ) : Type 0 where
  pub stands : Stands r (put_all ds k m) count words map bytes elems labels
  pub size_is : size ≡ length (encode_all ds)
