-- The two passes of packing, texts and then elements, and how far each has come. Assumes nothing.
use Rattle.std.specs.Prelude.{◌≡◌, true, List, ◌++◌, map, ℕ, ◌*◌, ◌≤◌, length, get_or, take, drop}
use Rattle.laws.specs.Basics.{join}
use Rattle.rules.specs.Cells.{Value, Cell, plain, pair, symbol, string, vector}
use Rattle.rules.specs.Heap.{Heap, capacity, cell_at}
use Rattle.rules.specs.Layout.{Rooms, words_of, filled, value_words}
use Rattle.rules.specs.Collect.{Moved, moved_block, pack}
use Rattle.rules.specs.Sound.{text_block, vector_block, lies_in}
use Rattle.rules.proofs.Good.{apart}
use Rattle.collect_laws.specs.Packs.{texts_of, vectors_of}

-- a cell whose text was moved
abbrev pub text_placed : List Moved → Cell → Cell
text_placed ms (plain s) = plain s
text_placed ms (pair a d) = pair a d
text_placed ms (symbol b) = symbol (moved_block b ms)
text_placed ms (string b) = string (moved_block b ms)
text_placed ms (vector b) = vector b

abbrev pub vector_placed : List Moved → Cell → Cell
vector_placed ms (plain s) = plain s
vector_placed ms (pair a d) = pair a d
vector_placed ms (symbol b) = symbol b
vector_placed ms (string b) = string b
vector_placed ms (vector b) = vector (moved_block b ms)

abbrev pub with_cells : Heap → List Cell → Heap
with_cells h cs =
    record {
      chunk = h.chunk;
      cells = cs;
      map = h.map;
      free = h.free;
      table = h.table;
      bytes = h.bytes;
      elements = h.elements;
    }

-- the first cells changed
abbrev pub changed : (Cell → Cell) → ℕ → List Cell → List Cell
changed f s cs = map f (take s cs) ++ drop s cs

-- the heap with its texts packed, with its elements packed
abbrev pub with_texts : Heap → Heap
with_texts h =
    record {
      chunk = h.chunk;
      cells = map (text_placed (texts_of h).moved) h.cells;
      map = h.map;
      free = h.free;
      table = h.table;
      bytes = (texts_of h).room;
      elements = h.elements;
    }

abbrev pub with_vectors : Heap → Heap
with_vectors h =
    record {
      chunk = h.chunk;
      cells = map (vector_placed (vectors_of h).moved) h.cells;
      map = h.map;
      free = h.free;
      table = h.table;
      bytes = h.bytes;
      elements = (vectors_of h).room;
    }

-- the blocks of a heap: in the room in use, and the same or disjoint
pub record TextsApart (h : Heap) : Type 0 where
  pub apart_all : (s t : ℕ) → apart (text_block (cell_at h s)) (text_block (cell_at h t)) ≡ true
  pub lies : (s : ℕ) → lies_in (length h.bytes) (text_block (cell_at h s)) ≡ true

pub record VectorsApart (h : Heap) : Type 0 where
  pub apart_all : (s t : ℕ) → apart (vector_block (cell_at h s)) (vector_block (cell_at h t)) ≡ true
  pub lies : (s : ℕ) → lies_in (length h.elements) (vector_block (cell_at h s)) ≡ true

-- ---- the pass over the texts

pub record TextsBegin (n : ℕ) (h : Heap) (room : ℕ) (words bytes old table : List ℕ) : Type 0 where
  pub good : TextsApart h
  pub rows : capacity h ≤ n
  pub few : n ≤ 4096
  pub within : length h.bytes ≤ room
  pub most : room ≤ 65536
  pub words_are : words ≡ words_of n h
  pub bytes_are : bytes ≡ filled room h.bytes
  pub old_is : take (length h.bytes) old ≡ h.bytes
  pub old_long : length h.bytes ≤ length old
  pub table_clear : (k : ℕ) → get_or table k 0 ≡ 0
  pub table_long : length table ≡ 65536

pub record TextsEnd (n : ℕ) (h : Heap) (room : ℕ) (words bytes : List ℕ) (r : ℕ) : Type 0 where
  pub words_are : words ≡ words_of n (with_cells h (map (text_placed (texts_of h).moved) h.cells))
  pub bytes_are : bytes ≡ (texts_of h).room ++ drop r (filled room h.bytes)
  pub used : r ≡ length (texts_of h).room

-- the lists of a heap, and room aside
pub record TextsLent (n : ℕ) (h : Heap) (room : ℕ) (words bytes old table : List ℕ) : Type 0 where
  pub good : TextsApart h
  pub rows : capacity h ≤ n
  pub few : n ≤ 4096
  pub within : length h.bytes ≤ room
  pub most : room ≤ 65536
  pub words_are : words ≡ words_of n h
  pub bytes_are : bytes ≡ filled room h.bytes
  pub old_long : length old ≡ 65536
  pub table_clear : (k : ℕ) → get_or table k 0 ≡ 0
  pub table_long : length table ≡ 65536

pub record TextsPacked (n : ℕ) (h : Heap) (room : ℕ) (words bytes : List ℕ) : Type 0 where
  pub words_are : words ≡ words_of n (with_texts h)
  pub bytes_are : bytes ≡ filled room (with_texts h).bytes

-- ---- the pass over the elements, three words each

abbrev pub value_list : List Value → List ℕ
value_list vs = join value_words vs

pub record ElementsBegin (n : ℕ) (h : Heap) (room : ℕ) (words elems old table : List ℕ) : Type 0 where
  pub good : VectorsApart h
  pub rows : capacity h ≤ n
  pub few : n ≤ 4096
  pub within : length h.elements ≤ room
  pub most : room ≤ 16384
  pub words_are : words ≡ words_of n h
  pub elems_are : elems ≡ filled (3 * room) (value_list h.elements)
  pub old_is : take (3 * length h.elements) old ≡ value_list h.elements
  pub old_long : 3 * length h.elements ≤ length old
  pub table_clear : (k : ℕ) → get_or table k 0 ≡ 0
  pub table_long : length table ≡ 16384

pub record ElementsEnd (n : ℕ) (h : Heap) (room : ℕ) (words elems : List ℕ) (r : ℕ) : Type 0 where
  pub words_are : words ≡ words_of n (with_cells h (map (vector_placed (vectors_of h).moved) h.cells))
  pub elems_are : elems ≡ value_list (vectors_of h).room ++ drop (3 * r) (filled (3 * room) (value_list h.elements))
  pub used : r ≡ length (vectors_of h).room

pub record ElementsLent (n : ℕ) (h : Heap) (room : ℕ) (words elems old table : List ℕ) : Type 0 where
  pub good : VectorsApart h
  pub rows : capacity h ≤ n
  pub few : n ≤ 4096
  pub within : length h.elements ≤ room
  pub most : room ≤ 16384
  pub words_are : words ≡ words_of n h
  pub elems_are : elems ≡ filled (3 * room) (value_list h.elements)
  pub old_long : length old ≡ 49152
  pub table_clear : (k : ℕ) → get_or table k 0 ≡ 0
  pub table_long : length table ≡ 16384

pub record ElementsPacked (n : ℕ) (h : Heap) (room : ℕ) (words elems : List ℕ) : Type 0 where
  pub words_are : words ≡ words_of n (with_vectors h)
  pub elems_are : elems ≡ filled (3 * room) (value_list (with_vectors h).elements)

-- ---- both

pub record TextsGiven (n : ℕ) (h : Heap) (room : ℕ) (words bytes : List ℕ) : Type 0 where
  pub good : TextsApart h
  pub rows : capacity h ≤ n
  pub few : n ≤ 4096
  pub within : length h.bytes ≤ room
  pub most : room ≤ 65536
  pub words_are : words ≡ words_of n h
  pub bytes_are : bytes ≡ filled room h.bytes

pub record ElementsGiven (n : ℕ) (h : Heap) (room : ℕ) (words elems : List ℕ) : Type 0 where
  pub good : VectorsApart h
  pub rows : capacity h ≤ n
  pub few : n ≤ 4096
  pub within : length h.elements ≤ room
  pub most : room ≤ 16384
  pub words_are : words ≡ words_of n h
  pub elems_are : elems ≡ filled (3 * room) (value_list h.elements)

-- the lists of a heap whose blocks are the same or disjoint
pub record PackGiven (n : ℕ) (h : Heap) (r : Rooms) (words bytes elems : List ℕ) : Type 0 where
  pub texts : TextsGiven n h r.bytes words bytes
  pub vectors : ElementsGiven n h r.elements words elems

-- those of the rules' packed heap
pub record AllPacked (n : ℕ) (h : Heap) (r : Rooms) (words bytes elems : List ℕ) : Type 0 where
  pub words_are : words ≡ words_of n (pack h)
  pub bytes_are : bytes ≡ filled r.bytes (pack h).bytes
  pub elems_are : elems ≡ filled (3 * r.elements) (value_list (pack h).elements)
