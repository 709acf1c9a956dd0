-- What a step of a put finds and leaves, in the lent lists: a heap that can give a slot, and that heap with one more cell,
-- text or symbol, just as the rules have it. Assumes nothing.
use Rattle.std.specs.Prelude.{◌≡◌, List, [], ℕ, ◌+◌, ◌≤◌, ◌<◌, length}
use Rattle.std.proofs.Math.Option.{none}
use Rattle.rules.specs.Cells.{slot, Cell}
use Rattle.rules.specs.Heap.{Heap, alloc, found, with_cell}
use Rattle.rules.specs.Layout.{words_of, map_bytes, filled}
use Rattle.rules.specs.Put.{making, put_string, make_symbol, put_symbol}
use Rattle.leaf_free.proofs.Allocating.{Growing, available}
use Rattle.leaf_symbols.proofs.TableLaws.{TableFits}

-- the words and the map are those of a heap that has a slot to give
pub record Open (n : ℕ) (h : Heap) (words map : List ℕ) : Type 0 where
  pub growing : Growing n h
  pub some : 0 < available n h
  pub words_are : words ≡ words_of n h
  pub map_is : map ≡ filled (map_bytes n) h.map

-- the next slot holds the cell
pub record CellMade (n : ℕ) (h : Heap) (c : Cell) (s : ℕ) (words map : List ℕ) : Type 0 where
  pub slot_is : s ≡ (alloc h).slot
  pub words_are : words ≡ words_of n (with_cell (alloc h).heap (alloc h).slot c)
  pub map_is : map ≡ filled (map_bytes n) (alloc h).heap.map

-- and the byte arena has room for a text
pub record TextOpen (n room : ℕ) (h : Heap) (text words map bytes : List ℕ) : Type 0 where
  pub ready : Open n h words map
  pub bytes_are : bytes ≡ filled room h.bytes
  pub fits : length h.bytes + length text ≤ room

-- the heap after a step, in the lists
pub record Left (n room : ℕ) (h : Heap) (words map bytes : List ℕ) : Type 0 where
  pub words_are : words ≡ words_of n h
  pub map_is : map ≡ filled (map_bytes n) h.map
  pub bytes_are : bytes ≡ filled room h.bytes

-- the string was put as the rules put it
pub record StringPut (n room : ℕ) (h : Heap) (text : List ℕ) (s : ℕ) (words map bytes : List ℕ) : Type 0 where
  pub value_is : slot s ≡ (put_string text (making h [])).value
  pub left : Left n room (put_string text (making h [])).making.heap words map bytes

-- and the table has a place for an entry
pub record SymbolOpen (n room : ℕ) (h : Heap) (name words map bytes : List ℕ) : Type 0 where
  pub text : TextOpen n room h name words map bytes
  pub table : length h.table < n

-- the symbol was made as the rules make it
pub record SymbolMade (n room : ℕ) (h : Heap) (name : List ℕ) (scope s : ℕ) (words map bytes : List ℕ) : Type 0 where
  pub value_is : slot s ≡ (make_symbol name scope (making h [])).value
  pub left : Left n room (make_symbol name scope (making h [])).making.heap words map bytes

-- a symbol can be looked for, and made where it is not found
pub record SymbolReady (n room : ℕ) (h : Heap) (name : List ℕ) (scope : ℕ) (words map bytes : List ℕ) : Type 0 where
  pub standing : Left n room h words map bytes
  pub bytes_fit : length h.bytes ≤ room
  pub table_fits : TableFits n h
  pub new : found h name scope ≡ none → SymbolOpen n room h name words map bytes

pub record SymbolPut (n room : ℕ) (h : Heap) (name : List ℕ) (scope s : ℕ) (words map bytes : List ℕ) : Type 0 where
  pub value_is : slot s ≡ (put_symbol name scope (making h [])).value
  pub left : Left n room (put_symbol name scope (making h [])).making.heap words map bytes
