-- What one block's move is given and does. A table has, at the place where a moved block began, one more than the place
-- that it went to; 0 where none was moved. Assumes nothing.
use Rattle.std.specs.Prelude.{◌≡◌, List, ◌++◌, ℕ, ◌+◌, ◌-◌, ◌*◌, ◌/◌, ◌≤◌, ◌<◌, eqb, length, get_or, take, drop, set}
use Rattle.laws.specs.Basics.{choose}
use Rattle.rules.specs.Cells.{Block, block, Cell, plain, pair, symbol, string, vector}
use Rattle.rules.specs.Heap.{part_of}
use Rattle.rules.specs.Sound.{text_block, vector_block}
use Rattle.leaf_cells.specs.Cells.{loaded, stored_cell}
use Rattle.heap_pack.specs.declared.Span.{Span}
use Rattle.heap_pack.specs.declared.Gone.{Gone}

abbrev pub shown : Span → Block
shown s = block s.place s.size

-- a cell with its block at another place
abbrev pub placed : ℕ → Cell → Cell
placed to (plain s) = plain s
placed to (pair a d) = pair a d
placed to (symbol b) = symbol (block to b.size)
placed to (string b) = string (block to b.size)
placed to (vector b) = vector (block to b.size)

-- the block is in the old room and has its place in the table; a new one fits behind what is there
pub record Written (table : List ℕ) (at place size old room : ℕ) : Type 0 where
  pub inside : place + size ≤ old
  pub listed : place < length table
  pub fits : get_or table place 0 ≡ 0 → at + size ≤ room
  pub begins : at ≤ room
  pub small : at ≤ 65536

abbrev pub new_or : {A : Type 0} → List ℕ → ℕ → A → A → A
new_or table place new known = choose (eqb (get_or table place 0) 0) new known

pub record TextMoved (bytes old table : List ℕ) (at place size : ℕ) (bytes' table' : List ℕ) (r : Gone) : Type 0 where
  pub to : r.to ≡ new_or table place at (get_or table place 0 - 1)
  pub end : r.at ≡ new_or table place (at + size) at
  pub bytes_are : bytes' ≡ new_or table place (take at bytes ++ (part_of old (block place size) ++ drop (at + size) bytes)) bytes
  pub table_is : table' ≡ new_or table place (set table place (at + 1)) table

-- the same of elements, three words each
pub record ElementsMoved (elems old table : List ℕ) (at place size : ℕ) (elems' table' : List ℕ) (r : Gone) : Type 0 where
  pub to : r.to ≡ new_or table place at (get_or table place 0 - 1)
  pub end : r.at ≡ new_or table place (at + size) at
  pub elems_are : elems' ≡ new_or table place (take (3 * at) elems ++ (part_of old (block (3 * place) (3 * size)) ++ drop (3 * (at + size)) elems)) elems
  pub table_is : table' ≡ new_or table place (set table place (at + 1)) table

-- ---- a slot's turn

-- an empty block stays; another goes to its place, and the slot's cell shows it there
pub data TextTurned (words bytes old table : List ℕ) (at s : ℕ) (words' bytes' table' : List ℕ) (r : ℕ) : Type 0 where
  no_text : (text_block (loaded words s)).size ≡ 0 → words' ≡ words → bytes' ≡ bytes → table' ≡ table → r ≡ at → TextTurned words bytes old table at s words' bytes' table' r
  text_goes : (g : Gone) → 0 < (text_block (loaded words s)).size → TextMoved bytes old table at (text_block (loaded words s)).place (text_block (loaded words s)).size bytes' table' g → words' ≡ stored_cell words s (placed g.to (loaded words s)) → r ≡ g.at → TextTurned words bytes old table at s words' bytes' table' r

pub record TextReady (words bytes old table : List ℕ) (at s : ℕ) : Type 0 where
  pub row : 8 * s + 16 ≤ length words
  pub room : 0 < (text_block (loaded words s)).size → Written table at (text_block (loaded words s)).place (text_block (loaded words s)).size (length old) (length bytes)

pub data ElementsTurned (words elems old table : List ℕ) (at s : ℕ) (words' elems' table' : List ℕ) (r : ℕ) : Type 0 where
  no_vector : (vector_block (loaded words s)).size ≡ 0 → words' ≡ words → elems' ≡ elems → table' ≡ table → r ≡ at → ElementsTurned words elems old table at s words' elems' table' r
  vector_goes : (g : Gone) → 0 < (vector_block (loaded words s)).size → ElementsMoved elems old table at (vector_block (loaded words s)).place (vector_block (loaded words s)).size elems' table' g → words' ≡ stored_cell words s (placed g.to (loaded words s)) → r ≡ g.at → ElementsTurned words elems old table at s words' elems' table' r

pub record ElementsReady (words elems old table : List ℕ) (at s : ℕ) : Type 0 where
  pub row : 8 * s + 16 ≤ length words
  pub room : 0 < (vector_block (loaded words s)).size → Written table at (vector_block (loaded words s)).place (vector_block (loaded words s)).size (length old / 3) (length elems / 3)
