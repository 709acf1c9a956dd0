-- What a cell by value means in the rules' words, and where it stands in the words. Assumes nothing.
use Rattle.std.specs.Prelude.{◌≡◌, List, ℕ, ◌+◌, ◌*◌, ltb, get_or, Some, None}
use Rattle.std.specs.Prelude as code
use Rattle.std.proofs.Math.Option.{Option, none, some}
use Rattle.laws.specs.Basics.{choose, both}
use Rattle.rules.specs.Cells.{undefined, nil, eof, void, bool, char, number, block, Cell, plain, pair, symbol, string, vector}
use Rattle.rules.specs.Map.{is_allocated}
use Rattle.rules.specs.Layout.{cell_words, cell_from}
use Rattle.leaf_rooms.specs.Rooms.{stored}
use Rattle.leaf_cells.specs.declared.Change.{Change}
use Rattle.leaf_cells.specs.declared.VCell.{VCell}
use Rattle.leaf_cells.specs.declared.VCell.TheVariants.{Undefined, Nil, Eof, Void, Bool, Char, Number, Pair, Symbol, String, Vector}

-- the rules' cell of each case
abbrev pub cell_of : VCell → Cell
cell_of Undefined = plain undefined
cell_of Nil = plain nil
cell_of Eof = plain eof
cell_of Void = plain void
cell_of (Bool b) = plain (bool b)
cell_of (Char n) = plain (char n)
cell_of (Number n) = plain (number n)
cell_of (Pair a d) = pair a d
cell_of (Symbol p n) = symbol (block p n)
cell_of (String p n) = string (block p n)
cell_of (Vector p n) = vector (block p n)

-- word k of a slot's row
abbrev pub row_word : List ℕ → ℕ → ℕ → ℕ
row_word ws s k = get_or ws (8 + 8 * s + k) 0

-- the cell in a slot's row
unfoldable pub loaded : List ℕ → ℕ → Cell
loaded ws s = cell_from (row_word ws s 0) (row_word ws s 1) (row_word ws s 2)

-- a lookup's answer in the rules' words
abbrev pub lookup_of : code.Option VCell → Option Cell
lookup_of (Some c) = some (cell_of c)
lookup_of None = none

-- the slot is below the capacity, the header's word 1, and Allocated
unfoldable pub looked_up : List ℕ → List ℕ → ℕ → Option Cell
looked_up ws m s = choose (both (ltb s (get_or ws 1 0)) (is_allocated m s)) (some (loaded ws s)) none

-- the words with a cell stored in a slot's row
unfoldable pub stored_cell : List ℕ → ℕ → Cell → List ℕ
stored_cell ws s c = stored ws (8 + 8 * s) (cell_words c)

-- what a store does and answers
pub record Stored (before after : List ℕ) (s : ℕ) (c : VCell) (r : Change) : Type 0 where
  pub words : after ≡ stored_cell before s (cell_of c)
  pub was : cell_of r.old ≡ loaded before s
  pub is : r.new ≡ c
