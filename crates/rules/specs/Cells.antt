-- Document 01, "From the repository, and not": "Cells kept: Bool, Char, Nil, Number, Pair, Symbol, String, Vector, Eof,
-- Undefined, Void." "A scalar is Bool, Char, Nil, Number, Eof, Undefined or Void; a value is a slot or a scalar. A slot
-- never holds a slot; a vector's elements are values." Assumes nothing.
use Rattle.std.specs.Prelude.{Bool, true, false, ℕ, eqb}
use Rattle.laws.specs.Basics.{both, choose}

-- a Number is "a signed 64-bit whole number", kept as its 64 bits; a Char by its code
pub data Scalar : Type 0 where
  undefined nil eof void : Scalar
  bool : Bool → Scalar
  char number : ℕ → Scalar

pub data Value : Type 0 where
  slot : ℕ → Value
  scalar : Scalar → Value

-- a part of an arena: where it begins, and its length
pub record Block : Type 0 where
  pub place : ℕ
  pub size : ℕ

abbrev pub block : ℕ → ℕ → Block
block p n = record { place = p; size = n }

pub data Cell : Type 0 where
  plain : Scalar → Cell
  pair : ℕ → ℕ → Cell
  symbol string vector : Block → Cell

-- ---- tests on cells and values

abbrev pub is_pair : Cell → Bool
is_pair (plain s) = false
is_pair (pair a d) = true
is_pair (symbol b) = false
is_pair (string b) = false
is_pair (vector b) = false

abbrev pub is_symbol : Cell → Bool
is_symbol (plain s) = false
is_symbol (pair a d) = false
is_symbol (symbol b) = true
is_symbol (string b) = false
is_symbol (vector b) = false

abbrev pub same_block : Block → Block → Bool
same_block a b = both (eqb a.place b.place) (eqb a.size b.size)

-- a Bool as the paper's 0 or 1
abbrev pub bit : Bool → ℕ
bit b = choose b 1 0
