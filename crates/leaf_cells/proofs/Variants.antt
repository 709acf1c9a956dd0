-- A cell or value of one variant is none of another, by the numbers that a match tells the variants by. Assumes nothing.
use mathlib.Core.Path.{◌≡◌, refl}
use mathlib.Core.Bool.{not}
use mathlib.Core.List.{List, [], ◌∷◌}
use Prim.Native.Nat.{ℕ}
use denote.Enum.Declared.{tag_of}
use lib.Dec.{T}
use mir.Val.{has_key}
use borrow.Enum.Refused.{Among}
use Rattle.laws.proofs.Variants.{other_variant}
use Rattle.rules.specs.Cells.{Scalar, undefined, nil, eof, void, bool, char, number, scalar}
use Rattle.rules.specs.Cells as cells
use Rattle.leaf_cells.specs.declared.VCell.{VCell}
use Rattle.leaf_cells.specs.declared.Value.{Value}
use Rattle.leaf_cells.specs.declared.Value.TheVariants as value
use Rattle.leaf_cells.specs.Elements.{value_of}
use Rattle.leaf_cells.specs.contracts.VCell as cell_type

-- ---- cells

abbrev pub cell_variant : VCell → ℕ
cell_variant x = tag_of cell_type.the_type x

-- the variants of an arm: 7 is a pair's, 8 a symbol's, 9 a string's and 10 a vector's
abbrev pub but_pair : List ℕ
but_pair = 0 ∷ 1 ∷ 2 ∷ 3 ∷ 4 ∷ 5 ∷ 6 ∷ 8 ∷ 9 ∷ 10 ∷ []

abbrev pub but_symbol : List ℕ
but_symbol = 0 ∷ 1 ∷ 2 ∷ 3 ∷ 4 ∷ 5 ∷ 6 ∷ 7 ∷ 9 ∷ 10 ∷ []

abbrev pub but_vector : List ℕ
but_vector = 0 ∷ 1 ∷ 2 ∷ 3 ∷ 4 ∷ 5 ∷ 6 ∷ 7 ∷ 8 ∷ 9 ∷ []

-- but pair and vector; but symbol and string; only the scalars'
abbrev pub but_parts : List ℕ
but_parts = 0 ∷ 1 ∷ 2 ∷ 3 ∷ 4 ∷ 5 ∷ 6 ∷ 8 ∷ 9 ∷ []

abbrev pub but_texts : List ℕ
but_texts = 0 ∷ 1 ∷ 2 ∷ 3 ∷ 4 ∷ 5 ∷ 6 ∷ 7 ∷ 10 ∷ []

abbrev pub scalars : List ℕ
scalars = 0 ∷ 1 ∷ 2 ∷ 3 ∷ 4 ∷ 5 ∷ 6 ∷ []

-- a cell whose variant is one of these is no cell of another variant
pub other_cell : (keys : List ℕ) (x : VCell) → Among keys (cell_variant x) → {y : VCell} → x ≡ y → T (not (has_key keys (cell_variant y))) → ⊥
other_cell keys x o e off = other_variant cell_variant keys x o e off

-- ---- values

-- the scalar that a value is
pub record Plain (v : cells.Value) : Type 0 where
  pub plain : Scalar
  pub is : v ≡ scalar plain

-- a value that is no slot is a scalar
pub other_value : (v : Value) → ((s : ℕ) → v ≡ value.Slot s → ⊥) → Plain (value_of v)
other_value (value.Slot s) o = absurd (o s refl)
other_value value.Undefined o = record { plain = undefined; is = refl }
other_value value.Nil o = record { plain = nil; is = refl }
other_value value.Eof o = record { plain = eof; is = refl }
other_value value.Void o = record { plain = void; is = refl }
other_value (value.Bool b) o = record { plain = bool b; is = refl }
other_value (value.Char c) o = record { plain = char c; is = refl }
other_value (value.Number k) o = record { plain = number k; is = refl }
