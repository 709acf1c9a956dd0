-- A cell that is none of pair, vector, symbol and string is a scalar. Assumes nothing.
use mathlib.Core.Path.{◌≡◌, refl}
use Prim.Native.Nat.{ℕ}
use Rattle.rules.specs.Cells.{undefined, nil, eof, void, bool, char, number}
use Rattle.leaf_cells.specs.declared.VCell.{VCell}
use Rattle.leaf_cells.specs.declared.VCell.TheVariants as cell
use Rattle.heap_build.proofs.Cycle.{PlainCell}

pub plain_cell : (x : VCell) → ((a d : ℕ) → x ≡ cell.Pair a d → ⊥) → ((p n : ℕ) → x ≡ cell.Symbol p n → ⊥) → ((p n : ℕ) → x ≡ cell.String p n → ⊥) → ((p n : ℕ) → x ≡ cell.Vector p n → ⊥) → PlainCell x
plain_cell cell.Undefined f g k m = record { scalar_is = undefined; is = refl }
plain_cell cell.Nil f g k m = record { scalar_is = nil; is = refl }
plain_cell cell.Eof f g k m = record { scalar_is = eof; is = refl }
plain_cell cell.Void f g k m = record { scalar_is = void; is = refl }
plain_cell (cell.Bool b) f g k m = record { scalar_is = bool b; is = refl }
plain_cell (cell.Char n) f g k m = record { scalar_is = char n; is = refl }
plain_cell (cell.Number n) f g k m = record { scalar_is = number n; is = refl }
plain_cell (cell.Pair a d) f g k m = absurd (f a d refl)
plain_cell (cell.Symbol p n) f g k m = absurd (g p n refl)
plain_cell (cell.String p n) f g k m = absurd (k p n refl)
plain_cell (cell.Vector p n) f g k m = absurd (m p n refl)
