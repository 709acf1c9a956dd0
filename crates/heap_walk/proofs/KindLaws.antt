-- A cell that is neither a pair nor a vector has no parts. Assumes nothing.
use mathlib.Core.Path.{◌≡◌, refl}
use mathlib.Core.Bool.{false}
use Prim.Native.Nat.{ℕ}
use Rattle.leaf_cells.specs.Cells.{cell_of}
use Rattle.leaf_cells.specs.declared.VCell.{VCell}
use Rattle.leaf_cells.specs.declared.VCell.TheVariants as cell
use Rattle.heap_walk.specs.Walks.{has_parts}

pub no_parts : (x : VCell) → ((a d : ℕ) → x ≡ cell.Pair a d → ⊥) → ((p n : ℕ) → x ≡ cell.Vector p n → ⊥) → has_parts (cell_of x) ≡ false
no_parts cell.Undefined f g = refl
no_parts cell.Nil f g = refl
no_parts cell.Eof f g = refl
no_parts cell.Void f g = refl
no_parts (cell.Bool b) f g = refl
no_parts (cell.Char n) f g = refl
no_parts (cell.Number n) f g = refl
no_parts (cell.Pair a d) f g = absurd (f a d refl)
no_parts (cell.Symbol p n) f g = refl
no_parts (cell.String p n) f g = refl
no_parts (cell.Vector p n) f g = absurd (g p n refl)
