-- Numbers that differ: 0 and 1, one that is not 0, and the numbers by which a match tells an enum's variants apart.
-- Assumes nothing.
use mathlib.Core.Path.{◌≡◌, refl, ap}
use mathlib.Core.Bool.{not}
use mathlib.Core.List.{List}
use Prim.Native.Nat.{ℕ, zero, suc, ◌<◌}
use native.Mathlib.Omega.{arith}
use lib.Dec.{T}
use mir.Val.{has_key}
use borrow.Enum.Refused.{Among, opened, not_key}

pub clash : {A : Type 0} → ◌≡◌ {A = ℕ} 0 1 → A
clash e = absurd (omega arith)

pub positive : (n : ℕ) → (n ≡ 0 → ⊥) → 0 < n
positive zero h = absurd (h refl)
positive (suc n) h = omega arith

-- what has one of these variants is nothing of another variant
pub other_variant : {A : Type 0} (variant : A → ℕ) (keys : List ℕ) (x : A) → Among keys (variant x) → {y : A} → x ≡ y → T (not (has_key keys (variant y))) → ⊥
other_variant variant keys x o {y} e off = not_key keys (variant y) off (variant x) (opened o) (ap variant e)
