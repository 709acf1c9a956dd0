-- A fact about every number below n, from one test that is computed at each of them. Assumes nothing.
use mathlib.Core.Bool.{Bool, true, false}
use mathlib.Core.Path.{◌≡◌, subst⁻¹}
use Prim.Native.Nat.{ℕ, zero, suc, ◌<◌}
use native.Mathlib.Omega.{arith}
use native.Mathlib.Decide.{ℕ_discrete}
use lib.Dec.{T, eqb, eqb→eq}
use Rattle.laws.specs.Basics.{both, every_below, basics}

pub both_left : (a b : Bool) → T (both a b) → T a
both_left true b t = tt
both_left false b t = t

pub both_right : (a b : Bool) → T (both a b) → T b
both_right true b t = t
both_right false b t = absurd t

-- the test holds of each number below n
pub below : (n : ℕ) (f : ℕ → Bool) → T (every_below n f) → (k : ℕ) → k < n → T (f k)
unfolding basics
below zero f t k h = absurd (omega arith)
below (suc n) f t k h =
    elim (ℕ_discrete k n) [
      | yes e ↦ subst⁻¹ (λ (x : ℕ). T (f x)) e (both_left (f n) (every_below n f) t)
      | no d ↦ below n f (both_right (f n) (every_below n f) t) k (omega arith)
    ]

-- the two functions agree below n
pub agree : (n : ℕ) (f g : ℕ → ℕ) → T (every_below n (λ k. eqb (f k) (g k))) → (k : ℕ) → k < n → f k ≡ g k
agree n f g t k h = eqb→eq (f k) (g k) (below n (λ j. eqb (f j) (g j)) t k h)
