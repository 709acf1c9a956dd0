-- A test of every number below n by a loop that counts down: what was to test is what is left to test. And a test that is
-- refused because something follows from it that is false. Assumes nothing.
use mathlib.Core.Path.{◌≡◌, refl, sym, ap, ◌∙◌}
use mathlib.Core.Bool.{Bool, true, false}
use Prim.Native.Nat.{ℕ, zero, suc, ◌-◌, ◌≤◌, ◌<◌}
use native.Mathlib.Omega.{arith}
use Rattle.laws.specs.Basics.{both, every_below, basics}
use Rattle.laws.proofs.Tests.{true≢false}

-- a test from which something false follows does not hold
pub refuted : (b : Bool) → (b ≡ true → ⊥) → false ≡ b
refuted true h = absurd (h refl)
refuted false h = refl

-- two tests, each of which follows from the other
pub agreeing : (a b : Bool) → (a ≡ true → b ≡ true) → (b ≡ true → a ≡ true) → a ≡ b
agreeing true b p q = sym (p refl)
agreeing false true p q = q refl
agreeing false false p q = refl

-- a chain of tests, one after the other: the first holds and the rest decides, or the first fails
pub pass : {a b x : Bool} → a ≡ true → x ≡ b → x ≡ both a b
pass {a} {b} {x} p q = q ∙ ap (λ (t : Bool). both t b) (sym p)

pub fail : (a b : Bool) → a ≡ false → false ≡ both a b
fail true b e = absurd (true≢false e)
fail false b e = refl

module _ (f : ℕ → Bool) (n i : ℕ) (left : every_below n f ≡ every_below i f) where
  down_turn : (t : Bool) → 0 < i → f (i - 1) ≡ t → every_below n f ≡ both t (every_below (i - 1) f)
  unfolding basics
  down_turn t h e = left ∙ opened i h e
    where
      opened : (j : ℕ) → 0 < j → f (j - 1) ≡ t → every_below j f ≡ both t (every_below (j - 1) f)
      opened zero h e = absurd (omega arith)
      opened (suc j) h e =
          let p : j ≡ suc j - 1 = omega arith in
          λ k. both ((ap f p ∙ e) k) (every_below (p k) f)

  -- one more was found good
  pub down_on : 0 < i → f (i - 1) ≡ true → every_below n f ≡ every_below (i - 1) f
  down_on h e = down_turn true h e

  pub down_stops : 0 < i → f (i - 1) ≡ false → false ≡ every_below n f
  down_stops h e = sym (down_turn false h e)

  pub down_ends : i ≤ 0 → true ≡ every_below n f
  unfolding basics
  down_ends h = sym (left ∙ done i h)
    where
      done : (j : ℕ) → j ≤ 0 → every_below j f ≡ true
      done zero h = refl
      done (suc j) h = absurd (omega arith)
