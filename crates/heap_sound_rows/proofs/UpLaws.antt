-- A test of every number below n by a loop that counts up: those before were found good. Assumes nothing.
use mathlib.Core.Path.{◌≡◌, refl, sym, ap, ◌∙◌}
use mathlib.Core.Bool.{Bool, true, false}
use Prim.Native.Nat.{ℕ, suc, ◌+◌, ◌≤◌, ◌<◌}
use native.Mathlib.Omega.{arith}
use Rattle.laws.specs.Basics.{every_below, basics}
use Rattle.laws.proofs.Checks.{refuted}
use Rattle.laws.proofs.Tests.{true≢false, both_true, below_all}

module _ (f : ℕ → Bool) where
  pub up_starts : every_below 0 f ≡ true
  unfolding basics
  up_starts = refl

  -- one more was found good
  pub up_on : (i : ℕ) → every_below i f ≡ true → f i ≡ true → every_below (i + 1) f ≡ true
  unfolding basics
  up_on i e g =
      let p : i + 1 ≡ suc i = omega arith in
      ap (λ (k : ℕ). every_below k f) p ∙ both_true g e

  pub up_stops : (n i : ℕ) → i < n → f i ≡ false → false ≡ every_below n f
  up_stops n i h e = refuted _ (λ g. true≢false (sym (below_all f n g i h) ∙ e))

  pub up_ends : (n i : ℕ) → i ≤ n → n ≤ i → every_below i f ≡ true → true ≡ every_below n f
  up_ends n i h k e =
      let p : n ≡ i = omega arith in
      sym (ap (λ (j : ℕ). every_below j f) p ∙ e)
