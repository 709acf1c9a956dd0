-- The first and the kept of a list, under tests that agree on its elements. Assumes nothing.
use mathlib.Core.Path.{◌≡◌, refl, ap, ◌∙◌}
use mathlib.Core.Bool.{Bool, true, false}
use mathlib.Core.List.{List, [], ◌∷◌}
use mathlib.Core.Option.{Option, some}
use Prim.Native.Nat.{ℕ, suc, ◌≤◌, ◌<◌}
use native.Mathlib.Omega.{arith}
use lib.ListN.{length, get_or}
use Rattle.laws.specs.Basics.{choose, find, keep, basics}

module _ {A : Type 0} (d : A) (f g : A → Bool) where
  -- tests that agree on the list's elements find the same one
  pub find_same : (l : List A) → ((i : ℕ) → i < length l → f (get_or l i d) ≡ g (get_or l i d)) → find f l ≡ find g l
  unfolding basics
  find_same [] h = refl
  find_same (x ∷ l) h =
      (λ j. elim (h 0 (omega arith) j) [ true ↦ some x | false ↦ find f l ])
      ∙ ap (λ (r : Option A). elim (g x) [ true ↦ some x | false ↦ r ]) (find_same l (λ i s. h (suc i) (omega arith)))

  -- and keep the same ones
  pub keep_same : (l : List A) → ((i : ℕ) → i < length l → f (get_or l i d) ≡ g (get_or l i d)) → keep f l ≡ keep g l
  unfolding basics
  keep_same [] h = refl
  keep_same (x ∷ l) h =
      (λ j. choose (h 0 (omega arith) j) (x ∷ keep f l) (keep f l))
      ∙ ap (λ (r : List A). choose (g x) (x ∷ r) r) (keep_same l (λ i s. h (suc i) (omega arith)))

chosen_most : {A : Type 0} (b : Bool) (x : A) (r : List A) (n : ℕ) → length r ≤ n → length (choose b (x ∷ r) r) ≤ suc n
chosen_most true x r n h = omega arith
chosen_most false x r n h = omega arith

-- no more are kept than there are
pub keep_most : {A : Type 0} (f : A → Bool) (l : List A) → length (keep f l) ≤ length l
unfolding basics
keep_most f [] = omega arith
keep_most f (x ∷ l) = chosen_most (f x) x (keep f l) (length l) (keep_most f l)
