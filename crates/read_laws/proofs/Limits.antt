-- Labels below a number are at most so many distinct ones, and a slot's place among the labelled is below their number.
-- Document 01, "Numbers": "64 distinct labels". Assumes nothing.
use mathlib.Core.Path.{◌≡◌, refl, sym, ap, ◌∙◌}
use mathlib.Core.Bool.{Bool, true, false, not}
use mathlib.Core.List.{List, [], ◌∷◌, map}
use Prim.Native.Nat.{ℕ, suc, ◌≤◌, ◌<◌}
use native.Mathlib.Omega.{arith}
use native.Mathlib.Decide.{ℕ_discrete}
use borrow.Author.Tests.{eq-eqb, eqb-true, eqb-false}
use lib.Dec.{eqb, ltb}
use lib.ListN.{length}
use Rattle.laws.specs.Basics.{choose, either, every, keep, join, member, count, distinct, basics}
use Rattle.laws.proofs.Tests.{true≢false, both_left, both_right, both_true, every_append}
use Rattle.laws.proofs.Pointwise.{count_here, count_other}
use Rattle.laws.proofs.Members.{count_keep}
use Rattle.rules.specs.Read.{place_in}
use Rattle.rules.proofs.Good.{each_once}

-- ---- distinct numbers below a bound

module _ {A : Type 0} (f : A → Bool) (g : A → Bool) where
  every_keep : (xs : List A) → every f xs ≡ true → every f (keep g xs) ≡ true
  unfolding basics
  every_keep [] h = refl
  every_keep (x ∷ xs) h = go (g x) (every_keep xs (both_right (f x) _ h))
    where
      go : (b : Bool) → every f (keep g xs) ≡ true → every f (choose b (x ∷ keep g xs) (keep g xs)) ≡ true
      go true k = both_true (both_left (f x) _ h) k
      go false k = k

every_distinct : (f : ℕ → Bool) (xs : List ℕ) → every f xs ≡ true → every f (distinct xs) ≡ true
unfolding basics
every_distinct f [] h = refl
every_distinct f (x ∷ xs) h =
    both_true (both_left (f x) _ h)
    (every_keep f (λ y. not (eqb x y)) (distinct xs) (every_distinct f xs (both_right (f x) _ h)))

count_gone : (x : ℕ) (xs : List ℕ) → count x (keep (λ y. not (eqb x y)) xs) ≡ 0
unfolding basics
count_gone x [] = refl
count_gone x (y ∷ xs) = go (eqb x y) refl (count_gone x xs)
  where
    go : (b : Bool) → eqb x y ≡ b → count x (keep (λ y. not (eqb x y)) xs) ≡ 0 → count x (choose (not b) (y ∷ keep (λ y. not (eqb x y)) xs) (keep (λ y. not (eqb x y)) xs)) ≡ 0
    go true e h = h
    go false e h = omega (arith, count_other x y (keep (λ y. not (eqb x y)) xs) (eqb-false x y e))

count_distinct : (k : ℕ) (xs : List ℕ) → count k (distinct xs) ≤ 1
unfolding basics
count_distinct k [] = omega arith
count_distinct k (x ∷ xs) =
    elim (ℕ_discrete k x) [
      | yes e ↦
          omega (
            arith,
            count_here k x (keep (λ y. not (eqb x y)) (distinct xs)) e,
            ap (λ (n : ℕ). count n (keep (λ y. not (eqb x y)) (distinct xs))) e ∙ count_gone x (distinct xs),
          )
      | no d ↦
          omega (
            arith,
            count_other k x (keep (λ y. not (eqb x y)) (distinct xs)) d,
            count_keep (λ y. not (eqb x y)) k (distinct xs),
            count_distinct k xs,
          )
    ]

pub distinct_below : (n : ℕ) (xs : List ℕ) → every (λ x. ltb x n) xs ≡ true → length (distinct xs) ≤ n
distinct_below n xs h =
    each_once n (distinct xs) (every_distinct (λ x. ltb x n) xs h) (λ k l. count_distinct k xs)

pub every_join : {A B : Type 0} (f : B → Bool) (g : A → List B) (xs : List A) → every (λ x. every f (g x)) xs ≡ true → every f (join g xs) ≡ true
unfolding basics
every_join f g [] h = refl
every_join f g (x ∷ xs) h =
    every_append f (g x) (join g xs) (both_left (every f (g x)) _ h) (every_join f g xs (both_right (every f (g x)) _ h))

-- ---- places

pub place_below : (xs : List ℕ) (s : ℕ) → member s xs ≡ true → place_in xs s < length xs
unfolding place_in basics
place_below [] s h = absurd (true≢false (sym h))
place_below (x ∷ xs) s h = go (eqb s x) (λ k. place_below xs s k) h
  where
    go : (b : Bool) → (member s xs ≡ true → place_in xs s < length xs) → either b (member s xs) ≡ true → choose b 0 (suc (place_in xs s)) < suc (length xs)
    go true again h = omega arith
    go false again h = omega (arith, again h)

-- what is in a list is, by its number, in the list of numbers
pub member_map : (f : ℕ → ℕ) (s : ℕ) (xs : List ℕ) → member s xs ≡ true → member (f s) (map f xs) ≡ true
unfolding basics
member_map f s [] h = absurd (true≢false (sym h))
member_map f s (x ∷ xs) h = go (eqb s x) refl (λ k. member_map f s xs k) h
  where
    go : (b : Bool) → eqb s x ≡ b → (member s xs ≡ true → member (f s) (map f xs) ≡ true) → either b (member s xs) ≡ true → either (eqb (f s) (f x)) (member (f s) (map f xs)) ≡ true
    go true e again h = ap (λ (b : Bool). either b (member (f s) (map f xs))) (eq-eqb (f s) (f x) (ap f (eqb-true s x e)))
    go false e again h = Rattle.laws.proofs.Tests.either_right (eqb (f s) (f x)) (again h)
