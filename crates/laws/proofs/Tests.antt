-- What a test over a list or a range says, and how it is shown. Assumes nothing.
use mathlib.Core.Path.{◌≡◌, refl, sym, ap, ◌∙◌, subst}
use mathlib.Core.Bool.{Bool, true, false}
use mathlib.Core.List.{List, [], ◌∷◌, ◌++◌}
use mathlib.Core.Logic.{◌⊎◌, inl, inr}
use Prim.Native.Nat.{ℕ, zero, suc, ◌<◌}
use native.Mathlib.Omega.{arith}
use native.Mathlib.Decide.{ℕ_discrete}
use borrow.Author.Tests.{eqb-true, eq-eqb}
use lib.Dec.{T, eqb}
use lib.ListN.{take, drop}
use Rattle.laws.specs.Basics.{both, either, choose, every, every_below, join, same, basics}

-- ---- both, either

pub true≢false : true ≡ false → ⊥
true≢false e = let z : ◌≡◌ {A = ℕ} 1 0 = ap (λ (b : Bool). choose b 1 0) e in omega arith

pub both_left : (a b : Bool) → both a b ≡ true → a ≡ true
both_left true b e = refl
both_left false b e = e

pub both_right : (a b : Bool) → both a b ≡ true → b ≡ true
both_right true b e = e
both_right false b e = absurd (true≢false (sym e))

pub both_true : {a b : Bool} → a ≡ true → b ≡ true → both a b ≡ true
both_true {a} {b} p q = ap (λ (x : Bool). both x b) p ∙ q

pub either_cases : (a b : Bool) → either a b ≡ true → (a ≡ true) ⊎ (b ≡ true)
either_cases true b e = inl refl
either_cases false b e = inr e

pub either_left : {a : Bool} (b : Bool) → a ≡ true → either a b ≡ true
either_left b p = ap (λ (x : Bool). either x b) p

pub either_right : (a : Bool) {b : Bool} → b ≡ true → either a b ≡ true
either_right true e = refl
either_right false e = e

pub either_left_false : (a b : Bool) → either a b ≡ false → a ≡ false
either_left_false true b e = absurd (true≢false e)
either_left_false false b e = refl

pub either_right_false : (a b : Bool) → either a b ≡ false → b ≡ false
either_right_false true b e = absurd (true≢false e)
either_right_false false b e = e

-- the first does not hold, so the second does
pub either_by : (a : Bool) {b : Bool} → a ≡ false → either a b ≡ true → b ≡ true
either_by true p q = absurd (true≢false p)
either_by false p q = q

pub either_false : (b : Bool) → either b false ≡ b
either_false true = refl
either_false false = refl

pub both_false : (b : Bool) → both b false ≡ false
both_false true = refl
both_false false = refl

pub is_true : {b : Bool} → b ≡ true → T b
is_true {b} e = subst (λ (x : Bool). T x) (sym e) tt

-- ---- every

module _ {A : Type 0} (f : A → Bool) where
  pub every_append : (xs ys : List A) → every f xs ≡ true → every f ys ≡ true → every f (xs ++ ys) ≡ true
  unfolding basics
  every_append [] ys p q = q
  every_append (x ∷ xs) ys p q = both_true (both_left (f x) _ p) (every_append xs ys (both_right (f x) _ p) q)

  pub every_front : (xs ys : List A) → every f (xs ++ ys) ≡ true → every f xs ≡ true
  unfolding basics
  every_front [] ys p = refl
  every_front (x ∷ xs) ys p = both_true (both_left (f x) _ p) (every_front xs ys (both_right (f x) _ p))

  pub every_back : (xs ys : List A) → every f (xs ++ ys) ≡ true → every f ys ≡ true
  unfolding basics
  every_back [] ys p = p
  every_back (x ∷ xs) ys p = every_back xs ys (both_right (f x) _ p)

  pub every_take : (n : ℕ) (l : List A) → every f l ≡ true → every f (take n l) ≡ true
  unfolding basics
  every_take zero l h = refl
  every_take (suc n) [] h = refl
  every_take (suc n) (x ∷ l) h = both_true (both_left (f x) _ h) (every_take n l (both_right (f x) _ h))

  pub every_drop : (n : ℕ) (l : List A) → every f l ≡ true → every f (drop n l) ≡ true
  unfolding basics
  every_drop zero l h = h
  every_drop (suc n) [] h = refl
  every_drop (suc n) (x ∷ l) h = every_drop n l (both_right (f x) _ h)

-- ---- every-below

module _ (f : ℕ → Bool) where
  pub below_all : (n : ℕ) → every_below n f ≡ true → (i : ℕ) → i < n → f i ≡ true
  unfolding basics
  below_all zero p i h = absurd (omega arith)
  below_all (suc n) p i h =
      elim (ℕ_discrete i n)
      [ yes e ↦ ap f e ∙ both_left (f n) _ p | no ne ↦ below_all n (both_right (f n) _ p) i (omega arith) ]

  pub all_below : (n : ℕ) → ((i : ℕ) → i < n → f i ≡ true) → every_below n f ≡ true
  unfolding basics
  all_below zero p = refl
  all_below (suc n) p = both_true (p n (omega arith)) (all_below n (λ i h. p i (omega arith)))

-- ---- same

pub same_refl : (xs : List ℕ) → same xs xs ≡ true
unfolding basics
same_refl [] = refl
same_refl (x ∷ xs) = both_true (eq-eqb x x refl) (same_refl xs)

pub same_equal : (xs ys : List ℕ) → same xs ys ≡ true → xs ≡ ys
unfolding basics
same_equal [] [] e = refl
same_equal [] (y ∷ ys) e = absurd (true≢false (sym e))
same_equal (x ∷ xs) [] e = absurd (true≢false (sym e))
same_equal (x ∷ xs) (y ∷ ys) e =
    λ i. eqb-true x y (both_left (eqb x y) _ e) i ∷ same_equal xs ys (both_right (eqb x y) _ e) i

-- ---- join

pub join_append : {A B : Type 0} (f : A → List B) (xs ys : List A) → join f (xs ++ ys) ≡ join f xs ++ join f ys
unfolding basics
join_append f [] ys = refl
join_append f (x ∷ xs) ys = ap (λ l. f x ++ l) (join_append f xs ys) ∙ sym (mathlib.Core.List.append_assoc (f x) (join f xs) (join f ys))
