-- What std's orders answer, as the standings that they mean. Assumes nothing.
use mathlib.Core.Path.{◌≡◌, refl, sym, ap, ◌∙◌}
use mathlib.Core.Bool.{Bool, true, false}
use mathlib.Core.List.{List, [], ◌∷◌}
use Prim.Native.Nat.{ℕ, ◌<◌}
use Rattle.std.specs.declared.cmp.Ordering.{Ordering}
use Rattle.std.specs.declared.cmp.Ordering.TheVariants.{Less, Equal, Greater}
use Rattle.std.specs.Ordering.{nat_cmp, ordering_then, is_eq, MatchOrdering}
use Rattle.std.specs.Cmp.Lexicographic.{slice_cmp}
use Rattle.std.specs.Prelude.{nat_eq, ◌&&◌}
use lib.Pointwise.{pointwise}
use Rattle.laws.specs.Basics.{both, same, basics}
use Rattle.std.proofs.lemmas.Cmp.{ranked}
use Rattle.leaf_names.specs.Ordering.{shown, then, is_level, number_compare, name_compare}
use Rattle.leaf_names.proofs.Ordered.{number_before, number_level, number_after}

pub eq_shown : (o : Ordering) → is_eq o ≡ is_level (shown o)
eq_shown Less = refl
eq_shown Equal = refl
eq_shown Greater = refl

pub then_shown : (o p : Ordering) → shown (ordering_then o p) ≡ then (shown o) (shown p)
then_shown Less p = refl
then_shown Equal p = refl
then_shown Greater p = refl

pub number_shown : (x y : ℕ) → shown (nat_cmp x y) ≡ number_compare x y
number_shown x y = by (nat_cmp x y) (ranked x y (nat_cmp x y) refl)
  where
    by : (o : Ordering) → MatchOrdering o (x < y) (x ≡ y) (y < x) → shown o ≡ number_compare x y
    by Less h = sym (number_before x y h)
    by Equal e = sym (number_level x y e)
    by Greater h = sym (number_after x y h)

pub name_shown : (xs ys : List ℕ) → shown (slice_cmp nat_cmp xs ys) ≡ name_compare xs ys
unfolding name_compare
name_shown [] [] = refl
name_shown [] (y ∷ ys) = refl
name_shown (x ∷ xs) [] = refl
name_shown (x ∷ xs) (y ∷ ys) =
    then_shown (nat_cmp x y) (slice_cmp nat_cmp xs ys) ∙ (λ i. then (number_shown x y i) (name_shown xs ys i))

-- `==` of two slices of bytes is the rules' `same`
pub same_shown : (xs ys : List ℕ) → pointwise nat_eq xs ys ≡ same xs ys
unfolding basics
same_shown [] [] = refl
same_shown [] (y ∷ ys) = refl
same_shown (x ∷ xs) [] = refl
same_shown (x ∷ xs) (y ∷ ys) = by (nat_eq x y) ∙ ap (both (nat_eq x y)) (same_shown xs ys)
  where
    by : (t : Bool) → ◌&&◌ t (pointwise nat_eq xs ys) ≡ both t (pointwise nat_eq xs ys)
    by true = refl
    by false = refl
