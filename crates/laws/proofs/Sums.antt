-- Sums over the numbers below n, and over lists. Assumes nothing.
use mathlib.Core.Path.{◌≡◌, refl}
use mathlib.Core.List.{List, [], ◌∷◌, map}
use Prim.Native.Nat.{ℕ, zero, suc, ◌+◌, ◌<◌, ◌≤◌}
use native.Mathlib.Nat.{le_of_suc-le-suc, not-suc-le-zero}
use native.Mathlib.Omega.{arith}
use native.Mathlib.Decide.{ℕ_discrete}
use borrow.Author.Tests.{eq-eqb, ne_eqb}
use lib.Dec.{T, eqb, ltb, ltb→lt}
use lib.ListN.{length, get_or, set}
use Rattle.laws.specs.Basics.{choose, every, sum, count, basics}
use Rattle.laws.proofs.Below.{both_left, both_right}

-- f 0 + f 1 + .., n of them
unfoldable pub sum_below : ℕ → (ℕ → ℕ) → ℕ
sum_below zero f = 0
sum_below (suc n) f = f n + sum_below n f

-- the first apart
pub sum_below_front : (n : ℕ) (f : ℕ → ℕ) → sum_below (suc n) f ≡ f 0 + sum_below n (λ k. f (suc k))
unfolding sum_below
sum_below_front zero f = refl
sum_below_front (suc n) f = omega (arith, sum_below_front n f)

-- terms that are equal make equal sums
pub sum_below_same : (n : ℕ) (f g : ℕ → ℕ) → ((k : ℕ) → k < n → f k ≡ g k) → sum_below n f ≡ sum_below n g
unfolding sum_below
sum_below_same zero f g h = refl
sum_below_same (suc n) f g h = omega (arith, h n (omega arith), sum_below_same n f g (λ k l. h k (omega arith)))

-- two sums, term by term
pub sum_below_both : (n : ℕ) (f g : ℕ → ℕ) → sum_below n (λ k. f k + g k) ≡ sum_below n f + sum_below n g
unfolding sum_below
sum_below_both zero f g = refl
sum_below_both (suc n) f g = omega (arith, sum_below_both n f g)

-- terms that are 1 together make the number of them
pub sum_below_ones : (n : ℕ) (f g : ℕ → ℕ) → ((k : ℕ) → k < n → f k + g k ≡ 1) → sum_below n f + sum_below n g ≡ n
unfolding sum_below
sum_below_ones zero f g h = refl
sum_below_ones (suc n) f g h = omega (arith, h n (omega arith), sum_below_ones n f g (λ k l. h k (omega arith)))

-- one term of the sum is 1 at x, the others 0
abbrev once : ℕ → ℕ → ℕ
once x k = choose (eqb k x) 1 0

once_at : (x k : ℕ) → k ≡ x → once x k ≡ 1
once_at x k e = rw (eq-eqb k x e)

once_off : (x k : ℕ) → (k ≡ x → ⊥) → once x k ≡ 0
once_off x k d = rw (ne_eqb k x d)

none_below : (n x : ℕ) → n ≤ x → sum_below n (once x) ≡ 0
unfolding sum_below
none_below zero x h = refl
none_below (suc n) x h = omega (arith, once_off x n (λ e. omega arith), none_below n x (omega arith))

one_below : (n x : ℕ) → x < n → sum_below n (once x) ≡ 1
unfolding sum_below
one_below zero x h = absurd (not-suc-le-zero h)
one_below (suc n) x h =
    elim (ℕ_discrete n x) [
      | yes e ↦ omega (arith, once_at x n e, none_below n x (omega arith))
      | no d ↦ omega (arith, once_off x n d, one_below n x (omega arith))
    ]

sum_below_none : (n : ℕ) → sum_below n (λ k. 0) ≡ 0
unfolding sum_below
sum_below_none zero = refl
sum_below_none (suc n) = omega (arith, sum_below_none n)

-- a list of numbers below n is as long as they are counted in it
pub length-by-count : (n : ℕ) (l : List ℕ) → T (every (λ x. ltb x n) l) → sum_below n (λ k. count k l) ≡ length l
unfolding basics
length-by-count n [] t = sum_below_none n
length-by-count n (x ∷ l) t =
    omega (
      arith,
      sum_below_both n (once x) (λ k. count k l),
      one_below n x (ltb→lt x n (both_left (ltb x n) (every (λ x. ltb x n) l) t)),
      length-by-count n l (both_right (ltb x n) (every (λ x. ltb x n) l) t),
    )

-- a sum over a list after one of its elements changed
pub sum_set : (f : ℕ → ℕ) (l : List ℕ) (i v : ℕ) → i < length l → sum (map f (set l i v)) + f (get_or l i 0) ≡ sum (map f l) + f v
unfolding basics
sum_set f [] i v h = absurd (not-suc-le-zero h)
sum_set f (x ∷ l) zero v h = omega arith
sum_set f (x ∷ l) (suc i) v h = omega (arith, sum_set f l i v (le_of_suc-le-suc h))
