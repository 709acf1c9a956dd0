-- Permutations by count, swaps, and that a sorted list is determined by its numbers. Assumes nothing.
use mathlib.Core.Path.{◌≡◌, refl, sym, ap, ◌∙◌, subst}
use mathlib.Core.List.{List, [], ◌∷◌}
use Prim.Native.Nat.{ℕ, zero, suc, ◌+◌, ◌<◌, ◌≤◌}
use native.Mathlib.Nat.{le_of_suc-le-suc, not-suc-le-zero}
use native.Mathlib.Omega.{arith}
use native.Mathlib.Decide.{ℕ_discrete}
use borrow.Author.Tests.{eq-eqb, ne_eqb}
use lib.Dec.{eqb}
use lib.ListN.{length, get_or, set, length-set}
use lib.Seq.{get_or-set_same, get_or-set_other}
use Rattle.laws.specs.Basics.{choose, count, basics}
use Rattle.laws.specs.Sorting.{Permuted, Sorted, swapped}

-- ---- counts and places

-- one where the two are the same
abbrev once : ℕ → ℕ → ℕ
once n x = choose (eqb n x) 1 0

once_same : (n : ℕ) → once n n ≡ 1
once_same n = rw (eq-eqb n n refl)

-- what stands in a list is counted
pub counted : (xs : List ℕ) (k : ℕ) → k < length xs → 0 < count (get_or xs k 0) xs
unfolding basics
counted [] k h = absurd (not-suc-le-zero h)
counted (x ∷ xs) zero h = omega (arith, once_same x)
counted (x ∷ xs) (suc k) h = omega (arith, counted xs k (le_of_suc-le-suc h))

-- where a number stands
pub record Stands (n : ℕ) (xs : List ℕ) : Type 0 where
  pub at : ℕ
  pub inside : at < length xs
  pub there : get_or xs at 0 ≡ n

-- what is counted stands somewhere
pub stands : (n : ℕ) (xs : List ℕ) → 0 < count n xs → Stands n xs
unfolding basics
stands n [] h = absurd (not-suc-le-zero h)
stands n (x ∷ xs) h =
    elim (ℕ_discrete n x) [
      | yes e ↦ record { at = 0; inside = omega arith; there = sym e }
      | no d ↦
          let z : once n x ≡ 0 = rw (ne_eqb n x d) in
          let s : Stands n xs = stands n xs (omega arith) in
          record { at = suc s.at; inside = omega (arith, s.inside); there = s.there }
    ]

-- what stands at two places is counted twice
pub counted_twice : (xs : List ℕ) (i j : ℕ) → i < j → j < length xs → get_or xs i 0 ≡ get_or xs j 0 → 2 ≤ count (get_or xs j 0) xs
unfolding basics
counted_twice [] i j h l e = absurd (not-suc-le-zero l)
counted_twice (x ∷ xs) i zero h l e = absurd (not-suc-le-zero h)
counted_twice (x ∷ xs) zero (suc j) h l e =
    let o : once (get_or xs j 0) x ≡ 1 = rw (eq-eqb (get_or xs j 0) x (sym e)) in
    omega (arith, o, counted xs j (le_of_suc-le-suc l))
counted_twice (x ∷ xs) (suc i) (suc j) h l e =
    omega (arith, counted_twice xs i j (le_of_suc-le-suc h) (le_of_suc-le-suc l) e)

-- the counts after a store
count_set : (n : ℕ) (xs : List ℕ) (i v : ℕ) → i < length xs → count n (set xs i v) + once n (get_or xs i 0) ≡ count n xs + once n v
unfolding basics
count_set n [] i v h = absurd (not-suc-le-zero h)
count_set n (x ∷ xs) zero v h = omega arith
count_set n (x ∷ xs) (suc i) v h = omega (arith, count_set n xs i v (le_of_suc-le-suc h))

-- ---- permutations

pub permuted_refl : (xs : List ℕ) → Permuted xs xs
permuted_refl xs = record { size = refl; counts = λ n. refl }

pub permuted_trans : {xs ys zs : List ℕ} → Permuted xs ys → Permuted ys zs → Permuted xs zs
permuted_trans p q = record { size = q.size ∙ p.size; counts = λ n. q.counts n ∙ p.counts n }

pub permuted_sym : {xs ys : List ℕ} → Permuted xs ys → Permuted ys xs
permuted_sym p = record { size = sym p.size; counts = λ n. sym (p.counts n) }

-- what holds at every place of a list holds at every place of one with the same numbers
pub permuted_all : (P : ℕ → Type 0) {xs ys : List ℕ} → Permuted xs ys → ((k : ℕ) → k < length xs → P (get_or xs k 0))
    → (k : ℕ) → k < length ys → P (get_or ys k 0)
permuted_all P {xs} {ys} p h k l =
    let s : Stands (get_or ys k 0) xs = stands (get_or ys k 0) xs (omega (arith, counted ys k l, p.counts (get_or ys k 0))) in
    subst P s.there (h s.at s.inside)

-- ---- swaps

module _ (xs : List ℕ) (i j : ℕ) (hi : i < length xs) (hj : j < length xs) where
  inner : j < length (set xs i (get_or xs j 0))
  inner = simp length-set hj

  pub swapped_right : get_or (swapped xs i j) j 0 ≡ get_or xs i 0
  unfolding swapped
  swapped_right = get_or-set_same (set xs i (get_or xs j 0)) j (get_or xs i 0) 0 inner

  pub swapped_left : get_or (swapped xs i j) i 0 ≡ get_or xs j 0
  unfolding swapped
  swapped_left =
      elim (ℕ_discrete i j) [
        | yes e ↦ ap (λ (k : ℕ). get_or (set (set xs i (get_or xs j 0)) j (get_or xs i 0)) k 0) e
            ∙ get_or-set_same (set xs i (get_or xs j 0)) j (get_or xs i 0) 0 inner
            ∙ ap (λ (k : ℕ). get_or xs k 0) e
        | no d ↦ get_or-set_other (set xs i (get_or xs j 0)) j i (get_or xs i 0) 0 d ∙ get_or-set_same xs i (get_or xs j 0) 0 hi
      ]

  pub swapped_other : (k : ℕ) → (k ≡ i → ⊥) → (k ≡ j → ⊥) → get_or (swapped xs i j) k 0 ≡ get_or xs k 0
  unfolding swapped
  swapped_other k ni nj =
      get_or-set_other (set xs i (get_or xs j 0)) j k (get_or xs i 0) 0 nj ∙ get_or-set_other xs i k (get_or xs j 0) 0 ni

  pub length-swapped : length (swapped xs i j) ≡ length xs
  unfolding swapped
  length-swapped = simp length-set

  pub permuted_swapped : Permuted xs (swapped xs i j)
  unfolding swapped
  permuted_swapped = record { size = length-swapped; counts = same_count }
    where
      before : get_or (set xs i (get_or xs j 0)) j 0 ≡ get_or xs j 0
      before =
          elim (ℕ_discrete j i) [
            | yes e ↦ ap (λ (k : ℕ). get_or (set xs i (get_or xs j 0)) k 0) e ∙ get_or-set_same xs i (get_or xs j 0) 0 hi
            | no d ↦ get_or-set_other xs i j (get_or xs j 0) 0 d
          ]

      same_count : (n : ℕ) → count n (set (set xs i (get_or xs j 0)) j (get_or xs i 0)) ≡ count n xs
      same_count n =
          omega (
            arith,
            count_set n xs i (get_or xs j 0) hi,
            count_set n (set xs i (get_or xs j 0)) j (get_or xs i 0) inner,
            ap (once n) before,
          )

-- ---- a sorted list is determined by its numbers, where no two numbers of it are level

module _ (le : ℕ → ℕ → Type 0) where
  sorted_tail : {x : ℕ} {xs : List ℕ} → Sorted le (x ∷ xs) → Sorted le xs
  sorted_tail s = record { rises = λ i j h l. s.rises (suc i) (suc j) (omega arith) (omega arith) }

  -- the first stands before each that is counted
  first_least : {x : ℕ} {xs : List ℕ} → Sorted le (x ∷ xs) → (n : ℕ) → 0 < count n (x ∷ xs) → le x n
  first_least {x} {xs} s n h =
      let p : Stands n (x ∷ xs) = stands n (x ∷ xs) h in
      subst (le x) p.there (s.rises 0 p.at (omega arith) p.inside)

  counted_first : (x : ℕ) (xs : List ℕ) → 0 < count x (x ∷ xs)
  unfolding basics
  counted_first x xs = omega (arith, once_same x)

  pub sorted_determined : (xs ys : List ℕ) → Permuted xs ys → Sorted le xs → Sorted le ys
      → ((m n : ℕ) → 0 < count m xs → 0 < count n xs → le m n → le n m → m ≡ n) → xs ≡ ys
  unfolding basics
  sorted_determined [] [] p s t d = refl
  sorted_determined [] (y ∷ ys) p s t d = absurd (omega (arith, p.size))
  sorted_determined (x ∷ xs) [] p s t d = absurd (omega (arith, p.size))
  sorted_determined (x ∷ xs) (y ∷ ys) p s t d = λ i. heads i ∷ sorted_determined xs ys tails (sorted_tail s) (sorted_tail t) later i
    where
      in_xs : 0 < count y (x ∷ xs)
      in_xs = omega (arith, p.counts y, counted_first y ys)

      in_ys : 0 < count x (y ∷ ys)
      in_ys = omega (arith, p.counts x, counted_first x xs)

      heads : x ≡ y
      heads = d x y (counted_first x xs) in_xs (first_least s y in_xs) (first_least t x in_ys)

      tail_counts : (n : ℕ) → count n ys ≡ count n xs
      tail_counts n = omega (arith, p.counts n, ap (once n) heads)

      tails : Permuted xs ys
      tails = record { size = omega (arith, p.size); counts = tail_counts }

      more : (n : ℕ) → 0 < count n xs → 0 < count n (x ∷ xs)
      more n h = omega arith

      later : (m n : ℕ) → 0 < count m xs → 0 < count n xs → le m n → le n m → m ≡ n
      later m n a b = d m n (more m a) (more n b)
