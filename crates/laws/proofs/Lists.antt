-- Lists from their other end, and those that are written by a rule: zeros, rising numbers, rows of one width. Assumes nothing.
use mathlib.Core.Path.{◌≡◌, refl, sym, ap, ◌∙◌, subst}
use mathlib.Core.List.{List, [], ◌∷◌, ◌++◌, map, reverse, reverse-cons}
use Prim.Native.Nat.{ℕ, zero, suc, ◌+◌, ◌-◌, ◌*◌, ◌≤◌, ◌<◌}
use native.Mathlib.Omega.{arith}
use native.Mathlib.Decide.{ℕ_discrete}
use borrow.Author.Tests.{eq-eqb, ne_eqb}
use lib.ListN.{length, get_or, take, drop, length-append, length-map, length-reverse, get_or-append}
use lib.Seq.{get_or-append-add, get_or-append_seam, ext_get_or, take-nil, drop-nil, take-append-add, drop-append-add}
use Rattle.laws.specs.Basics.{choose, join, rising, zeros, count, basics}

-- ---- from the other end

pub no_elements : {A : Type 0} (l : List A) → length l ≡ 0 → l ≡ []
no_elements [] e = refl
no_elements (x ∷ l) e = absurd (omega arith)

pub last_first : (l : List ℕ) (i : ℕ) → i < length l → get_or l i 0 ≡ get_or (reverse l) (length l - 1 - i) 0
last_first [] i h = absurd (omega arith)
last_first (x ∷ xs) zero h =
    let e : length (x ∷ xs) - 1 - 0 ≡ length (reverse xs) = omega (arith, length-reverse xs) in
    sym
    (ap (λ (n : ℕ). get_or (reverse (x ∷ xs)) n 0) e ∙ ap (λ (l : List ℕ). get_or l (length (reverse xs)) 0) (reverse-cons x xs)
    ∙ get_or-append_seam (reverse xs) x [] 0)
last_first (x ∷ xs) (suc i) h =
    let e : length (x ∷ xs) - 1 - suc i ≡ length xs - 1 - i = omega arith in
    last_first xs i (omega arith)
    ∙ sym
    (ap (λ (n : ℕ). get_or (reverse (x ∷ xs)) n 0) e
    ∙ ap (λ (l : List ℕ). get_or l (length xs - 1 - i) 0) (reverse-cons x xs)
    ∙ get_or-append (reverse xs) (x ∷ []) 0 (length xs - 1 - i) (omega (arith, length-reverse xs)))

-- ---- zeros

pub length-zeros : (n : ℕ) → length (zeros n) ≡ n
unfolding basics
length-zeros zero = refl
length-zeros (suc n) = ap suc (length-zeros n)

pub get_or_zeros : (n i : ℕ) → get_or (zeros n) i 0 ≡ 0
unfolding basics
get_or_zeros zero i = refl
get_or_zeros (suc n) zero = refl
get_or_zeros (suc n) (suc i) = get_or_zeros n i

-- ---- rising

pub length-rising : (a n : ℕ) → length (rising a n) ≡ n
unfolding basics
length-rising a zero = refl
length-rising a (suc n) = ap suc (length-rising (suc a) n)

pub get_or_rising : (a n i d : ℕ) → i < n → get_or (rising a n) i d ≡ a + i
unfolding basics
get_or_rising a zero i d h = absurd (omega arith)
get_or_rising a (suc n) zero d h = omega arith
get_or_rising a (suc n) (suc i) d h = get_or_rising (suc a) n i d (omega arith) ∙ omega arith

-- a function's values along rising numbers
pub get_or_map_rising : {A : Type 0} (f : ℕ → A) (a n i : ℕ) (d : A) → i < n → get_or (map f (rising a n)) i d ≡ f (a + i)
unfolding basics
get_or_map_rising f a zero i d h = absurd (omega arith)
get_or_map_rising f a (suc n) zero d h = ap f (omega arith)
get_or_map_rising f a (suc n) (suc i) d h = get_or_map_rising f (suc a) n i d (omega arith) ∙ ap f (omega arith)

-- a list is told again by its elements
pub told_again : {A : Type 0} (d : A) (f : ℕ → A) (l : List A) → ((i : ℕ) → i < length l → f i ≡ get_or l i d) → map f (rising 0 (length l)) ≡ l
told_again {A} d f l h =
    let size : length (map f (rising 0 (length l))) ≡ length l = length-map (rising 0 (length l)) f ∙ length-rising 0 (length l) in
    ext_get_or d _ l size
    (λ i k.
    let small : i < length l = subst (λ (n : ℕ). i < n) size k in
    get_or_map_rising f 0 (length l) i d small ∙ ap f (omega arith) ∙ h i small)

-- n of a rising list's numbers: each once, and no other
pub count_rising : (a n s : ℕ) → s < a → count s (rising a n) ≡ 0
unfolding basics
count_rising a zero s h = refl
count_rising a (suc n) s h =
    let e = ne_eqb s a (λ q. omega arith) in
    (λ i. choose (e i) 1 0 + count_rising (suc a) n s (omega arith) i)

pub count_rising_in : (a n s : ℕ) → a ≤ s → s < a + n → count s (rising a n) ≡ 1
unfolding basics
count_rising_in a zero s h k = absurd (omega arith)
count_rising_in a (suc n) s h k =
    elim (ℕ_discrete s a) [
      | yes e ↦ (λ i. choose (eq-eqb s a e i) 1 0 + count_rising (suc a) n s (omega arith) i)
      | no ne ↦ (λ i. choose (ne_eqb s a ne i) 1 0 + count_rising_in (suc a) n s (omega arith) (omega arith) i)
    ]

-- ---- rows of one width, one after the other

module _ {A : Type 0} (w : ℕ) (f : A → List ℕ) (width : (a : A) → length (f a) ≡ w) where
  pub length-rows : (l : List A) → length (join f l) ≡ w * length l
  unfolding basics
  length-rows [] = sym (native.Mathlib.Nat.mul-zero w)
  length-rows (a ∷ l) =
      length-append (f a) (join f l) ∙ (λ i. width a i + length-rows l i)
      ∙ native.Mathlib.Nat.add_comm w (w * length l) ∙ sym (native.Mathlib.Nat.mul-suc w (length l))

  pub get_d_rows : (l : List A) (i k : ℕ) (d : A) → i < length l → k < w → get_or (join f l) (w * i + k) 0 ≡ get_or (f (get_or l i d)) k 0
  unfolding basics
  get_d_rows [] i k d h small = absurd (omega arith)
  get_d_rows (a ∷ l) zero k d h small =
      ap (λ (n : ℕ). get_or (f a ++ join f l) (n + k) 0) (native.Mathlib.Nat.mul-zero w)
      ∙ ap (λ (n : ℕ). get_or (f a ++ join f l) n 0) (native.Mathlib.Nat.zero-add k)
      ∙ get_or-append (f a) (join f l) 0 k (subst (λ (n : ℕ). k < n) (sym (width a)) small)
  get_d_rows (a ∷ l) (suc i) k d h small =
      ap (λ (n : ℕ). get_or (f a ++ join f l) n 0) there
      ∙ get_or-append-add (f a) (join f l) (w * i + k) 0
      ∙ get_d_rows l i k d (omega arith) small
    where
      there : w * suc i + k ≡ length (f a) + (w * i + k)
      there = omega (arith, native.Mathlib.Nat.mul-suc w i, width a)

  row_more : (n : ℕ) (a : A) → w * suc n ≡ length (f a) + w * n
  row_more n a = omega (arith, native.Mathlib.Nat.mul-suc w n, width a)

  -- the first n rows, and those behind them
  pub take-rows : (n : ℕ) (l : List A) → take (w * n) (join f l) ≡ join f (take n l)
  unfolding basics
  take-rows zero l = ap (λ (k : ℕ). take k (join f l)) (native.Mathlib.Nat.mul-zero w)
  take-rows (suc n) [] = take-nil (w * suc n)
  take-rows (suc n) (a ∷ l) =
      ap (λ (k : ℕ). take k (f a ++ join f l)) (row_more n a)
      ∙ take-append-add (f a) (join f l) (w * n)
      ∙ ap (λ (r : List ℕ). f a ++ r) (take-rows n l)

  pub drop-rows : (n : ℕ) (l : List A) → drop (w * n) (join f l) ≡ join f (drop n l)
  unfolding basics
  drop-rows zero l = ap (λ (k : ℕ). drop k (join f l)) (native.Mathlib.Nat.mul-zero w)
  drop-rows (suc n) [] = drop-nil (w * suc n)
  drop-rows (suc n) (a ∷ l) =
      ap (λ (k : ℕ). drop k (f a ++ join f l)) (row_more n a) ∙ drop-append-add (f a) (join f l) (w * n) ∙ drop-rows n l
