-- Tests over lists, element by element; how often a number stands in a list; parts of a list that grew. Assumes nothing.
use mathlib.Core.Path.{◌≡◌, refl, sym, ap, ◌∙◌}
use mathlib.Core.Bool.{Bool, true, false}
use mathlib.Core.List.{List, [], ◌∷◌, ◌++◌, reverse}
use mathlib.Core.Option.{Option, none, some}
use Prim.Native.Nat.{ℕ, zero, suc, ◌+◌, ◌≤◌, ◌<◌}
use native.Mathlib.Omega.{arith}
use native.Mathlib.Decide.{ℕ_discrete, dec_lt}
use borrow.Author.Tests.{ltb-true, lt-ltb, eq-eqb, ne_eqb}
use lib.Dec.{ltb}
use lib.ListN.{length, get_or, replicate, take, drop, length-drop, get_or-eq_default}
use lib.Seq.{get_or-take, get_or-drop, take-append-le, drop-append-le, length-take-le}
use Rattle.laws.specs.Basics.{choose, every, find, count, rising, basics}
use Rattle.laws.proofs.Tests.{both_left, both_right, both_true}
use Rattle.laws.proofs.Zeros.{falling, rising_last}
use Rattle.laws.proofs.Options.{none_some, some_value}

-- ---- every

module _ {A : Type 0} (f : A → Bool) (d : A) where
  pub every_all : (l : List A) → every f l ≡ true → (i : ℕ) → i < length l → f (get_or l i d) ≡ true
  unfolding basics
  every_all [] e i h = absurd (omega arith)
  every_all (x ∷ l) e zero h = both_left (f x) _ e
  every_all (x ∷ l) e (suc i) h = every_all l (both_right (f x) _ e) i (omega arith)

  pub all_every : (l : List A) → ((i : ℕ) → i < length l → f (get_or l i d) ≡ true) → every f l ≡ true
  unfolding basics
  all_every [] p = refl
  all_every (x ∷ l) p = both_true (p 0 (omega arith)) (all_every l (λ i h. p (suc i) (omega arith)))

  -- past the end stands d, of which the test holds too
  pub every_at : (l : List A) → every f l ≡ true → f d ≡ true → (i : ℕ) → f (get_or l i d) ≡ true
  every_at l e p i =
      elim (dec_lt i (length l)) [
        | yes h ↦ every_all l e i h
        | no h ↦ ap f (get_or-eq_default l d (omega arith)) ∙ p
      ]

-- ---- count

pub count_past : (n : ℕ) (l : List ℕ) → every (λ x. ltb x n) l ≡ true → (s : ℕ) → n ≤ s → count s l ≡ 0
unfolding basics
count_past n [] e s h = refl
count_past n (x ∷ l) e s h =
    let small = ltb-true x n (both_left (ltb x n) _ e) in
    (λ i. choose (ne_eqb s x (λ q. omega arith) i) 1 0 + count_past n l (both_right (ltb x n) _ e) s h i)

pub count_here : (s x : ℕ) (l : List ℕ) → s ≡ x → count s (x ∷ l) ≡ 1 + count s l
unfolding basics
count_here s x l e = ap (λ (b : Bool). choose b 1 0 + count s l) (eq-eqb s x e)

pub count_other : (s x : ℕ) (l : List ℕ) → (s ≡ x → ⊥) → count s (x ∷ l) ≡ count s l
unfolding basics
count_other s x l d = ap (λ (b : Bool). choose b 1 0 + count s l) (ne_eqb s x d) ∙ omega arith

pub past_count : (n : ℕ) (l : List ℕ) → ((s : ℕ) → n ≤ s → count s l ≡ 0) → every (λ x. ltb x n) l ≡ true
unfolding basics
past_count n [] p = refl
past_count n (x ∷ l) p =
    both_true
    (lt-ltb x n
    (elim (dec_lt x n) [ yes h ↦ h | no h ↦ absurd (omega (arith, p x (omega arith), count_here x x l refl)) ]))
    (past_count n l
    (λ s h.
    elim (ℕ_discrete s x) [
      | yes e ↦ absurd (omega (arith, p s h, count_here s x l e))
      | no d ↦ sym (count_other s x l d) ∙ p s h
    ]))

pub count_append : (s : ℕ) (l m : List ℕ) → count s (l ++ m) ≡ count s l + count s m
unfolding basics
count_append s [] m = omega arith
count_append s (x ∷ l) m = omega (arith, count_append s l m)

-- rising numbers, highest first
pub count_falling : (a n s : ℕ) → count s (reverse (rising a n)) ≡ count s (rising a n)
unfolding basics
count_falling a zero s = refl
count_falling a (suc n) s =
    ap (count s) (falling a n)
    ∙ omega (arith, count_falling a n s, ap (count s) (rising_last a n), count_append s (rising a n) ((a + n) ∷ []))

pub count_rising_past : (a n s : ℕ) → a + n ≤ s → count s (rising a n) ≡ 0
unfolding basics
count_rising_past a zero s h = refl
count_rising_past a (suc n) s h =
    let e = ne_eqb s a (λ q. omega arith) in
    (λ i. choose (e i) 1 0 + count_rising_past (suc a) n s (omega arith) i)

-- ---- parts

module _ {A : Type 0} where
  -- the element of a part
  pub get_d_part : (l : List A) (p n i : ℕ) (d : A) → i < n → get_or (take n (drop p l)) i d ≡ get_or l (p + i) d
  get_d_part l p n i d h = get_or-take n (drop p l) i d h ∙ get_or-drop p l i d

  pub length_part : (l : List A) (p n : ℕ) → p + n ≤ length l → length (take n (drop p l)) ≡ n
  length_part l p n h = length-take-le n (drop p l) (omega (arith, length-drop p l))

  -- a part of the list, also after it grew
  pub part_append : (l m : List A) (p n : ℕ) → p + n ≤ length l → take n (drop p (l ++ m)) ≡ take n (drop p l)
  part_append l m p n h =
      ap (take n) (drop-append-le p l m (omega arith)) ∙ take-append-le n (drop p l) m (omega (arith, length-drop p l))

-- a test that follows from another
pub every_weaker : {A : Type 0} (f g : A → Bool) → ((a : A) → f a ≡ true → g a ≡ true) → (l : List A) → every f l ≡ true → every g l ≡ true
unfolding basics
every_weaker f g p [] e = refl
every_weaker f g p (x ∷ l) e = both_true (p x (both_left (f x) _ e)) (every_weaker f g p l (both_right (f x) _ e))

pub every_same : {A : Type 0} (f : A → Bool) (n : ℕ) (a : A) → f a ≡ true → every f (replicate n a) ≡ true
unfolding basics
every_same f zero a e = refl
every_same f (suc n) a e = both_true e (every_same f n a e)

-- ---- find

-- the first of which the test holds, by its place
pub record Found {A : Type 0} (f : A → Bool) (d : A) (l : List A) (a : A) : Type 0 where
  pub place : ℕ
  pub below : place < length l
  pub is : get_or l place d ≡ a
  pub holds : f a ≡ true

module _ {A : Type 0} (f : A → Bool) (d : A) where
  pub find_some : (l : List A) (a : A) → find f l ≡ some a → Found f d l a
  unfolding basics
  find_some [] a e = absurd (none_some e)
  find_some (x ∷ l) a e = by (f x) refl (λ p. find_some l a p) e
    where
      by : (b : Bool) → f x ≡ b → (find f l ≡ some a → Found f d l a) → elim b as (λ b. Option A) [ true ↦ some x | false ↦ find f l ] ≡ some a → Found f d (x ∷ l) a
      by true q again p = record { place = 0; below = omega arith; is = some_value p; holds = ap f (sym (some_value p)) ∙ q }
      by false q again p =
          let r = again p in
          record { place = suc r.place; below = omega (arith, r.below); is = r.is; holds = r.holds }

  pub find_none : (l : List A) → find f l ≡ none → (i : ℕ) → i < length l → f (get_or l i d) ≡ false
  unfolding basics
  find_none [] e i h = absurd (omega arith)
  find_none (x ∷ l) e i h = by (f x) refl (λ p i h. find_none l p i h) e i h
    where
      by : (b : Bool) → f x ≡ b → (find f l ≡ none → (i : ℕ) → i < length l → f (get_or l i d) ≡ false) → ◌≡◌ {A = Option A} (elim b [ true ↦ some x | false ↦ find f l ]) none → (i : ℕ) → i < length (x ∷ l) → f (get_or (x ∷ l) i d) ≡ false
      by true q again p i h = absurd (none_some (sym p))
      by false q again p zero h = q
      by false q again p (suc i) h = again p i (omega arith)
