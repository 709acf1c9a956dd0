-- How often a number stands among the first n: one more, and marks. Assumes nothing.
use mathlib.Core.Path.{◌≡◌, refl, sym, ap, ◌∙◌}
use mathlib.Core.Bool.{Bool, true, false}
use mathlib.Core.List.{List, [], ◌∷◌, map, reverse, map-append, reverse-append}
use Prim.Native.Nat.{ℕ, zero, suc, ◌+◌, ◌≤◌, ◌<◌}
use native.Mathlib.Nat.{zero-add}
use native.Mathlib.Numerals.{add-one}
use native.Mathlib.Decide.{ℕ_discrete, dec_lt}
use native.Mathlib.Omega.{arith}
use borrow.Author.Tests.{eqb-true, eq-eqb, ne_eqb, ltb-true, lt-ltb, le-ltb}
use lib.Dec.{eqb, ltb}
use lib.ListN.{length, get_or, set}
use lib.Seq.{get_or-set_same, get_or-set_other}
use Rattle.laws.specs.Basics.{choose, both, every, every_below, count, rising, basics}
use Rattle.laws.proofs.Tests.{both_left, both_right, both_true, below_all, all_below, true≢false}
use Rattle.laws.proofs.Zeros.{rising_last}
use Rattle.laws.proofs.Checks.{refuted, fail}
use Rattle.heap_sound_free.specs.Marks.{tally, new_at}

once_here : (s x : ℕ) → s ≡ x → ◌≡◌ {A = ℕ} (choose (eqb s x) 1 0) 1
once_here s x e = ap {B = ℕ} (λ (b : Bool). choose b 1 0) (eq-eqb s x e)

once_not : (s x : ℕ) → (s ≡ x → ⊥) → ◌≡◌ {A = ℕ} (choose (eqb s x) 1 0) 0
once_not s x d = ap {B = ℕ} (λ (b : Bool). choose b 1 0) (ne_eqb s x d)

module _ (f : ℕ → ℕ) where
  tally_more : (n s : ℕ) → tally f (n + 1) s ≡ choose (eqb s (f n)) 1 0 + tally f n s
  unfolding tally
  tally_more n s = ap (λ (m : ℕ). tally f m s) (add-one n)

  -- fewer among fewer
  tally_less : (n m s : ℕ) → n ≤ m → tally f n s ≤ tally f m s
  unfolding tally
  tally_less n zero s h = let e : n ≡ 0 = omega arith in omega (arith, ap (λ (m : ℕ). tally f m s) e)
  tally_less n (suc m) s h =
      elim (dec_lt m n) [
        | yes l ↦ let e : n ≡ suc m = omega arith in omega (arith, ap (λ (k : ℕ). tally f k s) e)
        | no l ↦ omega (arith, tally_less n m s (omega arith))
      ]

  -- none before j is the same as s: no place has it
  pub tally_none : (n s : ℕ) → tally f n s ≡ 0 → (i : ℕ) → i < n → f i ≡ s → ⊥
  tally_none n s z i h e =
      omega (arith, tally_less (i + 1) n s (omega arith), tally_more i s, once_here s (f i) (sym e))

  pub none_tally : (n s : ℕ) → ((i : ℕ) → i < n → f i ≡ s → ⊥) → tally f n s ≡ 0
  unfolding tally
  none_tally zero s d = refl
  none_tally (suc n) s d =
      omega (arith, once_not s (f n) (λ e. d n (omega arith) (sym e)), none_tally n s (λ i h. d i (omega arith)))

  -- ---- marking

  module _ (capacity i : ℕ) where
    pub new_past : capacity ≤ f i → new_at f capacity i ≡ false
    unfolding new_at
    new_past h = sym (fail (ltb (f i) capacity) _ (le-ltb (f i) capacity h))

    pub new_is : new_at f capacity i ≡ true → tally f i (f i) ≡ 0
    unfolding new_at
    new_is e = eqb-true _ 0 (both_right (ltb (f i) capacity) _ e)

    pub new_low : new_at f capacity i ≡ true → f i < capacity
    unfolding new_at
    new_low e = ltb-true _ _ (both_left (ltb (f i) capacity) _ e)

    pub new_met : (marks : List ℕ) → ((s : ℕ) → get_or marks s 0 ≡ tally f i s) → (get_or marks (f i) 0 ≡ 0 → ⊥) → new_at f capacity i ≡ false
    new_met marks m d = sym (refuted _ (λ e. d (m (f i) ∙ new_is e)))

    pub new_here : (marks : List ℕ) → ((s : ℕ) → get_or marks s 0 ≡ tally f i s) → f i < capacity → get_or marks (f i) 0 ≡ 0 → new_at f capacity i ≡ true
    unfolding new_at
    new_here marks m h z = both_true (lt-ltb (f i) capacity h) (eq-eqb _ 0 (sym (m (f i)) ∙ z))

    pub marked_more : (marks : List ℕ) → ((s : ℕ) → get_or marks s 0 ≡ tally f i s) → f i < length marks → get_or marks (f i) 0 ≡ 0
        → (s : ℕ) → get_or (set marks (f i) 1) s 0 ≡ tally f (i + 1) s
    marked_more marks m h z s =
        elim (ℕ_discrete s (f i)) [
          | yes e ↦
              ap (λ (k : ℕ). get_or (set marks (f i) 1) k 0) e ∙ get_or-set_same marks (f i) 1 0 h
              ∙ omega (arith, tally_more i s, once_here s (f i) e, m (f i), ap (tally f i) e)
          | no d ↦ get_or-set_other marks (f i) s 1 0 d ∙ m s ∙ omega (arith, tally_more i s, once_not s (f i) d)
        ]

  -- no marks at first
  pub marked_none : (marks : List ℕ) → ((s : ℕ) → get_or marks s 0 ≡ 0) → (s : ℕ) → get_or marks s 0 ≡ tally f 0 s
  unfolding tally
  marked_none marks z s = z s

  -- ---- the column as a list, last first

  front : (n : ℕ) → reverse (map f (rising 0 (suc n))) ≡ f n ∷ reverse (map f (rising 0 n))
  front n =
      ap (λ (l : List ℕ). reverse (map f l)) (rising_last 0 n)
      ∙ ap reverse (map-append f (rising 0 n) ((0 + n) ∷ []))
      ∙ reverse-append (map f (rising 0 n)) (f (0 + n) ∷ [])
      ∙ ap (λ (m : ℕ). f m ∷ reverse (map f (rising 0 n))) (zero-add n)

  pub count_column : (n s : ℕ) → count s (reverse (map f (rising 0 n))) ≡ tally f n s
  unfolding tally basics
  count_column zero s = refl
  count_column (suc n) s = ap (count s) (front n) ∙ ap (λ (m : ℕ). choose (eqb s (f n)) 1 0 + m) (count_column n s)

  pub every_column : (g : ℕ → Bool) (n : ℕ) → every g (reverse (map f (rising 0 n))) ≡ every_below n (λ i. g (f i))
  unfolding basics
  every_column g zero = refl
  every_column g (suc n) = ap (every g) (front n) ∙ ap (both (g (f n))) (every_column g n)

  pub new_of : (capacity j : ℕ) → f j < capacity → tally f j (f j) ≡ 0 → new_at f capacity j ≡ true
  unfolding new_at
  new_of capacity j p q = both_true (lt-ltb (f j) capacity p) (eq-eqb _ 0 q)

  -- each number at most once, all below the capacity: each place is new
  pub all_new : (capacity n : ℕ) → ((j : ℕ) → j < n → f j < capacity) → ((s : ℕ) → s < capacity → tally f n s ≤ 1)
      → every_below n (new_at f capacity) ≡ true
  all_new capacity n low one =
      all_below _ n
      (λ j h. new j h)
    where
      new : (j : ℕ) → j < n → new_at f capacity j ≡ true
      new j h =
          new_of capacity j (low j h)
          (omega (arith, one (f j) (low j h), tally_less (j + 1) n (f j) (omega arith), tally_more j (f j), once_here (f j) (f j) refl))

-- ---- a turn of marking

module _ (f : ℕ → ℕ) (n capacity i : ℕ) (h : i < n) where
  pub column_stops : new_at f capacity i ≡ false → false ≡ every_below n (new_at f capacity)
  column_stops e = refuted _ (λ t. true≢false (sym (below_all _ n t i h) ∙ e))

  pub column_on : ((j : ℕ) → j < i → new_at f capacity j ≡ true) → new_at f capacity i ≡ true → (j : ℕ) → j < i + 1 → new_at f capacity j ≡ true
  column_on p e j l =
      elim (ℕ_discrete j i) [ yes q ↦ ap (new_at f capacity) q ∙ e | no d ↦ p j (omega arith) ]

pub column_ends : (f : ℕ → ℕ) (n capacity i : ℕ) → n ≤ i → ((j : ℕ) → j < i → new_at f capacity j ≡ true) → true ≡ every_below n (new_at f capacity)
column_ends f n capacity i h p = sym (all_below _ n (λ j l. p j (omega arith)))
