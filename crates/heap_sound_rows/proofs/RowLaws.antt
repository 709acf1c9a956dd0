-- Bytes of the map, and rows, one test after the other. Assumes nothing.
use mathlib.Core.Path.{◌≡◌, refl, sym, ap, ◌∙◌}
use mathlib.Core.Bool.{Bool, true, false}
use mathlib.Core.List.{List, [], ◌∷◌}
use Prim.Native.Nat.{ℕ, zero, suc, ◌+◌, ◌*◌, ◌/◌, ◌%◌, ◌≤◌, ◌<◌}
use native.Mathlib.Omega.{arith}
use borrow.Author.Tests.{eqb-true, leb-true, le-leb, lt-ltb, le-ltb}
use lib.Dec.{eqb, leb, ltb}
use lib.ListN.{length, get_or}
use Rattle.std.specs.List.{list_all}
use Rattle.std.proofs.lemmas.List.Recursion.{and_at, and_from_places}
use Rattle.laws.specs.Basics.{choose, both, either, every_below, same, basics}
use Rattle.laws.proofs.Tests.{true≢false, both_left, both_right, both_true, either_cases, below_all, all_below}
use Rattle.laws.proofs.Checks.{agreeing}
use Rattle.rules.specs.Map.{state_in, state_of, is_allocated, Free, Allocated, map_rules}
use Rattle.rules.specs.Layout.{cell_words, cell_from, value_words, value_from}
use Rattle.rules.proofs.TwoBits.{by_place}
use Rattle.heap_sound_rows.specs.Rows.{is_zero, word, byte_settled, settled, cell_kept, element_kept}

-- ---- three words

-- r is what was found of three words beside three others, one by one
pub known : (l : List ℕ) (x y z k a b : ℕ) → x ∷ y ∷ z ∷ [] ≡ l → (r : Bool) → r ≡ both (eqb x k) (both (eqb y a) (eqb z b)) → r ≡ same l (k ∷ a ∷ b ∷ [])
unfolding basics
known l x y z k a b e r f =
    f
    ∙ ap (λ (t : Bool). both (eqb x k) (both (eqb y a) t)) (last (eqb z b))
    ∙ ap (λ (m : List ℕ). same m (k ∷ a ∷ b ∷ [])) e
  where
    last : (t : Bool) → t ≡ both t true
    last true = refl
    last false = refl

-- ---- a test of every element, by a chain

pub all_is : (p : ℕ → Bool) (xs : List ℕ) → list_all p xs ≡ every_below (length xs) (λ i. p (get_or xs i 0))
all_is p xs =
    agreeing _ _
    (λ e. all_below _ (length xs) (λ i h. and_at (list_all p) p refl (λ _ _. refl) xs i 0 h e))
    (λ e. and_from_places (list_all p) p refl (λ _ _. refl) xs 0 (below_all _ (length xs) e))

-- ---- the states of a byte, and of the map

state_at : (m : List ℕ) (i p : ℕ) → p < 4 → state_of m (4 * i + p) ≡ state_in (get_or m i 0) p
unfolding state_of
state_at m i p h =
    let q : (4 * i + p) / 4 ≡ i = omega arith in
    let r : (4 * i + p) % 4 ≡ p = omega arith in
    λ j. state_in (get_or m (q j) 0) (r j)

byte_told : (b : ℕ) → byte_settled b ≡ true → (p : ℕ) → p < 4 → state_in b p ≤ 1
unfolding byte_settled map_rules
byte_told b e =
    let e1 = both_right (leb (b % 4) 1) _ e in
    let e2 = both_right (leb (b / 4 % 4) 1) _ e1 in
    let a : b % 4 ≤ 1 = leb-true _ _ (both_left (leb (b % 4) 1) _ e) in
    let d : b / 4 % 4 ≤ 1 = leb-true _ _ (both_left (leb (b / 4 % 4) 1) _ e1) in
    let f : b / 16 % 4 ≤ 1 = leb-true _ _ (both_left (leb (b / 16 % 4) 1) _ e2) in
    let g : b / 64 % 4 ≤ 1 = leb-true _ _ (both_right (leb (b / 16 % 4) 1) _ e2) in
    by_place (λ p. state_in b p ≤ 1) (omega arith) (omega arith) (omega arith) (omega arith)

byte_holds : (b : ℕ) → ((p : ℕ) → p < 4 → state_in b p ≤ 1) → byte_settled b ≡ true
unfolding byte_settled map_rules
byte_holds b h =
    both_true (le-leb (b % 4) 1 (omega (arith, h 0 (omega arith))))
    (both_true (le-leb (b / 4 % 4) 1 (omega (arith, h 1 (omega arith))))
    (both_true (le-leb (b / 16 % 4) 1 (omega (arith, h 2 (omega arith)))) (le-leb (b / 64 % 4) 1 (omega (arith, h 3 (omega arith))))))

free_or_allocated : (n : ℕ) → n ≤ 1 → either (eqb n Free) (eqb n Allocated) ≡ true
free_or_allocated zero h = refl
free_or_allocated (suc zero) h = refl
free_or_allocated (suc (suc n)) h = absurd (omega arith)

at_most_one : (n : ℕ) → either (eqb n Free) (eqb n Allocated) ≡ true → n ≤ 1
at_most_one n e =
    mathlib.Core.Logic.⊎_elim (λ p. omega (arith, eqb-true n 0 p)) (λ p. omega (arith, eqb-true n 1 p))
    (either_cases (eqb n Free) _ e)

-- the map is settled where its bytes are
pub settled_bytes : (m : List ℕ) → settled m ≡ every_below (length m) (λ i. byte_settled (get_or m i 0))
unfolding settled is_allocated
settled_bytes m =
    agreeing _ _
    (λ e.
    all_below _ (length m)
    (λ i h.
    byte_holds (get_or m i 0)
    (λ p hp.
    let o = at_most_one (state_of m (4 * i + p)) (below_all _ (4 * length m) e (4 * i + p) (omega arith)) in
    omega (arith, state_at m i p hp))))
    (λ e.
    all_below _ (4 * length m)
    (λ s h.
    free_or_allocated (state_of m s)
    (let t = byte_told (get_or m (s / 4) 0) (below_all _ (length m) e (s / 4) (omega arith)) (s % 4) (omega arith) in
    let q : s ≡ 4 * (s / 4) + s % 4 = omega arith in
    omega (arith, state_at m (s / 4) (s % 4) (omega arith), ap (state_of m) q))))

-- ---- a row's columns

chosen : (t a b : Bool) → t ≡ true → a ≡ choose t a b
chosen true a b e = refl
chosen false a b e = absurd (true≢false (sym e))

left_out : (t a b : Bool) → t ≡ false → b ≡ choose t a b
left_out true a b e = absurd (true≢false e)
left_out false a b e = refl

module _ (ws : List ℕ) (i : ℕ) where
  pub cell_below : (r : Bool) → i < get_or ws 1 0
      → r ≡ same (cell_words (cell_from (get_or ws (8 + 8 * i) 0) (word ws i 1) (word ws i 2))) (get_or ws (8 + 8 * i) 0 ∷ word ws i 1 ∷ word ws i 2 ∷ [])
      → r ≡ cell_kept ws i
  unfolding cell_kept
  cell_below r h e = e ∙ chosen (ltb i (get_or ws 1 0)) _ _ (lt-ltb i (get_or ws 1 0) h)

  pub cell_past : (r : Bool) → get_or ws 1 0 ≤ i
      → r ≡ both (is_zero (get_or ws (8 + 8 * i) 0)) (both (is_zero (word ws i 1)) (is_zero (word ws i 2))) → r ≡ cell_kept ws i
  unfolding cell_kept
  cell_past r h e = e ∙ left_out (ltb i (get_or ws 1 0)) _ _ (le-ltb i (get_or ws 1 0) h)

-- ---- an element

pub element_is : (es : List ℕ) (i : ℕ)
    → same (value_words (value_from (get_or es (3 * i) 0) (get_or es (3 * i + 1) 0))) (get_or es (3 * i) 0 ∷ get_or es (3 * i + 1) 0 ∷ get_or es (3 * i + 2) 0 ∷ [])
    ≡ element_kept es i
unfolding element_kept
element_is es i = refl
