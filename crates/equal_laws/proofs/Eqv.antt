-- `eqv` is symmetric and transitive, and cells that are `eqv` look the same. Document 01, "Equality", `eqv`. Assumes nothing.
use mathlib.Core.Path.{◌≡◌, refl, sym, ap, ◌∙◌}
use mathlib.Core.Bool.{Bool, true, false}
use mathlib.Core.List.{List}
use mathlib.Core.Logic.{◌⊎◌, inl, inr, ⊎_elim}
use Prim.Native.Nat.{ℕ}
use native.Mathlib.Omega.{arith}
use borrow.Author.Tests.{eqb-true, eq-eqb}
use lib.Dec.{eqb}
use Rattle.laws.specs.Basics.{both, same, basics}
use Rattle.laws.proofs.Tests.{true≢false, both_left, both_right, either_cases, either_left, either_right, same_equal}
use Rattle.rules.specs.Cells.{Scalar, undefined, nil, eof, void, bool, char, number, Value, slot, scalar, Cell, plain, pair, symbol, string, vector, bit}
use Rattle.rules.specs.Heap.{Heap, shown, text_of}
use Rattle.rules.specs.Equal.{eqv_scalars, eqv_cells, same_slot, eqv, equal_rules}

-- a test that fails holds only where all does
pub never : {A : Type 0} → false ≡ true → A
never e = absurd (true≢false (sym e))

-- ---- scalars

same_bit : (a b : Bool) → eqb (bit a) (bit b) ≡ true → a ≡ b
same_bit true true e = refl
same_bit true false e = absurd (let z : ◌≡◌ {A = ℕ} 1 0 = eqb-true 1 0 e in omega arith)
same_bit false true e = absurd (let z : ◌≡◌ {A = ℕ} 0 1 = eqb-true 0 1 e in omega arith)
same_bit false false e = refl

-- only a scalar itself is `eqv` to it
pub eqv_scalars_equal : (s t : Scalar) → eqv_scalars s t ≡ true → s ≡ t
unfolding equal_rules
eqv_scalars_equal undefined t e = never e
eqv_scalars_equal nil undefined e = never e
eqv_scalars_equal nil nil e = refl
eqv_scalars_equal nil eof e = never e
eqv_scalars_equal nil void e = never e
eqv_scalars_equal nil (bool b) e = never e
eqv_scalars_equal nil (char n) e = never e
eqv_scalars_equal nil (number n) e = never e
eqv_scalars_equal eof undefined e = never e
eqv_scalars_equal eof nil e = never e
eqv_scalars_equal eof eof e = refl
eqv_scalars_equal eof void e = never e
eqv_scalars_equal eof (bool b) e = never e
eqv_scalars_equal eof (char n) e = never e
eqv_scalars_equal eof (number n) e = never e
eqv_scalars_equal void t e = never e
eqv_scalars_equal (bool a) undefined e = never e
eqv_scalars_equal (bool a) nil e = never e
eqv_scalars_equal (bool a) eof e = never e
eqv_scalars_equal (bool a) void e = never e
eqv_scalars_equal (bool a) (bool b) e = ap bool (same_bit a b e)
eqv_scalars_equal (bool a) (char n) e = never e
eqv_scalars_equal (bool a) (number n) e = never e
eqv_scalars_equal (char m) undefined e = never e
eqv_scalars_equal (char m) nil e = never e
eqv_scalars_equal (char m) eof e = never e
eqv_scalars_equal (char m) void e = never e
eqv_scalars_equal (char m) (bool b) e = never e
eqv_scalars_equal (char m) (char n) e = ap char (eqb-true m n e)
eqv_scalars_equal (char m) (number n) e = never e
eqv_scalars_equal (number m) undefined e = never e
eqv_scalars_equal (number m) nil e = never e
eqv_scalars_equal (number m) eof e = never e
eqv_scalars_equal (number m) void e = never e
eqv_scalars_equal (number m) (bool b) e = never e
eqv_scalars_equal (number m) (char n) e = never e
eqv_scalars_equal (number m) (number n) e = ap number (eqb-true m n e)

-- ---- cells

-- what `eqv` sees of a cell: of a string its content, not where it stands
pub data Look : Type 0 where
  a_plain : Scalar → Look
  a_pair : ℕ → ℕ → Look
  a_text : List ℕ → Look
  a_slot : Look

unfoldable pub look : Heap → Cell → Look
look h (plain s) = a_plain s
look h (pair a d) = a_pair a d
look h (symbol b) = a_slot
look h (string b) = a_text (text_of h b)
look h (vector b) = a_slot

eqv_looks : Look → Look → Bool
unfolding equal_rules basics
eqv_looks (a_plain s) m = elim m [ a_plain t ↦ eqv_scalars s t | a_pair a d ↦ false | a_text t ↦ false | a_slot ↦ false ]
eqv_looks (a_pair a d) m =
    elim m [ a_plain t ↦ false | a_pair b f ↦ both (eqb a b) (eqb d f) | a_text t ↦ false | a_slot ↦ false ]
eqv_looks (a_text s) m = elim m [ a_plain t ↦ false | a_pair a d ↦ false | a_text t ↦ same s t | a_slot ↦ false ]
eqv_looks a_slot m = false

eqv_looks_equal : (l m : Look) → eqv_looks l m ≡ true → l ≡ m
unfolding eqv_looks
eqv_looks_equal (a_plain s) (a_plain t) e = ap a_plain (eqv_scalars_equal s t e)
eqv_looks_equal (a_plain s) (a_pair a d) e = never e
eqv_looks_equal (a_plain s) (a_text t) e = never e
eqv_looks_equal (a_plain s) a_slot e = never e
eqv_looks_equal (a_pair a d) (a_plain t) e = never e
eqv_looks_equal (a_pair a d) (a_pair b f) e =
    λ i. a_pair (eqb-true a b (both_left (eqb a b) _ e) i) (eqb-true d f (both_right (eqb a b) _ e) i)
eqv_looks_equal (a_pair a d) (a_text t) e = never e
eqv_looks_equal (a_pair a d) a_slot e = never e
eqv_looks_equal (a_text s) (a_plain t) e = never e
eqv_looks_equal (a_text s) (a_pair a d) e = never e
eqv_looks_equal (a_text s) (a_text t) e = ap a_text (same_equal s t e)
eqv_looks_equal (a_text s) a_slot e = never e
eqv_looks_equal a_slot m e = never e

-- ---- values that are one slot

pub same_slot_equal : (v w : Value) → same_slot v w ≡ true → v ≡ w
unfolding equal_rules
same_slot_equal (slot s) (slot t) e = ap slot (eqb-true s t e)
same_slot_equal (slot s) (scalar x) e = never e
same_slot_equal (scalar x) w e = never e

module _ (h : Heap) where
  by_looks : (c d : Cell) → eqv_cells h c d ≡ eqv_looks (look h c) (look h d)
  unfolding equal_rules eqv_looks look
  by_looks (plain s) (plain t) = refl
  by_looks (plain s) (pair b f) = refl
  by_looks (plain s) (symbol b) = refl
  by_looks (plain s) (string b) = refl
  by_looks (plain s) (vector b) = refl
  by_looks (pair a d) (plain t) = refl
  by_looks (pair a d) (pair b f) = refl
  by_looks (pair a d) (symbol b) = refl
  by_looks (pair a d) (string b) = refl
  by_looks (pair a d) (vector b) = refl
  by_looks (symbol b) d = refl
  by_looks (string b) (plain t) = refl
  by_looks (string b) (pair a d) = refl
  by_looks (string b) (symbol c) = refl
  by_looks (string b) (string c) = refl
  by_looks (string b) (vector c) = refl
  by_looks (vector b) d = refl

  pub eqv_cells_look : (c d : Cell) → eqv_cells h c d ≡ true → look h c ≡ look h d
  eqv_cells_look c d e = eqv_looks_equal (look h c) (look h d) (sym (by_looks c d) ∙ e)

  pub eqv_cells_sym : (c d : Cell) → eqv_cells h c d ≡ true → eqv_cells h d c ≡ true
  eqv_cells_sym c d e =
      let p = eqv_cells_look c d e in
      by_looks d c ∙ ap (λ (l : Look). eqv_looks l (look h c)) (sym p) ∙ ap (λ (l : Look). eqv_looks (look h c) l) p
      ∙ sym (by_looks c d) ∙ e

  pub eqv_cells_trans : (c d e : Cell) → eqv_cells h c d ≡ true → eqv_cells h d e ≡ true → eqv_cells h c e ≡ true
  eqv_cells_trans c d e p q =
      by_looks c e ∙ ap (λ (l : Look). eqv_looks l (look h e)) (eqv_cells_look c d p) ∙ sym (by_looks d e) ∙ q

  -- a cell that looks like a pair is that pair
  pub pair_look : (c : Cell) (a d : ℕ) → look h c ≡ look h (pair a d) → c ≡ pair a d
  unfolding look
  pair_look (plain s) a d e = absurd (let z : ◌≡◌ {A = ℕ} 0 1 = cc in omega arith)
  pair_look (pair b f) a d e = cc
  pair_look (symbol b) a d e = absurd (let z : ◌≡◌ {A = ℕ} 0 1 = cc in omega arith)
  pair_look (string b) a d e = absurd (let z : ◌≡◌ {A = ℕ} 0 1 = cc in omega arith)
  pair_look (vector b) a d e = absurd (let z : ◌≡◌ {A = ℕ} 0 1 = cc in omega arith)

  -- ---- values

  -- `eqv`: one value twice, or cells that are
  pub eqv_cases : (v w : Value) → eqv h v w ≡ true → (v ≡ w) ⊎ (eqv_cells h (shown h v) (shown h w) ≡ true)
  unfolding equal_rules
  eqv_cases v w e =
      ⊎_elim (λ p. inl (same_slot_equal v w p)) (λ p. inr p)
      (either_cases (same_slot v w) (eqv_cells h (shown h v) (shown h w)) e)

  pub cells_eqv : (v w : Value) → eqv_cells h (shown h v) (shown h w) ≡ true → eqv h v w ≡ true
  unfolding equal_rules
  cells_eqv v w e = either_right (same_slot v w) e

  pub slot_eqv : (s : ℕ) → eqv h (slot s) (slot s) ≡ true
  unfolding equal_rules
  slot_eqv s = either_left (eqv_cells h (shown h (slot s)) (shown h (slot s))) (eq-eqb s s refl)

  pub eqv_sym : (v w : Value) → eqv h v w ≡ true → eqv h w v ≡ true
  eqv_sym v w e =
      ⊎_elim (λ p. ap (λ (x : Value). eqv h x v) (sym p) ∙ ap (λ (x : Value). eqv h v x) p ∙ e)
      (λ p. cells_eqv w v (eqv_cells_sym (shown h v) (shown h w) p))
      (eqv_cases v w e)

  pub eqv_trans : (u v w : Value) → eqv h u v ≡ true → eqv h v w ≡ true → eqv h u w ≡ true
  eqv_trans u v w e f =
      ⊎_elim (λ p. ap (λ (x : Value). eqv h x w) p ∙ f)
      (λ p.
      ⊎_elim (λ q. ap (λ (x : Value). eqv h u x) (sym q) ∙ e)
      (λ q. cells_eqv u w (eqv_cells_trans (shown h u) (shown h v) (shown h w) p q))
      (eqv_cases v w f))
      (eqv_cases u v e)
