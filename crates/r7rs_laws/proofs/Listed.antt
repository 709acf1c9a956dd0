-- What may stand in the data that document 01, "Equality", lists: "without Void, Undefined, scopes other than 0 or symbols
-- without a table entry, where no pair walk ends in a symbol or vector". A listed scalar is `eqv` to itself, two listed
-- symbols of one name are one slot, and what is below listed data is listed. Assumes nothing.
use mathlib.Core.Path.{◌≡◌, refl, sym, ap, ◌∙◌, subst}
use mathlib.Core.Bool.{true, not}
use mathlib.Core.List.{List, [], ◌∷◌, Memᴰ}
use mathlib.Core.Option.{some}
use Prim.Native.Nat.{ℕ, suc, ◌<◌}
use native.Mathlib.Omega.{arith}
use native.Mathlib.Decide.{dec_lt}
use borrow.Author.Tests.{eq-eqb, not-true}
use lib.Dec.{eqb}
use lib.ListN.{length, get_or}
use Rattle.laws.specs.Basics.{same}
use Rattle.laws.proofs.Tests.{true≢false, both_right, same_refl}
use Rattle.rules.specs.Cells.{Scalar, undefined, nil, eof, void, bool, char, number, Value, slot, scalar, Block, Cell, plain, pair, symbol, string, vector, bit}
use Rattle.rules.specs.Heap.{Heap, Entry, cell_at, shown, text_of, name_at}
use Rattle.rules.specs.Layout.{entry_at}
use Rattle.rules.specs.Sound.{entries_differ}
use Rattle.rules.specs.Equal.{eqv_scalars, equal_rules}
use Rattle.rules.specs.R7rs.{Turn, below, Within, itself, deeper, ListedValue, WalkEnd, Listed, r7rs_rules}
use Rattle.rules.proofs.Good.{Good}

-- a member stands at a place
record Placed {A : Type 0} (d : A) (l : List A) (a : A) : Type 0 where
  place : ℕ
  inside : place < length l
  there : get_or l place d ≡ a

placed : {A : Type 0} (d : A) (l : List A) (a : A) → Memᴰ a l → Placed d l a
placed {A = A} d [] a x' = elim x' [ ]
placed d (x ∷ l) a (Memᴰ.head p) = record { place = 0; inside = omega arith; there = sym p }
placed d (x ∷ l) a (Memᴰ.tail m) =
    let r = placed d l a m in
    record { place = suc r.place; inside = omega (arith, r.inside); there = r.there }

-- where a pair walk may end
abbrev pub WalkStop : Cell → Type 0
WalkStop (plain s) = Unit {0}
WalkStop (pair a d) = Unit {0}
WalkStop (symbol b) = ⊥
WalkStop (string b) = Unit {0}
WalkStop (vector b) = ⊥

module _ (h : Heap) where
  -- ---- scalars

  slot_scalar : (s : ℕ) (x : Scalar) → cell_at h s ≡ plain x → ListedValue h (slot s) → eqv_scalars x x ≡ true
  unfolding r7rs_rules equal_rules
  slot_scalar s undefined e l = absurd (rw e at l)
  slot_scalar s nil e l = refl
  slot_scalar s eof e l = refl
  slot_scalar s void e l = absurd (rw e at l)
  slot_scalar s (bool b) e l = eq-eqb (bit b) (bit b) refl
  slot_scalar s (char n) e l = eq-eqb n n refl
  slot_scalar s (number n) e l = eq-eqb n n refl

  own_scalar : (x : Scalar) → ListedValue h (scalar x) → eqv_scalars x x ≡ true
  unfolding r7rs_rules equal_rules
  own_scalar undefined l = absurd l
  own_scalar nil l = refl
  own_scalar eof l = refl
  own_scalar void l = absurd l
  own_scalar (bool b) l = eq-eqb (bit b) (bit b) refl
  own_scalar (char n) l = eq-eqb n n refl
  own_scalar (number n) l = eq-eqb n n refl

  pub listed_scalar : (v : Value) (x : Scalar) → shown h v ≡ plain x → ListedValue h v → eqv_scalars x x ≡ true
  listed_scalar (slot s) x e l = slot_scalar s x e l
  listed_scalar (scalar y) x e l = subst (λ (z : Scalar). eqv_scalars z z ≡ true) (cc) (own_scalar y l)

  -- ---- symbols

  entered : (s : ℕ) (b : Block) → cell_at h s ≡ symbol b → ListedValue h (slot s) → Memᴰ (record { slot = s; scope = 0 }) h.table
  unfolding r7rs_rules
  entered s b e l = rw e at l

  name_is : (s : ℕ) (b : Block) → cell_at h s ≡ symbol b → name_at h s ≡ text_of h b
  unfolding name_at
  name_is s b e = ap (λ (c : Cell). elim c as (λ x. List ℕ) [ plain x ↦ [] | pair a d ↦ [] | symbol b ↦ text_of h b | string b ↦ [] | vector b ↦ [] ]) e

  module _ (g : Good h) where
    -- an earlier and a later entry of scope 0 do not have one name
    two_names : (i j s t : ℕ) → i < j → j < length h.table → entry_at h i ≡ record { slot = s; scope = 0 } → entry_at h j ≡ record { slot = t; scope = 0 } → name_at h s ≡ name_at h t → ⊥
    unfolding entries_differ
    two_names i j s t k m p q names =
        let differ : entries_differ h (record { slot = s; scope = 0 }) (record { slot = t; scope = 0 }) ≡ true =
        (λ x. entries_differ h (sym p x) (sym q x)) ∙ g.differ i j k m in
        let texts : same (name_at h s) (name_at h t) ≡ true =
        ap (λ (n : List ℕ). same (name_at h s) n) (sym names) ∙ same_refl (name_at h s) in
        true≢false (sym texts ∙ not-true (same (name_at h s) (name_at h t)) (both_right (not (eqb s t)) _ differ))

    same_entry : (s t : ℕ) → Memᴰ (record { slot = s; scope = 0 }) h.table → Memᴰ (record { slot = t; scope = 0 }) h.table → name_at h s ≡ name_at h t → s ≡ t
    unfolding entry_at
    same_entry s t m m' names =
        let a = placed (record { slot = 0; scope = 0 }) h.table (record { slot = s; scope = 0 }) m in
        let b = placed (record { slot = 0; scope = 0 }) h.table (record { slot = t; scope = 0 }) m' in
        elim (dec_lt a.place b.place) [
          | yes k ↦ absurd (two_names a.place b.place s t k b.inside a.there b.there names)
          | no k ↦
              elim (dec_lt b.place a.place) [
                | yes k' ↦ absurd (two_names b.place a.place t s k' a.inside b.there a.there (sym names))
                | no k' ↦
                    let one : a.place ≡ b.place = omega arith in
                    ap (λ (e : Entry). e.slot)
                    (sym a.there ∙ ap (λ (i : ℕ). get_or h.table i (record { slot = 0; scope = 0 })) one ∙ b.there)
              ]
        ]

    pub same_symbol : (s t : ℕ) (b c : Block) → cell_at h s ≡ symbol b → cell_at h t ≡ symbol c → ListedValue h (slot s) → ListedValue h (slot t) → text_of h b ≡ text_of h c → s ≡ t
    same_symbol s t b c p q l l' texts =
        same_entry s t (entered s b p l) (entered t c q l') (name_is s b p ∙ texts ∙ sym (name_is t c q))

  -- ---- what is below

  within_below : (v w : Value) (t : Turn) → below h (shown h v) t ≡ some w → (x : Value) → Within h w x → Within h v x
  within_below v w t e x itself = deeper t itself e
  within_below v w t e x (deeper {w = y} u p f) = deeper u (within_below v w t e y p) f

  pub listed_below : (v w : Value) (t : Turn) → below h (shown h v) t ≡ some w → Listed h v → Listed h w
  unfolding r7rs_rules
  listed_below v w t e l x p = l x (within_below v w t e x p)

  pub listed_itself : (v : Value) → Listed h v → ListedValue h v
  unfolding r7rs_rules
  listed_itself v l = (l v itself).0

  -- a cdr may end a walk
  cdr_stop : (a d : ℕ) (c : Cell) → cell_at h d ≡ c → WalkEnd h (pair a d) → WalkStop c
  unfolding r7rs_rules
  cdr_stop a d (plain x) e w = tt
  cdr_stop a d (pair b f) e w = tt
  cdr_stop a d (symbol b) e w = rw e at w
  cdr_stop a d (string b) e w = tt
  cdr_stop a d (vector b) e w = rw e at w

  pub listed_cdr : (s a d : ℕ) → cell_at h s ≡ pair a d → Listed h (slot s) → WalkStop (cell_at h d)
  unfolding r7rs_rules
  listed_cdr s a d e l = cdr_stop a d (cell_at h d) refl (subst (λ (c : Cell). WalkEnd h c) e (l (slot s) itself).1)
