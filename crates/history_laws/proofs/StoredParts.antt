-- An accepted store changes just one cell, or one element. Document 01: "Cell store: a scalar or a pair of used slots into a used
-- slot. Element store: a scalar or a used slot." Assumes nothing.
use mathlib.Core.Path.{◌≡◌, refl, sym, ap, ◌∙◌, subst}
use mathlib.Core.Bool.{Bool, true, false, not}
use mathlib.Core.List.{[], ◌∷◌}
use mathlib.Core.Option.{Option, none, some}
use Prim.Native.Nat.{ℕ, ◌+◌, ◌/◌, ◌<◌}
use native.Mathlib.Omega.{arith}
use borrow.Author.Tests.{ltb-true, not-true, not-false}
use lib.Dec.{ltb}
use lib.ListN.{length, length-set}
use Rattle.laws.specs.Basics.{choose, both}
use Rattle.laws.proofs.Tests.{both_left}
use Rattle.rules.specs.Refusals.{unsound, no_such_slot, wrong_cell, Answer, accepted, refused, ◌⇒◌, unless}
use Rattle.rules.specs.Cells.{Value, Cell, plain, pair, symbol, string, vector, is_symbol}
use Rattle.rules.specs.Heap.{Heap, cell_at, in_use, with_cell, with_element}
use Rattle.rules.specs.Layout.{Lent, rooms_of, heap_of, lent_of}
use Rattle.rules.specs.Sound.{sound, sound_rules}
use Rattle.rules.specs.Calls.{Stored, stored, of_answer, given_value, given_cell, value_in_use, cell_in_use, cell_store, element_place, store_element, element_store}
use Rattle.rules.proofs.LentLaws.{Fits, heap_lent}
use Rattle.rules.proofs.SoundLaws.{clauses, sound_fits}
use Rattle.rules.proofs.Good.{CellGood, used_slot}
use Rattle.rules.proofs.Keeping.{lies_below, with_cell_at, with_cell_other, with_cell_capacity, with_element_at, with_element_other}
use Rattle.rules.proofs.GoodSound.{passed, unless_keeps, sound_good}
use Rattle.history_laws.specs.Lines.{CellLine, ElementLine}
use Rattle.history_laws.proofs.AcceptedPut.{not_refused}

none_some : {A : Type 0} {a : A} → ◌≡◌ {A = Option A} none (some a) → ⊥
none_some e = let z : ◌≡◌ {A = ℕ} 0 1 = cc in omega arith

sound_tested : (l : Lent) → passed ((not (sound l) ⇒ unsound) ∷ []) ≡ true → sound l ≡ true
unfolding passed
sound_tested l t = not-false (sound l) (not-true (not (sound l)) (both_left (not (not (sound l))) _ t))

-- ---- a cell

module _ (l : Lent) (s kind a b : ℕ) where
  -- an accepted store leaves the heap with just that cell stored
  abbrev CellPut : Stored → Type 0
  CellPut x = x.answer ≡ accepted tt → CellLine (heap_of l) (heap_of x.lent) s kind a b

  cell_line : (c : Cell) → given_cell kind a b ≡ accepted c → sound l ≡ true → in_use (heap_of l) s ≡ true → CellLine (heap_of l) (heap_of (lent_of (rooms_of l) (with_cell (heap_of l) s c))) s kind a b
  cell_line c e z u =
      let h = heap_of l in
      let f = sound_fits l (clauses l z) in
      let size = with_cell_capacity h s c in
      let fits : Fits (rooms_of l) (with_cell h s c) = record {
        slots = omega (arith, f.slots);
        free = f.free;
        table = f.table;
        bytes = f.bytes;
        elements = f.elements;
        map = f.map ∙ ap (λ (n : ℕ). n / 4) (sym size);
      }
      in
      subst (λ (k : Heap). CellLine h k s kind a b) (sym (heap_lent (rooms_of l) (with_cell h s c) fits))
      (record {
        cell = c;
        given = e;
        here = with_cell_at h s c (used_slot h s u).below;
        others = with_cell_other h s c;
        size = size;
        elements = refl;
        rest = record { chunk = refl; map = refl; free = refl; table = refl; bytes = refl };
      })

  tested_cell : (c : Cell) → given_cell kind a b ≡ accepted c → sound l ≡ true → CellPut
      (unless
      ((not (both (in_use (heap_of l) s) (cell_in_use (heap_of l) c)) ⇒ no_such_slot) ∷ (is_symbol (cell_at (heap_of l) s) ⇒ wrong_cell) ∷ [])
      (stored (accepted tt) (lent_of (rooms_of l) (with_cell (heap_of l) s c)))
      (λ r. stored (refused r) l))
  unfolding passed
  tested_cell c e z =
      let h = heap_of l in
      unless_keeps CellPut _ _ _
      (λ t q.
      cell_line c e z (both_left (in_use h s) _ (not-false _ (not-true _ (both_left (not (not (both (in_use h s) (cell_in_use h c)))) _ t)))))
      (λ r q. absurd (not_refused q))

  pub cell_stored : CellPut (cell_store l s kind a b)
  unfolding cell_store of_answer
  cell_stored =
      unless_keeps CellPut ((not (sound l) ⇒ unsound) ∷ []) _ _ (λ t. by (given_cell kind a b) refl (sound_tested l t)) (λ r q. absurd (not_refused q))
    where
      by : (x : Answer Cell) → given_cell kind a b ≡ x → sound l ≡ true → CellPut
          (of_answer x
          (λ c.
          unless
          ((not (both (in_use (heap_of l) s) (cell_in_use (heap_of l) c)) ⇒ no_such_slot) ∷ (is_symbol (cell_at (heap_of l) s) ⇒ wrong_cell) ∷ [])
          (stored (accepted tt) (lent_of (rooms_of l) (with_cell (heap_of l) s c)))
          (λ r. stored (refused r) l))
          (λ r. stored (refused r) l))
      by (accepted c) e z = tested_cell c e z
      by (refused r) e z = λ q. absurd (not_refused q)

-- ---- an element

-- an element's place is in the room in use
place_below : (h : Heap) (c : Cell) → CellGood h c → (k p : ℕ) → element_place c k ≡ some p → p < length h.elements
unfolding element_place sound_rules
place_below h (plain x) g k p e = absurd (none_some e)
place_below h (pair a d) g k p e = absurd (none_some e)
place_below h (symbol b) g k p e = absurd (none_some e)
place_below h (string b) g k p e = absurd (none_some e)
place_below h (vector b) g k p e = by (ltb k b.size) refl e
  where
    by : (t : Bool) → ltb k b.size ≡ t → choose t (some (b.place + k)) none ≡ some p → p < length h.elements
    by true q e = omega (arith, ltb-true k b.size q, lies_below (length h.elements) b g.vector_in, (let q : b.place + k ≡ p = cc in q))
    by false q e = absurd (none_some e)

module _ (l : Lent) (s i kind a : ℕ) where
  abbrev ElementPut : Stored → Type 0
  ElementPut x = x.answer ≡ accepted tt → ElementLine (heap_of l) (heap_of x.lent) s i kind a

  element_line : (v : Value) → given_value kind a ≡ accepted v → sound l ≡ true → (p : ℕ) → element_place (cell_at (heap_of l) s) i ≡ some p → ElementLine (heap_of l) (heap_of (lent_of (rooms_of l) (with_element (heap_of l) p v))) s i kind a
  element_line v e z p at =
      let h = heap_of l in
      let f = sound_fits l (clauses l z) in
      let size = length-set h.elements p v in
      let fits : Fits (rooms_of l) (with_element h p v) = record {
        slots = f.slots;
        free = f.free;
        table = f.table;
        bytes = f.bytes;
        elements = omega (arith, f.elements);
        map = f.map;
      }
      in
      subst (λ (k : Heap). ElementLine h k s i kind a) (sym (heap_lent (rooms_of l) (with_element h p v) fits))
      (record {
        value = v;
        given = e;
        place = p;
        at = at;
        here = with_element_at h p v (place_below h (cell_at h s) ((sound_good l z).cells s) i p at);
        others = with_element_other h p v;
        size = size;
        cells = refl;
        rest = record { chunk = refl; map = refl; free = refl; table = refl; bytes = refl };
      })

  placed_element : (v : Value) → given_value kind a ≡ accepted v → sound l ≡ true → ElementPut (store_element l (heap_of l) s i v)
  unfolding store_element
  placed_element v e z = by (element_place (cell_at (heap_of l) s) i) refl
    where
      by : (o : Option ℕ) → element_place (cell_at (heap_of l) s) i ≡ o → ElementPut (elim o [ none ↦ stored (refused wrong_cell) l | some p ↦ stored (accepted tt) (lent_of (rooms_of l) (with_element (heap_of l) p v)) ])
      by none at = λ q. absurd (not_refused q)
      by (some p) at = λ q. element_line v e z p at

  pub element_stored : ElementPut (element_store l s i kind a)
  unfolding element_store of_answer
  element_stored =
      unless_keeps ElementPut ((not (sound l) ⇒ unsound) ∷ []) _ _ (λ t. by (given_value kind a) refl (sound_tested l t)) (λ r q. absurd (not_refused q))
    where
      by : (x : Answer Value) → given_value kind a ≡ x → sound l ≡ true → ElementPut
          (of_answer x
          (λ v.
          unless ((not (both (in_use (heap_of l) s) (value_in_use (heap_of l) v)) ⇒ no_such_slot) ∷ [])
          (store_element l (heap_of l) s i v)
          (λ r. stored (refused r) l))
          (λ r. stored (refused r) l))
      by (accepted v) e z =
          unless_keeps ElementPut ((not (both (in_use (heap_of l) s) (value_in_use (heap_of l) v)) ⇒ no_such_slot) ∷ [])
          (store_element l (heap_of l) s i v)
          (λ r. stored (refused r) l)
          (λ t. placed_element v e z)
          (λ r q. absurd (not_refused q))
      by (refused r) e z = λ q. absurd (not_refused q)
