-- What the comparison reads of sound lists: rows of slots in use, cells, texts and elements. Document 01: "every slot that an
-- Allocated cell or its elements name is Allocated". Assumes nothing.
use mathlib.Core.Path.{◌≡◌, refl, sym, ap, ◌∙◌, subst}
use mathlib.Core.Bool.{Bool, true}
use mathlib.Core.List.{◌∷◌}
use Prim.Native.Nat.{ℕ, zero, suc, ◌+◌, ◌*◌, ◌≤◌, ◌<◌}
use native.Mathlib.Omega.{arith}
use native.Mathlib.Numerals.{add-one}
use native.Mathlib.Nat.{add-zero}
use borrow.Author.Tests.{leb-true}
use lib.Dec.{leb}
use lib.ListN.{length, get_or, take, drop}
use lib.Seq.{drop-cons}
use Rattle.laws.proofs.Tests.{both_left, both_right}
use Rattle.laws.proofs.Pointwise.{length_part}
use Rattle.rules.specs.Cells.{undefined, Value, slot, scalar, Block, block, Cell, pair, vector}
use Rattle.rules.specs.Heap.{Heap, capacity, cell_at, in_use, elements_of}
use Rattle.rules.specs.Layout.{Lent, heap_of, value_from, layout_rules}
use Rattle.rules.specs.Sound.{value_named, vector_block, lies_in, sound, sound_rules}
use Rattle.rules.specs.Equal.{alike, element_by_element, eqv_cells, equal_rules}
use Rattle.rules.specs.Calls.{value_in_use, cell_in_use, call_rules}
use Rattle.rules.proofs.SoundLaws.{clauses, bounds}
use Rattle.rules.proofs.Good.{Good, used_slot}
use Rattle.rules.proofs.GoodSound.{sound_good}
use Rattle.leaf_cells.specs.Cells.{loaded}
use Rattle.leaf_cells.specs.Elements.{loaded_element}
use Rattle.heap_sound_rows.proofs.HeapFacts as facts
use Rattle.heap_eqv.specs.Eqv.{holding, Within, shown_in, Comparable}
use Rattle.heap_eqv.proofs.EqvLaws.{row_there, text_there, shown_is, text_used, cells_alike}
use Rattle.heap_equal.specs.Parts.{parted, facing}
use Rattle.heap_equal.specs.Boards.{Elements, UsedSlots}

module _ (l : Lent) (ok : sound l ≡ true) where
  abbrev h : Heap
  h = heap_of l

  good : Good h
  good = sound_good l ok

  as_value : (s : ℕ) → in_use h s ≡ true → value_in_use h (slot s) ≡ true
  unfolding value_in_use
  as_value s u = u

  pub slots_comparable : (s t : ℕ) → UsedSlots h s t → Comparable l (slot s) (slot t)
  slots_comparable s t u =
      record { lists_sound = ok; first = as_value s u.first_used; second = as_value t u.second_used }

  -- ---- slots in use

  module _ (s : ℕ) (u : in_use h s ≡ true) where
    slot_below : s < capacity h
    slot_below = (used_slot h s u).below

    pub row_inside : 8 * s + 16 ≤ length l.words
    row_inside = row_there l ok (slot s) (as_value s u) s refl

    pub cell_loaded : loaded l.words s ≡ cell_at h s
    unfolding shown_in
    cell_loaded = shown_is l ok (slot s) (as_value s u)

    pub text_inside : (c : Cell) → c ≡ loaded l.words s → Within (length l.bytes) c
    unfolding shown_in
    text_inside c e = text_there l ok (slot s) (as_value s u) c e

    text_within : Within (length h.bytes) (cell_at h s)
    text_within = text_used l ok (slot s) (as_value s u)

  pub slots_below : (c : ℕ) → c ≡ capacity h → (s t : ℕ) → UsedSlots h s t → (s < c) × (t < c)
  slots_below c e s t u =
      (omega (arith, e, slot_below s u.first_used), omega (arith, e, slot_below t u.second_used))

  pub rows_inside : (s t : ℕ) → UsedSlots h s t → (8 * s + 16 ≤ length l.words) × (8 * t + 16 ≤ length l.words)
  rows_inside s t u = (row_inside s u.first_used, row_inside t u.second_used)

  pub parts_loaded : (s t : ℕ) → UsedSlots h s t → parted (loaded l.words s) (loaded l.words t) ≡ parted (cell_at h s) (cell_at h t)
  parts_loaded s t u = λ i. parted (cell_loaded s u.first_used i) (cell_loaded t u.second_used i)

  -- what `eqv_cells` tells of the cells of two slots
  pub cells_told : (s t : ℕ) → UsedSlots h s t → (c d : Cell) (r : Bool) → c ≡ loaded l.words s → d ≡ loaded l.words t → r ≡ eqv_cells (holding l.bytes) c d → r ≡ eqv_cells h (cell_at h s) (cell_at h t)
  cells_told s t u c d r p q e =
      e
      ∙ (λ i. eqv_cells (holding l.bytes) ((p ∙ cell_loaded s u.first_used) i) ((q ∙ cell_loaded t u.second_used) i))
      ∙ cells_alike l ok (cell_at h s) (cell_at h t) (text_within s u.first_used) (text_within t u.second_used)

  -- ---- what cells name

  module _ (s a d : ℕ) (is : cell_at h s ≡ pair a d) where
    parts_used : cell_in_use h (pair a d) ≡ true
    parts_used = ap (cell_in_use h) (sym is) ∙ (good.cells s).linked

    pub car_used : in_use h a ≡ true
    unfolding call_rules
    car_used = both_left (in_use h a) (in_use h d) parts_used

    pub cdr_used : in_use h d ≡ true
    unfolding call_rules
    cdr_used = both_right (in_use h a) (in_use h d) parts_used

  module _ (s : ℕ) (b : Block) (is : cell_at h s ≡ vector b) where
    lies : b.place + b.size ≤ length h.elements
    unfolding sound_rules
    lies =
        leb-true (b.place + b.size) (length h.elements)
        (both_left (leb (b.place + b.size) (length h.elements)) _
        (ap (λ (c : Cell). lies_in (length h.elements) (vector_block c)) (sym is) ∙ (good.cells s).vector_in))

    pub elements_whole : length (elements_of h b) ≡ b.size
    elements_whole = length_part h.elements b.place b.size lies

    block_inside : 3 * (b.place + b.size) ≤ length l.elems
    unfolding layout_rules
    block_inside =
        omega (arith, lies, facts.elements_length l, (bounds l (clauses l ok)).elements, (bounds l (clauses l ok)).elems)

    place_lent : (k : ℕ) → k < length h.elements → get_or h.elements k (scalar undefined) ≡ loaded_element l.elems k
    unfolding loaded_element
    place_lent k low =
        facts.element_at l k (omega (arith, facts.elements_length l))
        ∙ ap (λ (n : ℕ). value_from (get_or l.elems n 0) (get_or l.elems (3 * k + 1) 0)) (sym (add-zero (3 * k)))

    element_used : (j : ℕ) → j < b.size → value_in_use h (loaded_element l.elems (b.place + j)) ≡ true
    unfolding sound_rules call_rules
    element_used j low =
        ap (value_in_use h) (sym (place_lent (b.place + j) (omega (arith, lies))))
        ∙ named (get_or h.elements (b.place + j) (scalar undefined))
        ((good.cells s).held (b.place + j)
        (subst (λ (c : Cell). (vector_block c).place ≤ b.place + j) (sym is) (omega arith))
        (subst (λ (c : Cell). b.place + j < (vector_block c).place + (vector_block c).size) (sym is) (omega arith)))
      where
        named : (v : Value) → value_named h v ≡ true → value_in_use h v ≡ true
        named (slot s) e = e
        named (scalar x) e = e

  pub two_blocks : (s t p q n : ℕ) → cell_at h s ≡ vector (block p n) → cell_at h t ≡ vector (block q n) → Elements l p q n
  two_blocks s t p q n e f =
      record {
        first_inside = block_inside s (block p n) e;
        second_inside = block_inside t (block q n) f;
        first_used = element_used s (block p n) e;
        second_used = element_used t (block q n) f;
      }

  -- ---- elements by the lent words

  face : (n p q : ℕ) → p + n ≤ length h.elements → q + n ≤ length h.elements → ((k : ℕ) → k < length h.elements → get_or h.elements k (scalar undefined) ≡ loaded_element l.elems k) → element_by_element (take n (drop p h.elements)) (take n (drop q h.elements)) ≡ facing l.elems p q n
  unfolding equal_rules facing
  face zero p q a b lent = refl
  face (suc n) p q a b lent =
      (λ i.
      element_by_element (take (suc n) (drop-cons h.elements p (scalar undefined) (omega arith) i))
      (take (suc n) (drop-cons h.elements q (scalar undefined) (omega arith) i)))
      ∙ (λ i. alike (lent p (omega arith) i) (lent q (omega arith) i) ∷ face n (suc p) (suc q) (omega arith) (omega arith) lent i)
      ∙ (λ i. alike (loaded_element l.elems p) (loaded_element l.elems q) ∷ facing l.elems (sym (add-one p) i) (sym (add-one q) i) n)

  pub elements_face : (s t p q n : ℕ) → cell_at h s ≡ vector (block p n) → cell_at h t ≡ vector (block q n) → element_by_element (elements_of h (block p n)) (elements_of h (block q n)) ≡ facing l.elems p q n
  elements_face s t p q n e f =
      face n p q (lies s (block p n) e) (lies t (block q n) f) (place_lent s (block p n) e)
