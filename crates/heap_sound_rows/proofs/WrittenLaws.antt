-- "spare room is zero", and kinds are known: the lists are what the layout writes for the heap that they hold exactly where
-- each word is one that it writes. Assumes nothing.
use mathlib.Core.Path.{◌≡◌, refl, sym, ap, ◌∙◌, subst}
use mathlib.Core.Bool.{Bool, true}
use mathlib.Core.List.{List, [], ◌∷◌, reverse}
use Prim.Native.Nat.{ℕ, zero, suc, ◌+◌, ◌-◌, ◌*◌, ◌/◌, ◌%◌, ◌≤◌, ◌<◌}
use native.Mathlib.Nat.{add-zero}
use native.Mathlib.Decide.{dec_lt}
use native.Mathlib.Omega.{arith}
use borrow.Author.Tests.{eqb-true, eq-eqb, lt-ltb, le-ltb}
use lib.Dec.{eqb, ltb}
use lib.ListN.{length, get_or, take, drop, length-drop, get_or-eq_default}
use lib.Seq.{take_all, get_or-take, get_or-drop, length-take-le, ext_get_or}
use Rattle.std.specs.List.{list_all}
use Rattle.laws.specs.Basics.{both, either, every_below, join, same}
use Rattle.laws.proofs.Tests.{both_left, both_right, both_true, either_left, either_right, below_all, all_below, same_equal, same_refl}
use Rattle.laws.proofs.Checks.{agreeing}
use Rattle.laws.proofs.Lists.{get_d_rows, length-rows}
use Rattle.laws.proofs.Stores.{get_or_before_zeros}
use Rattle.rules.specs.Cells.{undefined, Value, scalar}
use Rattle.rules.specs.Heap.{Entry, cell_at}
use Rattle.rules.specs.Layout.{Lent, rooms_of, map_bytes, cell_words, value_words, value_from, header_words, row_words, entry_at, filled, lent_of, heap_of, layout_rules}
use Rattle.rules.specs.Sound.{written_out, sound_rules}
use Rattle.rules.proofs.LentLaws.{cell_width, value_width, word_at, cell_word, column_word, words_again, filled_length}
use Rattle.heap_sound_rows.specs.Rows.{is_zero, spare_zero, word, cell_kept, row_kept, element_kept}
use Rattle.heap_sound_rows.proofs.NumberLaws.{Numbers, Counts}
use Rattle.heap_sound_rows.proofs.RowLaws.{all_is, cell_below, cell_past, element_is}
use Rattle.heap_sound_rows.proofs.HeapFacts.{cells_length, free_length, table_length, bytes_length, elements_length, cell_is, cell_none, place_is, place_none, entry_is, entry_none, element_at}

-- ---- rooms with zeros after what is in use

spare_all : (k : ℕ) (l : List ℕ) → ((i : ℕ) → i < length l - k → get_or l (k + i) 0 ≡ 0) → spare_zero k l ≡ true
unfolding spare_zero
spare_all k l p = all_below _ (length l - k) (λ i h. eq-eqb _ 0 (p i h))

all_spare : (k : ℕ) (l : List ℕ) → spare_zero k l ≡ true → (i : ℕ) → i < length l - k → get_or l (k + i) 0 ≡ 0
unfolding spare_zero
all_spare k l e i h = eqb-true _ 0 (below_all _ (length l - k) e i h)

-- as a chain over what follows finds it
pub spare_is : (k : ℕ) (l : List ℕ) → list_all is_zero (take (length l - k) (drop k l)) ≡ spare_zero k l
unfolding spare_zero
spare_is k l =
    ap (list_all is_zero) (take_all (length l - k) (drop k l) (omega (arith, length-drop k l)))
    ∙ all_is is_zero (drop k l)
    ∙ ap (λ (n : ℕ). every_below n (λ i. is_zero (get_or (drop k l) i 0))) (length-drop k l)
    ∙ ap (λ (f : ℕ → ℕ). every_below (length l - k) (λ i. is_zero (f i))) (λ j i. get_or-drop k l i 0 j)

module _ (room k : ℕ) (l : List ℕ) (whole : length l ≡ room) (within : k ≤ room) where
  at_filled : (i : ℕ) → get_or (filled room (take k l)) i 0 ≡ get_or (take k l) i 0
  unfolding layout_rules
  at_filled i = get_or_before_zeros (take k l) (room - length (take k l)) i

  pub spare_told : filled room (take k l) ≡ l → spare_zero k l ≡ true
  spare_told e =
      spare_all k l
      (λ i h.
      ap (λ (x : List ℕ). get_or x (k + i) 0) (sym e) ∙ at_filled (k + i)
      ∙ get_or-eq_default (take k l) 0 (omega (arith, length-take-le k l (omega arith))))

  pub spare_back : spare_zero k l ≡ true → filled room (take k l) ≡ l
  spare_back e =
      ext_get_or 0 _ l (filled_length room (take k l) (omega (arith, length-take-le k l (omega arith))) ∙ sym whole)
      (λ i h.
      at_filled i
      ∙ elim (dec_lt i k) as (λ _. get_or (take k l) i 0 ≡ get_or l i 0) [
        | yes low ↦ get_or-take k l i 0 low
        | no high ↦
            let p : i ≡ k + (i - k) = omega arith in
            get_or-eq_default (take k l) 0 (omega (arith, length-take-le k l (omega arith)))
            ∙ sym
            (ap (λ (n : ℕ). get_or l n 0) p
            ∙ all_spare k l e (i - k)
            (omega (arith, filled_length room (take k l) (omega (arith, length-take-le k l (omega arith))))))
      ])

-- ---- a row

three : (x : List ℕ) (a b c : ℕ) → length x ≡ 3 → get_or x 0 0 ≡ a → get_or x 1 0 ≡ b → get_or x 2 0 ≡ c → x ≡ a ∷ b ∷ c ∷ []
three [] a b c e p q r = absurd (omega arith)
three (x ∷ []) a b c e p q r = absurd (omega arith)
three (x ∷ y ∷ []) a b c e p q r = absurd (omega arith)
three (x ∷ y ∷ z ∷ []) a b c e p q r = λ i. p i ∷ q i ∷ r i ∷ []
three (x ∷ y ∷ z ∷ w ∷ l) a b c e p q r = absurd (omega arith)

same_of : {x y : List ℕ} → x ≡ y → same x y ≡ true
same_of {x} e = subst (λ z. same x z ≡ true) e (same_refl x)

-- a place of a column: y is what the layout writes there, x what stands there
module _ (i n x y : ℕ) (used : i < n → y ≡ x) (unused : n ≤ i → y ≡ 0) where
  place_told : x ≡ y → either (ltb i n) (is_zero x) ≡ true
  place_told e =
      elim (dec_lt i n) [
        | yes h ↦ either_left _ (lt-ltb i n h)
        | no h ↦ either_right (ltb i n) (eq-eqb x 0 (e ∙ unused (omega arith)))
      ]

  place_back : either (ltb i n) (is_zero x) ≡ true → x ≡ y
  place_back e =
      elim (dec_lt i n) [
        | yes h ↦ sym (used h)
        | no h ↦
            eqb-true x 0 (ap (λ (b : Bool). either b (is_zero x)) (sym (le-ltb i n (omega arith))) ∙ e) ∙ sym (unused (omega arith))
      ]

module _ (l : Lent) (i : ℕ) where
  -- the row is what the layout writes
  pub record Row : Type 0 where
    pub cell : cell_words (cell_at (heap_of l) i) ≡ get_or l.words (8 + 8 * i) 0 ∷ word l.words i 1 ∷ word l.words i 2 ∷ []
    pub third : word l.words i 3 ≡ 0
    pub place : word l.words i 4 ≡ get_or (reverse (heap_of l).free) i 0
    pub slot : word l.words i 5 ≡ (entry_at (heap_of l) i).slot
    pub scope : word l.words i 6 ≡ (entry_at (heap_of l) i).scope
    pub last : word l.words i 7 ≡ 0

  cell_told : cell_words (cell_at (heap_of l) i) ≡ get_or l.words (8 + 8 * i) 0 ∷ word l.words i 1 ∷ word l.words i 2 ∷ [] → cell_kept l.words i ≡ true
  unfolding layout_rules
  cell_told e =
      elim (dec_lt i (get_or l.words 1 0)) [
        | yes h ↦ sym (cell_below l.words i true h (sym (same_of (ap cell_words (sym (cell_is l i h)) ∙ e))))
        | no h ↦
            let q = ap cell_words (sym (cell_none l i (omega arith))) ∙ e in
            sym
            (cell_past l.words i true (omega arith)
            (sym
            (both_true (eq-eqb _ 0 (sym (ap (λ (x : List ℕ). get_or x 0 0) q)))
            (both_true (eq-eqb _ 0 (sym (ap (λ (x : List ℕ). get_or x 1 0) q))) (eq-eqb _ 0 (sym (ap (λ (x : List ℕ). get_or x 2 0) q)))))))
      ]

  cell_back : cell_kept l.words i ≡ true → cell_words (cell_at (heap_of l) i) ≡ get_or l.words (8 + 8 * i) 0 ∷ word l.words i 1 ∷ word l.words i 2 ∷ []
  unfolding layout_rules
  cell_back e =
      elim (dec_lt i (get_or l.words 1 0)) [
        | yes h ↦ ap cell_words (cell_is l i h) ∙ same_equal _ _ (cell_below l.words i _ h refl ∙ e)
        | no h ↦
            let z = cell_past l.words i _ (omega arith) refl ∙ e in
            let z1 = both_right (is_zero (get_or l.words (8 + 8 * i) 0)) _ z in
            ap cell_words (cell_none l i (omega arith))
            ∙ (λ j.
            sym (eqb-true (get_or l.words (8 + 8 * i) 0) 0 (both_left (is_zero (get_or l.words (8 + 8 * i) 0)) _ z)) j
            ∷ sym (eqb-true (word l.words i 1) 0 (both_left (is_zero (word l.words i 1)) _ z1)) j
            ∷ sym (eqb-true (word l.words i 2) 0 (both_right (is_zero (word l.words i 1)) _ z1)) j
            ∷ [])
      ]

  pub row_told : Row → row_kept l.words i ≡ true
  unfolding row_kept
  row_told r =
      both_true (cell_told r.cell)
      (both_true (eq-eqb _ 0 r.third)
      (both_true (place_told i (get_or l.words 2 0) _ _ (place_is l i) (place_none l i) r.place)
      (both_true
      (place_told i (get_or l.words 3 0) _ _ (λ h. ap (λ (e : Entry). e.slot) (entry_is l i h)) (λ h. ap (λ (e : Entry). e.slot) (entry_none l i h)) r.slot)
      (both_true
      (place_told i (get_or l.words 3 0) _ _ (λ h. ap (λ (e : Entry). e.scope) (entry_is l i h)) (λ h. ap (λ (e : Entry). e.scope) (entry_none l i h)) r.scope)
      (eq-eqb _ 0 r.last)))))

  pub row_back : row_kept l.words i ≡ true → Row
  unfolding row_kept
  row_back e =
      let e1 = both_right (cell_kept l.words i) _ e in
      let e2 = both_right (is_zero (word l.words i 3)) _ e1 in
      let e3 = both_right (either (ltb i (get_or l.words 2 0)) (is_zero (word l.words i 4))) _ e2 in
      let e4 = both_right (either (ltb i (get_or l.words 3 0)) (is_zero (word l.words i 5))) _ e3 in
      record {
        cell = cell_back (both_left (cell_kept l.words i) _ e);
        third = eqb-true _ 0 (both_left (is_zero (word l.words i 3)) _ e1);
        place =
            place_back i (get_or l.words 2 0) _ _ (place_is l i) (place_none l i)
            (both_left (either (ltb i (get_or l.words 2 0)) (is_zero (word l.words i 4))) _ e2);
        slot =
            place_back i (get_or l.words 3 0) _ _ (λ h. ap (λ (e : Entry). e.slot) (entry_is l i h)) (λ h. ap (λ (e : Entry). e.slot) (entry_none l i h))
            (both_left (either (ltb i (get_or l.words 3 0)) (is_zero (word l.words i 5))) _ e3);
        scope =
            place_back i (get_or l.words 3 0) _ _ (λ h. ap (λ (e : Entry). e.scope) (entry_is l i h)) (λ h. ap (λ (e : Entry). e.scope) (entry_none l i h))
            (both_left (either (ltb i (get_or l.words 3 0)) (is_zero (word l.words i 6))) _ e4);
        last = eqb-true _ 0 (both_right (either (ltb i (get_or l.words 3 0)) (is_zero (word l.words i 6))) _ e4);
      }

  first_word : word l.words i 0 ≡ get_or l.words (8 + 8 * i) 0
  first_word = ap (λ (n : ℕ). get_or l.words n 0) (add-zero (8 + 8 * i))

  -- word by word
  words_row : Row → (k : ℕ) → k < 8 → word l.words i k ≡ get_or (row_words (heap_of l) i) k 0
  words_row r zero h = first_word ∙ sym (cell_word 0 (heap_of l) i 0 (omega arith) ∙ ap (λ (x : List ℕ). get_or x 0 0) r.cell)
  words_row r (suc zero) h = sym (cell_word 0 (heap_of l) i 1 (omega arith) ∙ ap (λ (x : List ℕ). get_or x 1 0) r.cell)
  words_row r (suc (suc zero)) h = sym (cell_word 0 (heap_of l) i 2 (omega arith) ∙ ap (λ (x : List ℕ). get_or x 2 0) r.cell)
  words_row r (suc (suc (suc zero))) h = r.third ∙ sym (column_word 0 (heap_of l) i 0)
  words_row r (suc (suc (suc (suc zero)))) h = r.place ∙ sym (column_word 0 (heap_of l) i 1)
  words_row r (suc (suc (suc (suc (suc zero))))) h = r.slot ∙ sym (column_word 0 (heap_of l) i 2)
  words_row r (suc (suc (suc (suc (suc (suc zero)))))) h = r.scope ∙ sym (column_word 0 (heap_of l) i 3)
  words_row r (suc (suc (suc (suc (suc (suc (suc zero))))))) h = r.last ∙ sym (column_word 0 (heap_of l) i 4)
  words_row r (suc (suc (suc (suc (suc (suc (suc (suc k)))))))) h = absurd (omega arith)

  row_words_told : ((k : ℕ) → k < 8 → word l.words i k ≡ get_or (row_words (heap_of l) i) k 0) → Row
  row_words_told p =
      record {
        cell =
            three (cell_words (cell_at (heap_of l) i)) _ _ _ (cell_width (cell_at (heap_of l) i))
            (sym (cell_word 0 (heap_of l) i 0 (omega arith)) ∙ sym (p 0 (omega arith)) ∙ first_word)
            (sym (cell_word 0 (heap_of l) i 1 (omega arith)) ∙ sym (p 1 (omega arith)))
            (sym (cell_word 0 (heap_of l) i 2 (omega arith)) ∙ sym (p 2 (omega arith)));
        third = p 3 (omega arith) ∙ column_word 0 (heap_of l) i 0;
        place = p 4 (omega arith) ∙ column_word 0 (heap_of l) i 1;
        slot = p 5 (omega arith) ∙ column_word 0 (heap_of l) i 2;
        scope = p 6 (omega arith) ∙ column_word 0 (heap_of l) i 3;
        last = p 7 (omega arith) ∙ column_word 0 (heap_of l) i 4;
      }

-- ---- the elements

module _ (l : Lent) (chunk : ℕ) (n : Numbers chunk l) (c : Counts l) where
  abbrev values : List Value
  values = (heap_of l).elements

  size : length (join value_words values) ≡ 3 * get_or l.words 5 0
  size = length-rows 3 value_words value_width values ∙ ap (λ (m : ℕ). 3 * m) (elements_length l)

  abbrev room : ℕ
  room = 3 * (length l.elems / 3)

  at_elements : (i : ℕ) → get_or (filled room (join value_words values)) i 0 ≡ get_or (join value_words values) i 0
  unfolding layout_rules
  at_elements i = get_or_before_zeros (join value_words values) (room - length (join value_words values)) i

  -- word k of element i, as the layout writes it
  at_element : (i k : ℕ) → i < get_or l.words 5 0 → k < 3
      → get_or (join value_words values) (3 * i + k) 0 ≡ get_or (value_words (value_from (get_or l.elems (3 * i) 0) (get_or l.elems (3 * i + 1) 0))) k 0
  at_element i k h low =
      get_d_rows 3 value_words value_width values i k (scalar undefined) (omega (arith, elements_length l)) low
      ∙ ap (λ (v : Value). get_or (value_words v) k 0) (element_at l i h)

  elements_told : filled room (join value_words values) ≡ l.elems → every_below (get_or l.words 5 0) (element_kept l.elems) ≡ true
  elements_told e = all_below _ (get_or l.words 5 0) (λ i h. kept i h)
    where
      at : (i k : ℕ) → i < get_or l.words 5 0 → k < 3 → get_or (value_words (value_from (get_or l.elems (3 * i) 0) (get_or l.elems (3 * i + 1) 0))) k 0 ≡ get_or l.elems (3 * i + k) 0
      at i k h low = sym (at_element i k h low) ∙ sym (at_elements (3 * i + k)) ∙ ap (λ (x : List ℕ). get_or x (3 * i + k) 0) e

      kept : (i : ℕ) → i < get_or l.words 5 0 → element_kept l.elems i ≡ true
      kept i h =
          sym (element_is l.elems i)
          ∙ same_of
          (three (value_words (value_from (get_or l.elems (3 * i) 0) (get_or l.elems (3 * i + 1) 0))) _ _ _
          (value_width (value_from (get_or l.elems (3 * i) 0) (get_or l.elems (3 * i + 1) 0)))
          (at i 0 h (omega arith) ∙ ap (λ (m : ℕ). get_or l.elems m 0) (add-zero (3 * i))) (at i 1 h (omega arith))
          (at i 2 h (omega arith)))

  rest_told : filled room (join value_words values) ≡ l.elems → spare_zero (3 * get_or l.words 5 0) l.elems ≡ true
  rest_told e =
      spare_all (3 * get_or l.words 5 0) l.elems
      (λ i h.
      ap (λ (x : List ℕ). get_or x (3 * get_or l.words 5 0 + i) 0) (sym e)
      ∙ at_elements (3 * get_or l.words 5 0 + i)
      ∙ get_or-eq_default (join value_words values) 0 (omega (arith, size)))

  elements_back : every_below (get_or l.words 5 0) (element_kept l.elems) ≡ true
      → spare_zero (3 * get_or l.words 5 0) l.elems ≡ true
      → filled room (join value_words values) ≡ l.elems
  elements_back e z =
      ext_get_or 0 _ l.elems (filled_length room (join value_words values) (omega (arith, size, c.elements)) ∙ sym n.elems)
      (λ i h. at_elements i ∙ word_back i (omega (arith, filled_length room (join value_words values) (omega (arith, size, c.elements)), n.elems)))
    where
      kept : (i : ℕ) → i < get_or l.words 5 0 → value_words (value_from (get_or l.elems (3 * i) 0) (get_or l.elems (3 * i + 1) 0)) ≡ get_or l.elems (3 * i) 0 ∷ get_or l.elems (3 * i + 1) 0 ∷ get_or l.elems (3 * i + 2) 0 ∷ []
      kept i h = same_equal _ _ (element_is l.elems i ∙ below_all _ (get_or l.words 5 0) e i h)

      column : (i k : ℕ) → i < get_or l.words 5 0 → k < 3 → get_or (join value_words values) (3 * i + k) 0 ≡ get_or l.elems (3 * i + k) 0
      column i zero h low = at_element i 0 h low ∙ ap (λ (x : List ℕ). get_or x 0 0) (kept i h) ∙ ap (λ (m : ℕ). get_or l.elems m 0) (sym (add-zero (3 * i)))
      column i (suc zero) h low = at_element i 1 h low ∙ ap (λ (x : List ℕ). get_or x 1 0) (kept i h)
      column i (suc (suc zero)) h low = at_element i 2 h low ∙ ap (λ (x : List ℕ). get_or x 2 0) (kept i h)
      column i (suc (suc (suc k))) h low = absurd (omega arith)

      word_back : (i : ℕ) → i < length l.elems → get_or (join value_words values) i 0 ≡ get_or l.elems i 0
      word_back i h =
          elim (dec_lt i (3 * get_or l.words 5 0)) [
            | yes low ↦
                let p : i ≡ 3 * (i / 3) + i % 3 = omega arith in
                ap (λ (m : ℕ). get_or (join value_words values) m 0) p ∙ column (i / 3) (i % 3) (omega arith) (omega arith)
                ∙ ap (λ (m : ℕ). get_or l.elems m 0) (sym p)
            | no high ↦
                let p : i ≡ 3 * get_or l.words 5 0 + (i - 3 * get_or l.words 5 0) = omega arith in
                get_or-eq_default (join value_words values) 0 (omega (arith, size))
                ∙ sym
                (ap (λ (m : ℕ). get_or l.elems m 0) p
                ∙ all_spare (3 * get_or l.words 5 0) l.elems z (i - 3 * get_or l.words 5 0) (omega arith))
          ]

  -- ---- the whole

  -- each list is one that the layout writes, word by word
  pub record Kept : Type 0 where
    pub growth : get_or l.words 6 0 ≡ 1
    pub last : get_or l.words 7 0 ≡ 0
    pub rows : every_below ((length l.words - 8) / 8) (row_kept l.words) ≡ true
    pub map : spare_zero (get_or l.words 1 0 / 4) l.map ≡ true
    pub bytes : spare_zero (get_or l.words 4 0) l.bytes ≡ true
    pub elements : every_below (get_or l.words 5 0) (element_kept l.elems) ≡ true
    pub rest : spare_zero (3 * get_or l.words 5 0) l.elems ≡ true

  heads : get_or l.words 6 0 ≡ 1 → get_or l.words 7 0 ≡ 0 → (k : ℕ) → k < 8 → get_or l.words k 0 ≡ get_or (header_words (heap_of l)) k 0
  unfolding header_words heap_of
  heads p q zero h = refl
  heads p q (suc zero) h = sym (cells_length l)
  heads p q (suc (suc zero)) h = sym (free_length l)
  heads p q (suc (suc (suc zero))) h = sym (table_length l)
  heads p q (suc (suc (suc (suc zero)))) h = sym (bytes_length l c.bytes)
  heads p q (suc (suc (suc (suc (suc zero))))) h = sym (elements_length l)
  heads p q (suc (suc (suc (suc (suc (suc zero)))))) h = p
  heads p q (suc (suc (suc (suc (suc (suc (suc zero))))))) h = q
  heads p q (suc (suc (suc (suc (suc (suc (suc (suc k)))))))) h = absurd (omega arith)

  pub kept_written : Kept → written_out l ≡ true
  unfolding sound_rules layout_rules
  kept_written k =
      both_true
      (same_of
      (sym
      (words_again (rooms_of l).slots (heap_of l) l.words n.words (heads k.growth k.last)
      (λ i j h low. words_row l i (row_back l i (below_all _ (rooms_of l).slots k.rows i h)) j low))))
      (both_true
      (same_of
      (spare_back (map_bytes (rooms_of l).slots) (get_or l.words 1 0 / 4) l.map n.map
      (omega (arith, c.capacity)) k.map))
      (both_true (same_of (spare_back (length l.bytes) (get_or l.words 4 0) l.bytes refl c.bytes k.bytes))
      (same_of (elements_back k.elements k.rest))))

  pub written_kept : written_out l ≡ true → Kept
  unfolding sound_rules layout_rules
  written_kept e =
      let w = lent_of (rooms_of l) (heap_of l) in
      let e1 = both_right (same w.words l.words) _ e in
      let e2 = both_right (same w.map l.map) _ e1 in
      let words = same_equal w.words l.words (both_left (same w.words l.words) _ e) in
      let elems = same_equal w.elems l.elems (both_right (same w.bytes l.bytes) _ e2) in
      record {
        growth = sym (ap (λ (x : List ℕ). get_or x 6 0) words);
        last = sym (ap (λ (x : List ℕ). get_or x 7 0) words);
        rows =
            all_below _ (rooms_of l).slots
            (λ i h.
            row_told l i
            (row_words_told l i
            (λ k low. ap (λ (x : List ℕ). get_or x (8 + 8 * i + k) 0) (sym words) ∙ word_at (rooms_of l).slots (heap_of l) i k h low)));
        map =
            spare_told (map_bytes (rooms_of l).slots) (get_or l.words 1 0 / 4) l.map n.map (omega (arith, c.capacity))
            (same_equal w.map l.map (both_left (same w.map l.map) _ e1));
        bytes =
            spare_told (length l.bytes) (get_or l.words 4 0) l.bytes refl c.bytes
            (same_equal w.bytes l.bytes (both_left (same w.bytes l.bytes) _ e2));
        elements = elements_told elems;
        rest = rest_told elems;
      }

  -- the same as one test, whose parts are at hand by equations
  abbrev pub parts : Bool → Bool → Bool → Bool
  parts m b e =
      both (eqb (get_or l.words 6 0) 1)
      (both (eqb (get_or l.words 7 0) 0)
      (both m
      (both b
      (both e (both (every_below (get_or l.words 5 0) (element_kept l.elems)) (every_below ((length l.words - 8) / 8) (row_kept l.words)))))))

  pub parts_are : (r m b e : Bool) → m ≡ spare_zero (get_or l.words 1 0 / 4) l.map → b ≡ spare_zero (get_or l.words 4 0) l.bytes → e ≡ spare_zero (3 * get_or l.words 5 0) l.elems → r ≡ parts m b e → r ≡ written_out l
  parts_are r m b e p q s t = t ∙ agreeing _ _ (λ f. kept_written (told f)) (λ f. back (written_kept f))
    where
      told : parts m b e ≡ true → Kept
      told f =
          let f1 = both_right (eqb (get_or l.words 6 0) 1) _ f in
          let f2 = both_right (eqb (get_or l.words 7 0) 0) _ f1 in
          let f3 = both_right m _ f2 in
          let f4 = both_right b _ f3 in
          let f5 = both_right e _ f4 in
          record {
            growth = eqb-true _ 1 (both_left (eqb (get_or l.words 6 0) 1) _ f);
            last = eqb-true _ 0 (both_left (eqb (get_or l.words 7 0) 0) _ f1);
            rows = both_right (every_below (get_or l.words 5 0) (element_kept l.elems)) _ f5;
            map = sym p ∙ both_left m _ f2;
            bytes = sym q ∙ both_left b _ f3;
            elements = both_left (every_below (get_or l.words 5 0) (element_kept l.elems)) _ f5;
            rest = sym s ∙ both_left e _ f4;
          }

      back : Kept → parts m b e ≡ true
      back k =
          both_true (eq-eqb _ 1 k.growth)
          (both_true (eq-eqb _ 0 k.last)
          (both_true (p ∙ k.map) (both_true (q ∙ k.bytes) (both_true (s ∙ k.rest) (both_true k.elements k.rows)))))
