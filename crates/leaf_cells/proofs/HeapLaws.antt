-- What the leaf does to the lists is what the rules do to the heap that stands in them: cells, elements, texts and new
-- blocks, for lists that are written by rules' Layout. Assumes nothing.
use mathlib.Core.Path.{◌≡◌, refl, sym, ap, ◌∙◌, subst}
use mathlib.Core.Bool.{Bool, true, false}
use mathlib.Core.List.{List, [], ◌∷◌, ◌++◌, reverse, append_assoc}
use mathlib.Core.Option.{none, some}
use Prim.Native.Nat.{ℕ, zero, suc, ◌+◌, ◌-◌, ◌*◌, ◌/◌, ◌%◌, ◌≤◌, ◌<◌}
use native.Mathlib.Omega.{arith}
use native.Mathlib.Decide.{ℕ_discrete, dec_lt}
use borrow.Author.Tests.{ltb-true}
use lib.Dec.{eqb, ltb}
use lib.ListN.{length, get_or, set, take, drop, replicate, length-append, length-set, length-drop, get_or-append}
use lib.Seq.{sets, length-sets, length-take-le, split_at, set_split, get_or-set_same, get_or-set_other, take-append-le, drop-append-le, get_or-append-add}
use Rattle.laws.specs.Basics.{choose, both, join, rising, zeros, basics}
use Rattle.laws.proofs.Tests.{both_left, join_append}
use Rattle.laws.proofs.Lists.{length-zeros, get_d_rows}
use Rattle.laws.proofs.Stores.{sets_other, sets_in, sets_middle, get_or_before_zeros}
use Rattle.laws.proofs.Zeros.{zeros_append}
use Rattle.rules.specs.Map.{Allocated, state_in, is_allocated, map_rules}
use Rattle.rules.specs.Cells.{undefined, Value, scalar, Block, Cell, plain}
use Rattle.rules.specs.Heap.{Heap, capacity, cell_at, in_use, part_of, text_of, block_after, with_cell, with_bytes, with_elements}
use Rattle.rules.specs.Layout.{cell_words, value_words, cell_from, value_from, header_words, entry_at, row_words, words_of, filled, layout_rules}
use Rattle.rules.proofs.LentLaws.{cell_width, value_width, cell_again, value_again, words_length, word_at, cell_word, words_again, elements_length, filled_zeros}
use Rattle.leaf_rooms.specs.Rooms.{stored}
use Rattle.leaf_cells.specs.Cells.{loaded, looked_up, stored_cell}
use Rattle.leaf_cells.specs.Elements.{loaded_element, stored_element}
use Rattle.leaf_rooms.specs.Rooms.{raised, new_place}

-- ---- cells

module _ (n : ℕ) (h : Heap) where
  -- the cell that is loaded is the heap's
  pub loaded_is : (s : ℕ) → s < n → loaded (words_of n h) s ≡ cell_at h s
  unfolding loaded
  loaded_is s small =
      (λ j.
      cell_from ((word_at n h s 0 small (omega arith) ∙ cell_word n h s 0 (omega arith)) j)
      ((word_at n h s 1 small (omega arith) ∙ cell_word n h s 1 (omega arith)) j)
      ((word_at n h s 2 small (omega arith) ∙ cell_word n h s 2 (omega arith)) j))
      ∙ cell_again (cell_at h s)

  -- a row with another cell
  row_with : ℕ → Cell → List ℕ
  row_with i c = cell_words c ++ (0 ∷ get_or (reverse h.free) i 0 ∷ (entry_at h i).slot ∷ (entry_at h i).scope ∷ 0 ∷ [])

  row_again : (i : ℕ) → row_with i (cell_at h i) ≡ row_words h i
  unfolding row_with layout_rules
  row_again i = refl

  cell_part : (i k : ℕ) (c : Cell) → k < 3 → get_or (row_with i c) k 0 ≡ get_or (cell_words c) k 0
  unfolding row_with
  cell_part i k c low = get_or-append (cell_words c) _ 0 k (subst (λ (m : ℕ). k < m) (sym (cell_width c)) low)

  other_part : (i k : ℕ) (c d : Cell) → 3 ≤ k → get_or (row_with i c) k 0 ≡ get_or (row_with i d) k 0
  unfolding row_with
  other_part i k c d high =
      let columns : List ℕ = 0 ∷ get_or (reverse h.free) i 0 ∷ (entry_at h i).slot ∷ (entry_at h i).scope ∷ 0 ∷ [] in
      let past_c : k ≡ length (cell_words c) + (k - 3) = omega (arith, cell_width c) in
      let past_d : k ≡ length (cell_words d) + (k - 3) = omega (arith, cell_width d) in
      ap (λ (m : ℕ). get_or (cell_words c ++ columns) m 0) past_c ∙ get_or-append-add (cell_words c) columns (k - 3) 0
      ∙ sym (ap (λ (m : ℕ). get_or (cell_words d ++ columns) m 0) past_d ∙ get_or-append-add (cell_words d) columns (k - 3) 0)

  -- a stored cell makes the words of the heap with that cell
  module _ (s : ℕ) (c : Cell) (small : s < capacity h) (room : capacity h ≤ n) where
    after : List ℕ
    after = stored_cell (words_of n h) s c

    other_word : (m : ℕ) → (8 + 8 * s ≤ m → 8 + 8 * s + 3 ≤ m) → get_or after m 0 ≡ get_or (words_of n h) m 0
    unfolding after stored_cell stored
    other_word m off = sets_other (words_of n h) (8 + 8 * s) (cell_words c) m (λ p. omega (arith, off p, cell_width c))

    heads : (k : ℕ) → k < 8 → get_or after k 0 ≡ get_or (header_words (with_cell h s c)) k 0
    unfolding layout_rules
    heads k low =
        other_word k (λ p. absurd (omega arith))
        ∙ get_or-append (header_words h) (join (row_words h) (rising 0 n)) 0 k low
        ∙ ap
        (λ (m : ℕ).
        get_or
        (h.chunk ∷ m ∷ length h.free ∷ length h.table ∷ length h.bytes ∷ length h.elements ∷ 1 ∷ 0 ∷ [])
        k
        0)
        (sym (length-set h.cells s c))

    this_cell : (k : ℕ) → k < 3 → get_or after (8 + 8 * s + k) 0 ≡ get_or (row_with s c) k 0
    unfolding after stored_cell stored
    this_cell k low =
        sets_in (words_of n h) (8 + 8 * s) (cell_words c) k (omega (arith, words_length n h, cell_width c))
        (omega (arith, cell_width c))
        ∙ sym (cell_part s k c low)

    this_row : (k : ℕ) → k < 8 → get_or after (8 + 8 * s + k) 0 ≡ get_or (row_with s c) k 0
    this_row k low =
        elim (dec_lt k 3) [
          | yes cell ↦ this_cell k cell
          | no past ↦
              other_word (8 + 8 * s + k) (λ p. omega arith) ∙ word_at n h s k (omega arith) low
              ∙ ap (λ (r : List ℕ). get_or r k 0) (sym (row_again s)) ∙ other_part s k (cell_at h s) c (omega arith)
        ]

    rows : (i k : ℕ) → i < n → k < 8 → get_or after (8 + 8 * i + k) 0 ≡ get_or (row_words (with_cell h s c) i) k 0
    unfolding row_with layout_rules
    rows i k fits low =
        elim (ℕ_discrete i s) [
          | yes e ↦
              ap (λ (m : ℕ). get_or after (8 + 8 * m + k) 0) e ∙ this_row k low
              ∙ (λ j. get_or (row_with (sym e j) (sym (get_or-set_same h.cells s c (plain undefined) small) j)) k 0)
              ∙ ap (λ (m : ℕ). get_or (row_with i (get_or (set h.cells s c) m (plain undefined))) k 0) (sym e)
          | no ne ↦
              other_word (8 + 8 * i + k) (λ p. omega arith) ∙ word_at n h i k fits low
              ∙ ap (λ (d : Cell). get_or (row_with i d) k 0) (sym (get_or-set_other h.cells s i c (plain undefined) ne))
        ]

    pub stored_cell_is : stored_cell (words_of n h) s c ≡ words_of n (with_cell h s c)
    unfolding after stored_cell stored
    stored_cell_is =
        words_again n (with_cell h s c) after
        (length-sets (words_of n h) (8 + 8 * s) (cell_words c) ∙ words_length n h) heads rows

-- ---- a lookup

pick : {A : Type 0} {x y : A} (b : Bool) → (b ≡ true → x ≡ y) → choose b (some x) none ≡ choose b (some y) none
pick true same = ap some (same refl)
pick false same = refl

-- what is looked up is the cell of a slot in use
pub looked_up_is : (n room : ℕ) (h : Heap) (s : ℕ) → capacity h ≤ n → looked_up (words_of n h) (filled room h.map) s ≡ choose (in_use h s) (some (cell_at h s)) none
unfolding looked_up map_rules layout_rules
looked_up_is n room h s fits =
    ap (λ (b : ℕ). choose (both (ltb s (capacity h)) (eqb (state_in b (s % 4)) Allocated)) (some (loaded (words_of n h) s)) none)
    (get_or_before_zeros h.map (room - length h.map) (s / 4))
    ∙ pick (in_use h s)
    (λ e.
    let small = ltb-true s (capacity h) (both_left (ltb s (capacity h)) (is_allocated h.map s) e) in
    loaded_is n h s (omega arith))

-- ---- elements

module _ (room : ℕ) (vs : List Value) (i : ℕ) (small : i < length vs) where
  element_word : (k : ℕ) → k < 3 → get_or (filled (3 * room) (join value_words vs)) (3 * i + k) 0 ≡ get_or (value_words (get_or vs i (scalar undefined))) k 0
  unfolding layout_rules
  element_word k low =
      get_or-append (join value_words vs) _ 0 (3 * i + k) (omega (arith, elements_length vs))
      ∙ get_d_rows 3 value_words value_width vs i k (scalar undefined) small low

  -- the element that is loaded is the heap's
  pub loaded_element_is : loaded_element (filled (3 * room) (join value_words vs)) i ≡ get_or vs i (scalar undefined)
  unfolding loaded_element
  loaded_element_is =
      (λ j. value_from (element_word 0 (omega arith) j) (element_word 1 (omega arith) j))
      ∙ value_again (get_or vs i (scalar undefined))

  -- the elements before, at and after the index
  apart : List ℕ → List ℕ → List ℕ
  apart q z = join value_words (take i vs) ++ (q ++ (join value_words (drop (suc i) vs) ++ z))

  parts : (v : Value) (z : List ℕ) → join value_words (take i vs ++ v ∷ drop (suc i) vs) ++ z ≡ apart (value_words v) z
  unfolding apart basics
  parts v z =
      ap (λ (l : List ℕ). l ++ z) (join_append value_words (take i vs) (v ∷ drop (suc i) vs))
      ∙ append_assoc (join value_words (take i vs)) (value_words v ++ join value_words (drop (suc i) vs)) z
      ∙ ap (λ (l : List ℕ). join value_words (take i vs) ++ l) (append_assoc (value_words v) (join value_words (drop (suc i) vs)) z)

  front : 3 * i ≡ length (join value_words (take i vs))
  front = omega (arith, elements_length (take i vs), length-take-le i vs (omega arith))

  -- a stored element makes the words of the elements with that one
  pub stored_element_is : (v : Value) → stored_element (filled (3 * room) (join value_words vs)) i v ≡ filled (3 * room) (join value_words (set vs i v))
  unfolding stored_element stored apart layout_rules
  stored_element_is v =
      let old = get_or vs i (scalar undefined) in
      let z = zeros (3 * room - length (join value_words vs)) in
      let same_size : length (join value_words vs) ≡ length (join value_words (set vs i v)) = elements_length vs ∙ sym (elements_length (set vs i v) ∙ ap (λ (m : ℕ). 3 * m) (length-set vs i v)) in
      (λ j.
      sets ((ap (λ (l : List Value). join value_words l ++ z) (split_at vs i (scalar undefined) small) ∙ parts old z) j) (front j) (value_words v))
      ∙ sets_middle (join value_words (take i vs)) (value_words old) (join value_words (drop (suc i) vs) ++ z) (value_words v) (value_width old ∙ sym (value_width v))
      ∙ sym (ap (λ (l : List Value). join value_words l ++ z) (set_split vs i v small) ∙ parts v z)
      ∙ ap (λ (m : ℕ). join value_words (set vs i v) ++ zeros (3 * room - m)) same_size

-- ---- rooms in use

-- a list written behind what is in use joins it
pub stored_behind : (room : ℕ) (l t : List ℕ) → length l + length t ≤ room → stored (filled room l) (length l) t ≡ filled room (l ++ t)
unfolding stored layout_rules
stored_behind room l t fits =
    let rest = room - length (l ++ t) in
    let apart : room - length l ≡ length t + rest = omega (arith, length-append l t) in
    ap (λ (z : List ℕ). sets (l ++ z) (length l) t) (ap zeros apart ∙ sym (zeros_append (length t) rest))
    ∙ sets_middle l (zeros (length t)) (zeros rest) t (length-zeros (length t))
    ∙ sym (append_assoc l t (zeros rest))

undefined_words : (k : ℕ) → join value_words (replicate k (scalar undefined)) ≡ zeros (3 * k)
unfolding layout_rules basics
undefined_words zero = refl
undefined_words (suc k) =
    let e : suc (suc (suc (3 * k))) ≡ 3 * suc k = omega arith in
    ap (λ (l : List ℕ). 0 ∷ 0 ∷ 0 ∷ l) (undefined_words k) ∙ ap zeros e

-- the new elements of a reserved block are there already
pub reserved_is : (room : ℕ) (vs : List Value) (k : ℕ) → length vs + k ≤ room
    → filled (3 * room) (join value_words vs) ≡ filled (3 * room) (join value_words (vs ++ replicate k (scalar undefined)))
reserved_is room vs k fits =
    sym
    (ap (filled (3 * room))
    (join_append value_words vs (replicate k (scalar undefined)) ∙ ap (λ (l : List ℕ). join value_words vs ++ l) (undefined_words k))
    ∙ filled_zeros (3 * room) (join value_words vs) (3 * k) (omega (arith, elements_length vs)))

module _ (n : ℕ) (h : Heap) where
  -- the header's counts
  pub bytes_raised : (t : List ℕ) → raised (words_of n h) 4 (length t) ≡ words_of n (with_bytes h t)
  unfolding raised layout_rules
  bytes_raised t =
      ap
      (λ (m : ℕ).
      h.chunk ∷ capacity h ∷ length h.free ∷ length h.table ∷ m ∷ length h.elements ∷ 1 ∷ 0 ∷ join (row_words h) (rising 0 n))
      (sym (length-append h.bytes t))

  pub elements_raised : (vs : List Value) → raised (words_of n h) 5 (length vs) ≡ words_of n (with_elements h vs)
  unfolding raised layout_rules
  elements_raised vs =
      ap
      (λ (m : ℕ).
      h.chunk ∷ capacity h ∷ length h.free ∷ length h.table ∷ length h.bytes ∷ m ∷ 1 ∷ 0 ∷ join (row_words h) (rising 0 n))
      (sym (length-append h.elements vs))

  -- a new block's place
  pub bytes_place : (m : ℕ) → new_place (get_or (words_of n h) 4 0) m ≡ (block_after h.bytes m).place
  unfolding new_place layout_rules
  bytes_place m = refl

  pub elements_place : (m : ℕ) → new_place (get_or (words_of n h) 5 0) m ≡ (block_after h.elements m).place
  unfolding new_place layout_rules
  elements_place m = refl

-- ---- texts

-- a block's part of the lent bytes is its text
pub text_is : (room : ℕ) (h : Heap) (b : Block) → b.place + b.size ≤ length h.bytes → part_of (filled room h.bytes) b ≡ text_of h b
unfolding layout_rules
text_is room h b fits =
    ap (take b.size) (drop-append-le b.place h.bytes (zeros (room - length h.bytes)) (omega arith))
    ∙ take-append-le b.size (drop b.place h.bytes) (zeros (room - length h.bytes))
    (omega (arith, length-drop b.place h.bytes))
