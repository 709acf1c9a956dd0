-- From what a call promises to the heap, for lists that hold one: a caller cites these with its own equations on the lists
-- at hand. Then stores and loads on any words, without a heap. Assumes nothing.
use mathlib.Core.Path.{◌≡◌, sym, ap, ◌∙◌}
use mathlib.Core.List.{List, ◌++◌}
use mathlib.Core.Option.{none, some}
use Prim.Native.Nat.{ℕ, ◌+◌, ◌*◌, ◌≤◌, ◌<◌}
use native.Mathlib.Omega.{arith}
use lib.ListN.{length, get_or, replicate, length-set, length-replicate}
use lib.Seq.{length-sets}
use Rattle.laws.specs.Basics.{choose, join}
use Rattle.laws.proofs.Stores.{sets_in, sets_other}
use Rattle.rules.specs.Cells.{undefined, scalar, Cell}
use Rattle.rules.specs.Heap.{Heap, capacity, cell_at, in_use, block_after, with_cell, with_element, with_bytes, with_elements}
use Rattle.rules.specs.Layout.{cell_words, cell_from, value_words, words_of, filled, layout_rules}
use Rattle.rules.proofs.LentLaws.{cell_width, cell_again}
use Rattle.leaf_cells.specs.declared.VCell.{VCell}
use Rattle.leaf_cells.specs.declared.Value.{Value}
use Rattle.leaf_cells.specs.declared.Change.{Change}
use Rattle.leaf_cells.specs.declared.ElementChange.{ElementChange}
use Rattle.leaf_rooms.specs.Rooms.{stored}
use Rattle.leaf_cells.specs.Cells.{cell_of, loaded, looked_up, stored_cell, Stored}
use Rattle.leaf_cells.specs.Elements.{value_of, loaded_element, stored_element, ElementStored}
use Rattle.leaf_rooms.specs.Rooms.{raised, new_place, Reserved, Appended}
use Rattle.leaf_cells.proofs.HeapLaws.{loaded_is, stored_cell_is, looked_up_is, loaded_element_is, stored_element_is, stored_behind, reserved_is, bytes_raised, elements_raised, bytes_place, elements_place}

-- the words of the elements in use
abbrev pub elems_of : ℕ → Heap → List ℕ
elems_of room h = filled (3 * room) (join value_words h.elements)

-- ---- the calls on a heap

module _ (n : ℕ) (h : Heap) (ws : List ℕ) (on : ws ≡ words_of n h) where
  pub load_on : (s : ℕ) → s < n → loaded ws s ≡ cell_at h s
  load_on s small = ap (λ (l : List ℕ). loaded l s) on ∙ loaded_is n h s small

  pub look_up_on : (room s : ℕ) → capacity h ≤ n → looked_up ws (filled room h.map) s ≡ choose (in_use h s) (some (cell_at h s)) none
  look_up_on room s fits = ap (λ (l : List ℕ). looked_up l (filled room h.map) s) on ∙ looked_up_is n room h s fits

  pub store_on : (s : ℕ) (c : VCell) (after : List ℕ) (r : Change) → s < capacity h → capacity h ≤ n → Stored ws after s c r → after ≡ words_of n (with_cell h s (cell_of c))
  store_on s c after r small fits p =
      p.words ∙ ap (λ (l : List ℕ). stored_cell l s (cell_of c)) on ∙ stored_cell_is n h s (cell_of c) small fits

  -- the words, the bytes and the place of a new text
  pub append_words : (bs t after bytes_after : List ℕ) (place : ℕ) → Appended ws after bs bytes_after t place → after ≡ words_of n (with_bytes h t)
  append_words bs t after bytes_after place p =
      p.words ∙ ap (λ (l : List ℕ). raised l 4 (length t)) on ∙ bytes_raised n h t

  pub append_bytes : (room : ℕ) (t after bytes_after : List ℕ) (place : ℕ) → length h.bytes + length t ≤ room → Appended ws after (filled room h.bytes) bytes_after t place → bytes_after ≡ filled room (h.bytes ++ t)
  unfolding layout_rules
  append_bytes room t after bytes_after place fits p =
      p.bytes ∙ ap (λ (l : List ℕ). stored (filled room h.bytes) (get_or l 4 0) t) on ∙ stored_behind room h.bytes t fits

  pub append_place : (bs t after bytes_after : List ℕ) (place : ℕ) → Appended ws after bs bytes_after t place → place ≡ (block_after h.bytes (length t)).place
  append_place bs t after bytes_after place p =
      p.at ∙ ap (λ (l : List ℕ). new_place (get_or l 4 0) (length t)) on ∙ bytes_place n h (length t)

  -- the words and the place of new elements, which are Undefined
  pub reserve_words : (k : ℕ) (after : List ℕ) (place : ℕ) → Reserved ws after 5 k place → after ≡ words_of n (with_elements h (replicate k (scalar undefined)))
  reserve_words k after place p =
      let new = replicate k (scalar undefined) in
      p.words ∙ ap (λ (l : List ℕ). raised l 5 k) on
      ∙ ap (λ (m : ℕ). raised (words_of n h) 5 m) (sym (length-replicate k (scalar undefined))) ∙ elements_raised n h new

  pub reserve_place : (k : ℕ) (after : List ℕ) (place : ℕ) → Reserved ws after 5 k place → place ≡ (block_after h.elements k).place
  reserve_place k after place p =
      p.at ∙ ap (λ (l : List ℕ). new_place (get_or l 5 0) k) on ∙ elements_place n h k

pub reserve_elems : (room : ℕ) (h : Heap) (k : ℕ) → length h.elements + k ≤ room → elems_of room h ≡ elems_of room (with_elements h (replicate k (scalar undefined)))
reserve_elems room h k fits = reserved_is room h.elements k fits

module _ (room : ℕ) (h : Heap) (es : List ℕ) (on : es ≡ elems_of room h) (i : ℕ) (small : i < length h.elements) where
  pub load_element_on : loaded_element es i ≡ get_or h.elements i (scalar undefined)
  load_element_on = ap (λ (l : List ℕ). loaded_element l i) on ∙ loaded_element_is room h.elements i small

  pub store_element_on : (v : Value) (after : List ℕ) (r : ElementChange) → ElementStored es after i v r → after ≡ elems_of room (with_element h i (value_of v))
  store_element_on v after r p =
      p.words ∙ ap (λ (l : List ℕ). stored_element l i (value_of v)) on
      ∙ stored_element_is room h.elements i small (value_of v)

-- ---- stores and loads on any words

pub stored_length : (l : List ℕ) (at : ℕ) (t : List ℕ) → length (stored l at t) ≡ length l
unfolding stored
stored_length l at t = length-sets l at t

pub raised_length : (ws : List ℕ) (k m : ℕ) → length (raised ws k m) ≡ length ws
unfolding raised
raised_length ws k m = simp length-set

module _ (ws : List ℕ) (s : ℕ) (c : Cell) where
  pub stored_cell_length : length (stored_cell ws s c) ≡ length ws
  unfolding stored_cell
  stored_cell_length = stored_length ws (8 + 8 * s) (cell_words c)

  -- what was stored is loaded
  pub loaded_same : 8 * s + 16 ≤ length ws → loaded (stored_cell ws s c) s ≡ c
  unfolding loaded stored_cell stored
  loaded_same fits =
      let at : (k : ℕ) → k < 3 → get_or (stored_cell ws s c) (8 + 8 * s + k) 0 ≡ get_or (cell_words c) k 0 = λ k low. sets_in ws (8 + 8 * s) (cell_words c) k (omega (arith, cell_width c)) (omega (arith, cell_width c)) in
      (λ j. cell_from (at 0 (omega arith) j) (at 1 (omega arith) j) (at 2 (omega arith) j)) ∙ cell_again c

  -- and every other slot shows what it showed
  pub loaded_other : (t : ℕ) → (t ≡ s → ⊥) → loaded (stored_cell ws s c) t ≡ loaded ws t
  unfolding loaded stored_cell stored
  loaded_other t ne =
      let at : (k : ℕ) → k < 3 → get_or (stored_cell ws s c) (8 + 8 * t + k) 0 ≡ get_or ws (8 + 8 * t + k) 0 = λ k low. sets_other ws (8 + 8 * s) (cell_words c) (8 + 8 * t + k) (λ p. omega (arith, cell_width c)) in
      λ j. cell_from (at 0 (omega arith) j) (at 1 (omega arith) j) (at 2 (omega arith) j)
