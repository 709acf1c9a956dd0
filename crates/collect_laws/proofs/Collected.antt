-- What a collection keeps and what it frees: just the slots that the roots reach stay in use; each of them shows what it showed
-- but for the place of its block, and every other slot shows Undefined. Document 01: "It frees, in rising order, what is not
-- reached, writes Undefined there", and of blocks "sharing stays". Assumes nothing.
use mathlib.Core.Path.{◌≡◌, refl, ap, ◌∙◌, subst}
use mathlib.Core.Bool.{Bool, true, false}
use mathlib.Core.List.{List}
use mathlib.Core.Logic.{◌↔◌}
use Prim.Native.Nat.{ℕ, ◌≤◌}
use native.Mathlib.Omega.{arith}
use lib.ListN.{length}
use Rattle.laws.specs.Basics.{every, member}
use Rattle.laws.proofs.Checks.{agreeing}
use Rattle.rules.specs.Map.{Free, state_of}
use Rattle.rules.specs.Cells.{undefined, Value, Cell, plain}
use Rattle.rules.specs.Heap.{Heap, capacity, cell_at, in_use, part_of, text_of, elements_of}
use Rattle.rules.specs.Collect.{Reached, marked, packed_cell, pack, collect}
use Rattle.rules.specs.Sound.{text_block, vector_block, sound_rules}
use Rattle.rules.proofs.Good.{Good, used_slot, slot_used}
use Rattle.collect_laws.specs.Packs.{all_packed}
use Rattle.collect_laws.specs.Kept.{AsBefore, same_scalar, same_pair, symbol_moved, string_moved, vector_moved}
use Rattle.collect_laws.proofs.Reach.{marked_reached}
use Rattle.collect_laws.proofs.Leading.{marked_in_use, is_marked, not_marked}
use Rattle.collect_laws.proofs.PackedCells.{cell_packed, pack_capacity, packed_as_before, texts_moved, vectors_moved}
use Rattle.collect_laws.proofs.SweptHeap.{swept_heap, swept_so, swept_blocks, unmarked_free, unmarked_cell, marked_allocated}

-- ---- cells as before, from other heaps and of equal cells

as_before_from : (h w k : Heap) → w.bytes ≡ h.bytes → w.elements ≡ h.elements → {c d : Cell} → AsBefore w k c d → AsBefore h k c d
as_before_from h w k b v (same_scalar x) = same_scalar x
as_before_from h w k b v (same_pair a d) = same_pair a d
as_before_from h w k b v (symbol_moved x y n t) = symbol_moved x y n (t ∙ ap (λ (l : List ℕ). part_of l x) b)
as_before_from h w k b v (string_moved x y n t) = string_moved x y n (t ∙ ap (λ (l : List ℕ). part_of l x) b)
as_before_from h w k b v (vector_moved x y n t) = vector_moved x y n (t ∙ ap (λ (l : List Value). part_of l x) v)

pub same_text : (h k : Heap) {c d : Cell} → AsBefore h k c d → text_of k (text_block d) ≡ text_of h (text_block c)
unfolding sound_rules
same_text h k (same_scalar x) = refl
same_text h k (same_pair a d) = refl
same_text h k (symbol_moved b c n t) = t
same_text h k (string_moved b c n t) = t
same_text h k (vector_moved b c n t) = refl

pub same_elements : (h k : Heap) {c d : Cell} → AsBefore h k c d → elements_of k (vector_block d) ≡ elements_of h (vector_block c)
unfolding sound_rules
same_elements h k (same_scalar x) = refl
same_elements h k (same_pair a d) = refl
same_elements h k (symbol_moved b c n t) = refl
same_elements h k (string_moved b c n t) = refl
same_elements h k (vector_moved b c n t) = t

-- ---- the collection is the packing of what was swept

module _ (h : Heap) (g : Good h) (roots : List ℕ) where
  abbrev w : Heap
  w = swept_heap roots h

  pub collect_map : (collect roots h).map ≡ w.map
  unfolding collect pack swept_heap
  collect_map = refl

  collect_cell : (s : ℕ) → cell_at (collect roots h) s ≡ packed_cell (all_packed w) (cell_at w s)
  unfolding collect swept_heap
  collect_cell s = cell_packed w (swept_blocks h g roots) s

  -- the sizes: no slot comes or goes, and the rooms in use are no longer than before
  pub kept_capacity : capacity (collect roots h) ≡ capacity h
  unfolding collect swept_heap
  kept_capacity = pack_capacity w (swept_blocks h g roots) ∙ (swept_so roots h).size

  pub kept_chunk : (collect roots h).chunk ≡ h.chunk
  unfolding collect pack swept_heap
  kept_chunk = (swept_so roots h).chunk

  pub bytes_no_longer : length (collect roots h).bytes ≤ length h.bytes
  unfolding collect pack swept_heap
  bytes_no_longer = omega (arith, (texts_moved w (swept_blocks h g roots)).no_longer, ap length (swept_so roots h).bytes)

  pub elements_no_longer : length (collect roots h).elements ≤ length h.elements
  unfolding collect pack swept_heap
  elements_no_longer = omega (arith, (vectors_moved w (swept_blocks h g roots)).no_longer, ap length (swept_so roots h).elements)

  -- ---- which slots are in use

  pub unmarked_unused : (s : ℕ) → member s (marked h roots) ≡ false → state_of (collect roots h).map s ≡ Free
  unmarked_unused s e = ap (λ (m : List ℕ). state_of m s) collect_map ∙ unmarked_free h g roots s e

  pub unmarked_undefined : (s : ℕ) → member s (marked h roots) ≡ false → cell_at (collect roots h) s ≡ plain undefined
  unfolding packed_cell
  unmarked_undefined s e = collect_cell s ∙ ap (packed_cell (all_packed w)) (unmarked_cell h g roots s e)

  module _ (u : every (in_use h) roots ≡ true) where
    pub marked_used : (s : ℕ) → member s (marked h roots) ≡ true → in_use (collect roots h) s ≡ true
    marked_used s e =
        slot_used (collect roots h) s (omega (arith, kept_capacity, (used_slot h s (marked_in_use h g roots u s e)).below))
        (ap (λ (m : List ℕ). state_of m s) collect_map ∙ marked_allocated h g roots u s e)

    used_marked : (s : ℕ) → in_use (collect roots h) s ≡ true → member s (marked h roots) ≡ true
    used_marked s e = by (member s (marked h roots)) refl
      where
        by : (b : Bool) → member s (marked h roots) ≡ b → b ≡ true
        by true q = refl
        by false q = absurd (omega (arith, unmarked_unused s q, (used_slot (collect roots h) s e).state))

    pub used_is : (s : ℕ) → in_use (collect roots h) s ≡ member s (marked h roots)
    used_is s = agreeing (in_use (collect roots h) s) (member s (marked h roots)) (used_marked s) (marked_used s)

    -- a slot is in use afterwards exactly when the roots reach it
    pub kept_exactly : (s : ℕ) → (in_use (collect roots h) s ≡ true) ↔ Reached h roots s
    kept_exactly s = (λ e. marked_reached h roots s (used_marked s e), λ r. marked_used s (is_marked h g roots u s r))

    -- ---- what the slots show

    pub marked_as_before : (s : ℕ) → member s (marked h roots) ≡ true → AsBefore h (collect roots h) (cell_at h s) (cell_at (collect roots h) s)
    unfolding collect swept_heap
    marked_as_before s e =
        let o = swept_so roots h in
        as_before_from h w (pack w) o.bytes o.elements
        (subst (λ (c : Cell). AsBefore w (pack w) c (cell_at (pack w) s)) (o.marked_cell s e) (packed_as_before w (swept_blocks h g roots) s))

    -- a slot that is kept shows what it showed, but for the place of its block
    pub kept_cell : (s : ℕ) → Reached h roots s → AsBefore h (collect roots h) (cell_at h s) (cell_at (collect roots h) s)
    kept_cell s r = marked_as_before s (is_marked h g roots u s r)

    -- every other slot shows Undefined
    pub freed_cell : (s : ℕ) → (Reached h roots s → ⊥) → cell_at (collect roots h) s ≡ plain undefined
    freed_cell s n = unmarked_undefined s (not_marked h g roots u s n)

    -- a kept block holds the same bytes, the same elements
    pub kept_text : (s : ℕ) → Reached h roots s → text_of (collect roots h) (text_block (cell_at (collect roots h) s)) ≡ text_of h (text_block (cell_at h s))
    kept_text s r = same_text h (collect roots h) (kept_cell s r)

    pub kept_elements : (s : ℕ) → Reached h roots s → elements_of (collect roots h) (vector_block (cell_at (collect roots h) s)) ≡ elements_of h (vector_block (cell_at h s))
    kept_elements s r = same_elements h (collect roots h) (kept_cell s r)
