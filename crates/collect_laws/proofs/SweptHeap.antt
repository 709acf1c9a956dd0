-- The heap between sweeping and packing: a marked slot is in use and shows what it showed, all others are Free and show Undefined;
-- blocks lie where they lay. Document 01: "It frees, in rising order, what is not reached, writes Undefined there, and puts each
-- on top of the list." Assumes nothing.
use mathlib.Core.Path.{◌≡◌, ap, ◌∙◌}
use mathlib.Core.Bool.{true, false}
use mathlib.Core.List.{List}
use Prim.Native.Nat.{ℕ}
use native.Mathlib.Omega.{arith}
use native.Mathlib.Decide.{dec_lt}
use lib.ListN.{length}
use Rattle.laws.specs.Basics.{every, member, rising}
use Rattle.laws.proofs.Members.{member_rising}
use Rattle.rules.specs.Map.{Free, Allocated, state_of}
use Rattle.rules.specs.Cells.{undefined, Block, block, Cell, plain}
use Rattle.rules.specs.Heap.{Heap, capacity, cell_at, in_use}
use Rattle.rules.specs.Collect.{marked, sweep, drop_entries}
use Rattle.rules.specs.Sound.{text_block, vector_block, lies_in}
use Rattle.rules.proofs.Good.{Good, apart, used_slot, capacity_fours, free_past}
use Rattle.rules.proofs.Keeping.{lies_below, apart_sym, apart_empty}
use Rattle.rules.proofs.PutCells.{lies_none}
use Rattle.collect_laws.proofs.Leading.{marked_in_use}
use Rattle.collect_laws.proofs.Sweeping.{SweptCell, kept, wiped, sweeps, Listed, sweep_listed, sweep_frees}
use Rattle.collect_laws.proofs.PackedCells.{BlocksSound, no_text, no_vector}

pub good_listed : (h : Heap) → Good h → Listed h
good_listed h g = record { states = omega (arith, g.map-size, capacity_fours h g); once = g.once; past = g.past; empty = g.empty }

-- ---- blocks stay the same or disjoint, and where they were

module _ (shows : Cell → Block) (nothing : shows (plain undefined) ≡ block 0 0) (used : ℕ) (h h' : Heap) (cells : (t : ℕ) → SweptCell (cell_at h t) (cell_at h' t)) where
  lies_kept : ((t : ℕ) → lies_in used (shows (cell_at h t)) ≡ true) → (t : ℕ) → lies_in used (shows (cell_at h' t)) ≡ true
  lies_kept p t = by (cells t)
    where
      by : SweptCell (cell_at h t) (cell_at h' t) → lies_in used (shows (cell_at h' t)) ≡ true
      by (kept e) = ap (λ (c : Cell). lies_in used (shows c)) e ∙ p t
      by (wiped e) = ap (λ (c : Cell). lies_in used (shows c)) e ∙ ap (lies_in used) nothing ∙ lies_none used

  shows_none : (c : Cell) → c ≡ plain undefined → (shows c).size ≡ 0
  shows_none c e = ap (λ (x : Cell). (shows x).size) e ∙ ap (λ (b : Block). b.size) nothing

  apart_kept : ((s t : ℕ) → apart (shows (cell_at h s)) (shows (cell_at h t)) ≡ true) → (s t : ℕ) → apart (shows (cell_at h' s)) (shows (cell_at h' t)) ≡ true
  apart_kept p s t = by (cells s) (cells t)
    where
      by : SweptCell (cell_at h s) (cell_at h' s) → SweptCell (cell_at h t) (cell_at h' t) → apart (shows (cell_at h' s)) (shows (cell_at h' t)) ≡ true
      by (kept d) (kept e) = (λ i. apart (shows (d i)) (shows (e i))) ∙ p s t
      by (kept d) (wiped e) = apart_sym (shows (cell_at h' t)) (shows (cell_at h' s)) (apart_empty (shows (cell_at h' t)) (shows (cell_at h' s)) (shows_none (cell_at h' t) e))
      by (wiped d) e = apart_empty (shows (cell_at h' s)) (shows (cell_at h' t)) (shows_none (cell_at h' s) d)

-- ---- the swept heap

unfoldable pub swept_heap : List ℕ → Heap → Heap
swept_heap roots h = drop_entries (sweep (marked h roots) (rising 0 (capacity h)) h)

-- what sweeping leaves alone; only the table is shorter
pub record SweptSo (roots : List ℕ) (h w : Heap) : Type 0 where
  pub chunk : w.chunk ≡ h.chunk
  pub size : capacity w ≡ capacity h
  pub states : length w.map ≡ length h.map
  pub bytes : w.bytes ≡ h.bytes
  pub elements : w.elements ≡ h.elements
  pub cells : (t : ℕ) → SweptCell (cell_at h t) (cell_at w t)
  pub marked_cell : (t : ℕ) → member t (marked h roots) ≡ true → cell_at w t ≡ cell_at h t
  pub marked_state : (t : ℕ) → member t (marked h roots) ≡ true → state_of w.map t ≡ state_of h.map t

pub swept_so : (roots : List ℕ) (h : Heap) → SweptSo roots h (swept_heap roots h)
unfolding swept_heap drop_entries
swept_so roots h =
    let w = sweeps (marked h roots) (rising 0 (capacity h)) h in
    record {
      chunk = w.chunk;
      size = w.size;
      states = w.states;
      bytes = w.bytes;
      elements = w.elements;
      cells = w.cells;
      marked_cell = w.marked_cell;
      marked_state = w.marked_state;
    }

module _ (h : Heap) (g : Good h) (roots : List ℕ) where
  pub swept_listed : Listed (swept_heap roots h)
  unfolding swept_heap drop_entries
  swept_listed =
      let l = sweep_listed (marked h roots) (rising 0 (capacity h)) h (good_listed h g) in
      record { states = l.states; once = l.once; past = l.past; empty = l.empty }

  pub unmarked_free : (s : ℕ) → member s (marked h roots) ≡ false → state_of (swept_heap roots h).map s ≡ Free
  unfolding swept_heap drop_entries
  unmarked_free s e =
      elim (dec_lt s (capacity h)) [
        | yes l ↦
            sweep_frees (marked h roots) (rising 0 (capacity h)) h s (good_listed h g) l e
            (member_rising 0 (capacity h) s (omega arith) (omega arith))
        | no l ↦ (sweeps (marked h roots) (rising 0 (capacity h)) h).unused s (free_past h g s (omega arith))
      ]

  pub unmarked_cell : (s : ℕ) → member s (marked h roots) ≡ false → cell_at (swept_heap roots h) s ≡ plain undefined
  unmarked_cell s e = swept_listed.empty s (unmarked_free s e)

  pub swept_texts_in : (s : ℕ) → lies_in (length (swept_heap roots h).bytes) (text_block (cell_at (swept_heap roots h) s)) ≡ true
  swept_texts_in s =
      let w = swept_so roots h in
      ap (λ (n : ℕ). lies_in n (text_block (cell_at (swept_heap roots h) s))) (ap length w.bytes)
      ∙ lies_kept text_block no_text (length h.bytes) h (swept_heap roots h) w.cells (λ t. (g.cells t).text_in) s

  pub swept_vectors_in : (s : ℕ) → lies_in (length (swept_heap roots h).elements) (vector_block (cell_at (swept_heap roots h) s)) ≡ true
  swept_vectors_in s =
      let w = swept_so roots h in
      ap (λ (n : ℕ). lies_in n (vector_block (cell_at (swept_heap roots h) s))) (ap length w.elements)
      ∙ lies_kept vector_block no_vector (length h.elements) h (swept_heap roots h) w.cells (λ t. (g.cells t).vector_in) s

  pub swept_blocks : BlocksSound (swept_heap roots h)
  swept_blocks =
      let w = swept_so roots h in
      record {
        texts = apart_kept text_block no_text (length h.bytes) h (swept_heap roots h) w.cells g.texts;
        texts_in = λ s. lies_below _ (text_block (cell_at (swept_heap roots h) s)) (swept_texts_in s);
        vectors = apart_kept vector_block no_vector (length h.elements) h (swept_heap roots h) w.cells g.vectors;
        vectors_in = λ s. lies_below _ (vector_block (cell_at (swept_heap roots h) s)) (swept_vectors_in s);
      }

  module _ (u : every (in_use h) roots ≡ true) where
    pub marked_allocated : (s : ℕ) → member s (marked h roots) ≡ true → state_of (swept_heap roots h).map s ≡ Allocated
    marked_allocated s e = (swept_so roots h).marked_state s e ∙ (used_slot h s (marked_in_use h g roots u s e)).state
