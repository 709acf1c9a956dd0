-- The rooms after a collection: two kept slots share a block exactly when they shared one, nothing but kept blocks is in a room, and
-- they stand by the lowest slot that shows each. Document 01: "A collection keeps each block that a surviving slot shows, once,
-- packed by lowest such slot; sharing stays." Assumes nothing.
use mathlib.Core.Path.{◌≡◌, refl, sym, ap, ◌∙◌, subst}
use mathlib.Core.Bool.{Bool, true, false}
use mathlib.Core.List.{List}
use mathlib.Core.Logic.{◌↔◌}
use Prim.Native.Nat.{ℕ, ◌+◌, ◌≤◌, ◌<◌}
use native.Mathlib.Omega.{arith}
use lib.ListN.{length}
use Rattle.laws.specs.Basics.{every, member}
use Rattle.rules.specs.Cells.{undefined, Block, block, Cell, plain}
use Rattle.rules.specs.Heap.{Heap, cell_at, in_use}
use Rattle.rules.specs.Collect.{Reached, moved_block, marked, pack, collect}
use Rattle.rules.specs.Sound.{text_block, vector_block}
use Rattle.rules.proofs.Good.{Good}
use Rattle.collect_laws.specs.Packs.{texts_of, vectors_of}
use Rattle.collect_laws.specs.Kept.{ShownOver, Lowest}
use Rattle.collect_laws.proofs.Reach.{marked_reached}
use Rattle.collect_laws.proofs.Leading.{is_marked}
use Rattle.collect_laws.proofs.PackedCells.{no_text, no_vector, text_at, vector_at, texts_moved, vectors_moved}
use Rattle.collect_laws.proofs.SweptHeap.{swept_heap, swept_so, swept_blocks, unmarked_cell}

module _ (h : Heap) (g : Good h) (roots : List ℕ) (u : every (in_use h) roots ≡ true) where
  abbrev w : Heap
  w = swept_heap roots h

  abbrev k : Heap
  k = collect roots h

  swept_cell : (s : ℕ) → Reached h roots s → cell_at w s ≡ cell_at h s
  swept_cell s r = (swept_so roots h).marked_cell s (is_marked h g roots u s r)

  -- one arena: the block that a cell shows there, and where packing puts it
  module _ (shows : Cell → Block) (nothing : shows (plain undefined) ≡ block 0 0) (place : Block → Block) (goes : (s : ℕ) → shows (cell_at k s) ≡ place (shows (cell_at w s))) where
    moved_to : (s : ℕ) → Reached h roots s → shows (cell_at k s) ≡ place (shows (cell_at h s))
    moved_to s r = goes s ∙ ap (λ (c : Cell). place (shows c)) (swept_cell s r)

    -- a slot that shows something was reached
    shows_reached : (s : ℕ) → 0 < (shows (cell_at w s)).size → Reached h roots s
    shows_reached s l = by (member s (marked h roots)) refl
      where
        by : (b : Bool) → member s (marked h roots) ≡ b → Reached h roots s
        by true m = marked_reached h roots s m
        by false m =
            absurd
            (omega (
              arith,
              l,
              ap (λ (c : Cell). (shows c).size) (unmarked_cell h g roots s m),
              ap (λ (b : Block). b.size) nothing,
            ))

    still_held : (s : ℕ) → Reached h roots s → 0 < (shows (cell_at h s)).size → 0 < (shows (cell_at w s)).size
    still_held s r l = subst (λ (c : Cell). 0 < (shows c).size) (sym (swept_cell s r)) l

    shared : ((s t : ℕ) → 0 < (shows (cell_at w s)).size → 0 < (shows (cell_at w t)).size → place (shows (cell_at w s)) ≡ place (shows (cell_at w t)) → shows (cell_at w s) ≡ shows (cell_at w t)) → (s t : ℕ) → Reached h roots s → Reached h roots t → 0 < (shows (cell_at h s)).size → 0 < (shows (cell_at h t)).size → (shows (cell_at k s) ≡ shows (cell_at k t)) ↔ (shows (cell_at h s) ≡ shows (cell_at h t))
    shared one s t r q a b = (
      λ e.
          ap shows (sym (swept_cell s r))
          ∙ one s t (still_held s r a) (still_held t q b) (sym (goes s) ∙ e ∙ goes t)
          ∙ ap shows (swept_cell t q),
      λ e. moved_to s r ∙ ap place e ∙ sym (moved_to t q),
    )

    shown_over : (s j : ℕ) → (place (shows (cell_at w s))).size ≡ (shows (cell_at w s)).size → (place (shows (cell_at w s))).place ≤ j → j < (place (shows (cell_at w s))).place + (place (shows (cell_at w s))).size → ShownOver h roots k shows j
    shown_over s j size low high =
        let p = ap (λ (b : Block). b.place) (goes s) in
        let n = ap (λ (b : Block). b.size) (goes s) in
        record { by = s; reached = shows_reached s (omega arith); begins = omega arith; ends = omega arith }

    -- no lower slot of the swept heap shows it either: one that is not reached shows nothing
    first_swept : (t : ℕ) → Lowest h roots shows t → 0 < (shows (cell_at h t)).size → (r : ℕ) → r < t → shows (cell_at w r) ≡ shows (cell_at w t) → ⊥
    first_swept t f l r m e =
        let z = shows_reached r (omega (arith, still_held t f.reached l, ap (λ (b : Block). b.size) e)) in
        f.first r m z (ap shows (sym (swept_cell r z)) ∙ e ∙ ap shows (swept_cell t f.reached))

    ordered : ((s t : ℕ) → s < t → 0 < (shows (cell_at w s)).size → 0 < (shows (cell_at w t)).size → ((r : ℕ) → r < t → shows (cell_at w r) ≡ shows (cell_at w t) → ⊥) → (place (shows (cell_at w s))).place + (place (shows (cell_at w s))).size ≤ (place (shows (cell_at w t))).place) → (s t : ℕ) → s < t → Reached h roots s → Lowest h roots shows t → 0 < (shows (cell_at h s)).size → 0 < (shows (cell_at h t)).size → (shows (cell_at k s)).place + (shows (cell_at k s)).size ≤ (shows (cell_at k t)).place
    ordered rise s t l r f a b =
        omega (
          arith,
          rise s t l (still_held s r a) (still_held t f.reached b) (first_swept t f b),
          ap (λ (x : Block). x.place) (goes s),
          ap (λ (x : Block). x.size) (goes s),
          ap (λ (x : Block). x.place) (goes t),
        )

  -- ---- the byte arena

  abbrev text_to : Block → Block
  text_to b = moved_block b (texts_of w).moved

  text_goes : (s : ℕ) → text_block (cell_at k s) ≡ text_to (text_block (cell_at w s))
  unfolding collect swept_heap
  text_goes s = text_at w (swept_blocks h g roots) s

  -- two kept slots show one text afterwards exactly when they showed one before
  pub texts_shared : (s t : ℕ) → Reached h roots s → Reached h roots t → 0 < (text_block (cell_at h s)).size → 0 < (text_block (cell_at h t)).size → (text_block (cell_at (collect roots h) s) ≡ text_block (cell_at (collect roots h) t)) ↔ (text_block (cell_at h s) ≡ text_block (cell_at h t))
  texts_shared = shared text_block no_text text_to text_goes (texts_moved w (swept_blocks h g roots)).one

  -- every byte of the room is one that a kept slot shows
  pub bytes_shown : (j : ℕ) → j < length (collect roots h).bytes → ShownOver h roots (collect roots h) text_block j
  unfolding pack collect swept_heap
  bytes_shown j l =
      let m = texts_moved w (swept_blocks h g roots) in
      let x = m.covered j l in
      shown_over text_block no_text text_to text_goes x.slot j (m.size x.slot) x.low x.high

  pub texts_in_order : (s t : ℕ) → s < t → Reached h roots s → Lowest h roots text_block t → 0 < (text_block (cell_at h s)).size → 0 < (text_block (cell_at h t)).size → (text_block (cell_at (collect roots h) s)).place + (text_block (cell_at (collect roots h) s)).size ≤ (text_block (cell_at (collect roots h) t)).place
  texts_in_order = ordered text_block no_text text_to text_goes (texts_moved w (swept_blocks h g roots)).in_order

  -- ---- the element arena

  abbrev vector_to : Block → Block
  vector_to b = moved_block b (vectors_of w).moved

  vector_goes : (s : ℕ) → vector_block (cell_at k s) ≡ vector_to (vector_block (cell_at w s))
  unfolding collect swept_heap
  vector_goes s = vector_at w (swept_blocks h g roots) s

  -- and so two kept slots show one vector's elements
  pub vectors_shared : (s t : ℕ) → Reached h roots s → Reached h roots t → 0 < (vector_block (cell_at h s)).size → 0 < (vector_block (cell_at h t)).size → (vector_block (cell_at (collect roots h) s) ≡ vector_block (cell_at (collect roots h) t)) ↔ (vector_block (cell_at h s) ≡ vector_block (cell_at h t))
  vectors_shared = shared vector_block no_vector vector_to vector_goes (vectors_moved w (swept_blocks h g roots)).one

  -- every element of the room is one that a kept slot shows
  pub elements_shown : (j : ℕ) → j < length (collect roots h).elements → ShownOver h roots (collect roots h) vector_block j
  unfolding pack collect swept_heap
  elements_shown j l =
      let m = vectors_moved w (swept_blocks h g roots) in
      let x = m.covered j l in
      shown_over vector_block no_vector vector_to vector_goes x.slot j (m.size x.slot) x.low x.high

  pub vectors_in_order : (s t : ℕ) → s < t → Reached h roots s → Lowest h roots vector_block t → 0 < (vector_block (cell_at h s)).size → 0 < (vector_block (cell_at h t)).size → (vector_block (cell_at (collect roots h) s)).place + (vector_block (cell_at (collect roots h) s)).size ≤ (vector_block (cell_at (collect roots h) t)).place
  vectors_in_order = ordered vector_block no_vector vector_to vector_goes (vectors_moved w (swept_blocks h g roots)).in_order
