-- A collection of a good heap leaves a good heap: cells, blocks, the free list and the symbol table are sound again; and the
-- free list is every slot that is not reached, once. Document 01: "the free list holds each Free slot once", "A fresh heap is
-- sound and each accepted call keeps it so". Assumes nothing.
use mathlib.Core.Path.{◌≡◌, refl, sym, ap, ◌∙◌, subst}
use mathlib.Core.Bool.{Bool, true, false}
use mathlib.Core.List.{List}
use Prim.Native.Nat.{ℕ, ◌+◌, ◌/◌, ◌%◌, ◌≤◌, ◌<◌}
use native.Mathlib.Omega.{arith}
use lib.ListN.{length}
use Rattle.laws.specs.Basics.{every, member, count}
use Rattle.laws.proofs.Pointwise.{every_at, all_every}
use Rattle.laws.proofs.Members.{among}
use Rattle.rules.specs.Map.{Free, state_of}
use Rattle.rules.specs.Cells.{undefined, scalar, plain}
use Rattle.rules.specs.Heap.{Heap, capacity, cell_at, in_use}
use Rattle.rules.specs.Collect.{leads_to, Reached, marked, collect, collect_rules}
use Rattle.rules.specs.Sound.{value_allowed, text_block, vector_block, lies_in, sound_rules}
use Rattle.rules.proofs.Growth.{Reached as GrownTo}
use Rattle.rules.proofs.Good.{CellGood, Good, apart, used_slot}
use Rattle.rules.proofs.PutCells.{plain_fits}
use Rattle.collect_laws.proofs.Reach.{marked_reached}
use Rattle.collect_laws.proofs.Leading.{is_marked, not_marked}
use Rattle.collect_laws.proofs.PackedCells.{packed_texts, packed_vectors, packed_texts_in, packed_vectors_in, vectors_moved}
use Rattle.collect_laws.proofs.SweptHeap.{swept_heap, swept_so, swept_listed, swept_blocks}
use Rattle.collect_laws.proofs.Collected.{collect_map, kept_capacity, kept_chunk, unmarked_unused, unmarked_undefined, marked_used, marked_as_before}
use Rattle.collect_laws.proofs.CellsGood.{as_before_good}
use Rattle.collect_laws.proofs.Entries.{entries_sound, entries_unlike}

module _ (h : Heap) (g : Good h) (roots : List ℕ) (u : every (in_use h) roots ≡ true) where
  abbrev k : Heap
  k = collect roots h

  abbrev w : Heap
  w = swept_heap roots h

  -- ---- the free list

  collect_free : k.free ≡ w.free
  unfolding collect_rules swept_heap
  collect_free = refl

  free_once : (s : ℕ) → s < capacity k → count s k.free + state_of k.map s ≡ 1
  free_once s l =
      (λ i. count s (collect_free i) + state_of (collect_map h g roots i) s)
      ∙ (swept_listed h g roots).once s (omega (arith, l, kept_capacity h g roots, (swept_so roots h).size))

  free_past : (s : ℕ) → capacity k ≤ s → count s k.free ≡ 0
  free_past s l =
      ap (count s) collect_free ∙ (swept_listed h g roots).past s (omega (arith, l, kept_capacity h g roots, (swept_so roots h).size))

  -- ---- the cells

  next_marked : (s t : ℕ) → member s (marked h roots) ≡ true → member t (leads_to h (cell_at h s)) ≡ true → in_use k t ≡ true
  next_marked s t m e =
      marked_used h g roots u t (is_marked h g roots u t (Reached.next (marked_reached h roots s m) (among t (leads_to h (cell_at h s)) e)))

  texts_in : (s : ℕ) → lies_in (length k.bytes) (text_block (cell_at k s)) ≡ true
  unfolding collect swept_heap
  texts_in s = packed_texts_in w (swept_blocks h g roots) s

  vectors_in : (s : ℕ) → lies_in (length k.elements) (vector_block (cell_at k s)) ≡ true
  unfolding collect swept_heap
  vectors_in s = packed_vectors_in w (swept_blocks h g roots) s

  cells_good : (s : ℕ) → CellGood k (cell_at k s)
  unfolding sound_rules
  cells_good s = by (member s (marked h roots)) refl
    where
      by : (b : Bool) → member s (marked h roots) ≡ b → CellGood k (cell_at k s)
      by true m =
          as_before_good h k (marked_as_before h g roots u s m) (g.cells s) (λ t e. next_marked s t m e) (texts_in s) (vectors_in s)
      by false m = subst (CellGood k) (sym (unmarked_undefined h g roots s m)) (plain_fits k undefined refl).good

  shows_undefined : (s : ℕ) → state_of k.map s ≡ Free → cell_at k s ≡ plain undefined
  shows_undefined s e = by (member s (marked h roots)) refl
    where
      by : (b : Bool) → member s (marked h roots) ≡ b → cell_at k s ≡ plain undefined
      by true m = absurd (omega (arith, e, (used_slot k s (marked_used h g roots u s m)).state))
      by false m = unmarked_undefined h g roots s m

  texts_apart : (s t : ℕ) → apart (text_block (cell_at k s)) (text_block (cell_at k t)) ≡ true
  unfolding collect swept_heap
  texts_apart = packed_texts w (swept_blocks h g roots)

  vectors_apart : (s t : ℕ) → apart (vector_block (cell_at k s)) (vector_block (cell_at k t)) ≡ true
  unfolding collect swept_heap
  vectors_apart = packed_vectors w (swept_blocks h g roots)

  elements_allowed : every value_allowed k.elements ≡ true
  unfolding collect_rules swept_heap
  elements_allowed =
      (vectors_moved w (swept_blocks h g roots)).every_element value_allowed
      (ap (every value_allowed) (swept_so roots h).elements ∙ all_every value_allowed (scalar undefined) h.elements (λ i l. g.elements i))

  -- ---- the whole

  pub collect_good : Good (collect roots h)
  unfolding sound_rules
  collect_good =
      record {
        chunk_least = subst (λ (n : ℕ). 4 ≤ n) (sym (kept_chunk h g roots)) g.chunk_least;
        chunk_fours = ap (λ (n : ℕ). n % 4) (kept_chunk h g roots) ∙ g.chunk_fours;
        growth = subst (λ (n : ℕ). GrownTo n (capacity k)) (sym (kept_chunk h g roots)) (subst (GrownTo h.chunk) (sym (kept_capacity h g roots)) g.growth);
        map-size =
            ap length (collect_map h g roots) ∙ (swept_so roots h).states ∙ g.map-size
            ∙ ap (λ (n : ℕ). n / 4) (sym (kept_capacity h g roots));
        once = free_once;
        past = free_past;
        empty = shows_undefined;
        cells = cells_good;
        texts = texts_apart;
        vectors = vectors_apart;
        elements = every_at value_allowed (scalar undefined) k.elements elements_allowed refl;
        entries = entries_sound h g roots u;
        differ = entries_unlike h g roots u;
      }

  -- the free list is what is not reached, each slot once
  pub free_rest : (s : ℕ) → s < capacity h → (Reached h roots s → ⊥) → count s (collect roots h).free ≡ 1
  free_rest s l n =
      omega (
        arith,
        free_once s (omega (arith, l, kept_capacity h g roots)),
        unmarked_unused h g roots s (not_marked h g roots u s n),
      )

  pub reached_not_free : (s : ℕ) → Reached h roots s → count s (collect roots h).free ≡ 0
  reached_not_free s r =
      let used = used_slot k s (marked_used h g roots u s (is_marked h g roots u s r)) in
      omega (arith, free_once s used.below, used.state)

  pub past_not_free : (s : ℕ) → capacity h ≤ s → count s (collect roots h).free ≡ 0
  past_not_free s l = free_past s (omega (arith, l, kept_capacity h g roots))
