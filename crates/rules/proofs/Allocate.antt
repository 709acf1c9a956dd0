-- Allocating keeps a heap good, and gives a slot that was not in use: "the slots that it takes are those that the rule
-- gives", and every cell, text, element and entry is as it was. Document 01, "Slots and growth". Assumes nothing.
use mathlib.Core.Path.{◌≡◌, refl, sym, ap, ◌∙◌, subst}
use mathlib.Core.Bool.{Bool, true, false}
use mathlib.Core.List.{List, [], ◌∷◌, ◌++◌, reverse, append-nil}
use Prim.Native.Nat.{ℕ, zero, suc, ◌+◌, ◌-◌, ◌/◌, ◌%◌, ◌≤◌, ◌<◌}
use native.Mathlib.Omega.{arith}
use native.Mathlib.Decide.{dec_lt, dec_le, ℕ_discrete}
use lib.ListN.{length, get_or, replicate, length-append, length-replicate, length-reverse}
use Rattle.laws.specs.Basics.{count, rising, zeros, basics}
use Rattle.laws.proofs.Tests.{true≢false}
use Rattle.laws.proofs.Lists.{length-zeros, length-rising, count_rising, count_rising_in}
use Rattle.laws.proofs.Pointwise.{count_here, count_other, count_append, count_falling, count_rising_past}
use Rattle.rules.specs.Map.{state_of, set_state, Allocated}
use Rattle.rules.specs.Cells.{undefined, Value, scalar, plain}
use Rattle.rules.specs.Heap.{Heap, Given, capacity, cell_at, in_use, used_count, grown, fitting, most_growths, grow, pop, alloc}
use Rattle.rules.specs.Layout.{entry_at}
use Rattle.rules.specs.Sound.{text_block, vector_block, value_named}
use Rattle.rules.proofs.TwoBits.{set-state-length, state_same, state_other, state_behind}
use Rattle.rules.proofs.Growth.{reached_next, reached_whole, Whole, grown_whole, rises, fours, fitting_grown, fitting_end}
use Rattle.rules.proofs.Good.{element_at, apart, CellGood, Good, used_slot, slot_used, chunk_positive, capacity_fours, capacity_positive, free_past, unused, used_below, free_most}
use Rattle.rules.proofs.Keeping.{Wider, value_wider, cell_kept, entries_kept, differs_kept}

-- ---- growth

undefined_behind : {A : Type 0} (l : List A) (n i : ℕ) (d : A) → get_or (l ++ replicate n d) i d ≡ get_or l i d
undefined_behind [] zero i d = refl
undefined_behind [] (suc n) zero d = refl
undefined_behind [] (suc n) (suc i) d = undefined_behind [] n i d
undefined_behind (x ∷ l) n zero d = refl
undefined_behind (x ∷ l) n (suc i) d = undefined_behind l n i d

abbrev goal : Heap → ℕ
goal h = grown h.chunk (capacity h)

module _ (h : Heap) (g : Good h) where
  whole : Whole h.chunk (capacity h)
  whole = reached_whole h.chunk (capacity h) (chunk_positive h g) g.growth

  pub goal_above : capacity h < goal h
  goal_above = rises h.chunk (capacity h) (chunk_positive h g) (capacity_positive h g) whole

  pub grow_capacity : capacity (grow h) ≡ goal h
  unfolding grow
  grow_capacity =
      omega (arith, goal_above, length-append h.cells (replicate (goal h - capacity h) (plain undefined)), length-replicate (goal h - capacity h) (plain undefined))

  goal_fours : goal h % 4 ≡ 0
  goal_fours = fours h.chunk (goal h) g.chunk_fours (grown_whole h.chunk (capacity h))

  pub grow_cell : (s : ℕ) → cell_at (grow h) s ≡ cell_at h s
  unfolding grow
  grow_cell s = undefined_behind h.cells (goal h - capacity h) s (plain undefined)

  pub grow_state : (s : ℕ) → state_of (grow h).map s ≡ state_of h.map s
  unfolding grow
  grow_state s = state_behind h.map ((goal h - capacity h) / 4) s

  grow_used : (s : ℕ) → in_use h s ≡ true → in_use (grow h) s ≡ true
  grow_used s e =
      let u = used_slot h s e in
      slot_used (grow h) s (omega (arith, grow_capacity, goal_above, u.below)) (grow_state s ∙ u.state)

  grow_wider : Wider h (grow h)
  unfolding grow
  grow_wider =
      record {
        used = grow_used;
        more = [];
        bytes = sym (append-nil h.bytes);
        room = omega arith;
        held = λ k l e. value_wider h (grow h) grow_used (element_at h k) e;
      }

  grow_count : (s : ℕ) → count s (grow h).free ≡ count s (rising (capacity h) (goal h - capacity h)) + count s h.free
  unfolding grow
  grow_count s =
      omega (
        arith,
        count_append s (reverse (rising (capacity h) (goal h - capacity h))) h.free,
        count_falling (capacity h) (goal h - capacity h) s,
      )

  pub grow_good : Good (grow h)
  unfolding grow entry_at
  grow_good =
      let w = grow_wider in
      record {
        chunk_least = g.chunk_least;
        chunk_fours = g.chunk_fours;
        growth = reached_next h.chunk (capacity h) (capacity (grow h)) g.growth grow_capacity;
        map-size =
            omega (
              arith,
              length-append h.map (zeros ((goal h - capacity h) / 4)),
              length-zeros ((goal h - capacity h) / 4),
              grow_capacity,
              g.map-size,
              goal_fours,
              goal_above,
              capacity_fours h g,
            );
        once =
            λ s l.
            elim (dec_lt s (capacity h)) [
              | yes m ↦ omega (arith, grow_count s, count_rising (capacity h) (goal h - capacity h) s m, grow_state s, g.once s m)
              | no m ↦
                  omega (
                    arith,
                    grow_count s,
                    count_rising_in (capacity h) (goal h - capacity h) s (omega arith) (omega (arith, grow_capacity, goal_above)),
                    grow_state s,
                    free_past h g s (omega arith),
                    g.past s (omega arith),
                  )
            ];
        past =
            λ s l.
            omega (
              arith,
              grow_count s,
              count_rising_past (capacity h) (goal h - capacity h) s (omega (arith, grow_capacity, goal_above)),
              g.past s (omega (arith, grow_capacity, goal_above)),
            );
        empty = λ s z. grow_cell s ∙ g.empty s (sym (grow_state s) ∙ z);
        cells = λ s. subst (CellGood (grow h)) (sym (grow_cell s)) (cell_kept h (grow h) w (cell_at h s) (g.cells s));
        texts = λ s t. (λ i. apart (text_block (grow_cell s i)) (text_block (grow_cell t i))) ∙ g.texts s t;
        vectors = λ s t. (λ i. apart (vector_block (grow_cell s i)) (vector_block (grow_cell t i))) ∙ g.vectors s t;
        elements = g.elements;
        entries = entries_kept h (grow h) w g (λ i l. grow_cell (entry_at h i).slot);
        differ = differs_kept h (grow h) w g (λ i l. grow_cell (entry_at h i).slot);
      }

-- ---- taking a slot off the list

-- Where growth ends: the capacity is within the lent slots and can still grow to `end`, or more slots are used than that.
-- No. 16 asks after the slots, and this says what follows for the capacity.
pub data Within (lent end : ℕ) (h : Heap) : Type 0 where
  inside : capacity h ≤ lent → fitting most_growths h.chunk lent (capacity h) ≡ end → Within lent end h
  over : end < used_count h → Within lent end h

-- a slot was taken: it was not in use, now it is, and it shows Undefined; nothing else changed but the growth
pub record Took (h : Heap) (t : Given) : Type 0 where
  pub good : Good t.heap
  pub fresh : in_use h t.slot ≡ false
  pub taken : in_use t.heap t.slot ≡ true
  pub empty : cell_at h t.slot ≡ plain undefined
  pub cells : (s : ℕ) → cell_at t.heap s ≡ cell_at h s
  pub used : (s : ℕ) → in_use h s ≡ true → in_use t.heap s ≡ true
  pub others : (s : ℕ) → in_use t.heap s ≡ true → (s ≡ t.slot → ⊥) → in_use h s ≡ true
  pub chunk : t.heap.chunk ≡ h.chunk
  pub table : t.heap.table ≡ h.table
  pub bytes : t.heap.bytes ≡ h.bytes
  pub elements : t.heap.elements ≡ h.elements
  pub more : capacity h ≤ capacity t.heap
  pub count : used_count t.heap ≡ used_count h + 1
  pub within : (lent end : ℕ) → lent ≤ 4096 → Within lent end h → Within lent end t.heap

abbrev pub taken : Heap → ℕ → List ℕ → Heap
taken h s rest =
    record {
      chunk = h.chunk;
      cells = h.cells;
      map = set_state h.map s Allocated;
      free = rest;
      table = h.table;
      bytes = h.bytes;
      elements = h.elements;
    }

module _ (h : Heap) (g : Good h) (s : ℕ) (rest : List ℕ) (is : h.free ≡ s ∷ rest) where
  next_count : count s h.free ≡ 1 + count s rest
  next_count = ap (count s) is ∙ count_here s s rest refl

  other_count : (t : ℕ) → (t ≡ s → ⊥) → count t h.free ≡ count t rest
  other_count t d = ap (count t) is ∙ count_other t s rest d

  next_below : s < capacity h
  next_below =
      elim (dec_lt s (capacity h)) [ yes l ↦ l | no l ↦ absurd (omega (arith, next_count, g.past s (omega arith))) ]

  next_free : state_of h.map s ≡ 0
  next_free = omega (arith, next_count, g.once s next_below)

  next_in_map : s / 4 < length h.map
  next_in_map = omega (arith, g.map-size, next_below, capacity_fours h g)

  state_taken : state_of (set_state h.map s 1) s ≡ 1
  state_taken = state_same h.map s 1 (omega arith) next_in_map

  state_left : (t : ℕ) → (t ≡ s → ⊥) → state_of (set_state h.map s 1) t ≡ state_of h.map t
  state_left t d = state_other h.map s 1 (omega arith) t d

  taken_used : (t : ℕ) → in_use h t ≡ true → in_use (taken h s rest) t ≡ true
  taken_used t e =
      let u = used_slot h t e in
      slot_used (taken h s rest) t u.below (state_left t (λ q. omega (arith, next_free, u.state, ap (state_of h.map) q)) ∙ u.state)

  taken_wider : Wider h (taken h s rest)
  taken_wider =
      record {
        used = taken_used;
        more = [];
        bytes = sym (append-nil h.bytes);
        room = omega arith;
        held = λ k l e. value_wider h (taken h s rest) taken_used (element_at h k) e;
      }

  taken_good : Good (taken h s rest)
  unfolding entry_at
  taken_good =
      let w = taken_wider in
      record {
        chunk_least = g.chunk_least;
        chunk_fours = g.chunk_fours;
        growth = g.growth;
        map-size = set-state-length h.map s 1 ∙ g.map-size;
        once =
            λ t l.
            elim (ℕ_discrete t s) [
              | yes e ↦
                  omega (
                    arith,
                    next_count,
                    state_taken,
                    g.once s next_below,
                    ap (λ (x : ℕ). count x rest) e,
                    ap (λ (x : ℕ). state_of (set_state h.map s 1) x) e,
                    next_free,
                  )
              | no d ↦ omega (arith, other_count t d, state_left t d, g.once t l)
            ];
        past =
            λ t l.
            omega (arith, other_count t (λ e. omega (arith, next_below)), g.past t l);
        empty =
            λ t z.
            elim (ℕ_discrete t s) [
              | yes e ↦ absurd (omega (arith, state_taken, ap (λ (x : ℕ). state_of (set_state h.map s 1) x) e))
              | no d ↦ g.empty t (sym (state_left t d) ∙ z)
            ];
        cells = λ t. cell_kept h (taken h s rest) w (cell_at h t) (g.cells t);
        texts = g.texts;
        vectors = g.vectors;
        elements = g.elements;
        entries = entries_kept h (taken h s rest) w g (λ i l. refl);
        differ = differs_kept h (taken h s rest) w g (λ i l. refl);
      }

  taken_count : used_count (taken h s rest) ≡ used_count h + 1
  taken_count = omega (arith, ap length is, free_most h g)

  taken_within : (lent end : ℕ) → Within lent end h → Within lent end (taken h s rest)
  taken_within lent end (inside l e) = inside l e
  taken_within lent end (over l) = over (omega (arith, taken_count))

  took_next : Took h (record { slot = s; heap = taken h s rest })
  took_next =
      record {
        good = taken_good;
        fresh = unused h g s next_free;
        taken = slot_used (taken h s rest) s next_below state_taken;
        empty = g.empty s next_free;
        cells = λ t. refl;
        used = taken_used;
        others =
            λ t e d.
            let u = used_slot (taken h s rest) t e in
            slot_used h t u.below (sym (state_left t d) ∙ u.state);
        chunk = refl;
        table = refl;
        bytes = refl;
        elements = refl;
        more = omega arith;
        count = taken_count;
        within = λ lent end l w. taken_within lent end w;
      }

-- a pop of a list with a slot on it
abbrev pub pop_by : Heap → List ℕ → Given
pop_by h l = elim l [ [] ↦ record { slot = 0; heap = h } | s ∷ rest ↦ record { slot = s; heap = taken h s rest } ]

pop_is : (h : Heap) (s : ℕ) (rest : List ℕ) → h.free ≡ s ∷ rest → pop h ≡ record { slot = s; heap = taken h s rest }
unfolding pop
pop_is h s rest e = ap (pop_by h) e

took_pop : (h : Heap) → Good h → (s : ℕ) (rest : List ℕ) → h.free ≡ s ∷ rest → Took h (pop h)
took_pop h g s rest e = subst (Took h) (sym (pop_is h s rest e)) (took_next h g s rest e)

-- ---- allocating

abbrev pub prepared_by : Heap → List ℕ → Heap
prepared_by h l = elim l [ [] ↦ grow h | s ∷ rest ↦ h ]

-- growing, then taking: nothing that was there changed
module _ (h : Heap) (g : Good h) (none : h.free ≡ []) where
  used_all : used_count h ≡ capacity h
  used_all = omega (arith, ap length none)

  unused_new : (s : ℕ) → in_use (grow h) s ≡ false → in_use h s ≡ false
  unused_new s e = by (in_use h s) refl
    where
      by : (b : Bool) → in_use h s ≡ b → in_use h s ≡ false
      by true q = absurd (true≢false (sym (grow_used h g s q) ∙ e))
      by false q = q

  old_used : (s : ℕ) → in_use (grow h) s ≡ true → in_use h s ≡ true
  old_used s e =
      let u = used_slot (grow h) s e in
      let q : state_of h.map s ≡ 1 = sym (grow_state h g s) ∙ u.state in
      slot_used h s (used_below h g s q) q

  grow_count_used : used_count (grow h) ≡ used_count h
  unfolding grow
  grow_count_used =
      omega (
        arith,
        grow_capacity h g,
        goal_above h g,
        length-append (reverse (rising (capacity h) (goal h - capacity h))) h.free,
        length-reverse (rising (capacity h) (goal h - capacity h)),
        length-rising (capacity h) (goal h - capacity h),
        ap length none,
      )

  within_grown : (t : Given) → Took (grow h) t → (lent end : ℕ) → lent ≤ 4096 → Within lent end h → Within lent end t.heap
  unfolding grow
  within_grown t k lent end small (inside l e) =
      elim (dec_le (goal h) lent) [
        | yes m ↦
            k.within lent end small
            (inside (omega (arith, grow_capacity h g))
            (ap (fitting most_growths h.chunk lent) (grow_capacity h g)
            ∙ fitting_grown h.chunk lent (capacity h) g.chunk_least small (capacity_positive h g) (whole h g) m ∙ e))
        | no m ↦
            over
            (omega (arith, k.count, grow_count_used, used_all, fitting_end h.chunk lent (capacity h) most_growths (omega arith)))
      ]
  within_grown t k lent end small (over l) = over (omega (arith, k.count, grow_count_used))

  took_grown : (t : Given) → Took (grow h) t → Took h t
  unfolding grow
  took_grown t k =
      record {
        good = k.good;
        fresh = unused_new t.slot k.fresh;
        taken = k.taken;
        empty = sym (grow_cell h g t.slot) ∙ k.empty;
        cells = λ s. k.cells s ∙ grow_cell h g s;
        used = λ s e. k.used s (grow_used h g s e);
        others = λ s e d. old_used s (k.others s e d);
        chunk = k.chunk;
        table = k.table;
        bytes = k.bytes;
        elements = k.elements;
        more = omega (arith, k.more, grow_capacity h g, goal_above h g);
        count = k.count ∙ ap (λ (n : ℕ). n + 1) grow_count_used;
        within = within_grown t k;
      }

  -- there is a slot to take after growing
  grown_some : (grow h).free ≡ [] → ⊥
  unfolding basics
  grown_some e =
      let g' = grow_good h g in
      omega (
        arith,
        g'.once (capacity h) (omega (arith, grow_capacity h g, goal_above h g)),
        ap (count (capacity h)) e,
        grow_state h g (capacity h),
        free_past h g (capacity h) (omega arith),
      )

  took_empty : Took h (pop (grow h))
  took_empty = by (grow h).free refl
    where
      by : (l : List ℕ) → (grow h).free ≡ l → Took h (pop (grow h))
      by [] e = absurd (grown_some e)
      by (s ∷ rest) e = took_grown (pop (grow h)) (took_pop (grow h) (grow_good h g) s rest e)

-- an allocation takes a slot that was not in use, and keeps all else
pub took : (h : Heap) → Good h → Took h (alloc h)
unfolding alloc
took h g = by h.free refl
  where
    by : (l : List ℕ) → h.free ≡ l → Took h (alloc h)
    by [] e = subst (λ (x : List ℕ). Took h (pop (prepared_by h x))) (sym e) (took_empty h g e)
    by (s ∷ rest) e = subst (λ (x : List ℕ). Took h (pop (prepared_by h x))) (sym e) (took_pop h g s rest e)

pub alloc_good : (h : Heap) → Good h → Good (alloc h).heap
alloc_good h g = (took h g).good

pub took_wider : (h : Heap) (t : Given) → Took h t → Wider h t.heap
took_wider h t k =
    record {
      used = k.used;
      more = [];
      bytes = k.bytes ∙ sym (append-nil h.bytes);
      room = omega (arith, ap length k.elements);
      held =
          λ j l e.
          ap (λ (x : List Value). value_named t.heap (get_or x j (scalar undefined))) k.elements
          ∙ value_wider h t.heap k.used (element_at h j) e;
    }
