-- What allocating leaves as it was, and that it keeps "the free list holds each Free slot once". Assumes nothing.
use mathlib.Core.Path.{◌≡◌, refl, sym, ap, ◌∙◌, subst}
use mathlib.Core.Bool.{Bool, true, false, not}
use mathlib.Core.List.{[], reverse}
use Prim.Native.Nat.{ℕ, zero, suc, ◌+◌, ◌-◌, ◌/◌, ◌%◌, ◌≤◌, ◌<◌}
use native.Mathlib.Omega.{arith}
use native.Mathlib.Decide.{ℕ_discrete, dec_lt}
use borrow.Author.Tests.{eqb-true, eq-eqb}
use lib.Dec.{eqb, ltb, lit<}
use lib.ListN.{get_or-eq_default}
use Rattle.laws.specs.Basics.{choose, both, either, every, count, rising, basics}
use Rattle.laws.proofs.Tests.{both_right, both_true, either_right, below_all, all_below, both_false}
use Rattle.laws.proofs.Zeros.{falling}
use Rattle.laws.proofs.Pointwise.{count_here, count_other}
use Rattle.laws.proofs.Stores.{get_or_before_zeros}
use Rattle.rules.specs.Map.{state_in, state_of, set_state, is_allocated, Allocated, Free}
use Rattle.rules.specs.Cells.{plain, undefined}
use Rattle.rules.specs.Heap.{Heap, Given, capacity, cell_at, in_use, reaches, most_growths, grow, pop, alloc}
use Rattle.rules.specs.Sound.{is_free, is_undefined, free_once, free_undefined, states_settled, capacity_grown}
use Rattle.rules.proofs.TwoBits.{state_past, state_same, state_other}
use Rattle.rules.proofs.Growth.{reaches_grown}
use Rattle.leaf_free.proofs.FreeWords.{goal, same_cells}
use Rattle.leaf_free.proofs.Allocating.{Growing, Room, Next, next, empty, free_or_not, taken, pop_is, alloc_next, alloc_empty, alloc_growing, grow_growing, grow_next, goal_above, grown_size, grown_free, grown_above, next_below, next_in_map}

-- ---- what a slot taken leaves

pub record TakenFrom (h : Heap) (given : Given) : Type 0 where
  pub chunk_kept : given.heap.chunk ≡ h.chunk
  pub table_kept : given.heap.table ≡ h.table
  pub bytes_kept : given.heap.bytes ≡ h.bytes
  pub elements_kept : given.heap.elements ≡ h.elements
  pub capacity_kept : capacity h ≤ capacity given.heap
  pub cells_kept : (i : ℕ) → cell_at given.heap i ≡ cell_at h i
  pub slot_below : given.slot < capacity given.heap
  pub slot_allocated : state_of given.heap.map given.slot ≡ Allocated
  pub others_kept : (s : ℕ) → (s ≡ given.slot → ⊥) → state_of given.heap.map s ≡ state_of h.map s

pub grow_states : (h : Heap) (s : ℕ) → state_of (grow h).map s ≡ state_of h.map s
unfolding grow state_of
grow_states h s = ap (λ (b : ℕ). state_in b (s % 4)) (get_or_before_zeros h.map ((goal h - capacity h) / 4) (s / 4))

pub grow_cells : (h : Heap) (i : ℕ) → cell_at (grow h) i ≡ cell_at h i
unfolding grow
grow_cells h i = same_cells (goal h - capacity h) h.cells i

module _ (slots : ℕ) (h : Heap) (g : Growing slots h) where
  pub pop_taken : (t : Next h) → TakenFrom h (pop h)
  pop_taken t =
      subst (λ (x : Given). TakenFrom h x) (sym (pop_is h t))
      (record {
        chunk_kept = refl;
        table_kept = refl;
        bytes_kept = refl;
        elements_kept = refl;
        capacity_kept = omega arith;
        cells_kept = λ i. refl;
        slot_below = next_below slots h g t;
        slot_allocated = state_same h.map t.slot Allocated (lit< tt) (next_in_map slots h g t);
        others_kept = λ s d. state_other h.map t.slot Allocated (lit< tt) s d;
      })

  grow_taken : (given : Given) → TakenFrom (grow h) given → TakenFrom h given
  unfolding grow
  grow_taken given k =
      record {
        chunk_kept = k.chunk_kept;
        table_kept = k.table_kept;
        bytes_kept = k.bytes_kept;
        elements_kept = k.elements_kept;
        capacity_kept = omega (arith, k.capacity_kept, grown_size slots h g, goal_above slots h g);
        cells_kept = λ i. k.cells_kept i ∙ grow_cells h i;
        slot_below = k.slot_below;
        slot_allocated = k.slot_allocated;
        others_kept = λ s d. k.others_kept s d ∙ grow_states h s;
      }

pub alloc_taken : (slots : ℕ) (h : Heap) → Growing slots h → Room slots h → TakenFrom h (alloc h)
alloc_taken slots h g room =
    elim (free_or_not h) [
      | next t ↦ subst (λ (x : Given). TakenFrom h x) (sym (alloc_next h t)) (pop_taken slots h g t)
      | empty none ↦
          subst (λ (x : Given). TakenFrom h x) (sym (alloc_empty h none))
          (grow_taken slots h g (pop (grow h))
          (pop_taken slots (grow h) (grow_growing slots h g none (room none)) (grow_next slots h g none (room none))))
    ]

-- ---- each Free slot once

abbrev pub one_if : Bool → ℕ
one_if b = choose b 1 0

-- how often a slot stands in the list goes by its state
abbrev pub Once : Heap → Type 0
Once h = (s : ℕ) → s < capacity h → count s h.free ≡ one_if (is_free h s)

pub once_told : (h : Heap) → free_once h ≡ true → Once h
unfolding free_once
once_told h e s small =
    eqb-true (count s h.free) (one_if (is_free h s))
    (below_all (λ s. eqb (count s h.free) (one_if (is_free h s))) (capacity h)
    (both_right (every (λ s. ltb s (capacity h)) h.free) _ e) s small)

pub once_tells : (slots : ℕ) (h : Heap) → Growing slots h → Once h → free_once h ≡ true
unfolding free_once
once_tells slots h g o =
    both_true g.free_below
    (all_below (λ s. eqb (count s h.free) (one_if (is_free h s))) (capacity h)
    (λ s small. eq-eqb (count s h.free) (one_if (is_free h s)) (o s small)))

free_by_state : (h h' : Heap) (s : ℕ) → state_of h'.map s ≡ state_of h.map s → one_if (is_free h' s) ≡ one_if (is_free h s)
unfolding is_free
free_by_state h h' s e = ap (λ (n : ℕ). one_if (eqb n Free)) e

not_free : (h : Heap) (s : ℕ) → state_of h.map s ≡ Allocated → one_if (is_free h s) ≡ 0
unfolding is_free
not_free h s e = ap (λ (n : ℕ). one_if (eqb n Free)) e

free_past : (h : Heap) (s : ℕ) → state_of h.map s ≡ Free → one_if (is_free h s) ≡ 1
unfolding is_free
free_past h s e = ap (λ (n : ℕ). one_if (eqb n Free)) e

choose_small : (b : Bool) → one_if b ≤ 1
choose_small true = omega arith
choose_small false = omega arith

nothing : (s : ℕ) → count s [] ≡ 0
unfolding basics
nothing s = refl

count_falling_out : (a n s : ℕ) → s < a → count s (reverse (rising a n)) ≡ 0
unfolding basics
count_falling_out a zero s h = refl
count_falling_out a (suc n) s h =
    ap (count s) (falling a n) ∙ count_other s (a + n) (reverse (rising a n)) (λ e. omega arith) ∙ count_falling_out a n s h

count_falling_above : (a n s : ℕ) → a + n ≤ s → count s (reverse (rising a n)) ≡ 0
unfolding basics
count_falling_above a zero s h = refl
count_falling_above a (suc n) s h =
    ap (count s) (falling a n) ∙ count_other s (a + n) (reverse (rising a n)) (λ e. omega arith)
    ∙ count_falling_above a n s (omega arith)

count_falling_in : (a n s : ℕ) → a ≤ s → s < a + n → count s (reverse (rising a n)) ≡ 1
count_falling_in a zero s h k = absurd (omega arith)
count_falling_in a (suc n) s h k =
    elim (ℕ_discrete s (a + n)) [
      | yes e ↦
          ap (count s) (falling a n) ∙ count_here s (a + n) (reverse (rising a n)) e
          ∙ ap (λ (m : ℕ). 1 + m) (count_falling_above a n s (omega arith))
      | no d ↦
          ap (count s) (falling a n) ∙ count_other s (a + n) (reverse (rising a n)) d
          ∙ count_falling_in a n s h (omega arith)
    ]

module _ (slots : ℕ) (h : Heap) (g : Growing slots h) (o : Once h) where
  -- the next slot is Free
  pub next_free : (t : Next h) → state_of h.map t.slot ≡ Free
  unfolding is_free
  next_free t =
      let e : count t.slot h.free ≡ 1 + count t.slot t.rest =
      ap (count t.slot) t.is ∙ count_here t.slot t.slot t.rest refl
      in
      chosen (eqb (state_of h.map t.slot) Free) (state_of h.map t.slot) refl
      (omega (arith, o t.slot (next_below slots h g t)))
    where
      chosen : (b : Bool) (n : ℕ) → eqb n Free ≡ b → 1 ≤ one_if b → n ≡ Free
      chosen true n e k = eqb-true n Free e
      chosen false n e k = absurd (omega arith)

  taken_once : (t : Next h) → Once (taken h t.slot t.rest)
  taken_once t s small =
      elim (ℕ_discrete s t.slot) [
        | yes e ↦
            let whole : count s h.free ≡ 1 + count s t.rest = ap (count s) t.is ∙ count_here s t.slot t.rest e in
            let none : count s t.rest ≡ 0 = omega (arith, o s small, choose_small (is_free h s)) in
            none
            ∙ sym (not_free (taken h t.slot t.rest) s
            (ap (λ (n : ℕ). state_of (set_state h.map t.slot Allocated) n) e
            ∙ state_same h.map t.slot Allocated (lit< tt) (next_in_map slots h g t)))
        | no d ↦
            sym (ap (count s) t.is ∙ count_other s t.slot t.rest d) ∙ o s small
            ∙ sym (free_by_state h (taken h t.slot t.rest) s (state_other h.map t.slot Allocated (lit< tt) s d))
      ]

  pub pop_once : (t : Next h) → Once (pop h).heap
  pop_once t = subst (λ (x : Given). Once x.heap) (sym (pop_is h t)) (taken_once t)

  pub grow_once : h.free ≡ [] → goal h ≤ slots → Once (grow h)
  grow_once none fits s small =
      ap (count s) (grown_free slots h g none fits)
      ∙ elim (dec_lt s (capacity h)) [
        | yes low ↦
            count_falling_out (capacity h) (goal h - capacity h) s low ∙ sym (ap (count s) none ∙ nothing s) ∙ o s low
            ∙ sym (free_by_state h (grow h) s (grow_states h s))
        | no high ↦
            count_falling_in (capacity h) (goal h - capacity h) s (omega arith)
            (omega (arith, grown_size slots h g, goal_above slots h g))
            ∙ sym (free_past (grow h) s (grow_states h s ∙ state_past h.map s (omega (arith, g.map-size))))
      ]

-- the rules' clause, kept by allocating
pub alloc_free_once : (slots : ℕ) (h : Heap) → Growing slots h → Room slots h → free_once h ≡ true → free_once (alloc h).heap ≡ true
alloc_free_once slots h g room e =
    once_tells slots (alloc h).heap (alloc_growing slots h g room)
    (elim (free_or_not h) [
      | next t ↦ subst (λ (x : Given). Once x.heap) (sym (alloc_next h t)) (pop_once slots h g (once_told h e) t)
      | empty none ↦
          subst (λ (x : Given). Once x.heap) (sym (alloc_empty h none))
          (pop_once slots (grow h) (grow_growing slots h g none (room none)) (grow_once slots h g (once_told h e) none (room none))
          (grow_next slots h g none (room none)))
    ])

-- the slot was Free, and so not in use
pub alloc_was_free : (slots : ℕ) (h : Heap) → Growing slots h → Room slots h → free_once h ≡ true → state_of h.map (alloc h).slot ≡ Free
alloc_was_free slots h g room e =
    elim (free_or_not h) [
      | next t ↦
          ap (λ (x : Given). state_of h.map x.slot) (alloc_next h t ∙ pop_is h t) ∙ next_free slots h g (once_told h e) t
      | empty none ↦
          let t = grow_next slots h g none (room none) in
          ap (λ (x : Given). state_of h.map x.slot) (alloc_empty h none ∙ pop_is (grow h) t)
          ∙ state_past h.map t.slot (omega (arith, g.map-size, grown_above slots h g none (room none)))
    ]

pub alloc_unused : (slots : ℕ) (h : Heap) → Growing slots h → Room slots h → free_once h ≡ true → in_use h (alloc h).slot ≡ false
unfolding is_allocated
alloc_unused slots h g room e =
    ap (λ (n : ℕ). both (ltb (alloc h).slot (capacity h)) (eqb n Allocated)) (alloc_was_free slots h g room e)
    ∙ both_false (ltb (alloc h).slot (capacity h))

-- ---- the other clauses on states, kept by allocating

module _ (slots : ℕ) (h : Heap) (g : Growing slots h) (room : Room slots h) where
  abbrev after : Heap
  after = (alloc h).heap

  kept : TakenFrom h (alloc h)
  kept = alloc_taken slots h g room

  -- a state past the old capacity is Free
  free_above : (s : ℕ) → capacity h ≤ s → state_of h.map s ≡ Free
  free_above s high = state_past h.map s (omega (arith, g.map-size))

  pub alloc_states : states_settled h ≡ true → states_settled after ≡ true
  unfolding states_settled is_free is_allocated
  alloc_states e =
      all_below (λ s. either (is_free after s) (is_allocated after.map s)) (capacity after)
      (λ s small.
      elim (ℕ_discrete s (alloc h).slot) [
        | yes here ↦
            either_right (is_free after s)
            (eq-eqb (state_of after.map s) Allocated (ap (state_of after.map) here ∙ kept.slot_allocated))
        | no d ↦
            ap (λ (n : ℕ). either (eqb n Free) (eqb n Allocated)) (kept.others_kept s d)
            ∙ elim (dec_lt s (capacity h)) [
              | yes low ↦ below_all (λ s. either (is_free h s) (is_allocated h.map s)) (capacity h) e s low
              | no high ↦ ap (λ (n : ℕ). either (eqb n Free) (eqb n Allocated)) (free_above s (omega arith))
            ]
      ])

  pub alloc_undefined : free_undefined h ≡ true → free_undefined after ≡ true
  unfolding free_undefined is_free is_undefined
  alloc_undefined e =
      all_below (λ s. either (not (is_free after s)) (is_undefined (cell_at after s))) (capacity after)
      (λ s small.
      elim (ℕ_discrete s (alloc h).slot) [
        | yes here ↦
            ap (λ (n : ℕ). either (not (eqb n Free)) (is_undefined (cell_at after s)))
            (ap (state_of after.map) here ∙ kept.slot_allocated)
        | no d ↦
            (λ i. either (not (eqb (kept.others_kept s d i) Free)) (is_undefined (kept.cells_kept s i)))
            ∙ elim (dec_lt s (capacity h)) [
              | yes low ↦ below_all (λ s. either (not (is_free h s)) (is_undefined (cell_at h s))) (capacity h) e s low
              | no high ↦
                  either_right (not (eqb (state_of h.map s) Free))
                  (ap is_undefined (get_or-eq_default h.cells (plain undefined) (omega arith)))
            ]
      ])

  -- the slot given holds Undefined
  pub alloc_empty_cell : free_once h ≡ true → free_undefined h ≡ true → is_undefined (cell_at after (alloc h).slot) ≡ true
  unfolding free_undefined is_free is_undefined
  alloc_empty_cell o e =
      ap is_undefined (kept.cells_kept (alloc h).slot)
      ∙ elim (dec_lt (alloc h).slot (capacity h)) [
        | yes low ↦
            sym (ap (λ (n : ℕ). either (not (eqb n Free)) (is_undefined (cell_at h (alloc h).slot))) (alloc_was_free slots h g room o))
            ∙ below_all (λ s. either (not (is_free h s)) (is_undefined (cell_at h s))) (capacity h) e (alloc h).slot low
        | no high ↦ ap is_undefined (get_or-eq_default h.cells (plain undefined) (omega arith))
      ]

  grow_capacity : h.free ≡ [] → capacity_grown h ≡ true → capacity_grown (grow h) ≡ true
  unfolding capacity_grown grow
  grow_capacity none e =
      ap (λ (n : ℕ). reaches most_growths h.chunk n h.chunk) (grown_size slots h g)
      ∙ reaches_grown h.chunk (capacity h) g.chunk_least (omega (arith, room none, g.slots_small)) e

  pub alloc_capacity : capacity_grown h ≡ true → capacity_grown after ≡ true
  unfolding capacity_grown
  alloc_capacity e =
      elim (free_or_not h) [
        | next t ↦ ap (λ (x : Given). capacity_grown x.heap) (alloc_next h t ∙ pop_is h t) ∙ e
        | empty none ↦
            ap (λ (x : Given). capacity_grown x.heap) (alloc_empty h none ∙ pop_is (grow h) (grow_next slots h g none (room none)))
            ∙ grow_capacity none e
      ]
