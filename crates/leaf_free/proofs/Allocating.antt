-- Allocating: a heap that can grow or has a free slot gives one by the code as by the rules, takes one slot of those that
-- can still be taken, and stays such a heap. Document 01, "Slots and growth", and No. 16. Assumes nothing.
use mathlib.Core.Path.{◌≡◌, refl, sym, ap, ◌∙◌, subst}
use mathlib.Core.Bool.{true}
use mathlib.Core.List.{List, [], ◌∷◌, ◌++◌, reverse, append-nil}
use Prim.Native.Nat.{ℕ, suc, ◌+◌, ◌-◌, ◌/◌, ◌%◌, ◌≤◌, ◌<◌}
use native.Mathlib.Omega.{arith}
use native.Mathlib.Decide.{dec_le}
use borrow.Author.Tests.{ltb-true, eqb-true}
use lib.Dec.{eqb, ltb}
use lib.ListN.{length, length-append, length-reverse, length-replicate}
use Rattle.laws.specs.Basics.{every, rising, zeros, basics}
use Rattle.laws.proofs.Tests.{both_left, both_right}
use Rattle.laws.proofs.Lists.{length-zeros, length-rising}
use Rattle.laws.proofs.Zeros.{falling, falling_below}
use Rattle.rules.specs.Map.{set_state, state_of, Allocated, Free}
use Rattle.rules.specs.Cells.{plain, undefined}
use Rattle.rules.specs.Heap.{Heap, Given, capacity, free_count, used_count, fitting, most_growths, grow, pop, alloc}
use Rattle.rules.specs.Layout.{words_of, map_bytes, filled}
use Rattle.rules.proofs.LentLaws.{words_length, filled_length, filled_zeros}
use Rattle.rules.proofs.TwoBits.{set-state-length, state_past}
use Rattle.leaf_free.specs.FreeList.{count_of, grown_words, popped, top, ready, CanGrow, CanPop, CanAlloc, Popped}
use Rattle.rules.proofs.Growth.{Whole, grown_whole, rises, fitting_end, fitting_grown, fitting_least, fours}
use Rattle.leaf_free.proofs.Steps.{ready_empty, ready_already}
use Rattle.leaf_free.proofs.FreeWords.{goal, chunk_word, capacity_word, count_word, goal_word, grow_words, top_word, pop_words}
use Rattle.leaf_free.proofs.FreeMap.{filled_state}

-- a heap within the lent slots that growth came to, with a free list of slots below its capacity
pub record Growing (slots : ℕ) (h : Heap) : Type 0 where
  pub slots_small : slots ≤ 4096
  pub chunk_least : 4 ≤ h.chunk
  pub chunk_fours : h.chunk % 4 ≡ 0
  pub chunk_within : h.chunk ≤ slots
  pub whole : Whole h.chunk (capacity h)
  pub some : 0 < capacity h
  pub within : capacity h ≤ slots
  pub map-size : length h.map ≡ capacity h / 4
  pub free_size : length h.free ≤ capacity h
  pub free_below : every (λ s. ltb s (capacity h)) h.free ≡ true

-- "If the grown size exceeds the lent slots it does not grow": where the list is empty, growth fits
abbrev pub Room : ℕ → Heap → Type 0
Room slots h = h.free ≡ [] → goal h ≤ slots

-- the slots that can still be taken: "the free ones plus all growth that fits"
abbrev pub available : ℕ → Heap → ℕ
available slots h = free_count h + (fitting most_growths h.chunk slots (capacity h) - capacity h)

-- the next slot of a list that is not empty
pub record Next (h : Heap) : Type 0 where
  pub slot : ℕ
  pub rest : List ℕ
  pub is : h.free ≡ slot ∷ rest

-- either there is one or the list is empty
pub data Filled (h : Heap) : Type 0 where
  next : Next h → Filled h
  empty : h.free ≡ [] → Filled h

filled_by : (h : Heap) (l : List ℕ) → h.free ≡ l → Filled h
filled_by h [] e = empty e
filled_by h (s ∷ rest) e = next (record { slot = s; rest = rest; is = e })

pub free_or_not : (h : Heap) → Filled h
free_or_not h = filled_by h h.free refl

-- the lent map holds the heap's
pub lent_map_length : (slots : ℕ) (h : Heap) → Growing slots h → length (filled (map_bytes slots) h.map) ≡ map_bytes slots
unfolding map_bytes
lent_map_length slots h g = filled_length ((slots + 3) / 4) h.map (omega (arith, g.map-size, g.within))

-- ---- growth

module _ (slots : ℕ) (h : Heap) (g : Growing slots h) where
  positive : 0 < h.chunk
  positive = omega (arith, g.chunk_least)

  -- a size that is not 0 grows
  pub goal_above : capacity h < goal h
  goal_above = rises h.chunk (capacity h) positive g.some g.whole

  pub grown_size : capacity (grow h) ≡ goal h
  unfolding grow
  grown_size =
      length-append h.cells _
      ∙ (let e : capacity h + (goal h - capacity h) ≡ goal h = omega (arith, goal_above) in
      ap (λ (n : ℕ). capacity h + n) (length-replicate (goal h - capacity h) (plain undefined)) ∙ e)

  new_fours : (goal h - capacity h) % 4 ≡ 0
  new_fours =
      omega (
        arith,
        fours h.chunk (capacity h) g.chunk_fours g.whole,
        fours h.chunk (goal h) g.chunk_fours (grown_whole h.chunk (capacity h)),
      )

  capacity_fours : capacity h % 4 ≡ 0
  capacity_fours = fours h.chunk (capacity h) g.chunk_fours g.whole

  -- growing changes no byte of the lent map
  pub grow_map : goal h ≤ slots → filled (map_bytes slots) (grow h).map ≡ filled (map_bytes slots) h.map
  unfolding grow map_bytes
  grow_map fits =
      filled_zeros ((slots + 3) / 4) h.map ((goal h - capacity h) / 4)
      (omega (arith, g.map-size, goal_above, new_fours, capacity_fours))

  module _ (none : h.free ≡ []) (fits : goal h ≤ slots) where
    abbrev new : ℕ
    new = goal h - capacity h

    pub grown_free : (grow h).free ≡ reverse (rising (capacity h) new)
    unfolding grow
    grown_free = ap (λ (l : List ℕ). reverse (rising (capacity h) new) ++ l) none ∙ append-nil (reverse (rising (capacity h) new))

    grown_count : length (grow h).free ≡ new
    grown_count = ap length grown_free ∙ length-reverse (rising (capacity h) new) ∙ length-rising (capacity h) new

    pub grow_growing : Growing slots (grow h)
    unfolding grow
    grow_growing =
        record {
          slots_small = g.slots_small;
          chunk_least = g.chunk_least;
          chunk_fours = g.chunk_fours;
          chunk_within = g.chunk_within;
          whole = subst (λ (n : ℕ). Whole h.chunk n) (sym grown_size) (grown_whole h.chunk (capacity h));
          some = omega (arith, grown_size, goal_above);
          within = omega (arith, grown_size);
          map-size =
              length-append h.map (zeros (new / 4))
              ∙ (let e : length h.map + new / 4 ≡ goal h / 4 = omega (arith, g.map-size, goal_above, new_fours, capacity_fours) in
              ap (λ (n : ℕ). length h.map + n) (length-zeros (new / 4)) ∙ e ∙ ap (λ (n : ℕ). n / 4) (sym grown_size));
          free_size = omega (arith, grown_count, grown_size);
          free_below =
              ap (every (λ s. ltb s (capacity (grow h)))) grown_free
              ∙ falling_below (capacity h) new (capacity (grow h)) (omega (arith, grown_size, goal_above));
        }

    -- the highest new slot is the next
    pub grow_next : Next (grow h)
    grow_next =
        let n = new - 1 in
        let e : new ≡ suc n = omega (arith, goal_above) in
        record {
          slot = capacity h + n;
          rest = reverse (rising (capacity h) n);
          is = grown_free ∙ ap (λ (m : ℕ). reverse (rising (capacity h) m)) e ∙ falling (capacity h) n;
        }

    -- it was past the capacity
    pub grown_above : capacity h ≤ grow_next.slot
    unfolding grow_next
    grown_above = omega arith

    pub grow_ready : grown_words (words_of slots h) ≡ words_of slots (grow h)
    grow_ready = grow_words slots h (omega (arith, goal_above)) (omega (arith, ap length none, g.within))

-- ---- taking a slot off

-- the heap after the slot was taken
abbrev pub taken : Heap → ℕ → List ℕ → Heap
taken h s rest =
    record {
      chunk = h.chunk;
      cells = h.cells;
      map = set_state h.map s Allocated;
      free = rest;
      table = h.table;
      bytes = h.bytes;
      elements = h.elements;
    }

abbrev pop_by : Heap → List ℕ → Given
pop_by h l = elim l [ [] ↦ record { slot = 0; heap = h } | s ∷ rest ↦ record { slot = s; heap = taken h s rest } ]

pub pop_is : (h : Heap) (t : Next h) → pop h ≡ record { slot = t.slot; heap = taken h t.slot t.rest }
unfolding pop
pop_is h t = ap (pop_by h) t.is

-- what the code leaves is what the rules say
pub record GivenBy (slots : ℕ) (given : Given) (slot : ℕ) (ws map : List ℕ) : Type 0 where
  pub slot_given : slot ≡ given.slot
  pub words_given : ws ≡ words_of slots given.heap
  pub map-given : map ≡ filled (map_bytes slots) given.heap.map

module _ (slots : ℕ) (h : Heap) (g : Growing slots h) (t : Next h) where
  listed : length h.free ≤ slots
  listed = omega (arith, g.free_size, g.within)

  next_and_rest : every (λ s. ltb s (capacity h)) (t.slot ∷ t.rest) ≡ true
  next_and_rest = ap (every (λ s. ltb s (capacity h))) (sym t.is) ∙ g.free_below

  pub next_below : t.slot < capacity h
  unfolding basics
  next_below = ltb-true t.slot (capacity h) (both_left (ltb t.slot (capacity h)) _ next_and_rest)

  rest_below : every (λ s. ltb s (capacity h)) t.rest ≡ true
  unfolding basics
  rest_below = both_right (ltb t.slot (capacity h)) _ next_and_rest

  rest_size : length h.free ≡ suc (length t.rest)
  rest_size = ap length t.is

  pub next_in_map : t.slot / 4 < length h.map
  next_in_map = omega (arith, g.map-size, next_below, capacity_fours slots h g)

  pub can_pop : CanPop (words_of slots h) (filled (map_bytes slots) h.map)
  unfolding map_bytes
  can_pop =
      record {
        some = omega (arith, count_word slots h, rest_size);
        row = omega (arith, count_word slots h, rest_size, listed, words_length slots h);
        state = omega (arith, top_word slots h t.slot t.rest t.is listed, lent_map_length slots h g, next_below, g.within);
      }

  pub pop_given : (ws map : List ℕ) (slot : ℕ) (ws' map' : List ℕ) → ws ≡ words_of slots h → map ≡ filled (map_bytes slots) h.map → Popped ws map slot ws' map' → GivenBy slots (pop h) slot ws' map'
  unfolding words_of
  pop_given ws map slot ws' map' e m p =
      let top_is : top ws ≡ t.slot = ap top e ∙ top_word slots h t.slot t.rest t.is listed in
      record {
        slot_given = p.slot_taken ∙ top_is ∙ ap (λ (x : Given). x.slot) (sym (pop_is h t));
        words_given =
            p.words_left ∙ ap popped e ∙ pop_words slots h t.slot t.rest t.is listed
            ∙ ap (λ (x : Given). words_of slots x.heap) (sym (pop_is h t));
        map-given =
            p.map_left ∙ (λ i. set_state (m i) (top_is i) Allocated)
            ∙ filled_state (map_bytes slots) h.map t.slot Allocated next_in_map
            ∙ ap (λ (x : Given). filled (map_bytes slots) x.heap.map) (sym (pop_is h t));
      }

  taken_growing : Growing slots (taken h t.slot t.rest)
  taken_growing =
      record {
        slots_small = g.slots_small;
        chunk_least = g.chunk_least;
        chunk_fours = g.chunk_fours;
        chunk_within = g.chunk_within;
        whole = g.whole;
        some = g.some;
        within = g.within;
        map-size = set-state-length h.map t.slot Allocated ∙ g.map-size;
        free_size = omega (arith, rest_size, g.free_size);
        free_below = rest_below;
      }

  pub pop_growing : Growing slots (pop h).heap
  pop_growing = subst (λ (x : Given). Growing slots x.heap) (sym (pop_is h t)) taken_growing

  -- one slot more is used, and one less can be taken
  pub pop_used : used_count (pop h).heap ≡ used_count h + 1
  pop_used =
      ap (λ (x : Given). used_count x.heap) (pop_is h t) ∙ omega (arith, rest_size, g.free_size)

  pub pop_available : available slots (pop h).heap + 1 ≡ available slots h
  pop_available =
      ap (λ (x : Given). available slots x.heap + 1) (pop_is h t) ∙ omega (arith, rest_size)

-- ---- allocating

-- the heap that the slot is taken from
abbrev prepared_by : Heap → List ℕ → Heap
prepared_by h l = elim l [ [] ↦ grow h | s ∷ rest ↦ h ]

pub alloc_next : (h : Heap) → Next h → alloc h ≡ pop h
unfolding alloc
alloc_next h t = ap (λ (l : List ℕ). pop (prepared_by h l)) t.is

pub alloc_empty : (h : Heap) → h.free ≡ [] → alloc h ≡ pop (grow h)
unfolding alloc
alloc_empty h e = ap (λ (l : List ℕ). pop (prepared_by h l)) e

module _ (slots : ℕ) (h : Heap) (g : Growing slots h) (room : Room slots h) where
  can_grow : h.free ≡ [] → CanGrow (words_of slots h)
  can_grow none =
      record {
        header = omega (arith, words_length slots h);
        chunk_positive = omega (arith, chunk_word slots h, g.chunk_least);
        chunk_small = omega (arith, chunk_word slots h, g.chunk_within, g.slots_small);
        capacity_small = omega (arith, capacity_word slots h, g.within, g.slots_small);
        rows = omega (arith, words_length slots h, count_word slots h, ap length none, goal_word slots h, capacity_word slots h, room none);
      }

  no_free : count_of (words_of slots h) ≡ 0 → h.free ≡ []
  no_free e =
      elim (free_or_not h) [
        | next t ↦ absurd (omega (arith, count_word slots h, ap length t.is))
        | empty none ↦ none
      ]

  pub can_alloc : CanAlloc (words_of slots h) (filled (map_bytes slots) h.map)
  can_alloc =
      record {
        header = omega (arith, words_length slots h);
        grows = λ e. can_grow (no_free e);
        pops =
            elim (free_or_not h) [
              | next t ↦
                  subst (λ (ws : List ℕ). CanPop ws (filled (map_bytes slots) h.map))
                  (sym (ready_already (words_of slots h) (λ e. omega (arith, count_word slots h, ap length t.is))))
                  (can_pop slots h g t)
              | empty none ↦
                  subst (λ (ws : List ℕ). CanPop ws (filled (map_bytes slots) h.map))
                  (sym (ready_empty (words_of slots h) (count_word slots h ∙ ap length none) ∙ grow_ready slots h g none (room none)))
                  (subst (λ (m : List ℕ). CanPop (words_of slots (grow h)) m) (grow_map slots h g (room none))
                  (can_pop slots (grow h) (grow_growing slots h g none (room none)) (grow_next slots h g none (room none))))
            ];
      }

  -- the code's alloc is the rules'
  pub alloc_given : (ws map : List ℕ) (slot : ℕ) (ws' map' : List ℕ) → ws ≡ words_of slots h → map ≡ filled (map_bytes slots) h.map → Popped (ready ws) map slot ws' map' → GivenBy slots (alloc h) slot ws' map'
  alloc_given ws map slot ws' map' e m p =
      elim (free_or_not h) [
        | next t ↦
            subst (λ (x : Given). GivenBy slots x slot ws' map') (sym (alloc_next h t))
            (pop_given slots h g t (ready ws) map slot ws' map'
            (ap ready e ∙ ready_already (words_of slots h) (λ q. omega (arith, count_word slots h, ap length t.is))) m p)
        | empty none ↦
            subst (λ (x : Given). GivenBy slots x slot ws' map') (sym (alloc_empty h none))
            (pop_given slots (grow h) (grow_growing slots h g none (room none)) (grow_next slots h g none (room none)) (ready ws) map slot
            ws' map'
            (ap ready e ∙ ready_empty (words_of slots h) (count_word slots h ∙ ap length none) ∙ grow_ready slots h g none (room none))
            (m ∙ sym (grow_map slots h g (room none))) p)
      ]

  pub alloc_growing : Growing slots (alloc h).heap
  alloc_growing =
      elim (free_or_not h) [
        | next t ↦ subst (λ (x : Given). Growing slots x.heap) (sym (alloc_next h t)) (pop_growing slots h g t)
        | empty none ↦
            subst (λ (x : Given). Growing slots x.heap) (sym (alloc_empty h none))
            (pop_growing slots (grow h) (grow_growing slots h g none (room none)) (grow_next slots h g none (room none)))
      ]

  -- growing uses no slot
  grow_used : h.free ≡ [] → used_count (grow h) ≡ used_count h
  grow_used none =
      omega (arith, grown_size slots h g, grown_count slots h g none (room none), goal_above slots h g, ap length none)

  pub alloc_used : used_count (alloc h).heap ≡ used_count h + 1
  alloc_used =
      elim (free_or_not h) [
        | next t ↦ ap (λ (x : Given). used_count x.heap) (alloc_next h t) ∙ pop_used slots h g t
        | empty none ↦
            ap (λ (x : Given). used_count x.heap) (alloc_empty h none)
            ∙ pop_used slots (grow h) (grow_growing slots h g none (room none)) (grow_next slots h g none (room none))
            ∙ ap (λ (n : ℕ). n + 1) (grow_used none)
      ]

  -- growing leaves as many slots to take
  grow_available : h.free ≡ [] → available slots (grow h) ≡ available slots h
  unfolding grow
  grow_available none =
      let same : fitting most_growths h.chunk slots (capacity (grow h)) ≡ fitting most_growths h.chunk slots (capacity h) =
      ap (fitting most_growths h.chunk slots) (grown_size slots h g)
      ∙ fitting_grown h.chunk slots (capacity h) g.chunk_least g.slots_small g.some g.whole (room none)
      in
      let least : capacity (grow h) ≤ fitting most_growths h.chunk slots (capacity (grow h)) =
      fitting_least most_growths h.chunk slots (capacity (grow h)) (positive slots h g)
      (grow_growing slots h g none (room none)).whole
      in
      omega (
        arith,
        grown_count slots h g none (room none),
        grown_size slots h g,
        goal_above slots h g,
        ap length none,
      )

  pub alloc_available : available slots (alloc h).heap + 1 ≡ available slots h
  alloc_available =
      elim (free_or_not h) [
        | next t ↦ ap (λ (x : Given). available slots x.heap + 1) (alloc_next h t) ∙ pop_available slots h g t
        | empty none ↦
            ap (λ (x : Given). available slots x.heap + 1) (alloc_empty h none)
            ∙ pop_available slots (grow h) (grow_growing slots h g none (room none)) (grow_next slots h g none (room none))
            ∙ grow_available none
      ]

-- while a slot can be taken, growth fits where it is needed
pub room : (slots : ℕ) (h : Heap) → Growing slots h → 0 < available slots h → Room slots h
room slots h g some none =
    elim (dec_le (goal h) slots) [
      | yes l ↦ l
      | no l ↦
          absurd
          (omega (arith, fitting_end h.chunk slots (capacity h) most_growths (omega arith), ap length none))
    ]

-- a slot is free before it is given, if the list holds Free slots only
pub alloc_fresh : (slots : ℕ) (h : Heap) → Growing slots h → Room slots h → every (λ s. eqb (state_of h.map s) Free) h.free ≡ true → state_of h.map (alloc h).slot ≡ Free
unfolding basics
alloc_fresh slots h g r all =
    elim (free_or_not h) [
      | next t ↦
          ap (λ (x : Given). state_of h.map x.slot) (alloc_next h t ∙ pop_is h t)
          ∙ eqb-true (state_of h.map t.slot) Free
          (both_left (eqb (state_of h.map t.slot) Free) _
          (ap (every (λ s. eqb (state_of h.map s) Free)) (sym t.is) ∙ all))
      | empty none ↦
          let t = grow_next slots h g none (r none) in
          ap (λ (x : Given). state_of h.map x.slot) (alloc_empty h none ∙ pop_is (grow h) t)
          ∙ state_past h.map t.slot (omega (arith, g.map-size, grown_above slots h g none (r none)))
    ]
