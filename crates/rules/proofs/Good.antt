-- Soundness of a heap, pointwise: what `heap_sound` tests, said of every slot, cell, element and entry. Nothing here has a
-- bound: past the capacity a slot is Free and shows Undefined, and past the room an element is Undefined. "Growth reaches
-- the capacity" is said with no bound on the steps, so that allocating keeps it; within 4,096 slots the two are the same.
-- Document 01, "A heap is sound when". Assumes nothing.
use mathlib.Core.Path.{◌≡◌, refl, sym, ap, ◌∙◌}
use mathlib.Core.Bool.{Bool, true, false, not}
use mathlib.Core.List.{List, [], ◌∷◌, ◌++◌, map}
use mathlib.Core.Logic.{⊎_elim}
use Prim.Native.Nat.{ℕ, zero, suc, ◌+◌, ◌-◌, ◌/◌, ◌%◌, ◌≤◌, ◌<◌}
use native.Mathlib.Omega.{arith}
use native.Mathlib.Decide.{dec_lt, ℕ_discrete}
use borrow.Author.Tests.{ltb-true, leb-true, eqb-true, lt-ltb, le-leb, eq-eqb, ne_eqb}
use lib.Dec.{eqb, leb, ltb}
use lib.ListN.{length, get_or, length-map, length-append, get_or-eq_default}
use Rattle.laws.specs.Basics.{choose, either, every, count, basics}
use Rattle.laws.proofs.Tests.{true≢false, both_left, both_right, both_true, either_cases, either_left, either_right, below_all, all_below, every_append, is_true}
use Rattle.laws.proofs.Sums.{sum_below, length-by-count}
use Rattle.laws.proofs.Pointwise.{every_all, all_every, every_at, count_past, count_here, count_other, count_append, past_count, get_d_part, length_part}
use Rattle.rules.specs.Map.{state_of, is_allocated, map_rules}
use Rattle.rules.specs.Cells.{undefined, nil, eof, void, bool, char, number, Value, scalar, Block, block, Cell, plain, pair, symbol, string, vector}
use Rattle.rules.specs.Heap.{Heap, Entry, capacity, cell_at, in_use, elements_of, most_growths}
use Rattle.rules.specs.Layout.{entry_at}
use Rattle.rules.specs.Sound.{value_allowed, cell_allowed, cells_allowed, capacity_grown, is_free, states_settled, free_once, is_undefined, free_undefined, value_named, named_in_use, names_in_use, text_block, vector_block, lies_in, same_or_disjoint, blocks_sound, entry_sound, entries_differ, heap_sound, sound_rules}
use Rattle.rules.specs.Calls.{cell_in_use, call_rules}
use Rattle.rules.proofs.TwoBits.{state_past}
use Rattle.rules.proofs.Growth.{Reached, reached_first, reached_whole, reached_least, reached_reaches, reaches_reached, fours}

-- ---- the record

abbrev pub element_at : Heap → ℕ → Value
element_at h k = get_or h.elements k (scalar undefined)

-- two blocks of one arena: one is empty, or they are the same or disjoint
unfoldable pub apart : Block → Block → Bool
unfolding sound_rules
apart a b = either (eqb a.size 0) (either (eqb b.size 0) (same_or_disjoint a b))

-- the cell keeps 11's rules, names slots in use, and its block lies in the room in use, an empty one at place 0
pub record CellGood (h : Heap) (c : Cell) : Type 0 where
  pub allowed : cell_allowed h c ≡ true
  pub linked : cell_in_use h c ≡ true
  pub held : (k : ℕ) → (vector_block c).place ≤ k → k < (vector_block c).place + (vector_block c).size → value_named h (element_at h k) ≡ true
  pub text_in : lies_in (length h.bytes) (text_block c) ≡ true
  pub vector_in : lies_in (length h.elements) (vector_block c) ≡ true

pub record Good (h : Heap) : Type 0 where
  pub chunk_least : 4 ≤ h.chunk
  pub chunk_fours : h.chunk % 4 ≡ 0
  pub growth : Reached h.chunk (capacity h)
  pub map-size : length h.map ≡ capacity h / 4
  -- a slot is Allocated, or Free and on the list once
  pub once : (s : ℕ) → s < capacity h → count s h.free + state_of h.map s ≡ 1
  pub past : (s : ℕ) → capacity h ≤ s → count s h.free ≡ 0
  pub empty : (s : ℕ) → state_of h.map s ≡ 0 → cell_at h s ≡ plain undefined
  pub cells : (s : ℕ) → CellGood h (cell_at h s)
  pub texts : (s t : ℕ) → apart (text_block (cell_at h s)) (text_block (cell_at h t)) ≡ true
  pub vectors : (s t : ℕ) → apart (vector_block (cell_at h s)) (vector_block (cell_at h t)) ≡ true
  pub elements : (k : ℕ) → value_allowed (element_at h k) ≡ true
  pub entries : (i : ℕ) → i < length h.table → entry_sound h (entry_at h i) ≡ true
  pub differ : (i j : ℕ) → i < j → j < length h.table → entries_differ h (entry_at h i) (entry_at h j) ≡ true

-- ---- slots in use

-- the test as its two facts
pub record UsedSlot (h : Heap) (s : ℕ) : Type 0 where
  pub below : s < capacity h
  pub state : state_of h.map s ≡ 1

pub used_slot : (h : Heap) (s : ℕ) → in_use h s ≡ true → UsedSlot h s
unfolding map_rules
used_slot h s e =
    record {
      below = ltb-true s (capacity h) (both_left (ltb s (capacity h)) _ e);
      state = eqb-true (state_of h.map s) 1 (both_right (ltb s (capacity h)) _ e);
    }

pub slot_used : (h : Heap) (s : ℕ) → s < capacity h → state_of h.map s ≡ 1 → in_use h s ≡ true
unfolding map_rules
slot_used h s l e = both_true (lt-ltb s (capacity h) l) (eq-eqb (state_of h.map s) 1 e)

module _ (h : Heap) (g : Good h) where
  pub chunk_positive : 0 < h.chunk
  chunk_positive = omega (arith, g.chunk_least)

  pub capacity_fours : capacity h % 4 ≡ 0
  capacity_fours = fours h.chunk (capacity h) g.chunk_fours (reached_whole h.chunk (capacity h) chunk_positive g.growth)

  pub capacity_positive : 0 < capacity h
  capacity_positive = omega (arith, reached_least h.chunk (capacity h) chunk_positive g.growth, g.chunk_least)

  -- no slot past the capacity is in use
  pub free_past : (s : ℕ) → capacity h ≤ s → state_of h.map s ≡ 0
  free_past s l = state_past h.map s (omega (arith, g.map-size, capacity_fours))

  -- "no state is Used or 3"
  pub settled : (s : ℕ) → state_of h.map s ≤ 1
  settled s =
      elim (dec_lt s (capacity h)) [
        | yes l ↦ omega (arith, g.once s l)
        | no l ↦ omega (arith, free_past s (omega arith))
      ]

  pub used_below : (s : ℕ) → state_of h.map s ≡ 1 → s < capacity h
  used_below s e =
      elim (dec_lt s (capacity h)) [ yes l ↦ l | no l ↦ absurd (omega (arith, free_past s (omega arith))) ]

  -- a slot that is not in use is Free, and shows Undefined
  pub not_used : (s : ℕ) → in_use h s ≡ false → state_of h.map s ≡ 0
  not_used s e =
      elim (ℕ_discrete (state_of h.map s) 1) [
        | yes q ↦ absurd (true≢false (sym (slot_used h s (used_below s q) q) ∙ e))
        | no n ↦ omega (arith, settled s)
      ]

  pub unused : (s : ℕ) → state_of h.map s ≡ 0 → in_use h s ≡ false
  unused s e = by (in_use h s) refl
    where
      by : (b : Bool) → in_use h s ≡ b → in_use h s ≡ false
      by true q = absurd (omega (arith, (used_slot h s q).state))
      by false q = q

-- ---- from the tests

vector_held : (h : Heap) (b : Block) → lies_in (length h.elements) b ≡ true → every (value_named h) (elements_of h b) ≡ true → (k : ℕ) → b.place ≤ k → k < b.place + b.size → value_named h (element_at h k) ≡ true
unfolding sound_rules
vector_held h b l e k low high =
    let room = leb-true (b.place + b.size) (length h.elements) (both_left (leb (b.place + b.size) (length h.elements)) _ l) in
    let i = k - b.place in
    let there : b.place + i ≡ k = omega arith in
    let size = length_part h.elements b.place b.size room in
    ap (λ (x : ℕ). value_named h (element_at h x)) (sym there)
    ∙ ap (value_named h) (sym (get_d_part h.elements b.place b.size i (scalar undefined) (omega arith)))
    ∙ every_all (value_named h) (scalar undefined) (elements_of h b) e i (omega arith)

held_vector : (h : Heap) (b : Block) → lies_in (length h.elements) b ≡ true → ((k : ℕ) → b.place ≤ k → k < b.place + b.size → value_named h (element_at h k) ≡ true) → every (value_named h) (elements_of h b) ≡ true
unfolding sound_rules
held_vector h b l p =
    let room = leb-true (b.place + b.size) (length h.elements) (both_left (leb (b.place + b.size) (length h.elements)) _ l) in
    let size = length_part h.elements b.place b.size room in
    all_every (value_named h) (scalar undefined) (elements_of h b)
    (λ i small.
    ap (value_named h) (get_d_part h.elements b.place b.size i (scalar undefined) (omega arith))
    ∙ p (b.place + i) (omega arith) (omega arith))

cell_held : (h : Heap) (c : Cell) → named_in_use h c ≡ true → lies_in (length h.elements) (vector_block c) ≡ true → (k : ℕ) → (vector_block c).place ≤ k → k < (vector_block c).place + (vector_block c).size → value_named h (element_at h k) ≡ true
unfolding sound_rules
cell_held h (plain s) e l k low high = absurd (omega arith)
cell_held h (pair a d) e l k low high = absurd (omega arith)
cell_held h (symbol b) e l k low high = absurd (omega arith)
cell_held h (string b) e l k low high = absurd (omega arith)
cell_held h (vector b) e l k low high = vector_held h b l e k low high

cell_linked : (h : Heap) (c : Cell) → named_in_use h c ≡ true → cell_in_use h c ≡ true
unfolding sound_rules call_rules
cell_linked h (plain s) e = refl
cell_linked h (pair a d) e = e
cell_linked h (symbol b) e = refl
cell_linked h (string b) e = refl
cell_linked h (vector b) e = refl

cell_named : (h : Heap) (c : Cell) → CellGood h c → named_in_use h c ≡ true
unfolding sound_rules call_rules
cell_named h (plain s) g = refl
cell_named h (pair a d) g = g.linked
cell_named h (symbol b) g = refl
cell_named h (string b) g = refl
cell_named h (vector b) g = held_vector h b g.vector_in g.held

is_undefined_cell : (c : Cell) → is_undefined c ≡ true → c ≡ plain undefined
unfolding sound_rules
is_undefined_cell (plain undefined) e = refl
is_undefined_cell (plain nil) e = absurd (true≢false (sym e))
is_undefined_cell (plain eof) e = absurd (true≢false (sym e))
is_undefined_cell (plain void) e = absurd (true≢false (sym e))
is_undefined_cell (plain (bool b)) e = absurd (true≢false (sym e))
is_undefined_cell (plain (char n)) e = absurd (true≢false (sym e))
is_undefined_cell (plain (number n)) e = absurd (true≢false (sym e))
is_undefined_cell (pair a d) e = absurd (true≢false (sym e))
is_undefined_cell (symbol b) e = absurd (true≢false (sym e))
is_undefined_cell (string b) e = absurd (true≢false (sym e))
is_undefined_cell (vector b) e = absurd (true≢false (sym e))

-- ---- blocks

blocks_lie : (used : ℕ) (shows : Cell → Block) (h : Heap) → shows (plain undefined) ≡ block 0 0 → blocks_sound used shows h ≡ true → (s : ℕ) → lies_in used (shows (cell_at h s)) ≡ true
unfolding sound_rules
blocks_lie used shows h z e s =
    every_at (λ c. lies_in used (shows c)) (plain undefined) h.cells (both_left (every (λ c. lies_in used (shows c)) h.cells) _ e)
    (ap (lies_in used) z ∙ both_true (le-leb 0 used (omega arith)) refl) s

blocks_apart : (used : ℕ) (shows : Cell → Block) (h : Heap) → shows (plain undefined) ≡ block 0 0 → blocks_sound used shows h ≡ true → (s t : ℕ) → apart (shows (cell_at h s)) (shows (cell_at h t)) ≡ true
unfolding sound_rules apart basics
blocks_apart used shows h z e s t =
    let all = both_right (every (λ c. lies_in used (shows c)) h.cells) _ e in
    elim (dec_lt s (capacity h)) [
      | no l ↦ either_left _ (ap (λ (c : Cell). eqb (shows c).size 0) (get_or-eq_default h.cells (plain undefined) (omega arith)) ∙ ap (λ (b : Block). eqb b.size 0) z)
      | yes l ↦
          elim (dec_lt t (capacity h)) [
            | no m ↦
                either_right (eqb (shows (cell_at h s)).size 0)
                (either_left _ (ap (λ (c : Cell). eqb (shows c).size 0) (get_or-eq_default h.cells (plain undefined) (omega arith)) ∙ ap (λ (b : Block). eqb b.size 0) z))
            | yes m ↦ every_all _ (plain undefined) h.cells (every_all _ (plain undefined) h.cells all s l) t m
          ]
    ]

blocks_are : (used : ℕ) (shows : Cell → Block) (h : Heap) → ((s : ℕ) → lies_in used (shows (cell_at h s)) ≡ true) → ((s t : ℕ) → apart (shows (cell_at h s)) (shows (cell_at h t)) ≡ true) → blocks_sound used shows h ≡ true
unfolding sound_rules apart
blocks_are used shows h p q =
    both_true (all_every _ (plain undefined) h.cells (λ s l. p s))
    (all_every _ (plain undefined) h.cells (λ s l. all_every _ (plain undefined) h.cells (λ t m. q s t)))

-- ---- both ways

one_once : (h : Heap) (s : ℕ) → either (is_free h s) (is_allocated h.map s) ≡ true → count s h.free ≡ choose (is_free h s) 1 0 → count s h.free + state_of h.map s ≡ 1
unfolding sound_rules map_rules
one_once h s settled once = go (is_free h s) refl settled once
  where
    go : (b : Bool) → is_free h s ≡ b → either b (is_allocated h.map s) ≡ true → count s h.free ≡ choose b 1 0 → count s h.free + state_of h.map s ≡ 1
    go true q p o = omega (arith, eqb-true (state_of h.map s) 0 q)
    go false q p o = omega (arith, eqb-true (state_of h.map s) 1 p)

free_when : (h : Heap) (s n : ℕ) → n + state_of h.map s ≡ 1 → n ≡ choose (is_free h s) 1 0
unfolding sound_rules
free_when h s n e =
    elim (ℕ_discrete (state_of h.map s) 0) [
      | yes z ↦ (let o : n ≡ 1 = omega arith in o) ∙ ap (λ (b : Bool). choose b 1 0) (sym (eq-eqb (state_of h.map s) 0 z))
      | no z ↦ (let o : n ≡ 0 = omega arith in o) ∙ ap (λ (b : Bool). choose b 1 0) (sym (ne_eqb (state_of h.map s) 0 z))
    ]

settled_when : (h : Heap) (s n : ℕ) → n + state_of h.map s ≡ 1 → either (is_free h s) (is_allocated h.map s) ≡ true
unfolding sound_rules map_rules
settled_when h s n e =
    elim (ℕ_discrete (state_of h.map s) 0) [
      | yes z ↦ either_left _ (eq-eqb (state_of h.map s) 0 z)
      | no z ↦ either_right (is_free h s) (eq-eqb (state_of h.map s) 1 (omega arith))
    ]

-- "A heap is sound": from the test to the facts
pub good : (h : Heap) → 4 ≤ h.chunk → h.chunk % 4 ≡ 0 → length h.map ≡ capacity h / 4 → heap_sound h ≡ true → Good h
unfolding sound_rules entry_at
good h least whole size s =
    let s1 = both_right (cells_allowed h) _ s in
    let s2 = both_right (capacity_grown h) _ s1 in
    let s3 = both_right (states_settled h) _ s2 in
    let s4 = both_right (free_once h) _ s3 in
    let s5 = both_right (free_undefined h) _ s4 in
    let s6 = both_right (names_in_use h) _ s5 in
    let s7 = both_right (blocks_sound (length h.bytes) text_block h) _ s6 in
    let allowed = both_left (cells_allowed h) _ s in
    let states = both_left (states_settled h) _ s2 in
    let list = both_left (free_once h) _ s3 in
    let named = both_left (names_in_use h) _ s5 in
    let texts = both_left (blocks_sound (length h.bytes) text_block h) _ s6 in
    let vectors = both_left (blocks_sound (length h.elements) vector_block h) _ s7 in
    let table = both_right (blocks_sound (length h.elements) vector_block h) _ s7 in
    let is : (i : ℕ) → named_in_use h (cell_at h i) ≡ true = every_at (named_in_use h) (plain undefined) h.cells named refl in
    record {
      chunk_least = least;
      chunk_fours = whole;
      growth = reaches_reached most_growths h.chunk (capacity h) h.chunk (reached_first h.chunk) (both_left (capacity_grown h) _ s1);
      map-size = size;
      once =
          λ i l.
          one_once h i (below_all _ (capacity h) states i l)
          (eqb-true _ _ (below_all _ (capacity h) (both_right (every (λ s. ltb s (capacity h)) h.free) _ list) i l));
      past = count_past (capacity h) h.free (both_left (every (λ s. ltb s (capacity h)) h.free) _ list);
      empty =
          λ i z.
          elim (dec_lt i (capacity h)) [
            | no l ↦ get_or-eq_default h.cells (plain undefined) (omega arith)
            | yes l ↦
                ⊎_elim (λ e. absurd (true≢false (sym e ∙ ap not (eq-eqb (state_of h.map i) 0 z))))
                (λ e. is_undefined_cell (cell_at h i) e)
                (either_cases (not (is_free h i)) _ (below_all _ (capacity h) (both_left (free_undefined h) _ s4) i l))
          ];
      cells =
          λ i.
          record {
            allowed = every_at (cell_allowed h) (plain undefined) h.cells (both_left (every (cell_allowed h) h.cells) _ allowed) refl i;
            linked = cell_linked h (cell_at h i) (is i);
            held = cell_held h (cell_at h i) (is i) (blocks_lie (length h.elements) vector_block h refl vectors i);
            text_in = blocks_lie (length h.bytes) text_block h refl texts i;
            vector_in = blocks_lie (length h.elements) vector_block h refl vectors i;
          };
      texts = blocks_apart (length h.bytes) text_block h refl texts;
      vectors = blocks_apart (length h.elements) vector_block h refl vectors;
      elements = every_at value_allowed (scalar undefined) h.elements (both_right (every (cell_allowed h) h.cells) _ allowed) refl;
      entries = every_all (entry_sound h) (record { slot = 0; scope = 0 }) h.table (both_left (every (entry_sound h) h.table) _ table);
      differ = λ i j l m. below_all _ j (below_all _ (length h.table) (both_right (every (entry_sound h) h.table) _ table) j m) i l;
    }

pub heap_sound_of : (h : Heap) → capacity h ≤ 4096 → Good h → heap_sound h ≡ true
unfolding sound_rules entry_at
heap_sound_of h small g =
    both_true
    (both_true (all_every (cell_allowed h) (plain undefined) h.cells (λ i l. (g.cells i).allowed))
    (all_every value_allowed (scalar undefined) h.elements (λ i l. g.elements i)))
    (both_true (reached_reaches h.chunk (capacity h) g.chunk_least small g.growth)
    (both_true (all_below _ (capacity h) (λ i l. settled_when h i (count i h.free) (g.once i l)))
    (both_true
    (both_true (past_count (capacity h) h.free g.past)
    (all_below _ (capacity h) (λ i l. eq-eqb _ _ (free_when h i (count i h.free) (g.once i l)))))
    (both_true (all_below _ (capacity h) (λ i l. shows_free i))
    (both_true (all_every (named_in_use h) (plain undefined) h.cells (λ i l. cell_named h (cell_at h i) (g.cells i)))
    (both_true (blocks_are (length h.bytes) text_block h (λ i. (g.cells i).text_in) g.texts)
    (both_true (blocks_are (length h.elements) vector_block h (λ i. (g.cells i).vector_in) g.vectors)
    (both_true (all_every (entry_sound h) (record { slot = 0; scope = 0 }) h.table g.entries) (all_below _ (length h.table) (λ j m. all_below _ j (λ i l. g.differ i j l m)))))))))))
  where
    shows_free : (i : ℕ) → either (not (is_free h i)) (is_undefined (cell_at h i)) ≡ true
    shows_free i =
        elim (ℕ_discrete (state_of h.map i) 0) [
          | yes z ↦ either_right (not (is_free h i)) (ap is_undefined (g.empty i z))
          | no z ↦ either_left _ (ap not (ne_eqb (state_of h.map i) 0 z))
        ]

-- ---- the counts: no more slots on the list, and no more entries, than there are slots

-- numbers below n, each at most once: n at most
sum_at_most : (n : ℕ) (f : ℕ → ℕ) → ((k : ℕ) → k < n → f k ≤ 1) → sum_below n f ≤ n
unfolding sum_below
sum_at_most zero f p = omega arith
sum_at_most (suc n) f p = omega (arith, p n (omega arith), sum_at_most n f (λ k l. p k (omega arith)))

pub each_once : (n : ℕ) (l : List ℕ) → every (λ x. ltb x n) l ≡ true → ((k : ℕ) → k < n → count k l ≤ 1) → length l ≤ n
each_once n l e p = omega (arith, length-by-count n l (is_true e), sum_at_most n (λ k. count k l) p)

pub free_most : (h : Heap) → Good h → length h.free ≤ capacity h
free_most h g =
    each_once (capacity h) h.free (past_count (capacity h) h.free g.past) (λ k l. omega (arith, g.once k l))

-- numbers that differ pairwise stand once each
absent : (l : List ℕ) (s : ℕ) → ((j : ℕ) → j < length l → s ≡ get_or l j 0 → ⊥) → count s l ≡ 0
unfolding basics
absent [] s p = refl
absent (x ∷ l) s p =
    count_other s x l (λ e. p 0 (omega arith) e) ∙ absent l s (λ j k e. p (suc j) (omega arith) e)

differ_once : (l : List ℕ) → ((i j : ℕ) → i < j → j < length l → get_or l i 0 ≡ get_or l j 0 → ⊥) → (s : ℕ) → count s l ≤ 1
unfolding basics
differ_once [] p s = omega arith
differ_once (x ∷ l) p s =
    elim (ℕ_discrete s x) [
      | yes e ↦ omega (arith, count_here s x l e, absent l s (λ j k q. p 0 (suc j) (omega arith) (omega arith) (sym e ∙ q)))
      | no d ↦ omega (arith, count_other s x l d, differ_once l (λ i j k m e. p (suc i) (suc j) (omega arith) (omega arith) e) s)
    ]

abbrev no_entry : Entry
no_entry = record { slot = 0; scope = 0 }

get_or_slots : (t : List Entry) (i : ℕ) → get_or (map (λ (e : Entry). e.slot) t) i 0 ≡ (get_or t i no_entry).slot
get_or_slots [] i = refl
get_or_slots (e ∷ t) zero = refl
get_or_slots (e ∷ t) (suc i) = get_or_slots t i

abbrev entry_slots : Heap → List ℕ
entry_slots h = map (λ (e : Entry). e.slot) h.table

module _ (h : Heap) (g : Good h) where
  entry_used : (i : ℕ) → i < length h.table → in_use h (entry_at h i).slot ≡ true
  unfolding sound_rules
  entry_used i l = both_left (in_use h (entry_at h i).slot) _ (g.entries i l)

  entries_size : length (entry_slots h) ≡ length h.table
  entries_size = length-map h.table (λ (e : Entry). e.slot)

  entries_once : (k : ℕ) → count k (entry_slots h) ≤ 1
  unfolding sound_rules entry_at
  entries_once k =
      differ_once (entry_slots h)
      (λ i j m n e.
      true≢false
      (sym (both_left (not (eqb (entry_at h i).slot (entry_at h j).slot)) _ (g.differ i j m (omega (arith, entries_size))))
      ∙ ap not (eq-eqb _ _ (sym (get_or_slots h.table i) ∙ e ∙ get_or_slots h.table j))))
      k

  -- a slot on the free list has no entry
  entries_none : (k : ℕ) → state_of h.map k ≡ 0 → count k (entry_slots h) ≡ 0
  unfolding entry_at
  entries_none k z =
      absent (entry_slots h) k
      (λ j l e.
      let u = (used_slot h (entry_at h j).slot (entry_used j (omega (arith, entries_size)))).state in
      absurd (omega (arith, z, u, ap (state_of h.map) (e ∙ get_or_slots h.table j))))

  -- each entry leads to a slot of its own that is not on the free list
  pub table_used : length h.table + length h.free ≤ capacity h
  unfolding entry_at
  table_used =
      let below : every (λ x. ltb x (capacity h)) (entry_slots h) ≡ true = all_every (λ x. ltb x (capacity h)) 0 (entry_slots h)
      (λ i l.
      ap (λ (x : ℕ). ltb x (capacity h)) (get_or_slots h.table i)
      ∙ lt-ltb _ _ (used_slot h (entry_at h i).slot (entry_used i (omega (arith, entries_size)))).below)
      in
      let m = each_once (capacity h) (entry_slots h ++ h.free)
      (every_append (λ x. ltb x (capacity h)) (entry_slots h) h.free below (past_count (capacity h) h.free g.past))
      (λ k l.
      elim (ℕ_discrete (state_of h.map k) 0) [
        | yes z ↦ omega (arith, count_append k (entry_slots h) h.free, entries_none k z, g.once k l)
        | no d ↦ omega (arith, count_append k (entry_slots h) h.free, entries_once k, g.once k l, d)
      ])
      in
      omega (arith, length-append (entry_slots h) h.free, entries_size)

  pub table_most : length h.table ≤ capacity h
  table_most = omega (arith, table_used)
