-- Soundness by its named clauses; a fresh heap is sound; setup's refusals are exactly 10's; the used count by the list and
-- by the map agree on a sound heap. Assumes nothing.
use mathlib.Core.Path.{◌≡◌, refl, sym, ap, ◌∙◌, subst}
use mathlib.Core.Bool.{Bool, true, false, not}
use mathlib.Core.List.{map}
use mathlib.Core.Logic.{⊎_elim}
use Prim.Native.Nat.{ℕ, zero, suc, ◌+◌, ◌*◌, ◌/◌, ◌%◌, ◌^◌, ◌≤◌}
use native.Mathlib.Nat.{zero-mul, suc-mul, zero-div}
use native.Mathlib.Decide.{dec_lt}
use native.Mathlib.Omega.{arith}
use borrow.Author.Tests.{leb-true, eqb-true, eq-eqb, le-leb}
use lib.Dec.{eqb, leb, ltb}
use lib.ListN.{length, get_or-eq_default, replicate, length-map, length-reverse, length-replicate, get_or-replicate}
use lib.Seq.{length-take-le}
use Rattle.laws.specs.Basics.{choose, either, between, every, count, rising, same}
use Rattle.laws.proofs.Tests.{both_left, both_right, both_true, either_cases, either_left, either_right, below_all, all_below, same_equal, is_true}
use Rattle.laws.proofs.Lists.{length-zeros, get_or_zeros, length-rising, count_rising_in}
use Rattle.laws.proofs.Sums.{sum_below, sum_below_ones, length-by-count}
use Rattle.laws.proofs.Pointwise.{every_same}
use Rattle.laws.proofs.Zeros.{rising_below}
use Rattle.rules.specs.Numbers.{least_slots, most_slots, most_bytes, most_elements, chunk_allowed, numbers}
use Rattle.rules.specs.Refusals.{accepted, refused, bad_setup}
use Rattle.rules.specs.Map.{state_of, is_allocated, map_rules}
use Rattle.rules.specs.Cells.{undefined, Value, Block, block, Cell, plain}
use Rattle.rules.specs.Heap.{Heap, Entry, capacity, cell_at, grown, reaches, most_growths, used_count, used_by_map, fresh, heap_rules}
use Rattle.rules.specs.Layout.{Lent, Rooms, rooms_of, map_bytes, whole_rooms, header, row, element, value_from, heap_of, lent_of, same_lent, layout_rules}
use Rattle.rules.specs.Sound.{Sound, setup_numbers, counts_within, cell_allowed, cells_allowed, named_in_use, capacity_grown, is_free, states_settled, free_once, is_undefined, free_undefined, lies_in, names_in_use, blocks_sound, text_block, vector_block, heap_sound, sound, sound_rules}
use Rattle.rules.specs.Calls.{setup, SetUp, call_rules}
use Rattle.rules.proofs.LentLaws.{Fits, rooms_lent, whole_lent, heap_lent, same_lent_refl}
use Rattle.rules.proofs.TwoBits.{low_bit, by_slots}

-- ---- the clauses by name

pub clauses : (l : Lent) → sound l ≡ true → Sound l
unfolding sound_rules
clauses l e =
    let h = heap_of l in
    let e1 = both_right (setup_numbers (header l 0) l) _ e in
    let e2 = both_right (counts_within l) _ e1 in
    let s = both_left (heap_sound h) _ e2 in
    let s1 = both_right (cells_allowed h) _ s in
    let s2 = both_right (capacity_grown h) _ s1 in
    let s3 = both_right (states_settled h) _ s2 in
    let s4 = both_right (free_once h) _ s3 in
    let s5 = both_right (free_undefined h) _ s4 in
    let s6 = both_right (names_in_use h) _ s5 in
    let s7 = both_right (blocks_sound (length h.bytes) text_block h) _ s6 in
    record {
      numbers = both_left (setup_numbers (header l 0) l) _ e;
      counts = both_left (counts_within l) _ e1;
      allowed = both_left (cells_allowed h) _ s;
      growth = both_left (capacity_grown h) _ s1;
      states = both_left (states_settled h) _ s2;
      free_list = both_left (free_once h) _ s3;
      free_cells = both_left (free_undefined h) _ s4;
      named = both_left (names_in_use h) _ s5;
      texts = both_left (blocks_sound (length h.bytes) text_block h) _ s6;
      vectors = both_left (blocks_sound (length h.elements) vector_block h) _ s7;
      table = both_right (blocks_sound (length h.elements) vector_block h) _ s7;
      spare = both_right (heap_sound h) _ e2;
    }

pub together : (l : Lent) → Sound l → sound l ≡ true
unfolding sound_rules
together l s =
    both_true s.numbers
    (both_true s.counts
    (both_true
    (both_true s.allowed
    (both_true s.growth
    (both_true s.states
    (both_true s.free_list
    (both_true s.free_cells (both_true s.named (both_true s.texts (both_true s.vectors s.table))))))))
    s.spare))

-- ---- the capacity is whole bytes of the map

multiple : (x chunk : ℕ) → chunk % 4 ≡ 0 → (x * chunk) % 4 ≡ 0
multiple zero chunk h = ap (λ (n : ℕ). n % 4) (zero-mul chunk)
multiple (suc x) chunk h = omega (arith, suc-mul x chunk, multiple x chunk h)

pub grown_whole : (n chunk goal size : ℕ) → chunk % 4 ≡ 0 → size % 4 ≡ 0 → reaches n chunk goal size ≡ true → goal % 4 ≡ 0
unfolding heap_rules
grown_whole zero chunk goal size c s e = omega (arith, eqb-true size goal e)
grown_whole (suc n) chunk goal size c s e =
    ⊎_elim (λ p. omega (arith, eqb-true size goal p))
    (λ p. grown_whole n chunk goal (grown chunk size) c (multiple ((3 * (size / chunk) + 1) / 2) chunk c) p)
    (either_cases (eqb size goal) _ e)

-- ---- the two used counts

-- a slot that is Free or Allocated: its low bit and its count on the free list make 1
one_each : (h : Heap) (s : ℕ) → either (is_free h s) (is_allocated h.map s) ≡ true → count s h.free ≡ choose (is_free h s) 1 0 → low_bit h.map s + count s h.free ≡ 1
unfolding sound_rules map_rules
one_each h s settled once = go (is_free h s) refl settled once
  where
    go : (b : Bool) → is_free h s ≡ b → either b (is_allocated h.map s) ≡ true → count s h.free ≡ choose b 1 0 → low_bit h.map s + count s h.free ≡ 1
    go true q p o = omega (arith, eqb-true (state_of h.map s) 0 q)
    go false q p o = omega (arith, eqb-true (state_of h.map s) 1 p)

pub counts_agree : (h : Heap) → 4 * length h.map ≡ capacity h → states_settled h ≡ true → free_once h ≡ true → used_by_map h ≡ used_count h
unfolding sound_rules
counts_agree h whole settled once =
    omega (
      arith,
      by_slots h.map,
      ap (λ (n : ℕ). sum_below n (low_bit h.map)) whole,
      sum_below_ones (capacity h) (low_bit h.map) (λ s. count s h.free)
          (λ s small.
          one_each h s (below_all _ (capacity h) settled s small)
          (eqb-true _ _ (below_all _ (capacity h) (both_right (every (λ s. ltb s (capacity h)) h.free) _ once) s small))),
      length-by-count (capacity h) h.free (is_true (both_left (every (λ s. ltb s (capacity h)) h.free) _ once)),
    )

-- ---- what soundness says of the lists

pub capacity_lent : (l : Lent) → capacity (heap_of l) ≡ header l 1
unfolding layout_rules
capacity_lent l = length-map (rising 0 (header l 1)) _ ∙ length-rising 0 (header l 1)

pub lists_again : (l : Lent) → Sound l → lent_of (rooms_of l) (heap_of l) ≡ l
unfolding sound_rules layout_rules
lists_again l s =
    let w = lent_of (rooms_of l) (heap_of l) in
    let e1 = both_right (same w.words l.words) _ s.spare in
    let e2 = both_right (same w.map l.map) _ e1 in
    λ i.
    record {
      words = same_equal w.words l.words (both_left (same w.words l.words) _ s.spare) i;
      map = same_equal w.map l.map (both_left (same w.map l.map) _ e1) i;
      bytes = same_equal w.bytes l.bytes (both_left (same w.bytes l.bytes) _ e2) i;
      elems = same_equal w.elems l.elems (both_right (same w.bytes l.bytes) _ e2) i;
    }

-- the bounds that the numbers and the counts give, as facts on numbers
pub record Bounds (l : Lent) : Type 0 where
  pub words : length l.words ≡ 8 + 8 * (rooms_of l).slots
  pub map : length l.map ≡ ((rooms_of l).slots + 3) / 4
  pub elems : length l.elems ≡ 3 * (rooms_of l).elements
  pub least : 4 ≤ (rooms_of l).slots
  pub most : (rooms_of l).slots ≤ 4096
  pub byte_room : (rooms_of l).bytes ≤ 65536
  pub element_room : (rooms_of l).elements ≤ 16384
  pub chunk_fours : header l 0 % 4 ≡ 0
  pub chunk_least : 4 ≤ header l 0
  pub chunk_most : header l 0 ≤ 4096
  pub chunk_lent : header l 0 ≤ (rooms_of l).slots
  pub capacity : header l 1 ≤ (rooms_of l).slots
  pub free : header l 2 ≤ header l 1
  pub table : header l 3 ≤ header l 1
  pub bytes : header l 4 ≤ (rooms_of l).bytes
  pub elements : header l 5 ≤ (rooms_of l).elements

pub bounds : (l : Lent) → Sound l → Bounds l
unfolding sound_rules layout_rules numbers
bounds l s =
    let n = s.numbers in
    let w = both_left (whole_rooms l) _ n in
    let w1 = both_right (eqb (length l.words) (8 + 8 * (rooms_of l).slots)) _ w in
    let n1 = both_right (whole_rooms l) _ n in
    let sl = both_left (between least_slots most_slots (rooms_of l).slots) _ n1 in
    let n2 = both_right (between least_slots most_slots (rooms_of l).slots) _ n1 in
    let n3 = both_right (leb (rooms_of l).bytes most_bytes) _ n2 in
    let ch = both_right (leb (rooms_of l).elements most_elements) _ n3 in
    let ch1 = both_right (eqb (header l 0 % 4) 0) _ ch in
    let ch2 = both_left (between 4 4096 (header l 0)) _ ch1 in
    let c = s.counts in
    let c1 = both_right (leb (header l 1) (rooms_of l).slots) _ c in
    let c2 = both_right (leb (header l 2) (header l 1)) _ c1 in
    let c3 = both_right (leb (header l 3) (header l 1)) _ c2 in
    record {
      words = eqb-true _ _ (both_left (eqb (length l.words) (8 + 8 * (rooms_of l).slots)) _ w);
      map = eqb-true _ _ (both_left (eqb (length l.map) (map_bytes (rooms_of l).slots)) _ w1);
      elems = eqb-true _ _ (both_right (eqb (length l.map) (map_bytes (rooms_of l).slots)) _ w1);
      least = leb-true _ _ (both_left (leb least_slots (rooms_of l).slots) _ sl);
      most = leb-true _ _ (both_right (leb least_slots (rooms_of l).slots) _ sl);
      byte_room = leb-true _ _ (both_left (leb (rooms_of l).bytes most_bytes) _ n2);
      element_room = leb-true _ _ (both_left (leb (rooms_of l).elements most_elements) _ n3);
      chunk_fours = eqb-true _ _ (both_left (eqb (header l 0 % 4) 0) _ ch);
      chunk_least = leb-true _ _ (both_left (leb 4 (header l 0)) _ ch2);
      chunk_most = leb-true _ _ (both_right (leb 4 (header l 0)) _ ch2);
      chunk_lent = leb-true _ _ (both_right (between 4 4096 (header l 0)) _ ch1);
      capacity = leb-true _ _ (both_left (leb (header l 1) (rooms_of l).slots) _ c);
      free = leb-true _ _ (both_left (leb (header l 2) (header l 1)) _ c1);
      table = leb-true _ _ (both_left (leb (header l 3) (header l 1)) _ c2);
      bytes = leb-true _ _ (both_left (leb (header l 4) (rooms_of l).bytes) _ c3);
      elements = leb-true _ _ (both_right (leb (header l 4) (rooms_of l).bytes) _ c3);
    }

pub capacity_fours : (l : Lent) → Sound l → capacity (heap_of l) % 4 ≡ 0
unfolding sound_rules layout_rules
capacity_fours l s =
    let b = bounds l s in
    grown_whole most_growths (header l 0) (capacity (heap_of l)) (header l 0) b.chunk_fours b.chunk_fours s.growth

pub sound_fits : (l : Lent) → Sound l → Fits (rooms_of l) (heap_of l)
unfolding layout_rules
sound_fits l s =
    let b = bounds l s in
    let c = capacity_lent l in
    record {
      slots = omega arith;
      free =
          omega (
            arith,
            length-reverse (map (λ (i : ℕ). row l i 4) (rising 0 (header l 2))),
            length-map (rising 0 (header l 2)) (λ (i : ℕ). row l i 4),
            length-rising 0 (header l 2),
          );
      table = omega (arith, length-map (rising 0 (header l 3)) (table_entry l), length-rising 0 (header l 3));
      bytes = omega (arith, length-take-le (header l 4) l.bytes b.bytes);
      elements = omega (arith, length-map (rising 0 (header l 5)) (element_value l), length-rising 0 (header l 5));
      map = length-take-le (header l 1 / 4) l.map (omega arith) ∙ ap (λ (n : ℕ). n / 4) (sym c);
    }
  where
    table_entry : Lent → ℕ → Entry
    table_entry l i = record { slot = row l i 5; scope = row l i 6 }

    element_value : Lent → ℕ → Value
    element_value l i = value_from (element l i 0) (element l i 1)

-- "the two are equal"
pub used_counts_agree : (l : Lent) → sound l ≡ true → used_by_map (heap_of l) ≡ used_count (heap_of l)
used_counts_agree l e =
    let s = clauses l e in
    let f = sound_fits l s in
    counts_agree (heap_of l) (omega (arith, f.map, capacity_fours l s)) s.states s.free_list

-- ---- a heap that is written out is sound, where it is by itself and its numbers are

-- the numbers of rooms and a chunk
pub record Numbered (r : Rooms) (chunk : ℕ) : Type 0 where
  pub slots : between least_slots most_slots r.slots ≡ true
  pub bytes : leb r.bytes most_bytes ≡ true
  pub elements : leb r.elements most_elements ≡ true
  pub allowed : chunk_allowed r.slots chunk ≡ true

-- setup's numbers of the written lists are those of the rooms
pub written_numbers : (r : Rooms) (h : Heap) → Fits r h → (chunk : ℕ) → Numbered r chunk → setup_numbers chunk (lent_of r h) ≡ true
unfolding sound_rules
written_numbers r h fits chunk n =
    let e = rooms_lent r h fits in
    both_true (whole_lent r h fits)
    (both_true (subst (λ (x : Rooms). between least_slots most_slots x.slots ≡ true) (sym e) n.slots)
    (both_true (subst (λ (x : Rooms). leb x.bytes most_bytes ≡ true) (sym e) n.bytes)
    (both_true (subst (λ (x : Rooms). leb x.elements most_elements ≡ true) (sym e) n.elements)
    (subst (λ (x : Rooms). chunk_allowed x.slots chunk ≡ true) (sym e) n.allowed))))

pub written_counts : (r : Rooms) (h : Heap) → Fits r h → length h.free ≤ capacity h → length h.table ≤ capacity h → counts_within (lent_of r h) ≡ true
unfolding sound_rules layout_rules
written_counts r h fits free table =
    let e = rooms_lent r h fits in
    both_true (subst (λ (x : Rooms). leb (capacity h) x.slots ≡ true) (sym e) (le-leb _ _ fits.slots))
    (both_true (le-leb _ _ free)
    (both_true (le-leb _ _ table)
    (both_true (subst (λ (x : Rooms). leb (length h.bytes) x.bytes ≡ true) (sym e) (le-leb _ _ fits.bytes))
    (subst (λ (x : Rooms). leb (length h.elements) x.elements ≡ true) (sym e) (le-leb _ _ fits.elements)))))

pub written_sound : (r : Rooms) (h : Heap) → Fits r h → Numbered r h.chunk → length h.free ≤ capacity h → length h.table ≤ capacity h → heap_sound h ≡ true → sound (lent_of r h) ≡ true
unfolding sound_rules layout_rules
written_sound r h fits n free table good =
    let e = heap_lent r h fits in
    both_true (written_numbers r h fits h.chunk n)
    (both_true (written_counts r h fits free table)
    (both_true (subst (λ (x : Heap). heap_sound x ≡ true) (sym e) good)
    (subst (λ (x : Lent). same_lent x (lent_of r h) ≡ true) (sym again) (same_lent_refl (lent_of r h)))))
  where
    again : lent_of (rooms_of (lent_of r h)) (heap_of (lent_of r h)) ≡ lent_of r h
    again = λ i. lent_of (rooms_lent r h fits i) (heap_lent r h fits i)

-- ---- a fresh heap is sound

module _ (chunk : ℕ) where
  fresh_capacity : capacity (fresh chunk) ≡ chunk
  unfolding heap_rules
  fresh_capacity = length-replicate chunk (plain undefined)

  fresh_cell : (s : ℕ) → cell_at (fresh chunk) s ≡ plain undefined
  unfolding heap_rules
  fresh_cell s =
      elim (dec_lt s chunk) [
        | yes small ↦ get_or-replicate chunk s (plain undefined) (plain undefined) small
        | no large ↦ get_or-eq_default (replicate chunk (plain undefined)) (plain undefined) (omega (arith, fresh_capacity))
      ]

  fresh_state : (s : ℕ) → state_of (fresh chunk).map s ≡ 0
  unfolding heap_rules map_rules
  fresh_state s = ap (λ (b : ℕ). b / 4 ^ (s % 4) % 4) (get_or_zeros (chunk / 4) (s / 4)) ∙ zero_state (s % 4)
    where
      zero_state : (p : ℕ) → 0 / 4 ^ p % 4 ≡ 0
      zero_state p = ap (λ (n : ℕ). n % 4) (zero-div (4 ^ p))

  fresh_free : (s : ℕ) → is_free (fresh chunk) s ≡ true
  unfolding sound_rules
  fresh_free s = eq-eqb (state_of (fresh chunk).map s) 0 (fresh_state s)

  fresh_allowed : cells_allowed (fresh chunk) ≡ true
  unfolding sound_rules heap_rules
  fresh_allowed = both_true (every_same (cell_allowed (fresh chunk)) chunk (plain undefined) refl) refl

  fresh_grown : capacity_grown (fresh chunk) ≡ true
  unfolding sound_rules heap_rules
  fresh_grown = either_left _ (eq-eqb chunk (capacity (fresh chunk)) (sym fresh_capacity))

  fresh_settled : states_settled (fresh chunk) ≡ true
  unfolding sound_rules
  fresh_settled =
      all_below (λ s. either (is_free (fresh chunk) s) (is_allocated (fresh chunk).map s)) (capacity (fresh chunk))
      (λ s small. either_left (is_allocated (fresh chunk).map s) (fresh_free s))

  fresh_once : free_once (fresh chunk) ≡ true
  unfolding sound_rules heap_rules
  fresh_once =
      both_true (rising_below 0 chunk (capacity (fresh chunk)) (omega (arith, fresh_capacity)))
      (all_below (λ s. eqb (count s (fresh chunk).free) (choose (is_free (fresh chunk) s) 1 0)) (capacity (fresh chunk))
      (λ s small.
      eq-eqb (count s (fresh chunk).free) (choose (is_free (fresh chunk) s) 1 0)
      (count_rising_in 0 chunk s (omega arith) (omega (arith, fresh_capacity)) ∙ ap (λ (b : Bool). choose b 1 0) (sym (fresh_free s)))))

  fresh_empty : free_undefined (fresh chunk) ≡ true
  unfolding sound_rules
  fresh_empty =
      all_below (λ s. either (not (is_free (fresh chunk) s)) (is_undefined (cell_at (fresh chunk) s))) (capacity (fresh chunk))
      (λ s small. either_right (not (is_free (fresh chunk) s)) (ap is_undefined (fresh_cell s)))

  fresh_named : names_in_use (fresh chunk) ≡ true
  unfolding sound_rules heap_rules
  fresh_named = every_same (named_in_use (fresh chunk)) chunk (plain undefined) refl

  fresh_blocks : (shows : Cell → Block) → shows (plain undefined) ≡ block 0 0 → blocks_sound 0 shows (fresh chunk) ≡ true
  unfolding sound_rules heap_rules
  fresh_blocks shows e =
      both_true (every_same _ chunk (plain undefined) (ap (lies_in 0) e))
      (every_same _ chunk (plain undefined)
      (every_same _ chunk (plain undefined) (either_left _ (ap (λ (b : Block). eqb b.size 0) e))))

  pub fresh_sound : heap_sound (fresh chunk) ≡ true
  unfolding sound_rules heap_rules
  fresh_sound =
      both_true fresh_allowed
      (both_true fresh_grown
      (both_true fresh_settled
      (both_true fresh_once
      (both_true fresh_empty
      (both_true fresh_named
      (both_true (fresh_blocks text_block refl) (both_true (fresh_blocks vector_block refl) refl)))))))

-- ---- setup

-- the rooms that setup's numbers allow
pub numbered : (chunk : ℕ) (l : Lent) → setup_numbers chunk l ≡ true → Numbered (rooms_of l) chunk
unfolding sound_rules
numbered chunk l e =
    let n1 = both_right (whole_rooms l) _ e in
    let n2 = both_right (between least_slots most_slots (rooms_of l).slots) _ n1 in
    let n3 = both_right (leb (rooms_of l).bytes most_bytes) _ n2 in
    record {
      slots = both_left (between least_slots most_slots (rooms_of l).slots) _ n1;
      bytes = both_left (leb (rooms_of l).bytes most_bytes) _ n2;
      elements = both_left (leb (rooms_of l).elements most_elements) _ n3;
      allowed = both_right (leb (rooms_of l).elements most_elements) _ n3;
    }

fresh_fits : (r : Rooms) (chunk : ℕ) → Numbered r chunk → Fits r (fresh chunk)
unfolding heap_rules numbers
fresh_fits r chunk n =
    let most = leb-true chunk r.slots (both_right (between 4 4096 chunk) _ (both_right (eqb (chunk % 4) 0) _ n.allowed)) in
    let c = fresh_capacity chunk in
    record {
      slots = omega arith;
      free = omega (arith, length-rising 0 chunk);
      table = omega arith;
      bytes = omega arith;
      elements = omega arith;
      map = length-zeros (chunk / 4) ∙ ap (λ (n : ℕ). n / 4) (sym c);
    }

-- "A fresh heap is sound"
pub setup_sound : (chunk : ℕ) (l : Lent) → setup_numbers chunk l ≡ true → sound (setup chunk l).lent ≡ true
unfolding call_rules heap_rules
setup_sound chunk l e =
    let n = numbered chunk l e in
    let s =
    written_sound (rooms_of l) (fresh chunk) (fresh_fits (rooms_of l) chunk n) n
    (omega (arith, length-rising 0 chunk, fresh_capacity chunk)) (omega arith) (fresh_sound chunk)
    in
    subst (λ (b : Bool). sound (set_up b).lent ≡ true) (sym e) s
  where
    set_up : Bool → SetUp
    set_up b =
        elim b [
          | true ↦ record { answer = accepted tt; lent = lent_of (rooms_of l) (fresh chunk) }
          | false ↦ record { answer = refused bad_setup; lent = l }
        ]

-- "10 | setup, which gives no other: chunk, lent slots or an arena outside the numbers above", and exactly then; the lists
-- stay as they were
pub setup_refuses : (chunk : ℕ) (l : Lent) → setup_numbers chunk l ≡ false → ((setup chunk l).answer ≡ refused bad_setup) × ((setup chunk l).lent ≡ l)
unfolding call_rules
setup_refuses chunk l e = (rw (e, setup), rw (e, setup))

pub setup_accepts : (chunk : ℕ) (l : Lent) → setup_numbers chunk l ≡ true → (setup chunk l).answer ≡ accepted tt
unfolding call_rules
setup_accepts chunk l e = rw (e, setup)
