-- A sound heap is one from which slots can be taken. Document 01, "A heap is sound when". Assumes nothing.
use mathlib.Core.Path.{◌≡◌, sym, ap, ◌∙◌, subst}
use mathlib.Core.Bool.{true}
use mathlib.Core.Logic.{⊎_elim}
use mathlib.Core.List.{map}
use Prim.Native.Nat.{ℕ, zero, suc, ◌+◌, ◌*◌, ◌/◌, ◌%◌, ◌≤◌, ◌<◌}
use native.Mathlib.Omega.{arith}
use borrow.Author.Tests.{leb-true, eqb-true}
use lib.Dec.{eqb, leb, ltb}
use lib.ListN.{length, length-map, length-reverse}
use lib.Seq.{length-take-le}
use Rattle.laws.specs.Basics.{both, between, every, rising}
use Rattle.laws.proofs.Tests.{both_left, both_right, either_cases}
use Rattle.laws.proofs.Lists.{length-rising}
use Rattle.rules.specs.Numbers.{chunk_allowed, numbers}
use Rattle.rules.specs.Heap.{capacity, grown, reaches, most_growths}
use Rattle.rules.specs.Layout.{Lent, rooms_of, map_bytes, whole_rooms, header, heap_of}
use Rattle.rules.specs.Sound.{Sound, setup_numbers, counts_within, capacity_grown, free_once}
use Rattle.rules.proofs.Growth.{Whole, one_whole, grown_whole, rises}
use Rattle.leaf_free.proofs.Allocating.{Growing}

-- a size that growth reaches is whole chunks, and not 0
pub record Reached (chunk size : ℕ) : Type 0 where
  pub whole : Whole chunk size
  pub some : 0 < size

pub reached : (n chunk goal size : ℕ) → 0 < chunk → Reached chunk size → reaches n chunk goal size ≡ true → Reached chunk goal
unfolding reaches
reached zero chunk goal size p r e = subst (λ (n : ℕ). Reached chunk n) (eqb-true size goal e) r
reached (suc n) chunk goal size p r e =
    ⊎_elim (λ here. subst (λ (n : ℕ). Reached chunk n) (eqb-true size goal here) r)
    (λ later.
    reached n chunk goal (grown chunk size) p
    (record { whole = grown_whole chunk size; some = omega (arith, rises chunk size p r.some r.whole, r.some) }) later)
    (either_cases (eqb size goal) _ e)

-- the numbers of a chunk that is allowed
record Chunk (slots chunk : ℕ) : Type 0 where
  fours : chunk % 4 ≡ 0
  least : 4 ≤ chunk
  within : chunk ≤ slots

chunk_numbers : (slots chunk : ℕ) → chunk_allowed slots chunk ≡ true → Chunk slots chunk
unfolding numbers
chunk_numbers slots chunk e =
    let rest = both_right (eqb (chunk % 4) 0) _ e in
    record {
      fours = eqb-true (chunk % 4) 0 (both_left (eqb (chunk % 4) 0) _ e);
      least = leb-true 4 chunk (both_left (leb 4 chunk) _ (both_left (between 4 4096 chunk) _ rest));
      within = leb-true chunk slots (both_right (between 4 4096 chunk) _ rest);
    }

module _ (l : Lent) (s : Sound l) where
  abbrev slots : ℕ
  slots = (rooms_of l).slots

  after_rooms : both (between 4 4096 slots) (both (leb (rooms_of l).bytes 65536) (both (leb (rooms_of l).elements 16384) (chunk_allowed slots (header l 0)))) ≡ true
  unfolding setup_numbers numbers
  after_rooms = both_right (whole_rooms l) _ s.numbers

  few : slots ≤ 4096
  few = leb-true slots 4096 (both_right (leb 4 slots) _ (both_left (between 4 4096 slots) _ after_rooms))

  chunk : Chunk slots (header l 0)
  chunk =
      chunk_numbers slots (header l 0)
      (both_right (leb (rooms_of l).elements 16384) _
      (both_right (leb (rooms_of l).bytes 65536) _ (both_right (between 4 4096 slots) _ after_rooms)))

  map-long : length l.map ≡ map_bytes slots
  unfolding setup_numbers whole_rooms
  map-long =
      eqb-true (length l.map) (map_bytes slots)
      (both_left (eqb (length l.map) (map_bytes slots)) _
      (both_right (eqb (length l.words) (8 + 8 * slots)) _ (both_left (whole_rooms l) _ s.numbers)))

  within : header l 1 ≤ slots
  unfolding counts_within
  within = leb-true (header l 1) slots (both_left (leb (header l 1) slots) _ s.counts)

  free_within : header l 2 ≤ header l 1
  unfolding counts_within
  free_within =
      leb-true (header l 2) (header l 1)
      (both_left (leb (header l 2) (header l 1)) _ (both_right (leb (header l 1) slots) _ s.counts))

  capacity_is : capacity (heap_of l) ≡ header l 1
  unfolding heap_of
  capacity_is = length-map (rising 0 (header l 1)) _ ∙ length-rising 0 (header l 1)

  count_is : length (heap_of l).free ≡ header l 2
  unfolding heap_of
  count_is = length-reverse (map _ (rising 0 (header l 2))) ∙ length-map (rising 0 (header l 2)) _ ∙ length-rising 0 (header l 2)

  map_is : length (heap_of l).map ≡ capacity (heap_of l) / 4
  unfolding heap_of map_bytes
  map_is =
      length-take-le (header l 1 / 4) l.map (omega (arith, map-long, within)) ∙ ap (λ (n : ℕ). n / 4) (sym capacity_is)

  growth : Reached (header l 0) (capacity (heap_of l))
  unfolding capacity_grown heap_of
  growth =
      let p : 0 < header l 0 = omega (arith, chunk.least) in
      reached most_growths (header l 0) (capacity (heap_of l)) (header l 0) p
      (record { whole = one_whole (header l 0); some = p }) s.growth

  pub sound_growing : Growing (rooms_of l).slots (heap_of l)
  unfolding heap_of free_once
  sound_growing =
      record {
        slots_small = few;
        chunk_least = chunk.least;
        chunk_fours = chunk.fours;
        chunk_within = chunk.within;
        whole = growth.whole;
        some = growth.some;
        within = omega (arith, capacity_is, within);
        map-size = map_is;
        free_size = omega (arith, capacity_is, count_is, free_within);
        free_below = both_left (every (λ s. ltb s (capacity (heap_of l))) (heap_of l).free) _ s.free_list;
      }
