-- Setup's numbers and the counts as facts on numbers, each way. Assumes nothing.
use mathlib.Core.Path.{◌≡◌, sym}
use mathlib.Core.Bool.{true}
use Prim.Native.Nat.{ℕ, ◌+◌, ◌-◌, ◌*◌, ◌/◌, ◌%◌, ◌≤◌}
use borrow.Author.Tests.{leb-true, eqb-true, eq-eqb, le-leb}
use lib.Dec.{eqb, leb}
use lib.ListN.{length, get_or}
use Rattle.laws.specs.Basics.{between}
use Rattle.laws.proofs.Tests.{both_left, both_right, both_true}
use Rattle.rules.specs.Numbers.{least_slots, most_slots, most_bytes, most_elements, numbers}
use Rattle.rules.specs.Layout.{Lent, rooms_of, map_bytes, whole_rooms, header, layout_rules}
use Rattle.rules.specs.Sound.{setup_numbers, counts_within, sound_rules}

pub record Numbers (chunk : ℕ) (l : Lent) : Type 0 where
  pub words : length l.words ≡ 8 + 8 * ((length l.words - 8) / 8)
  pub map : length l.map ≡ ((length l.words - 8) / 8 + 3) / 4
  pub elems : length l.elems ≡ 3 * (length l.elems / 3)
  pub least : 4 ≤ (length l.words - 8) / 8
  pub most : (length l.words - 8) / 8 ≤ 4096
  pub bytes : length l.bytes ≤ 65536
  pub elements : length l.elems / 3 ≤ 16384
  pub fours : chunk % 4 ≡ 0
  pub chunk_least : 4 ≤ chunk
  pub chunk_most : chunk ≤ 4096
  pub lent : chunk ≤ (length l.words - 8) / 8

pub numbers_told : (chunk : ℕ) (l : Lent) → setup_numbers chunk l ≡ true → Numbers chunk l
unfolding sound_rules layout_rules numbers
numbers_told chunk l n =
    let w = both_left (whole_rooms l) _ n in
    let w1 = both_right (eqb (length l.words) (8 + 8 * (rooms_of l).slots)) _ w in
    let n1 = both_right (whole_rooms l) _ n in
    let sl = both_left (between least_slots most_slots (rooms_of l).slots) _ n1 in
    let n2 = both_right (between least_slots most_slots (rooms_of l).slots) _ n1 in
    let n3 = both_right (leb (rooms_of l).bytes most_bytes) _ n2 in
    let ch = both_right (leb (rooms_of l).elements most_elements) _ n3 in
    let ch1 = both_right (eqb (chunk % 4) 0) _ ch in
    let ch2 = both_left (between 4 4096 chunk) _ ch1 in
    record {
      words = eqb-true _ _ (both_left (eqb (length l.words) (8 + 8 * (rooms_of l).slots)) _ w);
      map = eqb-true _ _ (both_left (eqb (length l.map) (map_bytes (rooms_of l).slots)) _ w1);
      elems = eqb-true _ _ (both_right (eqb (length l.map) (map_bytes (rooms_of l).slots)) _ w1);
      least = leb-true _ _ (both_left (leb least_slots (rooms_of l).slots) _ sl);
      most = leb-true _ _ (both_right (leb least_slots (rooms_of l).slots) _ sl);
      bytes = leb-true _ _ (both_left (leb (rooms_of l).bytes most_bytes) _ n2);
      elements = leb-true _ _ (both_left (leb (rooms_of l).elements most_elements) _ n3);
      fours = eqb-true _ _ (both_left (eqb (chunk % 4) 0) _ ch);
      chunk_least = leb-true _ _ (both_left (leb 4 chunk) _ ch2);
      chunk_most = leb-true _ _ (both_right (leb 4 chunk) _ ch2);
      lent = leb-true _ _ (both_right (between 4 4096 chunk) _ ch1);
    }

pub numbers_hold : (chunk : ℕ) (l : Lent) → Numbers chunk l → true ≡ setup_numbers chunk l
unfolding sound_rules layout_rules numbers
numbers_hold chunk l n =
    sym
    (both_true (both_true (eq-eqb _ _ n.words) (both_true (eq-eqb _ _ n.map) (eq-eqb _ _ n.elems)))
    (both_true (both_true (le-leb _ _ n.least) (le-leb _ _ n.most))
    (both_true (le-leb _ _ n.bytes)
    (both_true (le-leb _ _ n.elements)
    (both_true (eq-eqb _ _ n.fours)
    (both_true (both_true (le-leb _ _ n.chunk_least) (le-leb _ _ n.chunk_most)) (le-leb _ _ n.lent)))))))

pub record Counts (l : Lent) : Type 0 where
  pub capacity : get_or l.words 1 0 ≤ (length l.words - 8) / 8
  pub free : get_or l.words 2 0 ≤ get_or l.words 1 0
  pub table : get_or l.words 3 0 ≤ get_or l.words 1 0
  pub bytes : get_or l.words 4 0 ≤ length l.bytes
  pub elements : get_or l.words 5 0 ≤ length l.elems / 3

pub counts_told : (l : Lent) → counts_within l ≡ true → Counts l
unfolding sound_rules layout_rules
counts_told l c =
    let c1 = both_right (leb (header l 1) (rooms_of l).slots) _ c in
    let c2 = both_right (leb (header l 2) (header l 1)) _ c1 in
    let c3 = both_right (leb (header l 3) (header l 1)) _ c2 in
    record {
      capacity = leb-true _ _ (both_left (leb (header l 1) (rooms_of l).slots) _ c);
      free = leb-true _ _ (both_left (leb (header l 2) (header l 1)) _ c1);
      table = leb-true _ _ (both_left (leb (header l 3) (header l 1)) _ c2);
      bytes = leb-true _ _ (both_left (leb (header l 4) (rooms_of l).bytes) _ c3);
      elements = leb-true _ _ (both_right (leb (header l 4) (rooms_of l).bytes) _ c3);
    }

pub counts_hold : (l : Lent) → Counts l → true ≡ counts_within l
unfolding sound_rules layout_rules
counts_hold l c =
    sym
    (both_true (le-leb _ _ c.capacity)
    (both_true (le-leb _ _ c.free)
    (both_true (le-leb _ _ c.table) (both_true (le-leb _ _ c.bytes) (le-leb _ _ c.elements)))))
