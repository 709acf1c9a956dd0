-- The lines that tell the words' counts and the free list. Assumes nothing.
use mathlib.Core.Path.{◌≡◌, sym, ap, ◌∙◌}
use mathlib.Core.List.{List, [], ◌∷◌, ◌++◌, map, reverse}
use Prim.Native.Nat.{ℕ, ◌+◌, ◌-◌, ◌*◌, ◌≤◌, ◌<◌}
use native.Mathlib.Omega.{arith}
use borrow.Author.Tests.{ltb-true}
use lib.Dec.{ltb}
use lib.ListN.{length, get_or, set, length-map, get_or-map}
use Rattle.laws.specs.Basics.{ascii, every, rising, basics}
use Rattle.laws.proofs.Tests.{both_left}
use Rattle.laws.proofs.Lists.{told_again, last_first}
use Rattle.laws.proofs.Pointwise.{every_all}
use Rattle.rules.specs.Heap.{capacity, free_count}
use Rattle.rules.specs.Layout.{heap_of, layout_rules}
use Rattle.rules.specs.Sound.{sound_rules}
use Rattle.rules.specs.Text.{decimal}
use Rattle.rules.specs.Listing.{print_line, commas, refusal_line, listing_rules}
use Rattle.rules.proofs.SoundLaws.{Bounds, clauses, bounds}
use Rattle.text_numbers.specs.Answers.{Printed}
use Rattle.heap_sound_rows.specs.Rows.{lists}
use Rattle.heap_sound_rows.proofs.HeapFacts.{cells_length, free_length, place_is}
use Rattle.sheet_print.specs.Printing.{most_line, most_free, Within, SoundWords, listed, free_text}
use Rattle.sheet_print.proofs.PrintLaws.{byte_printed, behind, printed_as, within_as, slot_short}

-- ---- lines of one number

module _ (n : ℕ) {l after : List ℕ} {r : ℕ} where
  pub root_is : Within most_line l 0 (ascii "root=" ++ (decimal n ++ (10 ∷ []))) after r → Within most_line l 0 (print_line (ascii "root") (decimal n)) after r
  unfolding listing_rules basics
  root_is p = p

  pub refusal_is : Within most_line l 0 (ascii "refused=" ++ (decimal n ++ (10 ∷ []))) after r → Within most_line l 0 (refusal_line n) after r
  unfolding listing_rules basics
  refusal_is p = p

  module _ (ws m b e : List ℕ) where
    pub capacity_is : n ≡ get_or ws 1 0 → Within most_line l 0 (ascii "capacity=" ++ (decimal n ++ (10 ∷ []))) after r → Within most_line l 0 (print_line (ascii "capacity") (decimal (capacity (heap_of (lists ws m b e))))) after r
    unfolding listing_rules basics
    capacity_is q p = within_as (ap (λ (k : ℕ). print_line (ascii "capacity") (decimal k)) (q ∙ sym (cells_length (lists ws m b e)))) p

    pub free_is : n ≡ get_or ws 2 0 → Within most_line l 0 (ascii "free=" ++ (decimal n ++ (10 ∷ []))) after r → Within most_line l 0 (print_line (ascii "free") (decimal (free_count (heap_of (lists ws m b e))))) after r
    unfolding listing_rules basics
    free_is q p = within_as (ap (λ (k : ℕ). print_line (ascii "free") (decimal k)) (q ∙ sym (free_length (lists ws m b e)))) p

-- ---- sound words

module _ (ws : List ℕ) (s : SoundWords ws) where
  bounds_of : Bounds (lists ws s.map s.bytes s.elems)
  bounds_of = bounds (lists ws s.map s.bytes s.elems) (clauses (lists ws s.map s.bytes s.elems) s.is)

  pub header_there : 8 ≤ length ws
  header_there = omega (arith, bounds_of.words)

-- ---- the free list, from its end

module _ (ws m b e : List ℕ) where
  free_of : List ℕ
  free_of = (heap_of (lists ws m b e)).free

  free_size : length free_of ≡ get_or ws 2 0
  unfolding free_of
  free_size = free_length (lists ws m b e)

  free_number : (i : ℕ) → i < get_or ws 2 0 → get_or ws (8 * (get_or ws 2 0 - i) + 4) 0 ≡ get_or free_of i 0
  unfolding free_of
  free_number i h =
      let n = free_size in
      let p : length free_of - 1 - i ≡ get_or ws 2 0 - 1 - i = omega arith in
      let q : 8 + 8 * (get_or ws 2 0 - 1 - i) + 4 ≡ 8 * (get_or ws 2 0 - i) + 4 = omega arith in
      sym
      (last_first free_of i (omega arith) ∙ ap (λ (k : ℕ). get_or (reverse free_of) k 0) p
      ∙ place_is (lists ws m b e) (get_or ws 2 0 - 1 - i) (omega arith) ∙ ap (λ (k : ℕ). get_or ws k 0) q)

  free_listed : listed (free_text ws) (get_or ws 2 0) ≡ commas (map decimal free_of)
  unfolding listed free_text basics
  free_listed =
      let size : length (map decimal free_of) ≡ get_or ws 2 0 = length-map free_of decimal ∙ free_size in
      ap (λ (n : ℕ). commas (map (free_text ws) (rising 0 n))) (sym size)
      ∙ ap commas
      (told_again (decimal 0) (free_text ws) (map decimal free_of)
      (λ i h. ap decimal (free_number i (omega arith)) ∙ sym (get_or-map decimal free_of i 0)))

  pub freelist_is : {l middle after : List ℕ} {p q : ℕ} → Printed l 0 (ascii "freelist=") middle p → Within most_free middle p (listed (free_text ws) (get_or ws 2 0)) after q
      → Within most_line l 0 (print_line (ascii "freelist") (commas (map decimal (heap_of (lists ws m b e)).free))) (set after q 10) (q + 1)
  unfolding free_of listing_rules basics
  freelist_is {l = l} {middle} {after} {p} {q} f g =
      record {
        printed = behind l 0 f (behind middle p (printed_as free_listed g.printed) (byte_printed after q 10));
        short = omega (arith, f.end, g.short);
      }

module _ (ws : List ℕ) (s : SoundWords ws) where
  pub free_few : get_or ws 2 0 ≤ 4096
  unfolding layout_rules
  free_few = let b = bounds_of ws s in omega (arith, b.free, b.capacity, b.most)

  pub free_there : (i : ℕ) → i < get_or ws 2 0 → 8 * (get_or ws 2 0 - i) + 4 < length ws
  unfolding layout_rules
  free_there i h = let b = bounds_of ws s in omega (arith, b.words, b.free, b.capacity)

  pub free_small : (i : ℕ) → i < get_or ws 2 0 → get_or ws (8 * (get_or ws 2 0 - i) + 4) 0 < 4096
  unfolding free_of layout_rules sound_rules
  free_small i h =
      let l = lists ws s.map s.bytes s.elems in
      let b = bounds_of ws s in
      let n = free_size ws s.map s.bytes s.elems in
      let below =
      ltb-true (get_or (heap_of l).free i 0) (capacity (heap_of l))
      (every_all (λ s. ltb s (capacity (heap_of l))) 0 (heap_of l).free
      (both_left (every (λ s. ltb s (capacity (heap_of l))) (heap_of l).free) _ (clauses l s.is).free_list) i (omega arith))
      in
      omega (arith, free_number ws s.map s.bytes s.elems i h, below, cells_length l, b.capacity, b.most)

  -- its digits were printed
  pub free_printed : {l after : List ℕ} {at r : ℕ} (i : ℕ) → i < get_or ws 2 0 → Printed l at (decimal (get_or ws (8 * (get_or ws 2 0 - i) + 4) 0)) after r → Within 4 l at (free_text ws i) after r
  unfolding free_text
  free_printed i h p = record { printed = p; short = omega (arith, p.end, slot_short _ (free_small i h)) }

  -- all of them were
  pub free_ended : {l after : List ℕ} {at r : ℕ} (i : ℕ) → i ≤ get_or ws 2 0 → get_or ws 2 0 ≤ i → Within (5 * i) l at (listed (free_text ws) i) after r → Within most_free l at (listed (free_text ws) (get_or ws 2 0)) after r
  free_ended i h k p =
      let e : i ≡ get_or ws 2 0 = omega arith in
      record { printed = printed_as (ap (listed (free_text ws)) e) p.printed; short = omega (arith, p.short, free_few) }
