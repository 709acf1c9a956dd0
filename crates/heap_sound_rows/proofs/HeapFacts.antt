-- The parts of the heap that lent lists hold, by the lists' words. Assumes nothing.
use mathlib.Core.Path.{◌≡◌, ap, ◌∙◌}
use mathlib.Core.List.{List, map, reverse, reverse-reverse}
use Prim.Native.Nat.{ℕ, ◌+◌, ◌*◌, ◌/◌, ◌≤◌, ◌<◌}
use native.Mathlib.Nat.{zero-add, add-zero}
use native.Mathlib.Omega.{arith}
use lib.ListN.{length, get_or, length-map, length-reverse, get_or-eq_default}
use lib.Seq.{length-take-le}
use Rattle.laws.specs.Basics.{rising}
use Rattle.laws.proofs.Lists.{length-rising, get_or_map_rising}
use Rattle.rules.specs.Cells.{undefined, Value, scalar, plain}
use Rattle.rules.specs.Heap.{Entry, cell_at}
use Rattle.rules.specs.Layout.{Lent, cell_from, value_from, entry_at, header, row, element, heap_of, layout_rules}
use Rattle.heap_sound_rows.specs.Rows.{word}

at_rising : {A : Type 0} (f : ℕ → A) (n i : ℕ) (d : A) → i < n → get_or (map f (rising 0 n)) i d ≡ f i
at_rising f n i d h = get_or_map_rising f 0 n i d h ∙ ap f (zero-add i)

past_rising : {A : Type 0} (f : ℕ → A) (n i : ℕ) (d : A) → n ≤ i → get_or (map f (rising 0 n)) i d ≡ d
past_rising f n i d h =
    get_or-eq_default (map f (rising 0 n)) d (omega (arith, length-map (rising 0 n) f, length-rising 0 n))

module _ (l : Lent) where
  -- ---- lengths

  pub cells_length : length (heap_of l).cells ≡ get_or l.words 1 0
  unfolding layout_rules
  cells_length = length-map (rising 0 (header l 1)) _ ∙ length-rising 0 (header l 1)

  pub free_length : length (heap_of l).free ≡ get_or l.words 2 0
  unfolding layout_rules
  free_length =
      length-reverse (map (λ (i : ℕ). row l i 4) (rising 0 (header l 2)))
      ∙ length-map (rising 0 (header l 2)) (λ (i : ℕ). row l i 4)
      ∙ length-rising 0 (header l 2)

  abbrev table_entry : ℕ → Entry
  table_entry i = record { slot = row l i 5; scope = row l i 6 }

  pub table_length : length (heap_of l).table ≡ get_or l.words 3 0
  unfolding layout_rules
  table_length = length-map (rising 0 (header l 3)) table_entry ∙ length-rising 0 (header l 3)

  pub bytes_length : get_or l.words 4 0 ≤ length l.bytes → length (heap_of l).bytes ≡ get_or l.words 4 0
  unfolding layout_rules
  bytes_length h = length-take-le (header l 4) l.bytes h

  pub map-length : get_or l.words 1 0 / 4 ≤ length l.map → length (heap_of l).map ≡ get_or l.words 1 0 / 4
  unfolding layout_rules
  map-length h = length-take-le (header l 1 / 4) l.map h

  abbrev element_value : ℕ → Value
  element_value i = value_from (element l i 0) (element l i 1)

  pub elements_length : length (heap_of l).elements ≡ get_or l.words 5 0
  unfolding layout_rules
  elements_length = length-map (rising 0 (header l 5)) element_value ∙ length-rising 0 (header l 5)

  -- ---- cells, places, entries, elements

  first : (i : ℕ) → row l i 0 ≡ get_or l.words (8 + 8 * i) 0
  unfolding layout_rules
  first i = ap (λ (n : ℕ). get_or l.words n 0) (add-zero (8 + 8 * i))

  pub cell_is : (i : ℕ) → i < get_or l.words 1 0
      → cell_at (heap_of l) i ≡ cell_from (get_or l.words (8 + 8 * i) 0) (word l.words i 1) (word l.words i 2)
  unfolding layout_rules
  cell_is i h =
      at_rising (λ (i : ℕ). cell_from (row l i 0) (row l i 1) (row l i 2)) (header l 1) i (plain undefined) h
      ∙ ap (λ (k : ℕ). cell_from k (row l i 1) (row l i 2)) (first i)

  pub cell_none : (i : ℕ) → get_or l.words 1 0 ≤ i → cell_at (heap_of l) i ≡ plain undefined
  unfolding layout_rules
  cell_none i h = past_rising (λ (i : ℕ). cell_from (row l i 0) (row l i 1) (row l i 2)) (header l 1) i (plain undefined) h

  pub place_is : (i : ℕ) → i < get_or l.words 2 0 → get_or (reverse (heap_of l).free) i 0 ≡ word l.words i 4
  unfolding layout_rules
  place_is i h =
      ap (λ (x : List ℕ). get_or x i 0) (reverse-reverse (map (λ (i : ℕ). row l i 4) (rising 0 (header l 2))))
      ∙ at_rising (λ (i : ℕ). row l i 4) (header l 2) i 0 h

  pub place_none : (i : ℕ) → get_or l.words 2 0 ≤ i → get_or (reverse (heap_of l).free) i 0 ≡ 0
  unfolding layout_rules
  place_none i h =
      ap (λ (x : List ℕ). get_or x i 0) (reverse-reverse (map (λ (i : ℕ). row l i 4) (rising 0 (header l 2))))
      ∙ past_rising (λ (i : ℕ). row l i 4) (header l 2) i 0 h

  pub entry_is : (i : ℕ) → i < get_or l.words 3 0 → entry_at (heap_of l) i ≡ record { slot = word l.words i 5; scope = word l.words i 6 }
  unfolding layout_rules
  entry_is i h = at_rising table_entry (header l 3) i (record { slot = 0; scope = 0 }) h

  pub entry_none : (i : ℕ) → get_or l.words 3 0 ≤ i → entry_at (heap_of l) i ≡ record { slot = 0; scope = 0 }
  unfolding layout_rules
  entry_none i h = past_rising table_entry (header l 3) i (record { slot = 0; scope = 0 }) h

  pub element_at : (i : ℕ) → i < get_or l.words 5 0 → get_or (heap_of l).elements i (scalar undefined) ≡ value_from (get_or l.elems (3 * i) 0) (get_or l.elems (3 * i + 1) 0)
  unfolding layout_rules
  element_at i h =
      at_rising element_value (header l 5) i (scalar undefined) h
      ∙ ap (λ (n : ℕ). value_from (get_or l.elems n 0) (get_or l.elems (3 * i + 1) 0)) (add-zero (3 * i))
