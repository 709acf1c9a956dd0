-- The layout loses nothing: a heap that fits the rooms is read back from the lists that it was written into, and the
-- rooms with it. Assumes nothing.
use mathlib.Core.Path.{◌≡◌, refl, sym, ap, ◌∙◌, subst}
use mathlib.Core.Bool.{Bool, true, false}
use mathlib.Core.List.{List, [], ◌∷◌, ◌++◌, map, reverse, reverse-reverse, append_assoc}
use Prim.Native.Nat.{ℕ, ◌+◌, ◌-◌, ◌*◌, ◌/◌, ◌%◌, ◌≤◌, ◌<◌}
use native.Mathlib.Omega.{arith}
use native.Mathlib.Decide.{dec_lt}
use borrow.Author.Tests.{eq-eqb}
use lib.Dec.{eqb}
use lib.ListN.{length, get_or, take, length-append, length-reverse, get_or-append}
use lib.Seq.{take_at, get_or-append-add, ext_get_or}
use Rattle.laws.specs.Basics.{join, rising, zeros}
use Rattle.laws.proofs.Tests.{both_true, same_refl}
use Rattle.laws.proofs.Lists.{length-zeros, length-rising, get_or_rising, told_again, length-rows, get_d_rows}
use Rattle.laws.proofs.Zeros.{zeros_append}
use Rattle.rules.specs.Cells.{Scalar, undefined, nil, eof, void, bool, char, number, Value, slot, scalar, Cell, plain, pair, symbol, string, vector, bit}
use Rattle.rules.specs.Heap.{Heap, Entry, capacity, cell_at}
use Rattle.rules.specs.Layout.{Lent, Rooms, rooms_of, map_bytes, whole_rooms, scalar_words, cell_words, value_words, header_words, entry_at, row_words, words_of, filled, lent_of, cell_from, value_from, row, element, heap_of, same_lent, layout_rules}

-- the heap is within the rooms, and its map is that of its capacity
pub record Fits (r : Rooms) (h : Heap) : Type 0 where
  pub slots : capacity h ≤ r.slots
  pub free : length h.free ≤ r.slots
  pub table : length h.table ≤ r.slots
  pub bytes : length h.bytes ≤ r.bytes
  pub elements : length h.elements ≤ r.elements
  pub map : length h.map ≡ capacity h / 4

-- ---- cells and values as words

pub scalar_width : (s : Scalar) → length (scalar_words s) ≡ 3
unfolding layout_rules
scalar_width undefined = refl
scalar_width nil = refl
scalar_width eof = refl
scalar_width void = refl
scalar_width (bool b) = refl
scalar_width (char n) = refl
scalar_width (number n) = refl

pub cell_width : (c : Cell) → length (cell_words c) ≡ 3
unfolding layout_rules
cell_width (plain s) = scalar_width s
cell_width (pair a d) = refl
cell_width (symbol b) = refl
cell_width (string b) = refl
cell_width (vector b) = refl

pub value_width : (v : Value) → length (value_words v) ≡ 3
unfolding layout_rules
value_width (slot s) = refl
value_width (scalar s) = scalar_width s

bool_from : (b : Bool) → bool (eqb (bit b) 1) ≡ bool b
bool_from true = refl
bool_from false = refl

pub cell_again : (c : Cell) → cell_from (get_or (cell_words c) 0 0) (get_or (cell_words c) 1 0) (get_or (cell_words c) 2 0) ≡ c
unfolding layout_rules
cell_again (plain undefined) = refl
cell_again (plain nil) = refl
cell_again (plain eof) = refl
cell_again (plain void) = refl
cell_again (plain (bool b)) = ap plain (bool_from b)
cell_again (plain (char n)) = refl
cell_again (plain (number n)) = refl
cell_again (pair a d) = refl
cell_again (symbol b) = refl
cell_again (string b) = refl
cell_again (vector b) = refl

pub value_again : (v : Value) → value_from (get_or (value_words v) 0 0) (get_or (value_words v) 1 0) ≡ v
unfolding layout_rules
value_again (slot s) = refl
value_again (scalar undefined) = refl
value_again (scalar nil) = refl
value_again (scalar eof) = refl
value_again (scalar void) = refl
value_again (scalar (bool b)) = ap scalar (bool_from b)
value_again (scalar (char n)) = refl
value_again (scalar (number n)) = refl

pub row_width : (h : Heap) (i : ℕ) → length (row_words h i) ≡ 8
unfolding layout_rules
row_width h i = length-append (cell_words (cell_at h i)) _ ∙ ap (λ (n : ℕ). n + 5) (cell_width (cell_at h i))

-- ---- the words

module _ (slots : ℕ) (h : Heap) where
  pub words_length : length (words_of slots h) ≡ 8 + 8 * slots
  unfolding layout_rules
  words_length =
      length-append (header_words h) (join (row_words h) (rising 0 slots))
      ∙ ap (λ (n : ℕ). 8 + n)
      (length-rows 8 (row_words h) (row_width h) (rising 0 slots) ∙ ap (λ (n : ℕ). 8 * n) (length-rising 0 slots))

  -- word k of row i
  pub word_at : (i k : ℕ) → i < slots → k < 8 → get_or (words_of slots h) (8 + 8 * i + k) 0 ≡ get_or (row_words h i) k 0
  unfolding layout_rules
  word_at i k small low =
      ap (λ (n : ℕ). get_or (words_of slots h) n 0) there
      ∙ get_or-append-add (header_words h) (join (row_words h) (rising 0 slots)) (8 * i + k) 0
      ∙ get_d_rows 8 (row_words h) (row_width h) (rising 0 slots) i k 0 (subst (λ (n : ℕ). i < n) (sym (length-rising 0 slots)) small) low
      ∙ ap (λ (n : ℕ). get_or (row_words h n) k 0) (get_or_rising 0 slots i 0 small ∙ native.Mathlib.Nat.zero-add i)
    where
      there : 8 + 8 * i + k ≡ length (header_words h) + (8 * i + k)
      there = omega arith

  -- the three words of a cell, then those of the other columns
  pub cell_word : (i k : ℕ) → k < 3 → get_or (row_words h i) k 0 ≡ get_or (cell_words (cell_at h i)) k 0
  unfolding layout_rules
  cell_word i k low = get_or-append (cell_words (cell_at h i)) _ 0 k (subst (λ (n : ℕ). k < n) (sym (cell_width (cell_at h i))) low)

  pub column_word : (i k : ℕ) → get_or (row_words h i) (3 + k) 0 ≡ get_or (0 ∷ get_or (reverse h.free) i 0 ∷ (entry_at h i).slot ∷ (entry_at h i).scope ∷ 0 ∷ []) k 0
  unfolding layout_rules
  column_word i k =
      ap (λ (n : ℕ). get_or (row_words h i) (n + k) 0) (sym (cell_width (cell_at h i)))
      ∙ get_or-append-add (cell_words (cell_at h i)) _ k 0

-- an index of the words is one of the header or of a row
pub record Placed (n : ℕ) : Type 0 where
  pub row : ℕ
  pub column : ℕ
  pub low : column < 8
  pub place : n ≡ 8 + 8 * row + column

pub placed : (n : ℕ) → 8 ≤ n → Placed n
placed n h = record { row = (n - 8) / 8; column = (n - 8) % 8; low = omega arith; place = omega arith }

-- words that have a heap's header and its rows are that heap's words
pub words_again : (slots : ℕ) (h : Heap) (ws : List ℕ) → length ws ≡ 8 + 8 * slots → ((k : ℕ) → k < 8 → get_or ws k 0 ≡ get_or (header_words h) k 0) → ((i k : ℕ) → i < slots → k < 8 → get_or ws (8 + 8 * i + k) 0 ≡ get_or (row_words h i) k 0) → ws ≡ words_of slots h
unfolding layout_rules
words_again slots h ws size heads rows =
    ext_get_or 0 ws (words_of slots h) (size ∙ sym (words_length slots h))
    (λ n small.
    elim (dec_lt n 8) [
      | yes low ↦ heads n low ∙ sym (get_or-append (header_words h) (join (row_words h) (rising 0 slots)) 0 n low)
      | no high ↦
          let p = placed n (omega arith) in
          let fits : p.row < slots = omega (arith, p.place, p.low) in
          ap (λ (m : ℕ). get_or ws m 0) p.place ∙ rows p.row p.column fits p.low
          ∙ sym (word_at slots h p.row p.column fits p.low) ∙ ap (λ (m : ℕ). get_or (words_of slots h) m 0) (sym p.place)
    ])

-- ---- rooms with zeros after what is in use

pub filled_length : (room : ℕ) (l : List ℕ) → length l ≤ room → length (filled room l) ≡ room
unfolding layout_rules
filled_length room l h = omega (arith, length-append l (zeros (room - length l)), length-zeros (room - length l))

-- zeros at the end of what is in use
pub filled_zeros : (room : ℕ) (l : List ℕ) (k : ℕ) → length l + k ≤ room → filled room (l ++ zeros k) ≡ filled room l
unfolding layout_rules
filled_zeros room l k fits =
    let rest = room - length (l ++ zeros k) in
    let whole : k + rest ≡ room - length l = omega (arith, length-append l (zeros k), length-zeros k) in
    append_assoc l (zeros k) (zeros rest) ∙ ap (λ (z : List ℕ). l ++ z) (zeros_append k rest ∙ ap zeros whole)

pub take-filled : (room n : ℕ) (l : List ℕ) → length l ≡ n → take n (filled room l) ≡ l
unfolding layout_rules
take-filled room n l e = take_at l (zeros (room - length l)) n e

pub elements_length : (vs : List Value) → length (join value_words vs) ≡ 3 * length vs
elements_length vs = length-rows 3 value_words value_width vs

-- ---- read back

module _ (r : Rooms) (h : Heap) (fits : Fits r h) where
  map-fits : length h.map ≤ map_bytes r.slots
  unfolding layout_rules
  map-fits = omega (arith, fits.map, fits.slots)

  elements_fit : length (join value_words h.elements) ≤ 3 * r.elements
  elements_fit = omega (arith, elements_length h.elements, fits.elements)

  rooms_slots : (length (words_of r.slots h) - 8) / 8 ≡ r.slots
  rooms_slots = omega (arith, words_length r.slots h)

  rooms_elements : length (filled (3 * r.elements) (join value_words h.elements)) / 3 ≡ r.elements
  rooms_elements = omega (arith, filled_length (3 * r.elements) (join value_words h.elements) elements_fit)

  -- the rooms of the written lists are the rooms that they were written for
  pub rooms_lent : rooms_of (lent_of r h) ≡ r
  unfolding layout_rules
  rooms_lent = λ i. record { slots = rooms_slots i; bytes = filled_length r.bytes h.bytes fits.bytes i; elements = rooms_elements i }

  -- the lengths are whole
  pub whole_lent : whole_rooms (lent_of r h) ≡ true
  unfolding layout_rules
  whole_lent =
      both_true
      (eq-eqb (length (words_of r.slots h)) (8 + 8 * (rooms_of (lent_of r h)).slots)
      (words_length r.slots h ∙ ap (λ (n : ℕ). 8 + 8 * n) (sym rooms_slots)))
      (both_true
      (eq-eqb (length (filled (map_bytes r.slots) h.map)) (map_bytes (rooms_of (lent_of r h)).slots)
      (filled_length (map_bytes r.slots) h.map map-fits ∙ ap map_bytes (sym rooms_slots)))
      (eq-eqb (length (filled (3 * r.elements) (join value_words h.elements))) (3 * (rooms_of (lent_of r h)).elements)
      (filled_length (3 * r.elements) (join value_words h.elements) elements_fit ∙ ap (λ (n : ℕ). 3 * n) (sym rooms_elements))))

  -- row i of the written words
  row_lent : (i k : ℕ) → i < r.slots → k < 8 → row (lent_of r h) i k ≡ get_or (row_words h i) k 0
  unfolding layout_rules
  row_lent i k small low = word_at r.slots h i k small low

  cells_lent : map (λ (i : ℕ). cell_from (row (lent_of r h) i 0) (row (lent_of r h) i 1) (row (lent_of r h) i 2)) (rising 0 (capacity h)) ≡ h.cells
  cells_lent =
      told_again (plain undefined) _ h.cells
      (λ i small.
      let low : i < r.slots = omega (arith, fits.slots) in
      (λ j.
      cell_from ((row_lent i 0 low (omega arith) ∙ cell_word r.slots h i 0 (omega arith)) j)
      ((row_lent i 1 low (omega arith) ∙ cell_word r.slots h i 1 (omega arith)) j)
      ((row_lent i 2 low (omega arith) ∙ cell_word r.slots h i 2 (omega arith)) j))
      ∙ cell_again (cell_at h i))

  free_lent : map (λ (i : ℕ). row (lent_of r h) i 4) (rising 0 (length h.free)) ≡ reverse h.free
  free_lent =
      ap (λ (n : ℕ). map (λ (i : ℕ). row (lent_of r h) i 4) (rising 0 n)) (sym (length-reverse h.free))
      ∙ told_again 0 (λ (i : ℕ). row (lent_of r h) i 4) (reverse h.free)
      (λ i small.
      row_lent i 4 (omega (arith, fits.free, length-reverse h.free)) (omega arith) ∙ column_word r.slots h i 1)

  table_lent : map {B = Entry} (λ (i : ℕ). record { slot = row (lent_of r h) i 5; scope = row (lent_of r h) i 6 }) (rising 0 (length h.table)) ≡ h.table
  unfolding entry_at
  table_lent =
      told_again (record { slot = 0; scope = 0 }) _ h.table
      (λ i small.
      let low : i < r.slots = omega (arith, fits.table) in
      λ j.
      record {
        slot = (row_lent i 5 low (omega arith) ∙ column_word r.slots h i 2) j;
        scope = (row_lent i 6 low (omega arith) ∙ column_word r.slots h i 3) j;
      })

  element_lent : (i k : ℕ) → i < length h.elements → k < 3 → element (lent_of r h) i k ≡ get_or (value_words (get_or h.elements i (scalar undefined))) k 0
  unfolding layout_rules
  element_lent i k small low =
      get_or-append (join value_words h.elements) _ 0 (3 * i + k) (omega (arith, elements_length h.elements))
      ∙ get_d_rows 3 value_words value_width h.elements i k (scalar undefined) small low

  elements_lent : map (λ (i : ℕ). value_from (element (lent_of r h) i 0) (element (lent_of r h) i 1)) (rising 0 (length h.elements)) ≡ h.elements
  elements_lent =
      told_again (scalar undefined) _ h.elements
      (λ i small.
      (λ j. value_from (element_lent i 0 small (omega arith) j) (element_lent i 1 small (omega arith) j))
      ∙ value_again (get_or h.elements i (scalar undefined)))

  -- the heap of the written lists is the heap that was written
  pub heap_lent : heap_of (lent_of r h) ≡ h
  unfolding layout_rules
  heap_lent = λ i.
      record {
        chunk = h.chunk;
        cells = cells_lent i;
        map = take-filled (map_bytes r.slots) (capacity h / 4) h.map fits.map i;
        free = (ap reverse free_lent ∙ reverse-reverse h.free) i;
        table = table_lent i;
        bytes = take-filled r.bytes (length h.bytes) h.bytes refl i;
        elements = elements_lent i;
      }

pub same_lent_refl : (l : Lent) → same_lent l l ≡ true
unfolding layout_rules
same_lent_refl l =
    both_true (same_refl l.words) (both_true (same_refl l.map) (both_true (same_refl l.bytes) (same_refl l.elems)))
