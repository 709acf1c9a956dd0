-- The lent layout: how a heap stands in the four lists that a caller lends, and how it is taken from them.
--
-- `words`, of 64 bits: 8 of header, then a row of 8 for each lent slot.
--   header   0 chunk · 1 capacity · 2 free count · 3 table count · 4 bytes in use · 5 elements in use · 6 growth, 1: on · 7 zero
--   row i    0 kind · 1, 2 its fields · 3 zero: slot i's cell
--            4 the free list's place i, the next slot at the highest place in use
--            5 slot · 6 scope: the symbol table's entry i
--            7 zero
-- `map`, of bytes: the state map, four lent slots a byte, rounded up.
-- `bytes`: the byte arena. `elems`, of words of 64 bits: the element arena, 3 words an element: kind and its two fields.
-- What is not in use is zero, and so is Undefined: a zero row is an empty one.
-- Document 01, "Port order": "`Vec`, `HashMap` and `Rc` become flat lent parts and numbers." Assumes nothing.
use Rattle.std.specs.Prelude.{Bool, List, [], ◌∷◌, ◌++◌, map, reverse, ℕ, ◌+◌, ◌-◌, ◌*◌, ◌/◌, eqb, length, get_or, take}
use Rattle.laws.specs.Basics.{choose, both, join, same, rising, zeros, basics}
use Rattle.rules.specs.Cells.{Scalar, undefined, nil, eof, void, bool, char, number, Value, slot, scalar, block, Cell, plain, pair, symbol, string, vector, bit}
use Rattle.rules.specs.Heap.{Heap, Entry, capacity, cell_at}

-- what a caller lends
pub record Lent : Type 0 where
  pub words : List ℕ
  pub map : List ℕ
  pub bytes : List ℕ
  pub elems : List ℕ

-- the sizes of what is lent: slots, bytes, elements
pub record Rooms : Type 0 where
  pub slots : ℕ
  pub bytes : ℕ
  pub elements : ℕ

unfoldable pub rooms_of : Lent → Rooms
rooms_of l = record { slots = (length l.words - 8) / 8; bytes = length l.bytes; elements = length l.elems / 3 }

-- the lengths go with whole slots and whole elements
unfoldable pub map_bytes : ℕ → ℕ
map_bytes slots = (slots + 3) / 4

unfoldable pub whole_rooms : Lent → Bool
unfolding rooms_of map_bytes
whole_rooms l =
    both (eqb (length l.words) (8 + 8 * (rooms_of l).slots))
    (both (eqb (length l.map) (map_bytes (rooms_of l).slots)) (eqb (length l.elems) (3 * (rooms_of l).elements)))

-- ---- a heap as lists

unfoldable pub scalar_words : Scalar → List ℕ
scalar_words undefined = 0 ∷ 0 ∷ 0 ∷ []
scalar_words nil = 1 ∷ 0 ∷ 0 ∷ []
scalar_words eof = 2 ∷ 0 ∷ 0 ∷ []
scalar_words void = 3 ∷ 0 ∷ 0 ∷ []
scalar_words (bool b) = 4 ∷ bit b ∷ 0 ∷ []
scalar_words (char n) = 5 ∷ n ∷ 0 ∷ []
scalar_words (number n) = 6 ∷ n ∷ 0 ∷ []

-- kind and fields; the kinds' numbers are the datum's
unfoldable pub cell_words : Cell → List ℕ
unfolding scalar_words
cell_words (plain s) = scalar_words s
cell_words (string b) = 7 ∷ b.place ∷ b.size ∷ []
cell_words (symbol b) = 8 ∷ b.place ∷ b.size ∷ []
cell_words (pair a d) = 9 ∷ a ∷ d ∷ []
cell_words (vector b) = 10 ∷ b.place ∷ b.size ∷ []

-- a slot among values
abbrev pub slot_kind : ℕ
slot_kind = 15

unfoldable pub value_words : Value → List ℕ
unfolding scalar_words
value_words (slot s) = slot_kind ∷ s ∷ 0 ∷ []
value_words (scalar s) = scalar_words s

unfoldable pub header_words : Heap → List ℕ
header_words h =
    h.chunk ∷ capacity h ∷ length h.free ∷ length h.table ∷ length h.bytes ∷ length h.elements ∷ 1 ∷ 0 ∷ []

unfoldable pub entry_at : Heap → ℕ → Entry
entry_at h i = get_or h.table i (record { slot = 0; scope = 0 })

unfoldable pub row_words : Heap → ℕ → List ℕ
unfolding cell_words entry_at
row_words h i =
    cell_words (cell_at h i) ++ (0 ∷ get_or (reverse h.free) i 0 ∷ (entry_at h i).slot ∷ (entry_at h i).scope ∷ 0 ∷ [])

unfoldable pub words_of : ℕ → Heap → List ℕ
unfolding header_words row_words basics
words_of slots h = header_words h ++ join (row_words h) (rising 0 slots)

-- what is in use, then zeros up to the room's length
unfoldable pub filled : ℕ → List ℕ → List ℕ
unfolding basics
filled room l = l ++ zeros (room - length l)

unfoldable pub lent_of : Rooms → Heap → Lent
unfolding words_of map_bytes filled value_words basics
lent_of r h =
    record {
      words = words_of r.slots h;
      map = filled (map_bytes r.slots) h.map;
      bytes = filled r.bytes h.bytes;
      elems = filled (3 * r.elements) (join value_words h.elements);
    }

-- ---- a heap from lists

unfoldable pub scalar_kinds : List (ℕ → Scalar)
scalar_kinds =
    (λ n. undefined) ∷ (λ n. nil) ∷ (λ n. eof) ∷ (λ n. void) ∷ (λ n. bool (eqb n 1)) ∷ (λ n. char n) ∷ (λ n. number n) ∷ []

-- an unknown kind is taken for Undefined, and so is not written back as it stood
unfoldable pub scalar_from : ℕ → ℕ → Scalar
unfolding scalar_kinds
scalar_from kind a = get_or scalar_kinds kind (λ n. undefined) a

unfoldable pub cell_kinds : List (ℕ → ℕ → Cell)
cell_kinds =
    (λ p n. string (block p n)) ∷ (λ p n. symbol (block p n)) ∷ (λ a d. pair a d) ∷ (λ p n. vector (block p n)) ∷ []

unfoldable pub cell_from : ℕ → ℕ → ℕ → Cell
unfolding scalar_from scalar_kinds cell_kinds
cell_from kind a b =
    get_or (map (λ (f : ℕ → Scalar). λ (a b : ℕ). plain (f a)) scalar_kinds ++ cell_kinds) kind (λ a b. plain undefined) a b

unfoldable pub value_from : ℕ → ℕ → Value
unfolding scalar_from
value_from kind a = choose (eqb kind slot_kind) (slot a) (scalar (scalar_from kind a))

-- word k of the header, of row i, of element i
unfoldable pub header : Lent → ℕ → ℕ
header l k = get_or l.words k 0

unfoldable pub row : Lent → ℕ → ℕ → ℕ
row l i k = get_or l.words (8 + 8 * i + k) 0

unfoldable pub element : Lent → ℕ → ℕ → ℕ
element l i k = get_or l.elems (3 * i + k) 0

unfoldable pub heap_of : Lent → Heap
unfolding header row element cell_from value_from basics
heap_of l =
    record {
      chunk = header l 0;
      cells = map (λ (i : ℕ). cell_from (row l i 0) (row l i 1) (row l i 2)) (rising 0 (header l 1));
      map = take (header l 1 / 4) l.map;
      free = reverse (map (λ (i : ℕ). row l i 4) (rising 0 (header l 2)));
      table = map {B = Entry} (λ (i : ℕ). record { slot = row l i 5; scope = row l i 6 }) (rising 0 (header l 3));
      bytes = take (header l 4) l.bytes;
      elements = map (λ (i : ℕ). value_from (element l i 0) (element l i 1)) (rising 0 (header l 5));
    }

-- the same lists
unfoldable pub same_lent : Lent → Lent → Bool
unfolding basics
same_lent a b =
    both (same a.words b.words) (both (same a.map b.map) (both (same a.bytes b.bytes) (same a.elems b.elems)))

unfoldable pub layout_rules : Unit {0}
unfolding rooms_of map_bytes whole_rooms scalar_words cell_words value_words header_words entry_at row_words words_of filled
    lent_of scalar_kinds scalar_from cell_kinds cell_from value_from header row element heap_of same_lent
layout_rules = tt
