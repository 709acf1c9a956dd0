-- Document 01, "A heap is sound when": clause by clause, in the paper's order. Each clause is a test that computes on any
-- lent lists; `Sound` names them. Assumes nothing.
use Rattle.std.specs.Prelude.{◌≡◌, Bool, true, false, not, ℕ, ◌+◌, eqb, leb, ltb, length}
use Rattle.laws.specs.Basics.{choose, both, either, between, every, every_below, count, same, basics}
use Rattle.rules.specs.Numbers.{least_slots, most_slots, most_bytes, most_elements, most_vector, most_string, most_name, bits32, chunk_allowed, numbers}
use Rattle.rules.specs.Utf8.{utf8, scalar_value, utf8_rules}
use Rattle.rules.specs.Map.{state_of, is_allocated, Free, map_rules}
use Rattle.rules.specs.Cells.{Scalar, undefined, nil, eof, void, bool, char, number, Value, slot, scalar, Block, block, Cell, plain, pair, symbol, string, vector, is_symbol, same_block}
use Rattle.rules.specs.Heap.{Heap, Entry, capacity, cell_at, in_use, text_of, elements_of, name_at, reaches, most_growths, heap_rules}
use Rattle.rules.specs.Layout.{Lent, rooms_of, whole_rooms, header, heap_of, lent_of, same_lent, entry_at, layout_rules}

-- ---- "the numbers above"

-- setup's numbers: "chunk, lent slots or an arena"
unfoldable pub setup_numbers : ℕ → Lent → Bool
unfolding layout_rules numbers
setup_numbers chunk l =
    both (whole_rooms l)
    (both (between least_slots most_slots (rooms_of l).slots)
    (both (leb (rooms_of l).bytes most_bytes)
    (both (leb (rooms_of l).elements most_elements) (chunk_allowed (rooms_of l).slots chunk))))

-- and each count of the header within its room
unfoldable pub counts_within : Lent → Bool
unfolding layout_rules
counts_within l =
    both (leb (header l 1) (rooms_of l).slots)
    (both (leb (header l 2) (header l 1))
    (both (leb (header l 3) (header l 1))
    (both (leb (header l 4) (rooms_of l).bytes) (leb (header l 5) (rooms_of l).elements))))

-- ---- "11's rules on kinds, Bool, Char and UTF-8 hold", "lengths of vectors, strings and names too"

unfoldable pub scalar_allowed : Scalar → Bool
unfolding utf8_rules
scalar_allowed undefined = true
scalar_allowed nil = true
scalar_allowed eof = true
scalar_allowed void = true
scalar_allowed (bool b) = true
scalar_allowed (char n) = scalar_value n
scalar_allowed (number n) = true

unfoldable pub value_allowed : Value → Bool
unfolding scalar_allowed
value_allowed (slot s) = true
value_allowed (scalar s) = scalar_allowed s

unfoldable pub cell_allowed : Heap → Cell → Bool
unfolding scalar_allowed utf8_rules
cell_allowed h (plain s) = scalar_allowed s
cell_allowed h (pair a d) = true
cell_allowed h (symbol b) = both (leb b.size most_name) (utf8 (text_of h b))
cell_allowed h (string b) = both (leb b.size most_string) (utf8 (text_of h b))
cell_allowed h (vector b) = leb b.size most_vector

unfoldable pub cells_allowed : Heap → Bool
unfolding cell_allowed value_allowed basics
cells_allowed h = both (every (cell_allowed h) h.cells) (every value_allowed h.elements)

-- ---- "growth reaches the capacity"

unfoldable pub capacity_grown : Heap → Bool
unfolding heap_rules
capacity_grown h = reaches most_growths h.chunk (capacity h) h.chunk

-- ---- "no state is Used or 3"

unfoldable pub is_free : Heap → ℕ → Bool
unfolding map_rules
is_free h s = eqb (state_of h.map s) Free

unfoldable pub states_settled : Heap → Bool
unfolding is_free map_rules basics
states_settled h = every_below (capacity h) (λ s. either (is_free h s) (is_allocated h.map s))

-- ---- "the free list holds each Free slot once and Free slots hold Undefined"

unfoldable pub free_once : Heap → Bool
unfolding is_free basics
free_once h =
    both (every (λ s. ltb s (capacity h)) h.free)
    (every_below (capacity h) (λ s. eqb (count s h.free) (choose (is_free h s) 1 0)))

unfoldable pub is_undefined : Cell → Bool
is_undefined (plain undefined) = true
is_undefined (plain nil) = false
is_undefined (plain eof) = false
is_undefined (plain void) = false
is_undefined (plain (bool b)) = false
is_undefined (plain (char n)) = false
is_undefined (plain (number n)) = false
is_undefined (pair a d) = false
is_undefined (symbol b) = false
is_undefined (string b) = false
is_undefined (vector b) = false

unfoldable pub free_undefined : Heap → Bool
unfolding is_free is_undefined basics
free_undefined h = every_below (capacity h) (λ s. either (not (is_free h s)) (is_undefined (cell_at h s)))

-- ---- "every slot that an Allocated cell or its elements name is Allocated"

unfoldable pub value_named : Heap → Value → Bool
unfolding map_rules
value_named h (slot s) = in_use h s
value_named h (scalar s) = true

unfoldable pub named_in_use : Heap → Cell → Bool
unfolding value_named map_rules basics
named_in_use h (plain s) = true
named_in_use h (pair a d) = both (in_use h a) (in_use h d)
named_in_use h (symbol b) = true
named_in_use h (string b) = true
named_in_use h (vector b) = every (value_named h) (elements_of h b)

unfoldable pub names_in_use : Heap → Bool
unfolding named_in_use basics
names_in_use h = every (named_in_use h) h.cells

-- ---- "blocks lie in the room in use and are either the same or disjoint, an empty one at place 0"

-- the block that a cell shows in the byte arena, in the element arena; an empty one where it shows none
unfoldable pub text_block : Cell → Block
text_block (plain s) = block 0 0
text_block (pair a d) = block 0 0
text_block (symbol b) = b
text_block (string b) = b
text_block (vector b) = block 0 0

unfoldable pub vector_block : Cell → Block
vector_block (plain s) = block 0 0
vector_block (pair a d) = block 0 0
vector_block (symbol b) = block 0 0
vector_block (string b) = block 0 0
vector_block (vector b) = b

unfoldable pub lies_in : ℕ → Block → Bool
lies_in used b = both (leb (b.place + b.size) used) (either (not (eqb b.size 0)) (eqb b.place 0))

unfoldable pub same_or_disjoint : Block → Block → Bool
same_or_disjoint a b =
    either (same_block a b) (either (leb (a.place + a.size) b.place) (leb (b.place + b.size) a.place))

unfoldable pub blocks_sound : ℕ → (Cell → Block) → Heap → Bool
unfolding lies_in same_or_disjoint basics
blocks_sound used shows h =
    both (every (λ c. lies_in used (shows c)) h.cells)
    (every
    (λ c. every (λ d. either (eqb (shows c).size 0) (either (eqb (shows d).size 0) (same_or_disjoint (shows c) (shows d)))) h.cells)
    h.cells)

-- ---- "the symbol table has one entry a (name, scope), each leading to an Allocated slot with that name, no two to the
-- same slot"

unfoldable pub entry_sound : Heap → Entry → Bool
unfolding map_rules
entry_sound h e = both (in_use h e.slot) (both (is_symbol (cell_at h e.slot)) (ltb e.scope bits32))

unfoldable pub entries_differ : Heap → Entry → Entry → Bool
unfolding heap_rules basics
entries_differ h d e =
    both (not (eqb d.slot e.slot))
    (not (both (eqb d.scope e.scope) (same (name_at h d.slot) (name_at h e.slot))))

unfoldable pub table_sound : Heap → Bool
unfolding entry_sound entries_differ layout_rules basics
table_sound h =
    both (every (entry_sound h) h.table)
    (every_below (length h.table)
    (λ j. every_below j (λ i. entries_differ h (entry_at h i) (entry_at h j))))

-- ---- "spare room is zero", and kinds are known: the lists are just what the layout writes for the heap that they hold

unfoldable pub written_out : Lent → Bool
unfolding layout_rules
written_out l = same_lent (lent_of (rooms_of l) (heap_of l)) l

-- ---- the whole

unfoldable pub heap_sound : Heap → Bool
unfolding cells_allowed capacity_grown states_settled free_once free_undefined names_in_use blocks_sound text_block vector_block
    table_sound
heap_sound h =
    both (cells_allowed h)
    (both (capacity_grown h)
    (both (states_settled h)
    (both (free_once h)
    (both (free_undefined h)
    (both (names_in_use h)
    (both (blocks_sound (length h.bytes) text_block h)
    (both (blocks_sound (length h.elements) vector_block h) (table_sound h))))))))

unfoldable pub sound : Lent → Bool
unfolding setup_numbers counts_within heap_sound written_out layout_rules
sound l = both (setup_numbers (header l 0) l) (both (counts_within l) (both (heap_sound (heap_of l)) (written_out l)))

-- the clauses by name
pub record Sound (l : Lent) : Type 0 where
  pub numbers : setup_numbers (header l 0) l ≡ true
  pub counts : counts_within l ≡ true
  pub allowed : cells_allowed (heap_of l) ≡ true
  pub growth : capacity_grown (heap_of l) ≡ true
  pub states : states_settled (heap_of l) ≡ true
  pub free_list : free_once (heap_of l) ≡ true
  pub free_cells : free_undefined (heap_of l) ≡ true
  pub named : names_in_use (heap_of l) ≡ true
  pub texts : blocks_sound (length (heap_of l).bytes) text_block (heap_of l) ≡ true
  pub vectors : blocks_sound (length (heap_of l).elements) vector_block (heap_of l) ≡ true
  pub table : table_sound (heap_of l) ≡ true
  pub spare : written_out l ≡ true

unfoldable pub sound_rules : Unit {0}
unfolding setup_numbers counts_within scalar_allowed value_allowed cell_allowed cells_allowed capacity_grown is_free states_settled
    free_once is_undefined free_undefined value_named named_in_use names_in_use text_block vector_block lies_in same_or_disjoint
    blocks_sound entry_sound entries_differ table_sound written_out heap_sound sound
sound_rules = tt
