-- What is printed, within how much room, and of which lists. Assumes nothing.
use Rattle.std.specs.Prelude.{◌≡◌, true, false, List, [], ◌∷◌, ◌++◌, map, ℕ, zero, suc, ◌+◌, ◌-◌, ◌*◌, ◌≤◌, get_or}
use Rattle.laws.specs.Basics.{ascii, rising, basics}
use Rattle.rules.specs.Cells.{Cell, plain, pair, symbol, string, vector}
use Rattle.rules.specs.Heap.{Heap, cell_at, in_use, part_of}
use Rattle.rules.specs.Map.{map_rules}
use Rattle.rules.specs.Sound.{text_block, vector_block, sound}
use Rattle.rules.specs.Text.{decimal, hex}
use Rattle.rules.specs.Listing.{commas, print_scalar, print_value, print_cell}
use Rattle.leaf_cells.specs.Elements.{loaded_element}
use Rattle.text_numbers.specs.Answers.{Printed}
use Rattle.heap_sound_rows.specs.Rows.{lists}

-- no line is longer
abbrev pub most_line : ℕ
most_line = 32768

-- the free list: 4,096 slots of 4 digits with a comma each
abbrev pub most_free : ℕ
most_free = 20480

-- a value: a key of 5 bytes and 20 digits
abbrev pub most_value : ℕ
most_value = 25

-- a cell: `vec:` and 1,024 values with a comma each
abbrev pub most_cell : ℕ
most_cell = 26628

-- a text of at most so many bytes was written from a place on, and its end answered
pub record Within (most : ℕ) (before : List ℕ) (at : ℕ) (t after : List ℕ) (r : ℕ) : Type 0 where
  pub printed : Printed before at t after r
  pub short : r ≤ at + most

-- the words are those of a sound heap
pub record SoundWords (words : List ℕ) : Type 0 where
  pub map : List ℕ
  pub bytes : List ℕ
  pub elems : List ℕ
  pub is : sound (lists words map bytes elems) ≡ true

-- ---- "commas"

-- what stands before the text of number i
unfoldable pub comma_before : ℕ → List ℕ
comma_before zero = []
comma_before (suc i) = 44 ∷ []

-- the first n texts, with commas between
unfoldable pub listed : (ℕ → List ℕ) → ℕ → List ℕ
unfolding basics
listed f n = commas (map f (rising 0 n))

-- the free list's slot of number i, the next slot first: the list stands in its column with the next slot at the highest place
unfoldable pub free_text : List ℕ → ℕ → List ℕ
free_text ws i = decimal (get_or ws (8 * (get_or ws 2 0 - i) + 4) 0)

-- ---- cells, by the arenas' lists

-- the element of number i of the block at a place
unfoldable pub element_text : List ℕ → ℕ → ℕ → List ℕ
element_text es place i = print_value (loaded_element es (place + i))

-- the rules' `print_cell`, with texts and elements from the lent arenas
unfoldable pub cell_text : List ℕ → List ℕ → Cell → List ℕ
unfolding listed element_text
cell_text bs es (plain s) = print_scalar s
cell_text bs es (pair a d) = ascii "pair:" ++ (decimal a ++ (44 ∷ decimal d))
cell_text bs es (symbol b) = ascii "sym:" ++ hex (part_of bs b)
cell_text bs es (string b) = ascii "str:" ++ hex (part_of bs b)
cell_text bs es (vector b) = ascii "vec:" ++ listed (element_text es b.place) b.size

-- the cell's blocks lie in arenas of these lengths, and are as short as 01 says
pub record ShownIn (bytes elems : ℕ) (c : Cell) : Type 0 where
  pub text : (text_block c).place + (text_block c).size ≤ bytes
  pub text_short : (text_block c).size ≤ 4096
  pub vector : 3 * ((vector_block c).place + (vector_block c).size) ≤ elems
  pub vector_short : (vector_block c).size ≤ 1024

-- what the line of a slot has behind its key
unfoldable pub slot_text : Heap → ℕ → List ℕ
unfolding map_rules
slot_text h s = elim (in_use h s) [ true ↦ print_cell h (cell_at h s) | false ↦ ascii "free" ]
