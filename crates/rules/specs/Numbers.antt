-- Document 01, "Numbers": every bound of the paper, once. Assumes nothing.
use Rattle.std.specs.Prelude.{Bool, ℕ, ◌+◌, ◌*◌, ◌%◌, eqb, leb}
use Rattle.laws.specs.Basics.{both, between}

-- "Slots 4 to 4,096."
abbrev pub least_slots : ℕ
least_slots = 4

abbrev pub most_slots : ℕ
most_slots = 4096

-- "Byte arena at most 65,536 bytes, element arena 16,384 elements."
abbrev pub most_bytes : ℕ
most_bytes = 65536

abbrev pub most_elements : ℕ
most_elements = 16384

-- "Chunk: a multiple of 4, from 4 to 4,096, not above the lent slots."
unfoldable pub chunk_allowed : ℕ → ℕ → Bool
chunk_allowed slots chunk = both (eqb (chunk % 4) 0) (both (between 4 4096 chunk) (leb chunk slots))

-- "A datum: 4,096 nodes, 64 distinct labels, vectors of 1,024, strings of 4,096 bytes, names of 255 bytes (0 allowed)."
abbrev pub most_nodes : ℕ
most_nodes = 4096

abbrev pub most_labels : ℕ
most_labels = 64

abbrev pub most_vector : ℕ
most_vector = 1024

abbrev pub most_string : ℕ
most_string = 4096

abbrev pub most_name : ℕ
most_name = 255

-- "Labels and scopes are 32 bits."
abbrev pub bits32 : ℕ
bits32 = 4294967296

-- a number of 64 bits, kept as its bits
abbrev pub bits64 : ℕ
bits64 = 18446744073709551616

-- "Scratch .. at capacity c": one formula for every call that takes scratch, 64c + 1,024 bytes, lent as words of 8 bytes.
abbrev pub scratch_words : ℕ → ℕ
scratch_words c = 8 * c + 128

unfoldable pub numbers : Unit {0}
unfolding chunk_allowed
numbers = tt
