-- What is looked at word by word: a row of the words, an element, a spare word. Document 01: "spare room is zero". Assumes
-- nothing.
use Rattle.std.specs.Prelude.{Bool, List, [], ◌∷◌, ℕ, ◌+◌, ◌-◌, ◌*◌, ◌/◌, ◌%◌, eqb, leb, ltb, length, get_or}
use Rattle.laws.specs.Basics.{choose, both, either, every_below, same, basics}
use Rattle.rules.specs.Map.{state_of, is_allocated, Free, map_rules}
use Rattle.rules.specs.Layout.{Lent, cell_words, cell_from, value_words, value_from, layout_rules}

-- the lists that are lent, as one
abbrev pub lists : List ℕ → List ℕ → List ℕ → List ℕ → Lent
lists w m b e = record { words = w; map = m; bytes = b; elems = e }

abbrev pub is_zero : ℕ → Bool
is_zero n = eqb n 0

-- what stands from a place on is zero
unfoldable pub spare_zero : ℕ → List ℕ → Bool
unfolding basics
spare_zero from l = every_below (length l - from) (λ i. is_zero (get_or l (from + i) 0))

-- the four states of a byte are Free or Allocated
unfoldable pub byte_settled : ℕ → Bool
byte_settled b = both (leb (b % 4) 1) (both (leb (b / 4 % 4) 1) (both (leb (b / 16 % 4) 1) (leb (b / 64 % 4) 1)))

-- every slot of the map is Free or Allocated
unfoldable pub settled : List ℕ → Bool
unfolding map_rules basics
settled m = every_below (4 * length m) (λ s. either (eqb (state_of m s) Free) (is_allocated m s))

-- word k of row i
abbrev pub word : List ℕ → ℕ → ℕ → ℕ
word ws i k = get_or ws (8 + 8 * i + k) 0

-- row i has a cell's three words below the capacity, and zeros past it
unfoldable pub cell_kept : List ℕ → ℕ → Bool
unfolding layout_rules basics
cell_kept ws i =
    choose (ltb i (get_or ws 1 0))
    (same (cell_words (cell_from (get_or ws (8 + 8 * i) 0) (word ws i 1) (word ws i 2))) (get_or ws (8 + 8 * i) 0 ∷ word ws i 1 ∷ word ws i 2 ∷ []))
    (both (is_zero (get_or ws (8 + 8 * i) 0)) (both (is_zero (word ws i 1)) (is_zero (word ws i 2))))

-- places of the free list and of the symbol table past their counts are zero, and so are the spare words
unfoldable pub columns_kept : List ℕ → ℕ → Bool
columns_kept ws i =
    both (is_zero (word ws i 3))
    (both (either (ltb i (get_or ws 2 0)) (is_zero (word ws i 4)))
    (both (either (ltb i (get_or ws 3 0)) (is_zero (word ws i 5)))
    (both (either (ltb i (get_or ws 3 0)) (is_zero (word ws i 6))) (is_zero (word ws i 7)))))

-- row i is one that the layout writes
unfoldable pub row_kept : List ℕ → ℕ → Bool
unfolding cell_kept columns_kept
row_kept ws i = both (cell_kept ws i) (columns_kept ws i)

-- element i is one that the layout writes
unfoldable pub element_kept : List ℕ → ℕ → Bool
unfolding layout_rules basics
element_kept es i =
    same (value_words (value_from (get_or es (3 * i) 0) (get_or es (3 * i + 1) 0)))
    (get_or es (3 * i) 0 ∷ get_or es (3 * i + 1) 0 ∷ get_or es (3 * i + 2) 0 ∷ [])
