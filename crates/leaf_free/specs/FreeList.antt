-- The free list in the lent words: the number of its places in word 2, place i in column 4 of row i, the next slot at the
-- highest place in use. What each step stores there. Document 01, "Slots and growth". Assumes nothing.
use Rattle.std.specs.Prelude.{true, false, ◌≡◌, List, ℕ, zero, suc, ◌+◌, ◌-◌, ◌*◌, ◌/◌, ◌<◌, ◌≤◌, eqb, length, get_or, set}
use Rattle.rules.specs.Map.{set_state, Allocated}
use Rattle.rules.specs.Heap.{grown}

-- the words of the header that are read here
abbrev pub chunk_of : List ℕ → ℕ
chunk_of ws = get_or ws 0 0

abbrev pub capacity_of : List ℕ → ℕ
capacity_of ws = get_or ws 1 0

abbrev pub count_of : List ℕ → ℕ
count_of ws = get_or ws 2 0

-- the word that is the free list's place i
abbrev pub place : ℕ → ℕ
place i = 8 * i + 12

-- a slot put on top of the list
unfoldable pub pushed : List ℕ → ℕ → List ℕ
pushed ws s = set (set ws (place (count_of ws)) s) 2 (count_of ws + 1)

-- n slots from s on, in rising order
unfoldable pub joined : List ℕ → ℕ → ℕ → List ℕ
unfolding pushed
joined ws s zero = ws
joined ws s (suc n) = joined (pushed ws s) (suc s) n

-- the size after growth
abbrev pub goal_of : List ℕ → ℕ
goal_of ws = grown (chunk_of ws) (capacity_of ws)

-- "the new slots join in rising order, so the highest is given first"
unfoldable pub grown_words : List ℕ → List ℕ
unfolding joined
grown_words ws = joined (set ws 1 (goal_of ws)) (capacity_of ws) (goal_of ws - capacity_of ws)

-- the slots below n, in falling order
unfoldable pub fallen : List ℕ → ℕ → List ℕ
unfolding pushed
fallen ws zero = ws
fallen ws (suc n) = fallen (pushed ws n) n

-- "Fresh: the first slot given is 0, then 1": one chunk, growth on
unfoldable pub fresh_words : List ℕ → ℕ → List ℕ
unfolding fallen
fresh_words ws chunk = fallen (set (set (set ws 0 chunk) 1 chunk) 6 1) chunk

-- the next slot
abbrev pub top : List ℕ → ℕ
top ws = get_or ws (place (count_of ws - 1)) 0

-- the list without it; its place is zero again
unfoldable pub popped : List ℕ → List ℕ
popped ws = set (set ws (place (count_of ws - 1)) 0) 2 (count_of ws - 1)

-- "When the list is empty", growth comes first
unfoldable pub ready : List ℕ → List ℕ
unfolding grown_words
ready ws = elim (eqb (count_of ws) 0) [ true ↦ grown_words ws | false ↦ ws ]

-- ---- where a step can be taken

-- growth: numbers in range, and a row for each new place
pub record CanGrow (ws : List ℕ) : Type 0 where
  pub header : 3 ≤ length ws
  pub chunk_positive : 0 < chunk_of ws
  pub chunk_small : chunk_of ws ≤ 4096
  pub capacity_small : capacity_of ws ≤ 4096
  pub rows : 8 + 8 * (count_of ws + (goal_of ws - capacity_of ws)) ≤ length ws

-- a fresh list: a row for each slot of the first chunk
pub record CanStart (ws : List ℕ) (chunk : ℕ) : Type 0 where
  pub header : 8 ≤ length ws
  pub rows : 8 + 8 * (count_of ws + chunk) ≤ length ws

-- taking a slot off: there is one, its place is in the words, and its state in the map
pub record CanPop (ws map : List ℕ) : Type 0 where
  pub some : 0 < count_of ws
  pub row : place (count_of ws - 1) < length ws
  pub state : top ws / 4 < length map

pub record CanAlloc (ws map : List ℕ) : Type 0 where
  pub header : 3 ≤ length ws
  pub grows : count_of ws ≡ 0 → CanGrow ws
  pub pops : CanPop (ready ws) map

-- the slot taken and both lists after it
pub record Popped (ws map : List ℕ) (slot : ℕ) (ws' map' : List ℕ) : Type 0 where
  pub slot_taken : slot ≡ top ws
  pub words_left : ws' ≡ popped ws
  pub map_left : map' ≡ set_state map (top ws) Allocated

unfoldable pub free_list : Unit {0}
unfolding pushed joined grown_words fallen fresh_words popped ready
free_list = tt
