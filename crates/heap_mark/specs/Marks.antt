-- Marking by a stack: a slot that is not marked yet becomes Used in the map and stands on the stack until what it leads to is
-- marked too. What marking needs of the lent lists, and what it leaves. Document 01, "Slots and growth": "Free 0, Allocated 1,
-- Used 2"; "Reach: a pair leads to car and cdr, a vector to each element that is a slot." Assumes nothing.
use Rattle.std.specs.Prelude.{◌≡◌, Bool, true, false, List, [], ◌∷◌, ◌++◌, map, ℕ, ◌+◌, ◌*◌, ◌≤◌, ◌<◌, eqb, ltb, length, get_or, take}
use Rattle.laws.specs.Basics.{choose, both, every, rising, basics}
use Rattle.rules.specs.Map.{Used, state_of, set_state, is_allocated, set_low_bits}
use Rattle.rules.specs.Cells.{Value, Block, vector}
use Rattle.rules.specs.Heap.{Heap, cell_at}
use Rattle.rules.specs.Collect.{leads_to, marked}
use Rattle.rules.specs.Layout.{heap_of}
use Rattle.leaf_cells.specs.Elements.{loaded_element}
use Rattle.heap_sound_rows.specs.Rows.{lists}

unfoldable pub is_marked : List ℕ → ℕ → Bool
is_marked m s = eqb (state_of m s) Used

-- Allocated, or marked already
unfoldable pub held : List ℕ → ℕ → Bool
held m s = both (ltb 0 (state_of m s)) (ltb (state_of m s) 3)

-- the map with one state at each of these slots
unfoldable pub set_states : List ℕ → List ℕ → ℕ → List ℕ
set_states m [] state = m
set_states m (s ∷ ss) state = set_states (set_state m s state) ss state

-- ---- the stack

-- the map, and the slots whose cells are still to be looked at, the next one last
pub record Marking : Type 0 where
  pub map : List ℕ
  pub stack : List ℕ

abbrev pub marking : List ℕ → List ℕ → Marking
marking m st = record { map = m; stack = st }

-- a slot met: marked and on the stack, if it was not marked yet
unfoldable pub push_one : ℕ → Marking → Marking
unfolding is_marked
push_one s p = choose (is_marked p.map s) p (marking (set_state p.map s Used) (p.stack ++ (s ∷ [])))

unfoldable pub push_all : List ℕ → Marking → Marking
unfolding push_one
push_all [] p = p
push_all (s ∷ ss) p = push_all ss (push_one s p)

-- the stack is the start of the scratch
abbrev pub standing : List ℕ → List ℕ → ℕ → Marking
standing m scratch top = marking m (take top scratch)

-- slots can be pushed: each is Allocated or marked, and the scratch has room for all that are not marked
pub record CanPush (ss m scratch : List ℕ) (top : ℕ) : Type 0 where
  pub slots : every (held m) ss ≡ true
  pub room : set_low_bits m + top ≤ length scratch

-- they were; past the stack's end the scratch holds what it happens to
pub record Pushed (ss m scratch : List ℕ) (top : ℕ) (m' scratch' : List ℕ) (top' : ℕ) : Type 0 where
  pub map_is : m' ≡ (push_all ss (standing m scratch top)).map
  pub stack_is : take top' scratch' ≡ (push_all ss (standing m scratch top)).stack
  pub height : top' ≡ length (push_all ss (standing m scratch top)).stack

-- ---- what a cell leads to, in the lent lists

-- n elements from a place of the arena on
unfoldable pub values : List ℕ → ℕ → ℕ → List Value
unfolding basics
values elems place n = map (loaded_element elems) (rising place n)

-- the heap as far as reach looks at it: cells and elements
abbrev pub linked : List ℕ → List ℕ → Heap
linked words elems = heap_of (lists words [] [] elems)

abbrev pub leads : List ℕ → List ℕ → ℕ → List ℕ
leads words elems s = leads_to (linked words elems) (cell_at (linked words elems) s)

-- the rows of all slots are there, and the elements of all vectors
pub record Rowed (words elems : List ℕ) : Type 0 where
  pub rows : 8 + 8 * get_or words 1 0 ≤ length words
  pub elements : 3 * get_or words 5 0 ≤ length elems
  pub vectors : (s : ℕ) (b : Block) → cell_at (linked words elems) s ≡ vector b → b.place + b.size ≤ get_or words 5 0

-- "every slot that an Allocated cell or its elements name is Allocated", and so is each root; nothing is marked
pub record CanMark (words map elems scratch roots : List ℕ) : Type 0 where
  pub rowed : Rowed words elems
  pub below : (s : ℕ) → is_allocated map s ≡ true → s < get_or words 1 0
  pub named : (s : ℕ) → is_allocated map s ≡ true → every (is_allocated map) (leads words elems s) ≡ true
  pub roots_held : every (is_allocated map) roots ≡ true
  pub unmarked : (s : ℕ) → is_marked map s ≡ false
  pub room : set_low_bits map ≤ length scratch

-- the map with Used at what the roots reach
abbrev pub marked_map : List ℕ → List ℕ → List ℕ → List ℕ → List ℕ
marked_map words map elems roots = set_states map (marked (linked words elems) roots) Used

unfoldable pub mark_rules : Unit {0}
unfolding is_marked held set_states push_one push_all values
mark_rules = tt
