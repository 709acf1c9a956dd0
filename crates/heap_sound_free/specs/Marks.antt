-- Slots met once: how often a number stands among the first n of a column, and the marks that say so. Document 01: "the free
-- list holds each Free slot once". Assumes nothing.
use Rattle.std.specs.Prelude.{Bool, true, List, [], ◌≡◌, ℕ, zero, suc, ◌+◌, eqb, ltb, get_or}
use Rattle.laws.specs.Basics.{choose, both, every_below}
use Rattle.rules.specs.Map.{state_of, Free}
use Rattle.rules.specs.Layout.{heap_of}
use Rattle.rules.specs.Sound.{is_undefined, free_once, free_undefined}
use Rattle.leaf_cells.specs.Cells.{loaded}
use Rattle.heap_sound_rows.specs.Rows.{lists, word}

-- how often s is among f 0, f 1, .., n of them
unfoldable pub tally : (ℕ → ℕ) → ℕ → ℕ → ℕ
tally f zero s = 0
tally f (suc n) s = choose (eqb s (f n)) 1 0 + tally f n s

-- f j is below the capacity, and none before it is the same
unfoldable pub new_at : (ℕ → ℕ) → ℕ → ℕ → Bool
unfolding tally
new_at f capacity j = both (ltb (f j) capacity) (eqb (tally f j (f j)) 0)

-- a column, place by place
abbrev pub column_of : List ℕ → ℕ → ℕ → ℕ
column_of ws k i = word ws i k

-- what marking a column leaves and answers
pub record Marked (ws : List ℕ) (k n capacity : ℕ) (marks : List ℕ) (r : Bool) : Type 0 where
  pub once : r ≡ every_below n (new_at (column_of ws k) capacity)
  pub marked : r ≡ true → (s : ℕ) → get_or marks s 0 ≡ tally (column_of ws k) n s

-- a Free slot is marked and holds Undefined; another is not marked
unfoldable pub free_slot : List ℕ → List ℕ → List ℕ → ℕ → Bool
free_slot ws m marks s =
    choose (eqb (state_of m s) Free) (both (eqb (get_or marks s 0) 1) (is_undefined (loaded ws s))) (eqb (get_or marks s 0) 0)

-- the two clauses on Free slots; no other list than the words and the map is read
abbrev pub free_sound : List ℕ → List ℕ → Bool
free_sound ws m = both (free_once (heap_of (lists ws m [] []))) (free_undefined (heap_of (lists ws m [] [])))
