-- How a walk stands in the scratch, a word a slot: 0 not met, 1 met, 2 on the path, and four for each label, counted from 1.
-- Assumes nothing.
use Rattle.std.specs.Prelude.{◌≡◌, List, ℕ, suc, ◌+◌, ◌*◌, eqb, length, get_or, set}
use Rattle.laws.specs.Basics.{choose, member}
use Rattle.rules.specs.Read.{Walk, place_in}

-- a slot's label, counted from 1; 0 where it has none
unfoldable pub label_word : List ℕ → ℕ → ℕ
label_word labels s = choose (member s labels) (suc (place_in labels s)) 0

unfoldable pub state_word : List ℕ → List ℕ → ℕ → ℕ
state_word path met s = choose (member s path) 2 (choose (member s met) 1 0)

unfoldable pub mark : List ℕ → Walk → ℕ → ℕ
mark path w s = state_word path w.met s + 4 * label_word w.labels s

-- the scratch has a mark for each slot, and so many labels are given
pub record Marked (path : List ℕ) (w : Walk) (count : ℕ) (marks : List ℕ) : Type 0 where
  pub marks_are : (s : ℕ) → get_or marks s 0 ≡ mark path w s
  pub count_is : count ≡ length w.labels

-- a slot that was met before: a label for one on the path that has none
pub record MetAgain (before : List ℕ) (count s : ℕ) (after : List ℕ) (r : ℕ) : Type 0 where
  pub marks_are : after ≡ choose (eqb (get_or before s 0) 2) (set before s (4 * count + 6)) before
  pub count_is : r ≡ choose (eqb (get_or before s 0) 2) (count + 1) count
