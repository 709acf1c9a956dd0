-- A list in order, and a list with the same numbers as another. Assumes nothing.
use Rattle.std.specs.Prelude.{◌≡◌, List, ℕ, ◌<◌, ◌≤◌, length, get_or, set}
use Rattle.laws.specs.Basics.{count}

-- the same numbers, each as often
pub record Permuted (xs ys : List ℕ) : Type 0 where
  pub size : length ys ≡ length xs
  pub counts : (n : ℕ) → count n ys ≡ count n xs

-- an earlier one may stand before a later one
pub record Sorted (le : ℕ → ℕ → Type 0) (xs : List ℕ) : Type 0 where
  pub rises : (i j : ℕ) → i ≤ j → j < length xs → le (get_or xs i 0) (get_or xs j 0)

-- the numbers at two places in each other's place
unfoldable pub swapped : List ℕ → ℕ → ℕ → List ℕ
swapped xs i j = set (set xs i (get_or xs j 0)) j (get_or xs i 0)
