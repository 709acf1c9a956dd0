-- What a sort makes of a list. `le` is any order of the numbers listed. Assumes nothing.
use Rattle.std.specs.Prelude.{List, ℕ}
use Rattle.laws.specs.Sorting.{Permuted, Sorted}

-- the list in order
pub record Arranged (le : ℕ → ℕ → Type 0) (xs ys : List ℕ) : Type 0 where
  pub permuted : Permuted xs ys
  pub sorted : Sorted le ys
