-- The labels of a put, in the scratch: two words a label, its number and the slot of its latest definition. The words past
-- the labels in use may hold anything. Assumes nothing.
use Rattle.std.specs.Prelude.{◌≡◌, List, [], ◌∷◌, map, ℕ, suc, ◌+◌, ◌*◌, eqb, length, get_or}
use Rattle.laws.specs.Basics.{choose, rising, basics}
use Rattle.rules.specs.Put.{Label, with_label}

abbrev pub label_at : List ℕ → ℕ → Label
label_at ws i = record { label = get_or ws (2 * i) 0; slot = get_or ws (2 * i + 1) 0 }

-- the first n labels
unfoldable pub labels_in : List ℕ → ℕ → List Label
unfolding basics
labels_in ws n = map (label_at ws) (rising 0 n)

-- where a label stands; past the end where it does not
unfoldable pub index_of : ℕ → List Label → ℕ
index_of l [] = 0
index_of l (x ∷ xs) = let r = suc (index_of l xs) in choose (eqb x.label l) 0 r

-- the labels after a definition, and how many there are
pub record Defined (before : List ℕ) (n l s : ℕ) (after : List ℕ) (r : ℕ) : Type 0 where
  pub labels : labels_in after r ≡ with_label l s (labels_in before n)
  pub size : length after ≡ length before
