-- The three words of a cell or an element. Assumes nothing.
use Rattle.std.specs.Prelude.{List, [], ◌∷◌, ℕ}
use Rattle.leaf_cells.specs.declared.Words.{Words}

abbrev pub three : Words → List ℕ
three w = w.kind ∷ w.first ∷ w.second ∷ []
