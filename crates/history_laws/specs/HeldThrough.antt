-- A value that a caller holds on to through a part of a history: it is in the set at every moment, and nothing is stored or set up
-- anew meanwhile. Document 01, "Reading back". Assumes nothing.
use Rattle.std.specs.Prelude.{◌≡◌, Bool, true, false, List, [], ◌∷◌}
use Rattle.rules.specs.Cells.{Value}
use Rattle.history_laws.specs.Histories.{Call, setup, put, collect, cell_store, element_store, read, eqv, equal, text, capacity, free_count, used_count, Moment, after}
use Rattle.history_laws.specs.Lines.{Held}

-- neither a setup nor a store
unfoldable pub stores_nothing : Call → Bool
stores_nothing (setup chunk) = false
stores_nothing (put scratch datum b) = true
stores_nothing (collect scratch roots) = true
stores_nothing (cell_store s kind a b) = false
stores_nothing (element_store s i kind a) = false
stores_nothing (read scratch out kind a) = true
stores_nothing (eqv kind a kind' a') = true
stores_nothing (equal scratch kind a kind' a') = true
stores_nothing (text s) = true
stores_nothing capacity = true
stores_nothing free_count = true
stores_nothing used_count = true

pub data HeldThrough (v : Value) : Moment → List Call → Type 1 where
  to_the_end : {m : Moment} → Held m.set v → HeldThrough v m []
  through : {m : Moment} {c : Call} {cs : List Call} → Held m.set v → stores_nothing c ≡ true → HeldThrough v (after c m) cs → HeldThrough v m (c ∷ cs)
