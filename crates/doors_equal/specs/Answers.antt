-- What the door of `equal` leaves, in the rules' words. Assumes nothing.
use Rattle.std.specs.Prelude.{Bool, List, ℕ}
use Rattle.rules.specs.Refusals.{Answer}
use Rattle.rules.specs.Calls.{EqualLeft}

-- an answer, with the scratch that `equal` leaves
abbrev pub equal_left : Answer Bool → List ℕ → EqualLeft
equal_left a scratch = record { answer = a; scratch = scratch }
