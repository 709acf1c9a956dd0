-- What the door of reading leaves, in the rules' words. Assumes nothing.
use Rattle.std.specs.Prelude.{List, ℕ}
use Rattle.rules.specs.Refusals.{Answer}
use Rattle.rules.specs.Calls.{ReadLeft}

-- an answer, with the scratch and the output that a read leaves
abbrev pub read_left : Answer ℕ → List ℕ → List ℕ → ReadLeft
read_left a scratch out = record { answer = a; scratch = scratch; out = out }
