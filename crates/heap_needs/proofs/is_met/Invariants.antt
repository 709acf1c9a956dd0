-- `heap_needs::is_met`: the name is among those left, or among none. Assumes nothing.
use lib.ListN.{take}
use mathlib.Core.Path.{◌≡◌}
use Rattle.heap_needs.specs.Pass.{names_in}
use Rattle.heap_needs.specs.Needs.{met}
use Rattle.heap_needs.proofs.is_met.Given as goal

abbrev pub invariant-loop-i : goal.invariant-loop-i
invariant-loop-i l = met (names_in l.names l.datum) l.name l.scope ≡ met (names_in (take l.i l.names) l.datum) l.name l.scope
