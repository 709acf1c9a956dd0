-- `heap_needs::needs`: at the end nothing is left to do. Assumes nothing.
use Prim.Native.Nat.{◌-◌}
use lib.ListN.{length}
use Rattle.heap_needs.specs.Pass.{known_in}
use Rattle.heap_needs.proofs.PassLaws.{Under}
use Rattle.heap_needs.proofs.needs.Given as goal

abbrev pub invariant-loop-t : goal.invariant-loop-t
invariant-loop-t l = Under (known_in l.words l.bytes) l.datum l.names.items l.stack l.t

abbrev pub decreases-loop-t : goal.decreases-loop-t
decreases-loop-t l = length l.datum - l.t.at
