-- `heap_check::check`: what was to do is what is left to do. Assumes nothing.
use Rattle.heap_check.proofs.PassLaws.{Going}
use lib.ListN.{length}
use Prim.Native.Nat.{◌-◌}
use Rattle.heap_check.proofs.check.Given as goal

abbrev pub invariant-loop-wanted : goal.invariant-loop-wanted
invariant-loop-wanted l = Going l.datum l.tally l.at l.wanted

abbrev pub decreases-loop-wanted : goal.decreases-loop-wanted
decreases-loop-wanted l = length l.datum - l.at
