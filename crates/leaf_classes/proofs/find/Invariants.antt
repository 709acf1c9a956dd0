-- `leaf_classes::find`: from link to link until one stays. Assumes nothing.
use Prim.Native.Nat.{◌-◌}
use lib.ListN.{length}
use Rattle.leaf_classes.proofs.Ways.{Walking}
use Rattle.leaf_classes.proofs.find.Given as goal

abbrev pub invariant-loop-p : goal.invariant-loop-p
invariant-loop-p l = Walking l.initial.links l.s l.links l.x l.p

abbrev pub decreases-loop-p : goal.decreases-loop-p
decreases-loop-p l = length l.links - l.x
