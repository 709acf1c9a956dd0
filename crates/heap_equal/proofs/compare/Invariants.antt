-- `heap_equal::compare`: the run that was given is the one that is left, between the turns and within a walk. Assumes nothing.
use Prim.Native.Nat.{◌+◌}
use Rattle.rules.specs.Layout.{heap_of}
use Rattle.leaf_lists.specs.Lists.{lent_of}
use Rattle.heap_equal.proofs.Comparing.{Comparing, Walks, left, walks_left}
use Rattle.heap_equal.proofs.compare.Given as goal

abbrev pub invariant-loop-n : goal.invariant-loop-n
invariant-loop-n l = Walks (heap_of (lent_of l.heap)) l.c l.initial.scratch l.initial.top l.initial.s l.initial.t l.scratch l.yes l.top l.s l.t

abbrev pub decreases-loop-n : goal.decreases-loop-n
decreases-loop-n l = walks_left l.c l.scratch

abbrev pub invariant-pending : goal.invariant-pending
invariant-pending l = Comparing (heap_of (lent_of l.heap)) l.c l.initial.scratch l.height l.scratch l.yes l.top

abbrev pub decreases-pending : goal.decreases-pending
decreases-pending l = l.top + left l.c l.scratch
