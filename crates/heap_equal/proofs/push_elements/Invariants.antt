-- `heap_equal::push_elements`: so many pairs of elements are done. Assumes nothing.
use Prim.Native.Nat.{◌-◌}
use Rattle.rules.specs.Layout.{heap_of}
use Rattle.leaf_lists.specs.Lists.{lent_of}
use Rattle.heap_equal.proofs.Faces.{Along}
use Rattle.heap_equal.proofs.push_elements.Given as goal

abbrev pub invariant-loop-j : goal.invariant-loop-j
invariant-loop-j l = Along (heap_of (lent_of l.heap)) l.c l.heap.elems.now l.p l.q l.n l.initial.scratch l.top l.scratch l.height l.j

abbrev pub decreases-loop-j : goal.decreases-loop-j
decreases-loop-j l = l.n - l.j
