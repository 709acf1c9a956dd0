-- `heap_mark::push_roots`: what was pushed and what is left to push make the roots. Assumes nothing.
use lib.ListN.{length, take, drop}
use Prim.Native.Nat.{◌≤◌}
use Rattle.heap_mark.proofs.Leads.{Along}
use Rattle.heap_mark.proofs.push_roots.Given as goal

abbrev pub invariant-loop-root : goal.invariant-loop-root
invariant-loop-root l = (l.root-index ≤ length l.roots) × Along (take l.root-index l.roots) (drop l.root-index l.roots) l.initial.map l.initial.scratch 0 l.map l.scratch l.top
