-- `heap_mark::push_elements`: what was pushed and what is left to push make the elements. Assumes nothing.
use Prim.Native.Nat.{◌+◌, ◌-◌, ◌≤◌}
use Rattle.rules.specs.Collect.{slots_among}
use Rattle.heap_mark.specs.Marks.{values}
use Rattle.heap_mark.proofs.Leads.{Along}
use Rattle.heap_mark.proofs.push_elements.Given as goal

abbrev pub invariant-loop-j : goal.invariant-loop-j
invariant-loop-j l = (l.j ≤ l.size) × Along (slots_among (values l.elems l.place l.j)) (slots_among (values l.elems (l.place + l.j) (l.size - l.j))) l.initial.map l.initial.scratch l.top l.map l.scratch l.height
