-- `sheet_run::put_each`: what is still to be put prints what the whole does. Assumes nothing.
use Rattle.heap_sound_rows.specs.Rows.{lists}
use Rattle.sheet_run.proofs.PutLaws.{Going}
use Rattle.sheet_run.proofs.put_each.Given as goal

abbrev pub invariant-loop-i : goal.invariant-loop-i
invariant-loop-i l = Going (lists l.initial.words l.initial.map l.initial.bytes l.initial.elems) l.nodes l.ends l.count l.i (lists l.words l.map l.bytes l.elems) l.scratch l.roots
