-- `sheet_parse::node_lines`: what was to do is what is left to do. Assumes nothing.
use Prim.Native.Nat.{◌-◌}
use lib.ListN.{length}
use Rattle.sheet_parse.proofs.StepLaws.{Going}
use Rattle.sheet_parse.proofs.node_lines.Given as goal

abbrev pub invariant-loop-out : goal.invariant-loop-out
invariant-loop-out l = Going l.text l.initial.out l.initial.ends l.from l.p l.out l.ends

abbrev pub decreases-loop-out : goal.decreases-loop-out
decreases-loop-out l = length l.text - l.p.at
