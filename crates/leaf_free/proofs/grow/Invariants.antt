-- `leaf_free::grow`: what is joined and what is left to join make the whole. Assumes nothing.
use Rattle.leaf_free.proofs.Steps.{Joining}
use Rattle.leaf_free.proofs.grow.Given as goal

abbrev pub invariant-loop-s : goal.invariant-loop-s
invariant-loop-s l = Joining l.initial.words l.size l.goal l.words l.s
