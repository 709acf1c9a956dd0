-- `leaf_free::fresh`: the header, then what is pushed and what is left to push make the whole. Assumes nothing.
use Rattle.leaf_free.proofs.Steps.{Falling}
use Rattle.leaf_free.proofs.fresh.Given as goal

abbrev pub invariant-loop-s : goal.invariant-loop-s
invariant-loop-s l = Falling l.initial.words l.chunk l.words l.s
