-- `heap_needs::push`: the data that follow each kind of node. Assumes nothing.
use native.Mathlib.Omega.{arith}
use mathlib.Core.Path.{ap}
use Rattle.heap_needs.specs.Pass.{following, pass_rules}
use Rattle.heap_needs.proofs.StackLaws.{push_none, no_flags, push_zeros, push_pair, push_as}
use Rattle.heap_needs.proofs.push.Goals as goal

pub bounds-stack-top : goal.bounds-stack-top
bounds-stack-top c = omega (arith, ap following c.in-Pair.is)

pub bounds-stack-top-in-Pair : goal.bounds-stack-top-in-Pair
bounds-stack-top-in-Pair c = omega (arith, ap following c.in-Pair.is)

pub overflow_add-result-in-Vector : goal.overflow_add-result-in-Vector
overflow_add-result-in-Vector c = omega (arith, ap following c.in-Vector.is)

pub returns-in-Pair : goal.returns-in-Pair
unfolding pass_rules
returns-in-Pair c = push_as c.in-Pair.is (push_pair c.args.stack.now c.args.top c.requires.clear (omega (arith, ap following c.in-Pair.is)))

pub returns-in-Vector : goal.returns-in-Vector
unfolding pass_rules
returns-in-Vector c = push_as c.in-Vector.is (push_zeros c.args.stack.now c.args.top _ c.requires.clear)

pub returns-in-Def : goal.returns-in-Def
unfolding pass_rules
returns-in-Def c = push_as c.in-Def.is (push_zeros c.args.stack.now c.args.top 1 c.requires.clear)

pub returns-in_default : goal.returns-in_default
unfolding pass_rules
returns-in_default c = push_none c.args.stack.now c.args.top _ c.requires.clear (no_flags c.args.node c.in_default.not-Pair c.in_default.not-Vector c.in_default.not-Def)
