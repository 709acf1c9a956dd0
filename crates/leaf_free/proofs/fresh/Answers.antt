-- `leaf_free::fresh`: the header, then what is pushed and what is left to push make the whole. Assumes nothing.
use Rattle.leaf_free.proofs.Steps.{falls, falls_on, falls_ends}
use borrow.Author.Rules.{rules}
use Rattle.leaf_free.proofs.fresh.Goals as goal

pub loop-s-init : goal.loop-s-init
loop-s-init c = falls c.args.words.now c.args.chunk c.requires

pub loop-s-preserved : goal.loop-s-preserved
loop-s-preserved c = falls_on _ _ c.loop-s.words c.loop-s.s _ c.loop-s.invariant c.loop-s-test.true c.push.ensures

pub returns : goal.returns
returns c = falls_ends c.args.words.now _ c.args.chunk c.loop-s.s c.loop-s.invariant (search rules)
