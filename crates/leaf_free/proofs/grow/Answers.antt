-- `leaf_free::grow`: what is joined and what is left to join make the whole. Assumes nothing.
use mathlib.Core.Path.{◌∙◌}
use Rattle.leaf_free.proofs.Steps.{joining, joining_on, joining_ends, grows}
use borrow.Author.Rules.{rules}
use Rattle.leaf_free.proofs.grow.Goals as goal

pub loop-s-init : goal.loop-s-init
loop-s-init c = joining c.args.words.now c.grown-goal.result c.requires c.grown-goal.ensures

pub loop-s-preserved : goal.loop-s-preserved
loop-s-preserved c = joining_on _ _ _ c.loop-s.words c.loop-s.s _ c.loop-s.invariant c.loop-s-test.true c.push.ensures

pub returns : goal.returns
returns c = joining_ends _ _ _ _ _ c.loop-s.invariant (search rules) ∙ grows c.args.words.now c.grown-goal.result c.grown-goal.ensures
