-- `sheet_keys::find`: what was to look at is what is left to look at. Assumes nothing.
use Rattle.sheet_keys.proofs.KeyLaws.{hit, miss, nowhere}
use Rattle.sheet_keys.proofs.find.Goals as goal

pub returns-then-text-i : goal.returns-then-text-i
returns-then-text-i c = hit c.args.byte c.args.text.now c.args.from c.loop-i.i c.loop-i.invariant c.loop-i-test.true c.if-text-i.true

pub loop-i-preserved : goal.loop-i-preserved
loop-i-preserved c = miss c.args.byte c.args.text.now c.args.from c.loop-i.i c.loop-i.invariant c.loop-i-test.true c.if-text-i.false

pub returns : goal.returns
returns c = nowhere c.args.byte c.args.text.now c.args.from c.loop-i.i c.loop-i.invariant c.loop-i-test.false
