-- `text_decimals::digits`: what was to read is what is left to read. Assumes nothing.
use Rattle.text_decimals.proofs.ReadLaws.{stops, bounded, goes_on, ends}
use mathlib.Core.Path.{ap, ◌∙◌}
use Rattle.text_decimals.specs.Reads.{shown}
use Rattle.text_decimals.proofs.digits.Goals as goal

pub returns-in_err-n : goal.returns-in_err-n
returns-in_err-n c = ap shown c.from_residual.ensures ∙ stops c.args.most c.args.t.now c.loop-byte.n c.loop-byte.byte-index c.loop-byte.invariant.1 c.loop-byte-test.true c.more.result c.more.ensures c.in_err-n.was

pub loop-byte-preserved : goal.loop-byte-preserved
loop-byte-preserved c = (bounded c.args.most c.args.t.now c.loop-byte.n c.loop-byte.byte-index c.loop-byte.invariant.1 c.loop-byte-test.true c.more.result c.more.ensures c.in_ok-n.n c.in_ok-n.was, goes_on c.args.most c.args.t.now c.loop-byte.n c.loop-byte.byte-index c.loop-byte.invariant.1 c.loop-byte-test.true c.more.result c.more.ensures c.in_ok-n.n c.in_ok-n.was)

pub returns : goal.returns
returns c = ends c.args.most c.args.t.now c.loop-byte.n c.loop-byte.byte-index c.loop-byte.invariant.1 c.loop-byte.invariant.0 c.loop-byte-test.false
