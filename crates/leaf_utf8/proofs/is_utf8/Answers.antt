-- `leaf_utf8::is_utf8`: what was to do is what is left to do. Assumes nothing.
use mathlib.Core.Path.{sym, ◌∙◌}
use Rattle.rules.specs.Utf8.{◌to◌}
use Rattle.leaf_utf8.proofs.Rows.{begins, stops, goes_on, ends}
use Rattle.leaf_utf8.proofs.is_utf8.Goals as goal

pub loop-byte-init : goal.loop-byte-init
loop-byte-init c = begins c.args.s.now (0x80 to 0xbf)

pub returns-in_default : goal.returns-in_default
returns-in_default c =
    stops c.args.s.now c.loop-byte.a c.loop-byte.byte-index c.step.result c.loop-byte.invariant
    c.loop-byte-test.true c.step.ensures c.in_default.is

pub loop-byte-preserved : goal.loop-byte-preserved
loop-byte-preserved c =
    goes_on c.args.s.now c.loop-byte.a c.loop-byte.byte-index c.step.result c.loop-byte.invariant
    c.loop-byte-test.true c.step.ensures c.in-Some.next c.in-Some.is

pub returns : goal.returns
returns c =
    ends c.args.s.now c.loop-byte.a.left c.loop-byte.byte-index (c.loop-byte.a.low to c.loop-byte.a.high) c.loop-byte-test.false ∙
    sym c.loop-byte.invariant
