-- `leaf_utf8::step`: a first byte, or one in or out of the awaited range. Assumes nothing.
use Rattle.leaf_utf8.proofs.Rows.{first_byte, out_of_range, in_range}
use Rattle.leaf_utf8.proofs.step.Goals as goal

pub returns-then-a-eq0 : goal.returns-then-a-eq0
returns-then-a-eq0 c = first_byte c.args.a c.args.byte c.first.result c.if-a-eq0.true c.first.ensures

pub returns-then-byte-a : goal.returns-then-byte-a
returns-then-byte-a c = in_range c.args.a c.args.byte c.awaiting.result c.if-a-eq0.false c.if-a-byte.true c.if-byte-a.true c.awaiting.ensures

pub returns-else-a-byte : goal.returns-else-a-byte
returns-else-a-byte c = out_of_range c.args.a c.args.byte c.if-a-eq0.false c.else-a-byte.either
