-- `sheet_parse::start_of`: the first, or behind another. Assumes nothing.
use Rattle.sheet_parse.proofs.DatumLaws.{start_first, start_later}
use Rattle.sheet_parse.proofs.start_of.Goals as goal

pub returns-then-i-eq0 : goal.returns-then-i-eq0
returns-then-i-eq0 c = start_first c.args.ends.now c.args.i c.if-i-eq0.true

pub returns-else-i-eq0 : goal.returns-else-i-eq0
returns-else-i-eq0 c = start_later c.args.ends.now c.args.i c.if-i-eq0.false
