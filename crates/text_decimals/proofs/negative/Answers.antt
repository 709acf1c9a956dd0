-- `text_decimals::negative`: zero, or another. Assumes nothing.
use native.Mathlib.Omega.{arith}
use Rattle.text_decimals.proofs.ReadLaws.{no_zero, negated}
use Rattle.text_decimals.proofs.negative.Goals as goal

pub returns-then-n-eq0 : goal.returns-then-n-eq0
returns-then-n-eq0 c = no_zero c.args.n c.if-n-eq0.true

pub returns-else-n-eq0 : goal.returns-else-n-eq0
returns-else-n-eq0 c = negated c.args.n _ c.if-n-eq0.false (omega arith)
