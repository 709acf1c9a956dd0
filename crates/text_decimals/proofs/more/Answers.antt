-- `text_decimals::more`: a digit, or not; and the number stays within the most, or not. Assumes nothing.
use Rattle.text_decimals.proofs.ReadLaws.{step_bad, step_past, step_good}
use native.Mathlib.Omega.{arith}
use Rattle.text_decimals.proofs.more.Goals as goal

pub returns-in_err-digit_value : goal.returns-in_err-digit_value
returns-in_err-digit_value c = rw c.from_residual.ensures (step_bad c.args.most c.args.n c.args.byte c.in_err-digit_value.ensures.value)

pub returns-then-most-d : goal.returns-then-most-d
returns-then-most-d c = step_past c.args.most c.args.n c.args.byte _ c.in_ok-digit_value.ensures.value (omega (arith, c.in_ok-digit_value.ensures.small))

pub returns : goal.returns
returns c = step_good c.args.most c.args.n c.args.byte _ _ c.in_ok-digit_value.ensures.value (omega arith) (omega (arith, c.in_ok-digit_value.ensures.small))
