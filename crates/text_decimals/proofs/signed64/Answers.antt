-- `text_decimals::signed64`: with a minus, and without. Assumes nothing.
use Rattle.text_decimals.proofs.ReadLaws.{signed_by, signed_plain}
use Rattle.rules.specs.Text.{text_rules}
use Rattle.text_decimals.specs.Reads.{shown}
use mathlib.Core.Path.{ap, ◌∙◌}
use Rattle.std.specs.Prelude.{None, Some}
use Rattle.text_decimals.proofs.signed64.Goals as goal

pub returns-in_err-natural-in-Some : goal.returns-in_err-natural-in-Some
unfolding text_rules
returns-in_err-natural-in-Some c = ap shown c.from_residual.ensures ∙ signed_by c.args.t.now c.in-Some.digits.now None c.in-Some.ensures.cases.0 c.in-Some.ensures.cases.1 c.in_err-natural-in-Some.ensures

pub returns-in_ok-natural-in-Some : goal.returns-in_ok-natural-in-Some
returns-in_ok-natural-in-Some c = c.negative.ensures ∙ signed_by c.args.t.now c.in-Some.digits.now (Some c.in_ok-natural-in-Some.field-0) c.in-Some.ensures.cases.0 c.in-Some.ensures.cases.1 c.in_ok-natural-in-Some.ensures

pub returns-in-None : goal.returns-in-None
returns-in-None c = c.natural-in-None.ensures ∙ signed_plain c.args.t.now c.in-None.ensures.cases
