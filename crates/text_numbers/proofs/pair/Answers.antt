-- `text_numbers::pair`: no first digit, no second, or both. Assumes nothing.
use mathlib.Core.Path.{ap, ◌∙◌}
use Rattle.text_decimals.specs.Reads.{shown}
use Rattle.text_numbers.proofs.HexLaws.{pair_first, pair_second, pair_is}
use Rattle.text_numbers.proofs.pair.Goals as goal

pub returns-in_err-hex_value : goal.returns-in_err-hex_value
returns-in_err-hex_value c = ap shown c.from_residual.ensures ∙ pair_first c.args.a c.args.b c.in_err-hex_value.ensures.value

pub returns-in_err-hex_value-2 : goal.returns-in_err-hex_value-2
returns-in_err-hex_value-2 c = ap shown c.from_residual-in_err-hex_value-2.ensures ∙ pair_second c.args.a c.args.b _ c.in_ok-hex_value.ensures.value c.in_err-hex_value-2.ensures.value

pub returns : goal.returns
returns c = pair_is c.args.a c.args.b _ c.in_ok-hex_value.ensures.value _ c.in_ok-hex_value-2.ensures.value
