-- `text_numbers::hex_digit`: below ten, and above. Assumes nothing.
use Rattle.text_numbers.proofs.PrintLaws.{digit_low, digit_high}
use mathlib.Core.Path.{sym}
use Rattle.text_numbers.proofs.hex_digit.Goals as goal

pub returns-then-n-lt10 : goal.returns-then-n-lt10
returns-then-n-lt10 c = sym (digit_low c.args.n c.if-n-lt10.true)

pub returns-else-n-lt10 : goal.returns-else-n-lt10
returns-else-n-lt10 c = sym (digit_high c.args.n c.if-n-lt10.false)
