-- `text_decimals::digit_value`: below, in and above the range. Assumes nothing.
use Rattle.text_decimals.proofs.ReadLaws.{no_low, no_high, a_digit}
use native.Mathlib.Omega.{arith}
use mathlib.Core.Path.{sym}
use Rattle.text_decimals.proofs.digit_value.Goals as goal

pub returns-in-48-to-57-clause-value : goal.returns-in-48-to-57-clause-value
returns-in-48-to-57-clause-value c = sym (a_digit c.args.byte (omega arith) (omega arith))

pub returns-in_default-clause-value : goal.returns-in_default-clause-value
returns-in_default-clause-value c = sym (no_low c.args.byte (omega arith))

pub returns-in_default-2-clause-value : goal.returns-in_default-2-clause-value
returns-in_default-2-clause-value c = sym (no_high c.args.byte (omega arith) (omega arith))
