-- `text_numbers::hex_value`: in the two ranges, below, between and above them. Assumes nothing.
use Rattle.text_numbers.proofs.HexLaws.{below_digits, a_digit, below_letters, a_letter, above_letters}
use native.Mathlib.Omega.{arith}
use Rattle.text_numbers.proofs.hex_value.Goals as goal

pub returns-in-48-to-57-clause-value : goal.returns-in-48-to-57-clause-value
returns-in-48-to-57-clause-value c = a_digit c.args.byte (omega arith) (omega arith)

pub returns-in-97-to-102-clause-value : goal.returns-in-97-to-102-clause-value
returns-in-97-to-102-clause-value c = a_letter c.args.byte _ (omega arith) (omega arith) (omega arith)

pub returns-in_default-clause-value : goal.returns-in_default-clause-value
returns-in_default-clause-value c = below_digits c.args.byte (omega arith)

pub returns-in_default-2-clause-value : goal.returns-in_default-2-clause-value
returns-in_default-2-clause-value c = below_letters c.args.byte (omega arith) (omega arith)

pub returns-in_default-3-clause-value : goal.returns-in_default-3-clause-value
returns-in_default-3-clause-value c = above_letters c.args.byte (omega arith)
