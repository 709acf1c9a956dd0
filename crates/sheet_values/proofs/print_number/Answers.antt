-- `sheet_values::print_number`: the key, then the signed number. Assumes nothing.
use Rattle.laws.specs.Basics.{basics}
use Rattle.sheet_values.proofs.CellLaws.{number_printed}
use Rattle.text_numbers.proofs.PrintLaws.{signed_short}
use native.Mathlib.Omega.{arith}
use Rattle.sheet_values.proofs.print_number.Goals as goal

pub print_signed-requires : goal.print_signed-requires
print_signed-requires c = omega (arith, c.print_text-end.ensures.end, c.print_text-end.auto.out, signed_short c.args.n c.ranges.n.fits)

pub returns : goal.returns
unfolding basics
returns c = number_printed c.args.n c.ranges.n.fits c.print_text-end.ensures c.print_signed.ensures
