-- `sheet_print::print_keyed`: the key, then the digits behind it. Assumes nothing.
use Rattle.sheet_print.proofs.PrintLaws.{keyed}
use native.Mathlib.Omega.{arith}
use Rattle.text_numbers.proofs.PrintLaws.{decimal_short}
use Rattle.sheet_print.proofs.print_keyed.Goals as goal

pub print_decimal-requires : goal.print_decimal-requires
print_decimal-requires c = omega (arith, c.print_text-end.ensures.end, c.print_text-end.auto, decimal_short c.args.n c.ranges.n.fits)

pub returns : goal.returns
returns c = keyed c.args.out.now c.args.key.now c.args.at c.args.n c.ranges.n.fits c.print_text-end.ensures c.print_decimal.ensures
