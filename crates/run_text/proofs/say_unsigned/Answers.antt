-- `run_text::say_unsigned`: the digits fit. Assumes nothing.
use Rattle.std.proofs.Common.{arith, sym}
use lib.Seq.{length-take-le}
use Rattle.text_numbers.proofs.PrintLaws.{decimal_short}
use Rattle.run_text.proofs.say_unsigned.Goals as goal

pub print_decimal-end-requires : goal.print_decimal-end-requires
print_decimal-end-requires g c = omega (arith, decimal_short c.in-Some.n (omega arith))

pub slice_bounds-write_all-end : goal.slice_bounds-write_all-end
slice_bounds-write_all-end g c = omega (arith, c.print_decimal-end.ensures.end, decimal_short c.in-Some.n (omega arith), c.print_decimal-end.auto.out)

pub slice_bounds-write_all-end-2 : goal.slice_bounds-write_all-end-2
slice_bounds-write_all-end-2 g c = sym (length-take-le c.print_decimal-end.result c.print_decimal-end.new.out (omega (arith, c.print_decimal-end.ensures.end, decimal_short c.in-Some.n (omega arith), c.print_decimal-end.auto.out)))
