-- `run_text::say_signed`: the digits fit. Assumes nothing.
use Rattle.std.proofs.Common.{arith, sym}
use lib.Seq.{length-take-le}
use Rattle.text_numbers.proofs.PrintLaws.{signed_short}
use Rattle.run_text.proofs.say_signed.Goals as goal

pub print_signed-end-requires : goal.print_signed-end-requires
print_signed-end-requires g c = omega (arith, signed_short c.in-Some.n (omega arith))

pub slice_bounds-write_all-end : goal.slice_bounds-write_all-end
slice_bounds-write_all-end g c = omega (arith, c.print_signed-end.ensures.end, signed_short c.in-Some.n (omega arith), c.print_signed-end.auto.out)

pub slice_bounds-write_all-end-2 : goal.slice_bounds-write_all-end-2
slice_bounds-write_all-end-2 g c = sym (length-take-le c.print_signed-end.result c.print_signed-end.new.out (omega (arith, c.print_signed-end.ensures.end, signed_short c.in-Some.n (omega arith), c.print_signed-end.auto.out)))
