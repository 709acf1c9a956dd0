-- `run_text::say_bytes`: two digits a byte. Assumes nothing.
use Rattle.text_numbers.proofs.PrintLaws.{length-hex}
use lib.Seq.{length-take-le}
use native.Mathlib.Omega.{arith}
use mathlib.Core.Path.{sym}
use Rattle.run_text.proofs.say_bytes.Goals as goal

pub slice_bounds-write_all-end : goal.slice_bounds-write_all-end
slice_bounds-write_all-end g c = omega (arith, c.print_hex-end.ensures.end, length-hex c.args.bytes.now, c.print_hex-end.auto.out)

pub slice_bounds-write_all-end-2 : goal.slice_bounds-write_all-end-2
slice_bounds-write_all-end-2 g c = sym (length-take-le c.print_hex-end.result c.print_hex-end.new.out (omega (arith, c.print_hex-end.ensures.end, length-hex c.args.bytes.now, c.print_hex-end.auto.out)))
