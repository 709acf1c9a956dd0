-- `run_text::say_hex`: half as many bytes as digits. Assumes nothing.
use Rattle.text_numbers.proofs.HexLaws.{hexed_size}
use lib.Seq.{length-take-le}
use native.Mathlib.Omega.{arith}
use mathlib.Core.Path.{sym}
use Rattle.run_text.proofs.say_hex.Goals as goal

pub slice_bounds-say_bytes-end : goal.slice_bounds-say_bytes-end
slice_bounds-say_bytes-end g c = omega (arith, hexed_size c.args.room.now 0 c.args.line.now c.unhex.new.out c.unhex.result c.in-Some.n c.unhex.ensures c.in-Some.is, c.unhex.auto.out)

pub slice_bounds-say_bytes-end-2 : goal.slice_bounds-say_bytes-end-2
slice_bounds-say_bytes-end-2 g c = sym (length-take-le c.in-Some.n c.unhex.new.out (omega (arith, hexed_size c.args.room.now 0 c.args.line.now c.unhex.new.out c.unhex.result c.in-Some.n c.unhex.ensures c.in-Some.is, c.unhex.auto.out)))
