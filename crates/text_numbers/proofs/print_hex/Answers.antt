-- `text_numbers::print_hex`: what was to write is what is left to write. Assumes nothing.
use Prim.Native.Nat.{ℕ, ◌+◌, ◌*◌}
use Rattle.text_numbers.proofs.PrintLaws.{length-hex, hex_written, hex_done}
use Rattle.text_numbers.specs.Answers.{written}
use Rattle.rules.specs.Text.{hex}
use native.Mathlib.Omega.{arith}
use mathlib.Core.Path.{ap, ◌∙◌}
use Rattle.text_numbers.proofs.print_hex.Goals as goal

pub loop-i-init : goal.loop-i-init
loop-i-init c = ap (λ (n : ℕ). written c.args.out.now n (hex c.args.t.now)) (native.Mathlib.Nat.add-zero c.args.at)

pub loop-i-preserved : goal.loop-i-preserved
loop-i-preserved c = hex_written c.loop-i.out c.args.t.now c.args.at c.loop-i.i c.hex_digit.result c.hex_digit-in-loop-i.result c.loop-i-test.true c.hex_digit.ensures c.hex_digit-in-loop-i.ensures ∙ c.loop-i.invariant

pub returns : goal.returns
returns c = record { is = hex_done c.loop-i.out c.args.t.now (c.args.at + 2 * c.loop-i.i) c.loop-i.i c.loop-i-test.false ∙ c.loop-i.invariant; end = omega (arith, length-hex c.args.t.now) }
