-- `text_numbers::write_unhexed`: what was to write is what is left to write. Assumes nothing.
use Rattle.text_numbers.proofs.HexLaws.{a_byte, hex_on, byte_on, even_hex, all_written}
use Prim.Native.Nat.{ℕ, ◌+◌, ◌*◌}
use Rattle.text_numbers.specs.Answers.{unhexed, written}
use native.Mathlib.Omega.{arith}
use mathlib.Core.Path.{ap, ◌∙◌}
use Rattle.text_numbers.proofs.write_unhexed.Goals as goal

pub loop-i-init : goal.loop-i-init
loop-i-init c = (c.requires.t_value, ap (λ (n : ℕ). written c.args.out.now n (unhexed c.args.t.now)) (native.Mathlib.Nat.add-zero c.args.at))

pub unwrap-requires : goal.unwrap-requires
unwrap-requires c = a_byte c.args.t.now c.loop-i.i (omega arith) c.pair.result c.pair.ensures c.loop-i.invariant.0

pub loop-i-preserved : goal.loop-i-preserved
loop-i-preserved c = (
  hex_on c.args.t.now c.loop-i.i (omega arith) c.pair.result c.pair.ensures c.loop-i.invariant.0 c.unwrap.result c.unwrap.ensures,
  byte_on c.args.t.now c.loop-i.i (omega arith) c.pair.result c.pair.ensures c.loop-i.invariant.0 c.unwrap.result c.unwrap.ensures c.loop-i.out c.args.at
      ∙ c.loop-i.invariant.1,
)

pub returns : goal.returns
returns c = all_written c.loop-i.out c.args.t.now (c.args.at + c.loop-i.i) (2 * c.loop-i.i) (omega (arith, even_hex c.args.t.now c.requires.t_value)) ∙ c.loop-i.invariant.1
