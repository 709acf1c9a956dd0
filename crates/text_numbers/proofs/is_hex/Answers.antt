-- `text_numbers::is_hex`: what was to look at is what is left to look at. Assumes nothing.
use Prim.Native.Nat.{ℕ, ◌*◌}
use mathlib.Core.Path.{ap, ◌∙◌}
use native.Mathlib.Omega.{arith}
use lib.ListN.{drop}
use mathlib.Core.Bool.{not}
use Rattle.text_numbers.specs.Answers.{is_hex}
use Rattle.text_numbers.proofs.HexLaws.{not_hex, hex_still, all_hex}
use Rattle.text_numbers.proofs.is_hex.Goals as goal

pub returns-then-is_none : goal.returns-then-is_none
returns-then-is_none c = not_hex c.args.t.now c.loop-i.i (omega arith) c.pair.result c.pair.ensures c.loop-i.invariant (c.is_none.ensures ∙ ap not c.if-is_none.true)

pub loop-i-preserved : goal.loop-i-preserved
loop-i-preserved c = hex_still c.args.t.now c.loop-i.i (omega arith) c.pair.result c.pair.ensures c.loop-i.invariant (c.is_none.ensures ∙ ap not c.if-is_none.false)

pub returns : goal.returns
returns c = all_hex c.args.t.now (c.loop-i.invariant ∙ ap (λ (n : ℕ). is_hex (drop (2 * n) c.args.t.now)) (omega arith))
