-- `heap_sound_blocks::cover`: the front of the part is covered, and was clear. Assumes nothing.
use Rattle.heap_sound_blocks.proofs.PaintLaws.{front_none, front_more, front_met, front_all}
use native.Mathlib.Omega.{arith}
use Rattle.heap_sound_blocks.proofs.cover.Goals as goal

pub loop-i-init : goal.loop-i-init
loop-i-init c = front_none c.args.paint.now c.args.place c.args.mark

pub returns-then-paint-place-ne0 : goal.returns-then-paint-place-ne0
returns-then-paint-place-ne0 c = front_met c.args.paint.now c.args.place c.args.mark c.loop-i.paint c.loop-i.i c.loop-i.invariant c.args.size (omega arith) c.if-paint-place-ne0.true _

pub loop-i-preserved : goal.loop-i-preserved
loop-i-preserved c = front_more c.args.paint.now c.args.place c.args.mark c.loop-i.paint c.loop-i.i c.loop-i.invariant (omega arith) c.if-paint-place-ne0.false

pub returns : goal.returns
returns c = front_all c.args.paint.now c.args.place c.args.mark c.loop-i.paint c.loop-i.i c.loop-i.invariant c.args.size (omega arith)
