-- `heap_sound_blocks::cover`: the front of the part is covered, and was clear. Assumes nothing.
use Rattle.heap_sound_blocks.proofs.PaintLaws.{Front}
use Rattle.heap_sound_blocks.proofs.cover.Given as goal

abbrev pub invariant-loop-i : goal.invariant-loop-i
invariant-loop-i l = Front l.initial.paint l.paint l.place l.i l.mark
