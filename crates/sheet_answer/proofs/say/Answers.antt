-- `sheet_answer::say`: the line is inside the buffer. Assumes nothing.
use Rattle.sheet_answer.proofs.LineLaws.{part_long}
use Rattle.sheet_answer.proofs.say.Goals as goal

pub slice_bounds-write_all-end : goal.slice_bounds-write_all-end
slice_bounds-write_all-end g c = part_long c.args.n c.args.line.now c.requires
