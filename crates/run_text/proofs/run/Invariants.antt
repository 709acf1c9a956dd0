-- `run_text::run`: a line is inside the text.
use Rattle.std.proofs.Common.{◌-◌, length}
use Rattle.run_text.proofs.run.Given as goal

abbrev pub decreases-loop-end : goal.decreases-loop-end
decreases-loop-end g l = length l.lines - l.at
