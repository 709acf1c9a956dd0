-- `run_check::run` ends: each case takes at least its line's end.
use Rattle.std.proofs.Common.{length}
use Rattle.run_check.proofs.run.Given as goal

abbrev pub decreases-loop-rest : goal.decreases-loop-rest
decreases-loop-rest g l = length l.rest
