-- `c_doors::tell_done`: 0, or the refusal's number. Assumes nothing.
use mathlib.Core.Path.{ap}
use Rattle.refusals.specs.Told.{answer_of}
use Rattle.c_doors.proofs.ToldLaws.{told_done, told_undone}
use Rattle.c_doors.proofs.tell_done.Goals as goal

pub returns-in-Ok : goal.returns-in-Ok
returns-in-Ok c = told_done (answer_of c.args.answer) (ap answer_of c.in-Ok.is)

pub returns-in-Err : goal.returns-in-Err
returns-in-Err c = told_undone (answer_of c.args.answer) _ _ c.number.ensures (ap answer_of c.in-Err.is)
