-- `c_doors::tell_truth`: 1 or 0, or the refusal's number. Assumes nothing.
use mathlib.Core.Path.{ap}
use Rattle.refusals.specs.Told.{answer_of}
use Rattle.c_doors.proofs.ToldLaws.{told_truth, no_truth}
use Rattle.c_doors.proofs.tell_truth.Goals as goal

pub returns-in-Ok : goal.returns-in-Ok
returns-in-Ok c = told_truth (answer_of c.args.answer) _ c.in-Ok.t _ c.from.ensures (ap answer_of c.in-Ok.is)

pub returns-in-Err : goal.returns-in-Err
returns-in-Err c = no_truth (answer_of c.args.answer) _ _ _ c.number.ensures (ap answer_of c.in-Err.is)
