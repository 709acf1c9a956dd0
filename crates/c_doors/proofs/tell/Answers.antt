-- `c_doors::tell`: a number, or the refusal's. Assumes nothing.
use mathlib.Core.Path.{ap}
use Rattle.refusals.specs.Told.{answer_of}
use Rattle.c_doors.proofs.ToldLaws.{told_number, told_refusal}
use Rattle.c_doors.proofs.tell.Goals as goal

pub returns-in-Ok : goal.returns-in-Ok
returns-in-Ok c = told_number (answer_of c.args.answer) _ _ (ap answer_of c.in-Ok.is)

pub returns-in-Err : goal.returns-in-Err
returns-in-Err c = told_refusal (answer_of c.args.answer) _ _ _ c.number.ensures (ap answer_of c.in-Err.is)
