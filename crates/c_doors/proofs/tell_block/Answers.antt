-- `c_doors::tell_block`: a block's place and size, or the refusal's number. Assumes nothing.
use mathlib.Core.Path.{ap}
use Rattle.doors.specs.Answers.{block_answer}
use Rattle.c_doors.proofs.ToldLaws.{told_block, no_block}
use Rattle.c_doors.proofs.tell_block.Goals as goal

pub returns-in-Ok : goal.returns-in-Ok
returns-in-Ok c = told_block (block_answer c.args.answer) _ _ _ _ (ap block_answer c.in-Ok.is)

pub returns-in-Err : goal.returns-in-Err
returns-in-Err c = no_block (block_answer c.args.answer) _ _ _ _ c.number.ensures (ap block_answer c.in-Err.is)
