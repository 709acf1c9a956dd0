-- `doors::text_told`: the block's answer without the block. Assumes nothing.
use mathlib.Core.Path.{refl, ap}
use Rattle.rules.specs.Refusals.{accepted, told}
use Rattle.leaf_lists.specs.Lists.{lent_of}
use Rattle.heap_given.proofs.AnswerLaws.{passed_on}
use Rattle.doors.proofs.DoorLaws.{told_as}
use Rattle.doors.proofs.text_told.Goals as goal

pub returns-in_err-text_block : goal.returns-in_err-text_block
unfolding told
returns-in_err-text_block c = told_as (lent_of c.args.heap) c.args.slot _ _ c.in_err-text_block.ensures (ap told (passed_on (λ a. a) _ _ _ c.from_residual.ensures.1 refl))

pub returns : goal.returns
unfolding told
returns c = told_as (lent_of c.args.heap) c.args.slot (accepted tt) _ c.in_ok-text_block.ensures refl
