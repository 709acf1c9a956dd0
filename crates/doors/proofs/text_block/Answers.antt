-- `doors::text_block`: the tests in the table's order, then the cell. Assumes nothing.
use mathlib.Core.Path.{ap, ◌∙◌}
use Rattle.rules.specs.Calls.{text_call}
use Rattle.leaf_lists.specs.Lists.{lent_of}
use Rattle.leaf_lists.specs.declared.Lists.{Lists}
use Rattle.refusals.specs.declared.Refusal.TheVariants.{Unsound}
use Rattle.heap_given.proofs.AnswerLaws.{passed_on}
use Rattle.doors.specs.Answers.{block_of}
use Rattle.doors.proofs.DoorLaws.{known, text_unsound, text_free, text_found}
use Rattle.doors.proofs.text_block.Goals as goal

pub returns-in_err-checked : goal.returns-in_err-checked
returns-in_err-checked c = passed_on block_of _ _ Unsound c.from_residual.ensures.1 c.in_err-checked.ensures.1 ∙ text_unsound (lent_of c.args.heap) c.args.slot c.in_err-checked.ensures.0

pub look_up-requires : goal.look_up-requires
look_up-requires c = let k = known (lent_of c.in_ok-checked.checked.lists) c.in_ok-checked.checked.sound in (k.header, k.rows)

pub returns-in-Some : goal.returns-in-Some
returns-in-Some c = text_found (lent_of c.in_ok-checked.checked.lists) c.args.slot c.in_ok-checked.checked.sound _ c.in-Some.ensures _ c.block_in.ensures ∙ ap (λ (h : Lists). text_call (lent_of h) c.args.slot) c.in_ok-checked.ensures.1

pub returns-in-None : goal.returns-in-None
returns-in-None c = text_free (lent_of c.in_ok-checked.checked.lists) c.args.slot c.in_ok-checked.checked.sound c.in-None.ensures ∙ ap (λ (h : Lists). text_call (lent_of h) c.args.slot) c.in_ok-checked.ensures.1
