-- `doors::free`: the header's word 2. Assumes nothing.
use mathlib.Core.Path.{ap, ◌∙◌}
use native.Mathlib.Omega.{arith}
use Rattle.rules.specs.Heap.{free_count}
use Rattle.rules.specs.Calls.{free_call}
use Rattle.leaf_lists.specs.Lists.{lent_of}
use Rattle.leaf_lists.specs.declared.Lists.{Lists}
use Rattle.refusals.specs.declared.Refusal.TheVariants.{Unsound}
use Rattle.heap_given.proofs.AnswerLaws.{passed_on}
use Rattle.doors.proofs.DoorLaws.{known, count_unsound, free_is}
use Rattle.doors.proofs.free.Goals as goal

pub returns-in_err-sound : goal.returns-in_err-sound
unfolding free_call
returns-in_err-sound c = passed_on (λ a. a) _ _ Unsound c.from_residual.ensures.1 c.in_err-sound.ensures.1 ∙ count_unsound free_count (lent_of c.args.heap) c.in_err-sound.ensures.0

pub bounds-sound-2 : goal.bounds-sound-2
bounds-sound-2 c = omega (arith, (known (lent_of c.in_ok-sound.sound.lists) c.in_ok-sound.sound.sound).header)

pub returns : goal.returns
returns c = free_is (lent_of c.in_ok-sound.sound.lists) c.in_ok-sound.sound.sound ∙ ap (λ (h : Lists). free_call (lent_of h)) c.in_ok-sound.ensures.1
