-- `doors::put`: 20, then 19, then the put behind them. Assumes nothing.
use mathlib.Core.Path.{refl, ap, ◌∙◌}
use Rattle.rules.specs.Calls.{left}
use Rattle.leaf_lists.specs.Lists.{lent_of, held}
use Rattle.refusals.specs.declared.Refusal.TheVariants.{Unsound}
use Rattle.heap_given.proofs.AnswerLaws.{passed_on}
use Rattle.heap_given.proofs.CheckedLaws.{sound_for, short_for}
use Rattle.doors.proofs.PutLaws.{put_unsound, put_short, ready, put_passed}
use Rattle.doors.proofs.put.Goals as goal

pub returns-in_err-sound-clause-leaves : goal.returns-in_err-sound-clause-leaves
returns-in_err-sound-clause-leaves c =
    ap (λ a. left a (held c.args.heap.now) c.args.scratch.now) (passed_on (λ a. a) _ _ Unsound c.from_residual.ensures.1 c.in_err-sound.ensures.1)
    ∙ put_unsound (held c.args.heap.now) c.args.scratch.now c.args.datum.now (sound_for _ _ _ c.lists.ensures c.in_err-sound.ensures.0)

pub returns-then-scratch_short-clause-leaves : goal.returns-then-scratch_short-clause-leaves
returns-then-scratch_short-clause-leaves c =
    put_short (held c.args.heap.now) c.args.scratch.now c.args.datum.now (sound_for _ _ _ c.lists.ensures c.in_ok-sound.ensures.0)
    (short_for (lent_of c.in_ok-sound.sound.lists) _ _ _ _ (ap lent_of c.in_ok-sound.ensures.1 ∙ c.lists.ensures) c.scratch_short.ensures c.if-scratch_short.true)

pub put-requires : goal.put-requires
put-requires c =
    ready (held c.args.heap.now) c.args.scratch.now (sound_for _ _ _ c.lists.ensures c.in_ok-sound.ensures.0)
    (short_for (lent_of c.in_ok-sound.sound.lists) _ _ _ _ (ap lent_of c.in_ok-sound.ensures.1 ∙ c.lists.ensures) c.scratch_short.ensures c.if-scratch_short.false)

pub returns-in_err-slot-clause-leaves : goal.returns-in_err-slot-clause-leaves
returns-in_err-slot-clause-leaves c =
    ap (λ a. left a (held c.put.new.heap) c.put.new.scratch) (passed_on (λ a. a) _ _ _ c.from_residual-in_err-slot.ensures.1 refl) ∙ c.in_err-slot.ensures.put
    ∙ put_passed (held c.args.heap.now) c.args.scratch.now c.args.datum.now (sound_for _ _ _ c.lists.ensures c.in_ok-sound.ensures.0)
    (short_for (lent_of c.in_ok-sound.sound.lists) _ _ _ _ (ap lent_of c.in_ok-sound.ensures.1 ∙ c.lists.ensures) c.scratch_short.ensures c.if-scratch_short.false)

pub returns-clause-leaves : goal.returns-clause-leaves
returns-clause-leaves c =
    c.in_ok-slot.ensures.put
    ∙ put_passed (held c.args.heap.now) c.args.scratch.now c.args.datum.now (sound_for _ _ _ c.lists.ensures c.in_ok-sound.ensures.0)
    (short_for (lent_of c.in_ok-sound.sound.lists) _ _ _ _ (ap lent_of c.in_ok-sound.ensures.1 ∙ c.lists.ensures) c.scratch_short.ensures c.if-scratch_short.false)
