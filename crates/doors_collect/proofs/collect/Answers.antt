-- `doors_collect::collect`: 20, then 19, then 14, then the collection. Assumes nothing.
use mathlib.Core.Path.{◌≡◌, sym, ap, ◌∙◌}
use Rattle.rules.specs.Calls.{left}
use Rattle.leaf_lists.specs.Lists.{lent_of, held}
use Rattle.refusals.specs.declared.Refusal.TheVariants.{Unsound}
use Rattle.heap_given.proofs.AnswerLaws.{passed_on}
use Rattle.heap_given.proofs.CheckedLaws.{sound_for, short_for}
use Rattle.heap_given.proofs.HeaderLaws.{header_there}
use Rattle.doors_collect.proofs.CollectLaws.{asked_of, fours, collect_unsound, collect_short, collect_no_root, collect_ready, collect_done}
use Rattle.doors_collect.proofs.collect.Goals as goal

pub returns-in_err-sound-clause-leaves : goal.returns-in_err-sound-clause-leaves
returns-in_err-sound-clause-leaves c =
    ap (λ a. left a (held c.args.heap.now) c.args.scratch.now) (passed_on (λ a. a) _ _ Unsound c.from_residual.ensures.1 c.in_err-sound.ensures.1)
    ∙ collect_unsound (held c.args.heap.now) c.args.scratch.now c.args.roots.now (sound_for _ _ _ c.lists.ensures c.in_err-sound.ensures.0)

pub returns-then-scratch_short-clause-leaves : goal.returns-then-scratch_short-clause-leaves
returns-then-scratch_short-clause-leaves c =
    collect_short (held c.args.heap.now) c.args.scratch.now c.args.roots.now (sound_for _ _ _ c.lists.ensures c.in_ok-sound.ensures.0)
    (short_for (lent_of c.in_ok-sound.sound.lists) _ _ _ _ (ap lent_of c.in_ok-sound.ensures.1 ∙ c.lists.ensures) c.scratch_short.ensures c.if-scratch_short.true)

pub roots_in_use-requires : goal.roots_in_use-requires
roots_in_use-requires c =
    let s = c.in_ok-sound.sound in
    record { in_bounds = header_there (lent_of s.lists) s.sound; words_value = fours (lent_of s.lists) s.sound }

pub returns-then-not-roots_in_use-clause-leaves : goal.returns-then-not-roots_in_use-clause-leaves
returns-then-not-roots_in_use-clause-leaves c =
    let h = c.args.heap.now in
    collect_no_root (held h) c.args.scratch.now c.args.roots.now (sound_for _ _ _ c.lists.ensures c.in_ok-sound.ensures.0)
    (short_for (lent_of c.in_ok-sound.sound.lists) _ _ _ _ (ap lent_of c.in_ok-sound.ensures.1 ∙ c.lists.ensures) c.scratch_short.ensures c.if-scratch_short.false)
    _ (asked_of (lent_of c.in_ok-sound.sound.lists) (held h) _ _ (ap lent_of c.in_ok-sound.ensures.1 ∙ c.lists.ensures) c.roots_in_use.ensures c.if-not-roots_in_use.true) c.clear_words.ensures

pub collect-requires : goal.collect-requires
collect-requires c =
    let h = c.args.heap.now in
    collect_ready (held h) c.args.scratch.now c.args.roots.now (sound_for _ _ _ c.lists.ensures c.in_ok-sound.ensures.0)
    (short_for (lent_of c.in_ok-sound.sound.lists) _ _ _ _ (ap lent_of c.in_ok-sound.ensures.1 ∙ c.lists.ensures) c.scratch_short.ensures c.if-scratch_short.false)
    (asked_of (lent_of c.in_ok-sound.sound.lists) (held h) _ _ (ap lent_of c.in_ok-sound.ensures.1 ∙ c.lists.ensures) c.roots_in_use.ensures c.if-not-roots_in_use.false)

pub returns-clause-leaves : goal.returns-clause-leaves
returns-clause-leaves c =
    let h = c.args.heap.now in
    collect_done (held h) c.args.scratch.now c.args.roots.now (sound_for _ _ _ c.lists.ensures c.in_ok-sound.ensures.0)
    (short_for (lent_of c.in_ok-sound.sound.lists) _ _ _ _ (ap lent_of c.in_ok-sound.ensures.1 ∙ c.lists.ensures) c.scratch_short.ensures c.if-scratch_short.false)
    _ _ (asked_of (lent_of c.in_ok-sound.sound.lists) (held h) _ _ (ap lent_of c.in_ok-sound.ensures.1 ∙ c.lists.ensures) c.roots_in_use.ensures c.if-not-roots_in_use.false) c.collect.ensures.elems_after c.collect.ensures.scratch_after
