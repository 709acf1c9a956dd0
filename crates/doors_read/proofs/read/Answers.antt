-- `doors_read::read`: 20, then 19, then 11, then 14, then the read. Assumes nothing.
use mathlib.Core.Path.{refl, sym, ap, ◌∙◌}
use native.Mathlib.Omega.{arith}
use Rattle.std.specs.Prelude.{Err}
use Rattle.rules.specs.Layout.{rooms_of, heap_of}
use Rattle.leaf_cells.specs.Elements.{value_of}
use Rattle.leaf_lists.specs.Lists.{lent_of}
use Rattle.refusals.specs.declared.Refusal.TheVariants.{Unsound}
use Rattle.refusals.specs.Told.{answer_of}
use Rattle.heap_given.specs.Given.{value_answer}
use Rattle.heap_given.proofs.AnswerLaws.{passed_on}
use Rattle.heap_given.proofs.CheckedLaws.{short_for}
use Rattle.heap_given.proofs.HeaderLaws.{header_there}
use Rattle.doors_read.specs.Answers.{read_left}
use Rattle.doors_read.proofs.DoorLaws.{read_unsound, read_short, read_malformed, read_accepted, read_free, held}
use Rattle.doors_read.proofs.read.Goals as goal

pub returns-in_err-sound : goal.returns-in_err-sound
returns-in_err-sound c =
    ap (λ x. read_left x c.args.scratch.now c.args.out.now) (passed_on (λ x. x) _ _ Unsound c.from_residual.ensures.1 c.in_err-sound.ensures.1)
    ∙ read_unsound (lent_of c.args.heap) c.args.scratch.now c.args.out.now c.args.kind c.args.a c.in_err-sound.ensures.0

pub returns-then-scratch_short : goal.returns-then-scratch_short
returns-then-scratch_short c = read_short (lent_of c.args.heap) c.args.scratch.now c.args.out.now c.args.kind c.args.a c.in_ok-sound.ensures.0 (short_for (lent_of c.in_ok-sound.sound.lists) (lent_of c.args.heap) _ _ _ (ap lent_of c.in_ok-sound.ensures.1) c.scratch_short.ensures c.if-scratch_short.true)

pub returns-in-Err : goal.returns-in-Err
returns-in-Err c =
    ap (λ r. read_left (answer_of (Err r)) c.clear_words.new.words c.args.out.now) c.from.ensures
    ∙ read_malformed (lent_of c.args.heap) c.args.scratch.now c.args.out.now c.args.kind c.args.a c.in_ok-sound.ensures.0 (short_for (lent_of c.in_ok-sound.sound.lists) (lent_of c.args.heap) _ _ _ (ap lent_of c.in_ok-sound.ensures.1) c.scratch_short.ensures c.if-scratch_short.false) _ (sym (ap value_answer c.in-Err.is) ∙ c.given_value.ensures) _ c.clear_words.ensures

pub bounds-heap-1 : goal.bounds-heap-1
bounds-heap-1 c = omega (arith, header_there (lent_of c.args.heap) c.in_ok-sound.ensures.0)

pub returns-then-not-value_in_use : goal.returns-then-not-value_in_use
returns-then-not-value_in_use c =
    read_free (lent_of c.args.heap) c.in_ok-sound.ensures.0 c.args.scratch.now c.args.out.now (value_of c.in-Ok.v) (sym c.value_in_use.ensures ∙ c.if-not-value_in_use.true) _ c.clear_words-then-not-value_in_use.ensures
    ∙ read_accepted (lent_of c.args.heap) c.args.scratch.now c.args.out.now c.args.kind c.args.a c.in_ok-sound.ensures.0 (short_for (lent_of c.in_ok-sound.sound.lists) (lent_of c.args.heap) _ _ _ (ap lent_of c.in_ok-sound.ensures.1) c.scratch_short.ensures c.if-scratch_short.false) _ (sym (ap value_answer c.in-Ok.is) ∙ c.given_value.ensures)

pub read-requires : goal.read-requires
read-requires c = (rooms_of (lent_of c.args.heap), heap_of (lent_of c.args.heap), held (lent_of c.args.heap) c.in_ok-sound.ensures.0 c.args.scratch.now c.args.out.now (value_of c.in-Ok.v) (sym c.value_in_use.ensures ∙ c.if-not-value_in_use.false) (short_for (lent_of c.in_ok-sound.sound.lists) (lent_of c.args.heap) _ _ _ (ap lent_of c.in_ok-sound.ensures.1) c.scratch_short.ensures c.if-scratch_short.false))

pub returns-in_err-length : goal.returns-in_err-length
returns-in_err-length c =
    ap (λ x. read_left x c.read.new.scratch c.read.new.out) (passed_on (λ x. x) _ _ _ c.from_residual-in_err-length.ensures.1 refl)
    ∙ c.in_err-length.ensures (rooms_of (lent_of c.args.heap)) (heap_of (lent_of c.args.heap)) (held (lent_of c.args.heap) c.in_ok-sound.ensures.0 c.args.scratch.now c.args.out.now (value_of c.in-Ok.v) (sym c.value_in_use.ensures ∙ c.if-not-value_in_use.false) (short_for (lent_of c.in_ok-sound.sound.lists) (lent_of c.args.heap) _ _ _ (ap lent_of c.in_ok-sound.ensures.1) c.scratch_short.ensures c.if-scratch_short.false))
    ∙ read_accepted (lent_of c.args.heap) c.args.scratch.now c.args.out.now c.args.kind c.args.a c.in_ok-sound.ensures.0 (short_for (lent_of c.in_ok-sound.sound.lists) (lent_of c.args.heap) _ _ _ (ap lent_of c.in_ok-sound.ensures.1) c.scratch_short.ensures c.if-scratch_short.false) _ (sym (ap value_answer c.in-Ok.is) ∙ c.given_value.ensures)

pub returns : goal.returns
returns c =
    c.in_ok-length.ensures (rooms_of (lent_of c.args.heap)) (heap_of (lent_of c.args.heap)) (held (lent_of c.args.heap) c.in_ok-sound.ensures.0 c.args.scratch.now c.args.out.now (value_of c.in-Ok.v) (sym c.value_in_use.ensures ∙ c.if-not-value_in_use.false) (short_for (lent_of c.in_ok-sound.sound.lists) (lent_of c.args.heap) _ _ _ (ap lent_of c.in_ok-sound.ensures.1) c.scratch_short.ensures c.if-scratch_short.false))
    ∙ read_accepted (lent_of c.args.heap) c.args.scratch.now c.args.out.now c.args.kind c.args.a c.in_ok-sound.ensures.0 (short_for (lent_of c.in_ok-sound.sound.lists) (lent_of c.args.heap) _ _ _ (ap lent_of c.in_ok-sound.ensures.1) c.scratch_short.ensures c.if-scratch_short.false) _ (sym (ap value_answer c.in-Ok.is) ∙ c.given_value.ensures)
