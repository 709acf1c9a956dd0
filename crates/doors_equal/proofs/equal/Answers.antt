-- `doors_equal::equal`: 20, then 19, then 11 of either value, then what is behind them. Assumes nothing.
use mathlib.Core.Path.{sym, ap, ◌∙◌, subst}
use mathlib.Core.Bool.{Bool}
use Rattle.std.specs.Prelude.{◌≡◌, List, ℕ, Err}
use Rattle.rules.specs.Refusals.{Answer}
use Rattle.rules.specs.Layout.{Lent, heap_of}
use Rattle.rules.specs.Calls.{EqualValues, EqualCall}
use Rattle.leaf_cells.specs.Elements.{value_of}
use Rattle.leaf_lists.specs.Lists.{lent_of}
use Rattle.leaf_lists.specs.declared.Lists.{Lists}
use Rattle.refusals.specs.declared.Refusal.{Refusal}
use Rattle.refusals.specs.declared.Refusal.TheVariants.{Unsound}
use Rattle.heap_given.specs.Given.{value_answer}
use Rattle.refusals.specs.Told.{answer_of}
use Rattle.heap_given.proofs.AnswerLaws.{passed_on}
use Rattle.heap_given.proofs.CheckedLaws.{short_for}
use Rattle.doors_equal.specs.Answers.{equal_left}
use Rattle.doors_equal.proofs.EqualLaws.{equal_unsound, equal_short, first_malformed, first_accepted, second_malformed, second_accepted}
use Rattle.doors_equal.proofs.equal.Goals as goal

pub returns-in_err-sound : goal.returns-in_err-sound
returns-in_err-sound c =
    subst (λ (x : Answer Bool). EqualCall (lent_of c.args.heap) c.args.scratch.now c.args.kind c.args.a c.args.kind2 c.args.a2 (equal_left x c.args.scratch.now)) (sym (passed_on (λ x. x) _ _ Unsound c.from_residual.ensures.1 c.in_err-sound.ensures.1))
    (equal_unsound (lent_of c.args.heap) c.args.scratch.now c.args.kind c.args.a c.args.kind2 c.args.a2 c.in_err-sound.ensures.0)

pub returns-then-scratch_short : goal.returns-then-scratch_short
returns-then-scratch_short c = equal_short (lent_of c.args.heap) c.args.scratch.now c.args.kind c.args.a c.args.kind2 c.args.a2 c.in_ok-sound.ensures.0 (short_for (lent_of c.in_ok-sound.sound.lists) (lent_of c.args.heap) _ _ _ (ap lent_of c.in_ok-sound.ensures.1) c.scratch_short.ensures c.if-scratch_short.true)

-- a fault told as a refusal
told_for : (l : Lent) (scratch : List ℕ) (kind a kind' a' : ℕ) (r f : Refusal) (after : List ℕ) → r ≡ f → EqualCall l scratch kind a kind' a' (equal_left (answer_of (Err f)) after) → EqualCall l scratch kind a kind' a' (equal_left (answer_of (Err r)) after)
told_for l scratch kind a kind' a' r f after e x =
    subst (λ (r : Refusal). EqualCall l scratch kind a kind' a' (equal_left (answer_of (Err r)) after)) (sym e) x

pub returns-in-Err : goal.returns-in-Err
returns-in-Err c =
    told_for (lent_of c.args.heap) c.args.scratch.now c.args.kind c.args.a c.args.kind2 c.args.a2 _ _ _ c.from.ensures
    (first_malformed (lent_of c.args.heap) c.args.scratch.now c.args.kind c.args.a c.args.kind2 c.args.a2 c.in_ok-sound.ensures.0 (short_for (lent_of c.in_ok-sound.sound.lists) (lent_of c.args.heap) _ _ _ (ap lent_of c.in_ok-sound.ensures.1) c.scratch_short.ensures c.if-scratch_short.false) _ (sym (ap value_answer c.in-Err.is) ∙ c.given_value.ensures) _ c.clear_words.ensures)

pub returns-in-Err-given_value : goal.returns-in-Err-given_value
returns-in-Err-given_value c =
    told_for (lent_of c.args.heap) c.args.scratch.now c.args.kind c.args.a c.args.kind2 c.args.a2 _ _ _ c.from-in-Err-given_value.ensures
    (first_accepted (lent_of c.args.heap) c.args.scratch.now c.args.kind c.args.a c.args.kind2 c.args.a2 c.in_ok-sound.ensures.0 (short_for (lent_of c.in_ok-sound.sound.lists) (lent_of c.args.heap) _ _ _ (ap lent_of c.in_ok-sound.ensures.1) c.scratch_short.ensures c.if-scratch_short.false) _ (sym (ap value_answer c.in-Ok.is) ∙ c.given_value.ensures) _
    (second_malformed (lent_of c.args.heap) c.args.scratch.now (value_of c.in-Ok.v) c.args.kind2 c.args.a2 _ (sym (ap value_answer c.in-Err-given_value.is) ∙ c.given_value-2.ensures) _ c.clear_words-in-Err-given_value.ensures))

pub equal_values-requires : goal.equal_values-requires
equal_values-requires c = sym c.scratch_short.ensures ∙ c.if-scratch_short.false

pub returns : goal.returns
returns c =
    first_accepted (lent_of c.args.heap) c.args.scratch.now c.args.kind c.args.a c.args.kind2 c.args.a2 c.in_ok-sound.ensures.0 (short_for (lent_of c.in_ok-sound.sound.lists) (lent_of c.args.heap) _ _ _ (ap lent_of c.in_ok-sound.ensures.1) c.scratch_short.ensures c.if-scratch_short.false) _ (sym (ap value_answer c.in-Ok.is) ∙ c.given_value.ensures) _
    (second_accepted (lent_of c.args.heap) c.args.scratch.now (value_of c.in-Ok.v) c.args.kind2 c.args.a2 _ (sym (ap value_answer c.in-Ok-given_value.is) ∙ c.given_value-2.ensures) _
    (subst (λ (h : Lists). EqualValues (heap_of (lent_of h)) c.args.scratch.now (value_of c.in-Ok.v) (value_of c.in-Ok-given_value.w) (equal_left (answer_of c.equal_values.result) c.equal_values.new.scratch)) c.in_ok-sound.ensures.1 c.equal_values.ensures))
