-- `doors_equal::eqv`: 20, then 11 of either value, then what is behind them. Assumes nothing.
use mathlib.Core.Path.{refl, ap, ◌∙◌}
use Rattle.leaf_cells.specs.Elements.{value_of}
use Rattle.leaf_lists.specs.Lists.{lent_of}
use Rattle.leaf_lists.specs.declared.Lists.{Lists}
use Rattle.refusals.specs.declared.Refusal.TheVariants.{Unsound}
use Rattle.heap_given.proofs.AnswerLaws.{passed_on}
use Rattle.doors_equal.specs.Behind.{eqv_behind}
use Rattle.doors_equal.proofs.EqvLaws.{eqv_unsound, first_malformed, first_accepted, second_malformed, second_accepted}
use Rattle.doors_equal.proofs.eqv.Goals as goal

pub returns-in_err-sound : goal.returns-in_err-sound
returns-in_err-sound c = passed_on (λ x. x) _ _ Unsound c.from_residual.ensures.1 c.in_err-sound.ensures.1 ∙ eqv_unsound (lent_of c.args.heap) c.args.kind c.args.a c.args.kind2 c.args.a2 c.in_err-sound.ensures.0

pub returns-in_err-v : goal.returns-in_err-v
returns-in_err-v c = passed_on (λ x. x) _ _ _ c.from_residual-in_err-v.ensures.1 refl ∙ first_malformed (lent_of c.args.heap) c.args.kind c.args.a c.args.kind2 c.args.a2 c.in_ok-sound.ensures.0 _ c.in_err-v.ensures

pub returns-in_err-w : goal.returns-in_err-w
returns-in_err-w c =
    passed_on (λ x. x) _ _ _ c.from_residual-in_err-w.ensures.1 refl
    ∙ second_malformed (lent_of c.args.heap) (value_of c.in_ok-v.v) c.args.kind2 c.args.a2 _ c.in_err-w.ensures
    ∙ first_accepted (lent_of c.args.heap) c.args.kind c.args.a c.args.kind2 c.args.a2 c.in_ok-sound.ensures.0 _ c.in_ok-v.ensures

pub returns : goal.returns
returns c =
    c.eqv_values.ensures ∙ ap (λ (h : Lists). eqv_behind (lent_of h) (value_of c.in_ok-v.v) (value_of c.in_ok-w.w)) c.in_ok-sound.ensures.1
    ∙ second_accepted (lent_of c.args.heap) (value_of c.in_ok-v.v) c.args.kind2 c.args.a2 _ c.in_ok-w.ensures
    ∙ first_accepted (lent_of c.args.heap) c.args.kind c.args.a c.args.kind2 c.args.a2 c.in_ok-sound.ensures.0 _ c.in_ok-v.ensures
