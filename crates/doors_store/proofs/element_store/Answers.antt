-- `doors_store::element_store`: 20, then 11, then what is behind them. Assumes nothing.
use mathlib.Core.Path.{refl, ap, ◌∙◌}
use Rattle.rules.specs.Calls.{stored}
use Rattle.refusals.specs.declared.Refusal.TheVariants.{Unsound}
use Rattle.heap_sound_rows.specs.Rows.{lists}
use Rattle.heap_given.proofs.AnswerLaws.{passed_on}
use Rattle.doors_store.proofs.StoreLaws.{element_unsound, element_malformed, element_accepted}
use Rattle.doors_store.proofs.element_store.Goals as goal

pub returns-in_err-checked : goal.returns-in_err-checked
returns-in_err-checked c =
    ap (λ x. stored x (lists c.args.words.now c.args.map.now c.args.bytes.now c.args.elems.now)) (passed_on (λ x. x) _ _ Unsound c.from_residual.ensures.1 c.in_err-checked.ensures.1)
    ∙ element_unsound (lists c.args.words.now c.args.map.now c.args.bytes.now c.args.elems.now) c.args.slot c.args.k c.args.kind c.args.a c.in_err-checked.ensures.0

pub returns-in_err-new : goal.returns-in_err-new
returns-in_err-new c =
    ap (λ x. stored x (lists c.args.words.now c.args.map.now c.args.bytes.now c.args.elems.now)) (passed_on (λ x. x) _ _ _ c.from_residual-in_err-new.ensures.1 refl)
    ∙ element_malformed (lists c.args.words.now c.args.map.now c.args.bytes.now c.args.elems.now) c.args.slot c.args.k c.args.kind c.args.a c.in_ok-checked.ensures.0 _ c.in_err-new.ensures

pub returns : goal.returns
returns c = c.store_element.ensures ∙ element_accepted (lists c.args.words.now c.args.map.now c.args.bytes.now c.args.elems.now) c.args.slot c.args.k c.args.kind c.args.a c.in_ok-checked.ensures.0 _ c.in_ok-new.ensures
