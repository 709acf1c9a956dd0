-- `heap_read::read_marked`: the build over an empty part, then over the output. Assumes nothing.
use Rattle.heap_read.proofs.ReadLaws.{count_task, over_answer, short_answer, second_task, length-answer}
use Rattle.heap_read.specs.Whole.{Answered}
use Rattle.leaf_cells.specs.Elements.{value_of}
use Rattle.refusals.specs.declared.Refusal.{Refusal}
use Rattle.refusals.specs.declared.Refusal.TheVariants.{OverLimit}
use Rattle.std.proofs.Common.{◌≡◌, rules, ℕ, Result, Err, sym, subst, refl, ◌∙◌}
use Rattle.heap_read.proofs.read_marked.Goals as goal

pub returns-in_err-counted : goal.returns-in_err-counted
returns-in_err-counted c =
    λ r h k.
    let none_left = c.in_err-counted.ensures.ok_part in
    let told : c.from_residual.result ≡ Err OverLimit = search rules in
    subst (λ (a : Result ℕ Refusal). Answered h (value_of c.args.v) c.args.out.now a c.args.out.now) (sym told)
    (over_answer r h _ _ _ _ _ c.args.out.now k _ _ _ _ (c.build_value.ensures _ _ _ (count_task r h _ _ _ _ _ c.args.out.now k)) none_left _ refl)

pub returns-then-counted-out : goal.returns-then-counted-out
returns-then-counted-out c = λ r h k. short_answer r h _ _ _ _ _ c.args.out.now k _ _ _ _ (c.build_value.ensures _ _ _ (count_task r h _ _ _ _ _ c.args.out.now k)) _ c.in_ok-counted.ensures.ok_part c.if-counted-out.true _ refl

pub build_value-requires-2 : goal.build_value-requires-2
build_value-requires-2 c = (_, _, _, second_task _ _ _ _ _ _ _ c.args.out.now c.requires.2 _ _ _ _ (c.build_value.ensures _ _ _ (count_task _ _ _ _ _ _ _ c.args.out.now c.requires.2)) _ c.in_ok-counted.ensures.ok_part _ c.forget.ensures (c.forget.auto.marks ∙ c.build_value.auto.marks))

pub returns : goal.returns
returns c =
    λ r h k.
    let first = c.build_value.ensures _ _ _ (count_task r h _ _ _ _ _ c.args.out.now k) in
    let again = second_task r h _ _ _ _ _ c.args.out.now k _ _ _ _ first _ c.in_ok-counted.ensures.ok_part _ c.forget.ensures (c.forget.auto.marks ∙ c.build_value.auto.marks) in
    length-answer r h _ _ _ _ _ c.args.out.now k _ _ _ _ first _ c.in_ok-counted.ensures.ok_part c.if-counted-out.false _ _ _ _ (c.build_value-2.ensures _ _ _ again) refl
