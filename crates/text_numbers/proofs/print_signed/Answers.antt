-- `text_numbers::print_signed`: std's text is the rules'. Assumes nothing.
use Rattle.text_numbers.proofs.PrintLaws.{cast_text}
use Rattle.text_numbers.specs.Answers.{Printed}
use Rattle.rules.specs.Text.{signed}
use native.Mathlib.Omega.{arith}
use mathlib.Core.List.{List}
use mathlib.Core.Path.{◌≡◌, ap, subst, ◌∙◌}
use Prim.Native.Nat.{ℕ}
use lib.ListN.{length}
use Rattle.text_numbers.proofs.print_signed.Goals as goal

pub print_text-requires : goal.print_text-requires
print_text-requires c =
    let e : c.as_bytes.result.now ≡ signed c.args.n = c.as_bytes.ensures.value ∙ c.format.ensures.text ∙ cast_text c.args.n c.cast_signed.result (omega arith) c.cast_signed.ensures in
    omega (arith, ap length e)

pub returns : goal.returns
returns c =
    let e : c.as_bytes.result.now ≡ signed c.args.n = c.as_bytes.ensures.value ∙ c.format.ensures.text ∙ cast_text c.args.n c.cast_signed.result (omega arith) c.cast_signed.ensures in
    subst (λ (t : List ℕ). Printed c.args.out.now c.args.at t c.print_text.new.out c.print_text.result) e c.print_text.ensures
