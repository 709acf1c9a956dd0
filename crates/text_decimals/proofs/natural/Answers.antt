-- `text_decimals::natural`: empty, more digits than one with a leading zero, and without. Assumes nothing.
use Rattle.text_decimals.proofs.ReadLaws.{natural_none, natural_one, natural_led, natural_more}
use native.Mathlib.Omega.{arith}
use borrow.Author.Tests.{eqb-true, eqb-false, le-ltb}
use mathlib.Core.Bool.{true≢false}
use mathlib.Core.Path.{sym, ◌∙◌}
use Rattle.text_decimals.proofs.natural.Goals.{then-is_empty-via-then-is_empty, then-is_empty-via-else-is_empty+then-t-eq48, then-t-gt1, else-t-gt1}
use Rattle.text_decimals.proofs.natural.Goals as goal

pub returns-then-is_empty : goal.returns-then-is_empty
returns-then-is_empty c =
    elim c.then-is_empty.branch [
      | then-is_empty-via-then-is_empty w ↦ natural_none c.args.most c.args.t.now (eqb-true _ _ (sym c.is_empty.ensures ∙ w.if-is_empty.true))
      | then-is_empty-via-else-is_empty+then-t-eq48 w ↦
          elim w.if-t-gt1.branch [
            | then-t-gt1 w' ↦ natural_led c.args.most c.args.t.now (omega (arith, w'.if-t-gt1.true)) (eqb-true _ _ (sym w'.value-is ∙ w.if-t-eq48.true))
            | else-t-gt1 w' ↦ absurd (true≢false (sym w.if-t-eq48.true ∙ w'.value-is ∙ le-ltb _ _ w'.if-t-gt1.false))
          ]
    ]

pub returns : goal.returns
returns c =
    c.digits.ensures
    ∙ elim c.if-t-gt1.branch [
      | then-t-gt1 w ↦ natural_more c.args.most c.args.t.now (omega (arith, w.if-t-gt1.true)) (eqb-false _ _ (sym w.value-is ∙ c.if-t-eq48.false))
      | else-t-gt1 w ↦ let e = eqb-false _ _ (sym c.is_empty.ensures ∙ c.if-is_empty.false) in natural_one c.args.most c.args.t.now (omega (arith, e, w.if-t-gt1.false))
    ]
