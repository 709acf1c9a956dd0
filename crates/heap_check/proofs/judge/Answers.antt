-- `heap_check::judge`: 12 where a number is broken, then 13. Assumes nothing.
use Rattle.std.proofs.Common.{true, false, sym, refl, ◌∙◌, arith}
use borrow.Author.Tests.{ltb-false}
use Rattle.heap_tally.specs.Pass.{tally_of, limits}
use Rattle.heap_tally.proofs.StepLaws.{judged_many, judged_rest}
use Rattle.heap_check.proofs.judge.Goals.{then-tally-gt-NODES, else-tally-gt-NODES}
use Rattle.heap_check.proofs.judge.Goals as goal

pub returns-then-tally : goal.returns-then-tally
unfolding limits
returns-then-tally c =
    let t = tally_of c.args.tally.now in
    elim c.if-tally-gt-NODES.branch [
      | then-tally-gt-NODES w ↦ judged_many t w.if-tally-gt-NODES.true
      | else-tally-gt-NODES w ↦ judged_rest t true t.early w.if-tally-gt-NODES.false (sym w.value-is ∙ c.if-tally.true) refl
    ]

pub returns-then-tally-2 : goal.returns-then-tally-2
unfolding limits
returns-then-tally-2 c =
    let t = tally_of c.args.tally.now in
    elim c.if-tally-gt-NODES.branch [
      | then-tally-gt-NODES w ↦ absurd (omega (arith, w.if-tally-gt-NODES.true, ltb-false _ _ (sym w.value-is ∙ c.if-tally.false)))
      | else-tally-gt-NODES w ↦ judged_rest t false true w.if-tally-gt-NODES.false (sym w.value-is ∙ c.if-tally.false) c.if-tally-2.true
    ]

pub returns-else-tally-2 : goal.returns-else-tally-2
unfolding limits
returns-else-tally-2 c =
    let t = tally_of c.args.tally.now in
    elim c.if-tally-gt-NODES.branch [
      | then-tally-gt-NODES w ↦ absurd (omega (arith, w.if-tally-gt-NODES.true, ltb-false _ _ (sym w.value-is ∙ c.if-tally.false)))
      | else-tally-gt-NODES w ↦ judged_rest t false false w.if-tally-gt-NODES.false (sym w.value-is ∙ c.if-tally.false) c.if-tally-2.false
    ]
