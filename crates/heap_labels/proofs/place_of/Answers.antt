-- `heap_labels::place_of`: the labels one after the other. Assumes nothing.
use borrow.Author.Count.{below_more}
use native.Mathlib.Omega.{arith}
use Rattle.heap_labels.proofs.LabelLaws.{searched}
use Rattle.heap_labels.proofs.place_of.Goals as goal

pub returns-then-labels-i-clause-place : goal.returns-then-labels-i-clause-place
returns-then-labels-i-clause-place c = searched _ _ _ _ (omega arith) c.loop-i.invariant (λ h. c.if-labels-i.true)

pub loop-i-preserved : goal.loop-i-preserved
loop-i-preserved c = below_more _ _ c.loop-i.invariant c.if-labels-i.false

pub returns-clause-place : goal.returns-clause-place
returns-clause-place c = searched _ _ _ _ (omega arith) (λ k h. c.loop-i.invariant k (omega arith)) (λ h. absurd (omega arith))
