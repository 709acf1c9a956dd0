-- `leaf_free::reaches`: what is left to reach is what was to reach, and a size that passed the goal stays past it. Assumes nothing.
use mathlib.Core.Path.{◌≡◌, sym, ap, ◌∙◌}
use Prim.Native.Nat.{ℕ, ◌+◌, ◌-◌}
use native.Mathlib.Omega.{arith}
use Rattle.rules.specs.Heap.{reaches, most_growths}
use Rattle.rules.proofs.Growth.{whole_again, reaches_step, reaches_end}
use Rattle.leaf_free.proofs.reaches.Goals as goal
use Rattle.leaf_free.proofs.reaches.Goals.{else-loop-test, then-loop-test+then-goal-size}

pub loop-preserved : goal.loop-preserved
loop-preserved c =
    let left = most_growths - c.loop.counter in
    let e : most_growths - (c.loop.counter + 1) ≡ left - 1 = omega arith in
    record {
      whole = whole_again c.args.chunk c.loop.size c.grown-size.result c.grown-size.ensures;
      rest =
          ap (λ (m : ℕ). reaches m c.args.chunk c.args.goal c.grown-size.result) e
          ∙ reaches_step c.args.chunk c.args.goal left c.loop.size c.grown-size.result (λ z. omega arith) (omega arith) c.grown-size.ensures
          ∙ c.loop.invariant.rest;
    }

pub returns : goal.returns
unfolding reaches
returns c =
    let left = most_growths - c.loop.counter in
    elim c.loop-test.branch [
      | else-loop-test w ↦
          let none : 0 ≡ left = omega arith in
          ap (λ (m : ℕ). reaches m c.args.chunk c.args.goal c.loop.size) none ∙ c.loop.invariant.rest
      | then-loop-test+then-goal-size w ↦
          sym (reaches_end c.args.chunk c.args.goal left c.loop.size c.requires.chunk_nonzero c.loop.invariant.whole (omega arith))
          ∙ c.loop.invariant.rest
    ]
