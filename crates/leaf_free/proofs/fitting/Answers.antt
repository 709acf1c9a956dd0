-- `leaf_free::fitting`: growth from here with the turns left ends where the whole does. Assumes nothing.
use mathlib.Core.Path.{◌≡◌, sym, ap, ◌∙◌}
use Prim.Native.Nat.{ℕ, ◌+◌, ◌-◌}
use native.Mathlib.Omega.{arith}
use Rattle.rules.specs.Heap.{fitting, most_growths}
use Rattle.rules.proofs.Growth.{fitting_step, fitting_end, fitting_none}
use borrow.Author.Rules.{rules}
use Rattle.leaf_free.proofs.fitting.Goals as goal

pub returns-then-lent-next : goal.returns-then-lent-next
returns-then-lent-next c = sym (fitting_end c.args.chunk c.args.lent c.loop.size (most_growths - c.loop.counter) (omega (arith, c.grown-next.ensures))) ∙ c.loop.invariant.rest

pub loop-preserved : goal.loop-preserved
loop-preserved c =
    let left = most_growths - c.loop.counter in
    let e : most_growths - (c.loop.counter + 1) ≡ left - 1 = omega arith in
    record {
      within = search rules;
      rest =
          ap (λ (m : ℕ). fitting m c.args.chunk c.args.lent c.grown-next.result) e
          ∙ fitting_step c.args.chunk c.args.lent c.loop.size left c.grown-next.result (omega arith) c.grown-next.ensures (search rules)
          ∙ c.loop.invariant.rest;
    }

pub returns-after-loop : goal.returns-after-loop
returns-after-loop c = sym (fitting_none c.args.chunk c.args.lent c.loop.size (most_growths - c.loop.counter) (omega arith)) ∙ c.loop.invariant.rest
