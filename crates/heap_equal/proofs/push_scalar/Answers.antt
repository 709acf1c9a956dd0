-- `heap_equal::push_scalar`: by `eqv` alone. Assumes nothing.
use mathlib.Core.Path.{sym, ap, ◌∙◌}
use mathlib.Core.Bool.{Bool}
use Rattle.heap_equal.specs.Boards.{by_eqv}
use Rattle.heap_equal.proofs.push_scalar.Goals as goal

pub returns-then-eqv : goal.returns-then-eqv
unfolding by_eqv
returns-then-eqv c = sym (ap (λ (b : Bool). by_eqv b c.args.top) (sym c.eqv.ensures ∙ c.if-eqv.true))

pub returns : goal.returns
unfolding by_eqv
returns c = sym (ap (λ (b : Bool). by_eqv b c.args.top) (sym c.eqv.ensures ∙ c.if-eqv.false))
