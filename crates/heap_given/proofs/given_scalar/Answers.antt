-- `heap_given::given_scalar`: by the kind. Assumes nothing.
use mathlib.Core.Path.{sym, ◌∙◌}
use native.Mathlib.Omega.{arith}
use Rattle.heap_given.proofs.GivenLaws.{bool_bad, bool_good, char_bad, char_good, kind_bad, kind_good}
use Rattle.heap_given.proofs.given_scalar.Goals as goal

pub returns-in-4 : goal.returns-in-4
returns-in-4 c = bool_bad _ _ c.in-4.is c.if-a-gt1.true

pub returns-in-5 : goal.returns-in-5
returns-in-5 c = char_bad _ _ c.in-5.is (sym c.is_scalar_value.ensures ∙ c.if-not-is_scalar_value.true)

pub returns-in_default : goal.returns-in_default
returns-in_default c = kind_bad _ _ (omega arith)

pub returns-in-0-to-6 : goal.returns-in-0-to-6
returns-in-0-to-6 c = bool_good _ _ c.in-4.is (omega arith)

pub returns-in-0-to-6-2 : goal.returns-in-0-to-6-2
returns-in-0-to-6-2 c = char_good _ _ c.in-5.is (sym c.is_scalar_value.ensures ∙ c.if-not-is_scalar_value.false)

pub returns-in-0-to-6-3 : goal.returns-in-0-to-6-3
returns-in-0-to-6-3 c = kind_good _ _ (λ e. omega arith) (λ e. omega arith) (omega arith)

pub returns-in-0-to-6-4 : goal.returns-in-0-to-6-4
returns-in-0-to-6-4 c = kind_good _ _ (λ e. omega arith) (λ e. omega arith) (omega arith)
