-- `leaf_cells::value_from`: the one kind that the check does not find alone. Assumes nothing.
use mathlib.Core.Path.{◌≡◌, ap}
use Prim.Native.Nat.{ℕ}
use native.Mathlib.Omega.{arith}
use Rattle.rules.specs.Layout.{value_from, layout_rules}
use Rattle.leaf_cells.proofs.value_from.Goals as goal

pub returns-in-2 : goal.returns-in-2
unfolding layout_rules
returns-in-2 c = let e : 2 ≡ c.args.kind = omega arith in ap (λ (k : ℕ). value_from k c.args.a) e
