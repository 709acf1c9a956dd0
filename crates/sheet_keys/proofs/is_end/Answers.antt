-- `sheet_keys::is_end`: the line is the same as the last. Assumes nothing.
use Rattle.sheet_keys.proofs.KeyLaws.{pointwise_same}
use Rattle.laws.specs.Basics.{basics, same}
use mathlib.Core.List.{List}
use mathlib.Core.Path.{ap, ◌∙◌}
use Prim.Native.Nat.{ℕ}
use Rattle.sheet_keys.proofs.is_end.Goals as goal

pub returns : goal.returns
unfolding basics
returns c = c.eq.ensures ∙ pointwise_same c.args.line.now c.as_slice.result.now ∙ ap (λ (l : List ℕ). same c.args.line.now l) c.as_slice.ensures
