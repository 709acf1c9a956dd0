-- `leaf_names::alike`: what the comparison says. Assumes nothing.
use mathlib.Core.Path.{ap, ◌∙◌}
use Rattle.leaf_names.specs.Keys.{alike}
use Rattle.leaf_names.specs.Ordering.{is_level}
use Rattle.leaf_names.proofs.Shown.{eq_shown}
use Rattle.leaf_names.proofs.alike.Goals as goal

pub returns : goal.returns
unfolding alike
returns c = c.is_eq.ensures ∙ eq_shown _ ∙ ap is_level c.compare_keys.ensures
