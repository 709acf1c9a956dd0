-- `leaf_names::Key::compare`: the names decide, and where they are level the scopes. Assumes nothing.
use mathlib.Core.Path.{ap, ◌∙◌}
use Rattle.leaf_names.specs.Ordering.{shown, then, key_compare}
use Rattle.leaf_names.proofs.Shown.{then_shown, number_shown}
use Rattle.leaf_names.proofs.Key.compare.Goals as goal

pub returns : goal.returns
unfolding key_compare
returns c =
    ap shown c.then.ensures ∙ then_shown _ _
    ∙ (λ i. then (c.compare_names-by_name.ensures i) ((ap shown c.cmp.ensures ∙ number_shown c.args.self.now.scope c.args.other.now.scope) i))
