-- `leaf_names::Key::compare_names`: one part of the bytes is one name, and else the bytes decide. Assumes nothing.
use mathlib.Core.Path.{sym, ap, ◌∙◌}
use lib.ListN.{take, drop}
use Rattle.leaf_names.specs.Keys.{key_in}
use Rattle.leaf_names.specs.Ordering.{shown, name_compare}
use Rattle.leaf_names.proofs.Ordered.{name_level}
use Rattle.leaf_names.proofs.Shown.{name_shown}
use Rattle.leaf_names.proofs.Key.compare_names.Goals as goal

pub returns-then-self-other-2 : goal.returns-then-self-other-2
returns-then-self-other-2 c =
    sym (name_level (key_in c.args.bytes.now c.args.self.now).name)
    ∙ (λ i. name_compare (key_in c.args.bytes.now c.args.self.now).name (take (c.if-self-other-2.true i) (drop (c.if-self-other.true i) c.args.bytes.now)))

pub returns-else-self-other : goal.returns-else-self-other
returns-else-self-other c =
    ap shown c.cmp.ensures ∙ name_shown _ _ ∙ (λ i. name_compare (c.name.ensures i) (c.name-else-self-other.ensures i))
