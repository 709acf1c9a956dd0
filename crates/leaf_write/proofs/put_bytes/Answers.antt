-- `leaf_write::put_bytes`: what has no place is not stored. Assumes nothing.
use Rattle.leaf_write.proofs.WriteLaws.{stored_past, stored_part}
use mathlib.Core.Path.{sym, ◌∙◌}
use Rattle.leaf_write.proofs.put_bytes.Goals as goal

pub returns-then-at-out : goal.returns-then-at-out
returns-then-at-out c = c.write.ensures ∙ stored_part c.args.out.now c.args.at c.args.bytes.now _ c.min-n.ensures

pub returns-else-at-out : goal.returns-else-at-out
returns-else-at-out c = sym (stored_past c.args.out.now c.args.at c.args.bytes.now c.if-at-out.false)
