-- `leaf_write::put_byte`: a store past the end leaves the list as it is. Assumes nothing.
use lib.Seq.{set_out}
use mathlib.Core.Path.{sym}
use Rattle.leaf_write.proofs.put_byte.Goals as goal

pub returns-else-at-out : goal.returns-else-at-out
returns-else-at-out c = sym (set_out c.args.out.now c.args.at c.args.b c.if-at-out.false)
