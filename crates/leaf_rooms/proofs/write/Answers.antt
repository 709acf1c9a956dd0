-- `leaf_rooms::write`: what was to write is what is left to write. Assumes nothing.
use mathlib.Core.Path.{refl, sym, ◌∙◌}
use Prim.Native.Nat.{◌+◌}
use lib.ListN.{length-set}
use Rattle.leaf_rooms.proofs.RoomLaws.{stored_start, stored_on, stored_end}
use Rattle.leaf_rooms.proofs.write.Goals as goal

pub loop-i-init : goal.loop-i-init
loop-i-init g c = (refl, stored_start c.args.room.now c.args.at c.args.part.now)

pub loop-i-preserved : goal.loop-i-preserved
loop-i-preserved g c = (length-set c.loop-i.room (c.args.at + c.loop-i.i) c.index-part-i.result ∙ c.loop-i.invariant.0, stored_on c.loop-i.room c.args.at c.args.part.now c.loop-i.i _ c.loop-i-test.true c.index-part-i.is ∙ c.loop-i.invariant.1)

pub returns : goal.returns
returns g c = sym (stored_end c.loop-i.room (c.args.at + c.loop-i.i) c.args.part.now c.loop-i.i c.loop-i-test.false) ∙ c.loop-i.invariant.1
