-- `leaf_write::put_little`: what was to write is what is left to write. Assumes nothing.
use Prim.Native.Nat.{ℕ, ◌+◌, ◌-◌, ◌/◌}
use mathlib.Core.List.{List}
use mathlib.Core.Path.{refl, ap, ◌∙◌}
use Rattle.laws.specs.Basics.{little}
use Rattle.leaf_rooms.specs.Rooms.{stored}
use Rattle.leaf_write.proofs.WriteLaws.{little_start, little_on, little_done}
use Rattle.leaf_write.proofs.put_little.Goals as goal

pub loop-i-init : goal.loop-i-init
loop-i-init c = (refl, little_start c.args.out.now c.args.at c.args.w c.args.n)

pub loop-i-preserved : goal.loop-i-preserved
loop-i-preserved c = (c.put_byte.auto.out ∙ c.loop-i.invariant.0, ap (λ (l : List ℕ). stored l (c.args.at + (c.loop-i.i + 1)) (little (c.args.w - (c.loop-i.i + 1)) (c.loop-i.m / 256))) c.put_byte.ensures ∙ little_on c.loop-i.out c.args.at c.args.w c.loop-i.i c.loop-i.m c.loop-i-test.true ∙ c.loop-i.invariant.1)

pub returns : goal.returns
returns c = little_done c.loop-i.out c.args.at c.args.w c.loop-i.i c.loop-i.m c.loop-i-test.false ∙ c.loop-i.invariant.1
