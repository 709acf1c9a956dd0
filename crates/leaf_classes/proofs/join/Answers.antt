-- `leaf_classes::join`: both are met, both roots are found, and the lower one is linked. Assumes nothing.
use native.Mathlib.Omega.{arith}
use Prim.Native.Nat.{◌<◌}
use lib.ListN.{length}
use Rattle.leaf_classes.proofs.Joining.{first_asks, second_asks, both_inside, one_class, linked}
use Rattle.leaf_classes.proofs.join.Goals as goal

pub find-a-requires : goal.find-a-requires
find-a-requires c = let v = first_asks c.args.links.now c.args.s c.args.t (c.requires.rises, c.requires.s_in_bounds) _ _ c.meet-fresh.ensures _ _ c.meet.ensures in record { rises = v.0; s_value = v.1 }

pub find-b-requires : goal.find-b-requires
find-b-requires c = let v = second_asks c.args.links.now c.args.s c.args.t (c.requires.rises, c.requires.s_in_bounds) _ _ c.meet-fresh.ensures _ _ c.meet.ensures _ _ c.find-a.ensures in record { rises = v.0; s_value = v.1 }

pub returns-then-a-b : goal.returns-then-a-b
returns-then-a-b c = one_class c.args.links.now c.args.s c.args.t (c.requires.rises, c.requires.s_in_bounds) _ _ c.meet-fresh.ensures _ _ c.meet.ensures _ _ c.find-a.ensures _ _ c.find-b.ensures c.if-a-b.true

-- both roots are places of the links
inside : (c : goal.After-max-high) → (c.find-a.result < length c.args.links.now) × (c.find-b.result < length c.args.links.now)
inside c = both_inside c.args.links.now c.args.s c.args.t (c.requires.rises, c.requires.s_in_bounds) _ _ c.meet-fresh.ensures _ _ c.meet.ensures _ _ c.find-a.ensures _ _ c.find-b.ensures

pub overflow_add-links : goal.overflow_add-links
overflow_add-links c = omega (arith, inside c, c.max-high.ensures)

pub offset_bounds-links-low : goal.offset_bounds-links-low
offset_bounds-links-low c = omega (arith, inside c, c.min-low.ensures)

pub bounds-links-low : goal.bounds-links-low
bounds-links-low c = omega (arith, inside c, c.min-low.ensures, c.meet-fresh.auto.links, c.meet.auto.links, c.find-a.auto.links, c.find-b.auto.links)

pub returns : goal.returns
returns c = linked c.args.links.now c.args.s c.args.t (c.requires.rises, c.requires.s_in_bounds) _ _ c.meet-fresh.ensures _ _ c.meet.ensures _ _ c.find-a.ensures _ _ c.find-b.ensures c.if-a-b.false _ _ c.min-low.ensures c.max-high.ensures
