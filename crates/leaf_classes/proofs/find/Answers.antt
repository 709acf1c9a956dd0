-- `leaf_classes::find`: from link to link until one stays. Assumes nothing.
use native.Mathlib.Omega.{arith}
use Rattle.leaf_classes.proofs.Ways.{begins, further, further_inside, further_word, goes_on, ends}
use Rattle.leaf_classes.proofs.find.Goals as goal

pub loop-p-init : goal.loop-p-init
loop-p-init c = begins c.args.links.now c.args.s c.requires.rises c.requires.s_value

pub offset_bounds-links-x-in-loop-p-2 : goal.offset_bounds-links-x-in-loop-p-2
offset_bounds-links-x-in-loop-p-2 c = omega (arith, further_inside _ _ _ _ _ c.loop-p.invariant c.loop-p-test.true, c.loop-p.invariant.size)

pub bounds-links-x-in-loop-p-2 : goal.bounds-links-x-in-loop-p-2
bounds-links-x-in-loop-p-2 c = omega (arith, further_inside _ _ _ _ _ c.loop-p.invariant c.loop-p-test.true, (goes_on _ _ _ _ _ c.loop-p.invariant c.loop-p-test.true).size, c.loop-p.invariant.size)

pub overflow_sub-p-in-loop-p : goal.overflow_sub-p-in-loop-p
overflow_sub-p-in-loop-p c = omega (arith, further_word _ _ _ _ _ c.loop-p.invariant c.loop-p-test.true)

pub loop-p-smaller : goal.loop-p-smaller
loop-p-smaller c = omega (arith, further _ _ _ _ _ c.loop-p.invariant c.loop-p-test.true, further_inside _ _ _ _ _ c.loop-p.invariant c.loop-p-test.true, (goes_on _ _ _ _ _ c.loop-p.invariant c.loop-p-test.true).size, c.loop-p.invariant.size)

pub returns : goal.returns
returns c = ends _ _ _ _ _ c.loop-p.invariant c.loop-p-test.false
