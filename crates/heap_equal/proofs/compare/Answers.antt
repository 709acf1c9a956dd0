-- `heap_equal::compare`: the run that was given is the one that is left, between the turns and within a walk. Assumes nothing.
use mathlib.Core.Path.{◌∙◌}
use native.Mathlib.Omega.{arith}
use Rattle.leaf_lists.specs.Lists.{lent_of}
use Rattle.heap_equal.proofs.CellParts.{last_variant, second_walked, third_walked}
use Rattle.heap_equal.proofs.Comparing.{compare_begins, compare_ends, top_room, top_rows, unlike_after, unlike_less, vectors_ask, vectors_after, vectors_less, vectors_stop, walk_begins, step_asks, walk_again, walk_less, walk_after, walk_after_less, walk_stop}
use Rattle.heap_equal.proofs.compare.Goals as goal

pub pending-init : goal.pending-init
pending-init c = compare_begins (lent_of c.args.heap) c.args.c c.args.scratch.now c.args.height c.requires

pub overflow_mul-at : goal.overflow_mul-at
overflow_mul-at c = omega (arith, c.requires.shape.room)

pub overflow_mul-at-in-pending : goal.overflow_mul-at-in-pending
overflow_mul-at-in-pending c = omega (arith, top_room (lent_of c.args.heap) c.args.c c.args.scratch.now c.args.height c.requires c.pending.scratch c.pending.yes c.pending.top c.pending.invariant c.pending-test.true, c.pending.invariant.size)

pub overflow_add-at : goal.overflow_add-at
overflow_add-at c = omega (arith, top_room (lent_of c.args.heap) c.args.c c.args.scratch.now c.args.height c.requires c.pending.scratch c.pending.yes c.pending.top c.pending.invariant c.pending-test.true, c.pending.invariant.size)

pub offset_bounds-scratch-at : goal.offset_bounds-scratch-at
offset_bounds-scratch-at c = omega (arith, top_room (lent_of c.args.heap) c.args.c c.args.scratch.now c.args.height c.requires c.pending.scratch c.pending.yes c.pending.top c.pending.invariant c.pending-test.true, c.pending.invariant.size)

pub bounds-scratch-at : goal.bounds-scratch-at
bounds-scratch-at c = omega (arith, top_room (lent_of c.args.heap) c.args.c c.args.scratch.now c.args.height c.requires c.pending.scratch c.pending.yes c.pending.top c.pending.invariant c.pending-test.true)

pub overflow_add-t : goal.overflow_add-t
overflow_add-t c = omega (arith, top_room (lent_of c.args.heap) c.args.c c.args.scratch.now c.args.height c.requires c.pending.scratch c.pending.yes c.pending.top c.pending.invariant c.pending-test.true, c.pending.invariant.size)

pub offset_bounds-scratch-at-in-pending : goal.offset_bounds-scratch-at-in-pending
offset_bounds-scratch-at-in-pending c = omega (arith, top_room (lent_of c.args.heap) c.args.c c.args.scratch.now c.args.height c.requires c.pending.scratch c.pending.yes c.pending.top c.pending.invariant c.pending-test.true, c.pending.invariant.size)

pub bounds-scratch-at-in-pending : goal.bounds-scratch-at-in-pending
bounds-scratch-at-in-pending c = top_room (lent_of c.args.heap) c.args.c c.args.scratch.now c.args.height c.requires c.pending.scratch c.pending.yes c.pending.top c.pending.invariant c.pending-test.true

pub parts_of-parts-requires : goal.parts_of-parts-requires
parts_of-parts-requires c = top_rows (lent_of c.args.heap) c.args.c c.args.scratch.now c.args.height c.requires c.pending.scratch c.pending.yes c.pending.top c.pending.invariant c.pending-test.true

pub loop-n-init : goal.loop-n-init
loop-n-init c = walk_begins (lent_of c.args.heap) c.args.c c.args.scratch.now c.args.height c.requires c.pending.scratch c.pending.yes c.pending.top c.pending.invariant c.pending-test.true c.parts_of-parts.result c.parts_of-parts.ensures c.in-Pairs.in-Pairs-own.keys1

pub walk_step-step-requires : goal.walk_step-step-requires
walk_step-step-requires c = let v = step_asks (lent_of c.args.heap) c.args.c c.args.scratch.now c.args.height c.requires c.pending.scratch c.pending.yes c.pending.top c.pending.invariant c.pending-test.true c.parts_of-parts.result c.parts_of-parts.ensures c.in-Pairs.in-Pairs-own.keys1 c.loop-n.scratch c.loop-n.yes c.loop-n.top c.loop-n.s c.loop-n.t c.loop-n.invariant in record { ready = v.0; used_slots = v.1 }

pub loop-n-smaller : goal.loop-n-smaller
loop-n-smaller c = walk_less (lent_of c.args.heap) c.args.c c.args.scratch.now c.args.height c.requires c.pending.scratch c.pending.yes c.pending.top c.pending.invariant c.pending-test.true c.parts_of-parts.result c.parts_of-parts.ensures c.in-Pairs.in-Pairs-own.keys1 c.loop-n.scratch c.loop-n.yes c.loop-n.top c.loop-n.s c.loop-n.t c.loop-n.invariant c.walk_step-step.new.scratch c.walk_step-step.result c.walk_step-step.ensures c.in-On.n c.in-On.d c.in-On.e c.in-On.is

pub loop-n-preserved : goal.loop-n-preserved
loop-n-preserved c = walk_again (lent_of c.args.heap) c.args.c c.args.scratch.now c.args.height c.requires c.pending.scratch c.pending.yes c.pending.top c.pending.invariant c.pending-test.true c.parts_of-parts.result c.parts_of-parts.ensures c.in-Pairs.in-Pairs-own.keys1 c.loop-n.scratch c.loop-n.yes c.loop-n.top c.loop-n.s c.loop-n.t c.loop-n.invariant c.walk_step-step.new.scratch c.walk_step-step.result c.walk_step-step.ensures c.in-On.n c.in-On.d c.in-On.e c.in-On.is c.walk_step-step.auto.scratch

pub pending-smaller-in-Ends : goal.pending-smaller-in-Ends
pending-smaller-in-Ends c = walk_after_less (lent_of c.args.heap) c.args.c c.args.scratch.now c.args.height c.requires c.pending.scratch c.pending.yes c.pending.top c.pending.invariant c.pending-test.true c.parts_of-parts.result c.parts_of-parts.ensures c.in-Pairs.in-Pairs-own.keys1 c.loop-n.scratch c.loop-n.yes c.loop-n.top c.loop-n.s c.loop-n.t c.loop-n.invariant c.walk_step-step.new.scratch c.walk_step-step.result c.walk_step-step.ensures (second_walked _ c.in-Ends.in-Ends-own.keys2)

pub pending-preserved-in-Ends : goal.pending-preserved-in-Ends
pending-preserved-in-Ends c = walk_after (lent_of c.args.heap) c.args.c c.args.scratch.now c.args.height c.requires c.pending.scratch c.pending.yes c.pending.top c.pending.invariant c.pending-test.true c.parts_of-parts.result c.parts_of-parts.ensures c.in-Pairs.in-Pairs-own.keys1 c.loop-n.scratch c.loop-n.yes c.loop-n.top c.loop-n.s c.loop-n.t c.loop-n.invariant c.walk_step-step.new.scratch c.walk_step-step.result c.walk_step-step.ensures (second_walked _ c.in-Ends.in-Ends-own.keys2) c.walk_step-step.auto.scratch

pub push_elements-next-requires : goal.push_elements-next-requires
push_elements-next-requires c = let v = vectors_ask (lent_of c.args.heap) c.args.c c.args.scratch.now c.args.height c.requires c.pending.scratch c.pending.yes c.pending.top c.pending.invariant c.pending-test.true c.parts_of-parts.result c.parts_of-parts.ensures c.in-Vectors.p c.in-Vectors.q c.in-Vectors.n c.in-Vectors.is in record { ready = v.0; elements = v.1 }

pub pending-smaller-in-Some : goal.pending-smaller-in-Some
pending-smaller-in-Some c = vectors_less (lent_of c.args.heap) c.args.c c.args.scratch.now c.args.height c.requires c.pending.scratch c.pending.yes c.pending.top c.pending.invariant c.pending-test.true c.parts_of-parts.result c.parts_of-parts.ensures c.in-Vectors.p c.in-Vectors.q c.in-Vectors.n c.in-Vectors.is c.push_elements-next.new.scratch c.push_elements-next.result c.push_elements-next.ensures c.in-Some.k c.in-Some.is

pub pending-preserved-in-Some : goal.pending-preserved-in-Some
pending-preserved-in-Some c = vectors_after (lent_of c.args.heap) c.args.c c.args.scratch.now c.args.height c.requires c.pending.scratch c.pending.yes c.pending.top c.pending.invariant c.pending-test.true c.parts_of-parts.result c.parts_of-parts.ensures c.in-Vectors.p c.in-Vectors.q c.in-Vectors.n c.in-Vectors.is c.push_elements-next.new.scratch c.push_elements-next.result c.push_elements-next.ensures c.in-Some.k c.in-Some.is c.push_elements-next.auto.scratch

pub pending-smaller : goal.pending-smaller
pending-smaller c = unlike_less (lent_of c.args.heap) c.args.c c.args.scratch.now c.args.height c.requires c.pending.scratch c.pending.yes c.pending.top c.pending.invariant c.pending-test.true c.parts_of-parts.result c.parts_of-parts.ensures (last_variant _ c.in-Unlike.in-Unlike-own.keys3)

pub pending-preserved : goal.pending-preserved
pending-preserved c = unlike_after (lent_of c.args.heap) c.args.c c.args.scratch.now c.args.height c.requires c.pending.scratch c.pending.yes c.pending.top c.pending.invariant c.pending-test.true c.parts_of-parts.result c.parts_of-parts.ensures (last_variant _ c.in-Unlike.in-Unlike-own.keys3)

pub shape_of-scratch-after-pending : goal.shape_of-scratch-after-pending
shape_of-scratch-after-pending c = c.pending.invariant.size

pub returns-after-pending : goal.returns-after-pending
returns-after-pending c = compare_ends (lent_of c.args.heap) c.args.c c.args.scratch.now c.args.height c.requires c.pending.scratch c.pending.yes c.pending.top c.pending.invariant c.pending-test.false

pub shape_of-scratch-in-Differs : goal.shape_of-scratch-in-Differs
shape_of-scratch-in-Differs c = c.walk_step-step.auto.scratch ∙ c.loop-n.invariant.size ∙ c.pending.invariant.size

pub returns-in-Differs : goal.returns-in-Differs
returns-in-Differs c = walk_stop (lent_of c.args.heap) c.args.c c.args.scratch.now c.args.height c.requires c.pending.scratch c.pending.yes c.pending.top c.pending.invariant c.pending-test.true c.parts_of-parts.result c.parts_of-parts.ensures c.in-Pairs.in-Pairs-own.keys1 c.loop-n.scratch c.loop-n.yes c.loop-n.top c.loop-n.s c.loop-n.t c.loop-n.invariant c.walk_step-step.new.scratch c.walk_step-step.result c.walk_step-step.ensures (third_walked _ c.in-Differs.in-Differs-own.keys3)

pub shape_of-scratch-in-None : goal.shape_of-scratch-in-None
shape_of-scratch-in-None c = c.push_elements-next.auto.scratch ∙ c.pending.invariant.size

pub returns-in-None : goal.returns-in-None
returns-in-None c = vectors_stop (lent_of c.args.heap) c.args.c c.args.scratch.now c.args.height c.requires c.pending.scratch c.pending.yes c.pending.top c.pending.invariant c.pending-test.true c.parts_of-parts.result c.parts_of-parts.ensures c.in-Vectors.p c.in-Vectors.q c.in-Vectors.n c.in-Vectors.is c.push_elements-next.new.scratch c.push_elements-next.result c.push_elements-next.ensures c.in-None.is
