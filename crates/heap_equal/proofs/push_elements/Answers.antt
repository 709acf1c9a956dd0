-- `heap_equal::push_elements`: so many pairs of elements are done. Assumes nothing.
use native.Mathlib.Omega.{arith}
use mathlib.Core.Path.{◌∙◌}
use Rattle.rules.specs.Layout.{heap_of}
use Rattle.leaf_cells.specs.Elements.{value_of}
use Rattle.leaf_lists.specs.Lists.{lent_of}
use Rattle.heap_equal.proofs.Faces.{along_begins, along_ends, next_asks, along_on, along_stops}
use Rattle.heap_equal.proofs.push_elements.Goals as goal

pub loop-j-init : goal.loop-j-init
loop-j-init c = along_begins (heap_of (lent_of c.args.heap)) c.args.c c.args.heap.elems.now c.args.p c.args.q c.args.n c.args.scratch.now c.args.top c.requires.ready.shape

pub overflow_add-p : goal.overflow_add-p
overflow_add-p c = omega (arith, c.requires.elements.first_inside)

pub load_element-v-requires : goal.load_element-v-requires
load_element-v-requires c = omega (arith, c.requires.elements.first_inside)

pub overflow_add-q : goal.overflow_add-q
overflow_add-q c = omega (arith, c.requires.elements.second_inside)

pub load_element-w-requires : goal.load_element-w-requires
load_element-w-requires c = omega (arith, c.requires.elements.second_inside)

pub push_alike-requires : goal.push_alike-requires
push_alike-requires c = let v = next_asks (lent_of c.args.heap) c.args.c c.args.p c.args.q c.args.n c.args.scratch.now c.args.top (c.requires.ready, c.requires.elements) c.loop-j.scratch c.loop-j.height c.loop-j.j c.loop-j.invariant c.loop-j-test.true (value_of c.load_element-v.result) (value_of c.load_element-w.result) c.load_element-v.ensures c.load_element-w.ensures in record { ready = v.0; comparable = v.1 }

pub shape_of-scratch-in_err-height : goal.shape_of-scratch-in_err-height
shape_of-scratch-in_err-height c = c.push_alike.auto.scratch ∙ c.loop-j.invariant.size

pub returns-in_err-height : goal.returns-in_err-height
returns-in_err-height c = rw c.from_residual.ensures (along_stops (lent_of c.args.heap) c.args.c c.args.p c.args.q c.args.n c.args.scratch.now c.args.top (c.requires.ready, c.requires.elements) c.loop-j.scratch c.loop-j.height c.loop-j.j c.loop-j.invariant c.loop-j-test.true (value_of c.load_element-v.result) (value_of c.load_element-w.result) c.load_element-v.ensures c.load_element-w.ensures c.push_alike.new.scratch c.push_alike.result c.push_alike.ensures c.in_err-height.was)

pub loop-j-preserved : goal.loop-j-preserved
loop-j-preserved c = along_on (lent_of c.args.heap) c.args.c c.args.p c.args.q c.args.n c.args.scratch.now c.args.top (c.requires.ready, c.requires.elements) c.loop-j.scratch c.loop-j.height c.loop-j.j c.loop-j.invariant c.loop-j-test.true (value_of c.load_element-v.result) (value_of c.load_element-w.result) c.load_element-v.ensures c.load_element-w.ensures c.push_alike.new.scratch c.push_alike.result c.push_alike.ensures c.in_ok-height.height c.in_ok-height.was c.push_alike.auto.scratch

pub shape_of-scratch : goal.shape_of-scratch
shape_of-scratch c = c.loop-j.invariant.size

pub returns : goal.returns
returns c = along_ends (lent_of c.args.heap) c.args.c c.args.p c.args.q c.args.n c.args.scratch.now c.args.top (c.requires.ready, c.requires.elements) c.loop-j.scratch c.loop-j.height c.loop-j.j c.loop-j.invariant c.loop-j-test.false
