-- `sheet_answer::say_counts`: each line is inside the buffer. Assumes nothing.
use native.Mathlib.Omega.{arith}
use Rattle.sheet_answer.proofs.say_counts.Goals as goal

pub say-requires : goal.say-requires
say-requires g c = omega (arith, (c.capacity_line-c.ensures c.args.heap.lists.map.now c.args.heap.lists.bytes.now c.args.heap.lists.elems.now).short, c.capacity_line-c.auto.out, c.requires)

pub say-requires-2 : goal.say-requires-2
say-requires-2 g c = omega (arith, (c.free_line-f.ensures c.args.heap.lists.map.now c.args.heap.lists.bytes.now c.args.heap.lists.elems.now).short, c.free_line-f.auto.out, c.capacity_line-c.auto.out, c.requires)

pub say-requires-3 : goal.say-requires-3
say-requires-3 g c = omega (arith, (c.freelist_line-l.ensures c.args.heap.lists.map.now c.args.heap.lists.bytes.now c.args.heap.lists.elems.now).short, c.freelist_line-l.auto.out, c.free_line-f.auto.out, c.capacity_line-c.auto.out, c.requires)
