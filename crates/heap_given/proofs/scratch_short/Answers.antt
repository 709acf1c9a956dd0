-- `heap_given::scratch_short`: the formula at the header's capacity. Assumes nothing.
use mathlib.Core.Path.{refl}
use native.Mathlib.Omega.{arith}
use Rattle.leaf_lists.specs.Lists.{lent_of}
use Rattle.heap_given.proofs.HeaderLaws.{header_there, capacity_small}
use Rattle.heap_given.proofs.scratch_short.Goals as goal

pub bounds-heap-1 : goal.bounds-heap-1
bounds-heap-1 c = omega (arith, header_there (lent_of c.args.heap.lists) c.args.heap.sound)

pub overflow_mul-result : goal.overflow_mul-result
overflow_mul-result c = omega (arith, capacity_small (lent_of c.args.heap.lists) c.args.heap.sound)

pub overflow_add-result : goal.overflow_add-result
overflow_add-result c = omega (arith, capacity_small (lent_of c.args.heap.lists) c.args.heap.sound)

pub returns : goal.returns
returns c = refl
