-- `sheet_answer::say_slots`: the buffer keeps its length. Assumes nothing.
use native.Mathlib.Omega.{arith}
use Rattle.leaf_lists.specs.Lists.{lent_of}
use Rattle.heap_given.proofs.HeaderLaws.{header_there}
use Rattle.sheet_answer.proofs.say_slots.Goals as goal

pub bounds-heap-1 : goal.bounds-heap-1
bounds-heap-1 g c = omega (arith, header_there (lent_of c.args.heap.lists) c.args.heap.sound)
