-- The cycle of `heap_walk`: a slot, what its cell holds, a vector's elements and one of them. The bound of the path falls from a
-- slot to what its cell holds.
use Rattle.std.proofs.Common.{◌≡◌, ◌+◌, ◌*◌, length}
use Rattle.heap_walk.proofs.Cycle.{Going}
use Rattle.heap_walk.specs.Tasks.{Job, ElementsTask}
use Rattle.heap_walk.proofs.+walking.Given as goal

abbrev pub decreases-walk : goal.decreases-walk
decreases-walk l = 4 * l.left

abbrev pub decreases-walk_element : goal.decreases-walk_element
decreases-walk_element l = 4 * l.left + 1

abbrev pub decreases-walk_elements : goal.decreases-walk_elements
decreases-walk_elements l = 4 * l.left + 2

abbrev pub decreases-walk_parts : goal.decreases-walk_parts
decreases-walk_parts l = 4 * l.left + 3

abbrev pub invariant-walk_elements-loop-i : goal.invariant-walk_elements-loop-i
invariant-walk_elements-loop-i l =
    record {
      same : length l.marks ≡ length l.initial.marks;
      going : (j : Job) → ElementsTask j l.place l.n l.left l.count l.words l.elems l.initial.marks → Going j l.place l.n l.left l.count l.words l.elems l.initial.marks l.known l.i l.marks;
    }
