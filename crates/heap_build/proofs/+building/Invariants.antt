-- The cycle of `heap_build`: a slot, its cell, a pair, a vector, its elements and one of them. The nodes left fall from a pair or a
-- vector to what it holds, and from a definition to its cell.
use Rattle.std.proofs.Common.{◌≡◌, ◌+◌, ◌*◌, length}
use Rattle.heap_build.proofs.Cycle.{Going}
use Rattle.heap_build.specs.Tasks.{Job, ElementsTask}
use Rattle.heap_build.proofs.+building.Given as goal

abbrev pub decreases-build : goal.decreases-build
decreases-build l = 8 * l.p.left + 5

abbrev pub decreases-build_cell : goal.decreases-build_cell
decreases-build_cell l = 8 * l.p.left + 4

abbrev pub decreases-build_element : goal.decreases-build_element
decreases-build_element l = 8 * l.p.left + 6

abbrev pub decreases-build_elements : goal.decreases-build_elements
decreases-build_elements l = 8 * l.p.left + 7

abbrev pub decreases-build_pair : goal.decreases-build_pair
decreases-build_pair l = 8 * l.p.left + 3

abbrev pub decreases-build_vector : goal.decreases-build_vector
decreases-build_vector l = 8 * l.p.left + 3

abbrev pub invariant-build_elements-loop-i : goal.invariant-build_elements-loop-i
invariant-build_elements-loop-i l =
    record {
      marks_same : length l.marks ≡ length l.initial.marks;
      out_same : length l.out ≡ length l.initial.out;
      going : (j : Job) → ElementsTask j l.place l.n l.initial.q l.words l.bytes l.elems l.initial.marks l.initial.out → Going j l.place l.n l.initial.q l.words l.bytes l.elems l.initial.marks l.initial.out l.i l.q l.marks l.out;
    }
