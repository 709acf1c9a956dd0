-- The cycle of `heap_put`: datum, pair, vector and label, with what is left of the datum falling.
use Rattle.std.proofs.Common.{◌≡◌, ◌+◌, ◌*◌, length, ℕ, List}
use Rattle.rules.specs.Datum.{Data}
use Rattle.rules.specs.Layout.{Rooms}
use Rattle.rules.specs.Put.{Making}
use Rattle.leaf_lists.specs.Lists.{SameLists}
use Rattle.heap_atoms.specs.Tasks.{AllTask}
use Rattle.heap_put.proofs.Cycle.{Going}
use Rattle.heap_put.proofs.+putting.Given as goal

abbrev pub decreases-put_datum : goal.decreases-put_datum
decreases-put_datum l = 8 * length l.datum.now + 4

abbrev pub decreases-put_element : goal.decreases-put_element
decreases-put_element l = 8 * length l.datum.now + 5

abbrev pub decreases-put_elements : goal.decreases-put_elements
decreases-put_elements l = 8 * length l.datum.now + 6

abbrev pub decreases-put_in_slot : goal.decreases-put_in_slot
decreases-put_in_slot l = 8 * length l.datum.now + 5

abbrev pub decreases-put_label : goal.decreases-put_label
decreases-put_label l = 8 * length l.datum.now + 3

abbrev pub decreases-put_pair : goal.decreases-put_pair
decreases-put_pair l = 8 * length l.datum.now + 3

abbrev pub decreases-put_vector : goal.decreases-put_vector
decreases-put_vector l = 8 * length l.datum.now + 3

abbrev pub invariant-put_elements-loop-i : goal.invariant-put_elements-loop-i
invariant-put_elements-loop-i l =
    record {
      same : SameLists l.initial.heap l.heap;
      labels_same : length l.labels ≡ length l.initial.labels;
      going : (r : Rooms) (f : ℕ) (m : Making) (ds : Data) (rest : List ℕ) → AllTask r f m ds rest l.place l.n l.count l.datum l.initial.heap.words.now l.initial.heap.map.now l.initial.heap.bytes.now l.initial.heap.elems.now l.initial.labels → Going r f m ds rest l.place l.n l.datum l.at l.known l.i l.heap.words.now l.heap.map.now l.heap.bytes.now l.heap.elems.now l.labels;
    }
