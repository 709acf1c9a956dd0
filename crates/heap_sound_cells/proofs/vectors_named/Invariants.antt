-- `heap_sound_cells::vectors_named`: those before were found good. Assumes nothing.
use Rattle.heap_sound_cells.specs.Looked.{first_vector}
use Rattle.laws.specs.Basics.{every_below}
use mathlib.Core.Path.{◌≡◌}
use mathlib.Core.Bool.{true}
use Rattle.heap_sound_cells.proofs.vectors_named.Given as goal

abbrev pub invariant-loop-i : goal.invariant-loop-i
invariant-loop-i l = every_below l.i (first_vector l.words l.elems l.map l.capacity l.paint) ≡ true
