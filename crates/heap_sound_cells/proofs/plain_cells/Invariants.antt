-- `heap_sound_cells::plain_cells`: those before were found good. Assumes nothing.
use Rattle.heap_sound_cells.specs.Looked.{plain_at}
use Rattle.laws.specs.Basics.{every_below}
use mathlib.Core.Path.{◌≡◌}
use mathlib.Core.Bool.{true}
use Rattle.heap_sound_cells.proofs.plain_cells.Given as goal

abbrev pub invariant-loop-i : goal.invariant-loop-i
invariant-loop-i l = every_below l.i (plain_at l.words l.map l.capacity) ≡ true
