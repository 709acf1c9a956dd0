-- `heap_sound_cells::texts_utf8`: those before were found good. Assumes nothing.
use Rattle.heap_sound_cells.specs.Looked.{first_text}
use Rattle.laws.specs.Basics.{every_below}
use mathlib.Core.Path.{◌≡◌}
use mathlib.Core.Bool.{true}
use Rattle.heap_sound_cells.proofs.texts_utf8.Given as goal

abbrev pub invariant-loop-i : goal.invariant-loop-i
invariant-loop-i l = every_below l.i (first_text l.words l.bytes l.paint) ≡ true
