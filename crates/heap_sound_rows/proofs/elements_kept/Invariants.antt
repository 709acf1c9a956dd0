-- `heap_sound_rows::elements_kept`: the elements before are kept. Assumes nothing.
use Rattle.heap_sound_rows.specs.Rows.{element_kept}
use Rattle.laws.specs.Basics.{every_below}
use mathlib.Core.Bool.{true}
use mathlib.Core.Path.{◌≡◌}
use Rattle.heap_sound_rows.proofs.elements_kept.Given as goal

abbrev pub invariant-loop-i : goal.invariant-loop-i
invariant-loop-i l = every_below l.i (element_kept l.elems) ≡ true
