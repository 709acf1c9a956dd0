-- `heap_sound_cells::values_allowed`: those before were found good. Assumes nothing.
use Rattle.heap_sound_cells.specs.Looked.{value_at}
use Rattle.rules.specs.Sound.{value_allowed}
use Rattle.laws.specs.Basics.{every_below}
use mathlib.Core.Path.{◌≡◌}
use mathlib.Core.Bool.{true}
use Rattle.heap_sound_cells.proofs.values_allowed.Given as goal

abbrev pub invariant-loop-i : goal.invariant-loop-i
invariant-loop-i l = every_below l.i (λ k. value_allowed (value_at l.elems k)) ≡ true
