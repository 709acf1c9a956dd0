-- `heap_sound_free::free_slots`: the slots before are good. Assumes nothing.
use Rattle.heap_sound_free.specs.Marks.{free_slot}
use Rattle.laws.specs.Basics.{every_below}
use mathlib.Core.Bool.{true}
use mathlib.Core.Path.{◌≡◌}
use Rattle.heap_sound_free.proofs.free_slots.Given as goal

abbrev pub invariant-loop-i : goal.invariant-loop-i
invariant-loop-i l = every_below l.i (free_slot l.words l.map l.marks) ≡ true
