-- `leaf_rooms::write`: what was to write is what is left to write. Assumes nothing.
use Rattle.leaf_rooms.specs.Rooms.{stored}
use Prim.Native.Nat.{◌+◌}
use lib.ListN.{length, drop}
use mathlib.Core.Path.{◌≡◌}
use Rattle.leaf_rooms.proofs.write.Given as goal

abbrev pub invariant-loop-i : goal.invariant-loop-i
invariant-loop-i g l = (length l.room ≡ length l.initial.room) × (stored l.room (l.at + l.i) (drop l.i l.part) ≡ stored l.initial.room l.at l.part)
