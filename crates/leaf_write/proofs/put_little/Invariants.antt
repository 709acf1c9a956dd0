-- `leaf_write::put_little`: what was to write is what is left to write. Assumes nothing.
use Rattle.leaf_rooms.specs.Rooms.{stored}
use Rattle.laws.specs.Basics.{little}
use lib.ListN.{length}
use Prim.Native.Nat.{◌+◌, ◌-◌}
use mathlib.Core.Path.{◌≡◌}
use Rattle.leaf_write.proofs.put_little.Given as goal

abbrev pub invariant-loop-i : goal.invariant-loop-i
invariant-loop-i l = (length l.out ≡ length l.initial.out) × (stored l.out (l.at + l.i) (little (l.w - l.i) l.m) ≡ stored l.initial.out l.at (little l.w l.n))
