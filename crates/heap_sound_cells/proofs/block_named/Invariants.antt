-- `heap_sound_cells::block_named`: those before were found good. Assumes nothing.
use Rattle.heap_sound_cells.specs.Looked.{value_at, named}
use Prim.Native.Nat.{◌+◌}
use Rattle.laws.specs.Basics.{every_below}
use mathlib.Core.Path.{◌≡◌}
use mathlib.Core.Bool.{true}
use Rattle.heap_sound_cells.proofs.block_named.Given as goal

abbrev pub invariant-loop-i : goal.invariant-loop-i
invariant-loop-i l = every_below l.i (λ k. named l.capacity l.map (value_at l.elems (l.place + k))) ≡ true
