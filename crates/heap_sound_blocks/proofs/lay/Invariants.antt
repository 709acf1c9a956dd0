-- `heap_sound_blocks::lay`: the blocks of the slots passed are painted, and so apart. Assumes nothing.
use Rattle.heap_sound_blocks.specs.Blocks.{shown, Painted}
use Rattle.rules.specs.Sound.{lies_in}
use Prim.Native.Nat.{ℕ, ◌<◌}
use mathlib.Core.Path.{◌≡◌}
use mathlib.Core.Bool.{true}
use Rattle.heap_sound_blocks.proofs.lay.Given as goal

abbrev pub invariant-loop-slot : goal.invariant-loop-slot
invariant-loop-slot l = ((j : ℕ) → j < l.slot → lies_in l.used (shown l.words l.kinds.low l.kinds.high j) ≡ true) × Painted (shown l.words l.kinds.low l.kinds.high) l.slot l.paint
