-- `heap_sound_table::list_order`: each place has its own number. Assumes nothing.
use lib.ListN.{get_or}
use Prim.Native.Nat.{ℕ, ◌<◌}
use mathlib.Core.Path.{◌≡◌}
use Rattle.heap_sound_table.proofs.list_order.Given as goal

abbrev pub invariant-loop-i : goal.invariant-loop-i
invariant-loop-i l = (j : ℕ) → j < l.i → get_or l.order j 0 ≡ j
