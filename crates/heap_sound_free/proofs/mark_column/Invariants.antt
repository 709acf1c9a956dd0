-- `heap_sound_free::mark_column`: the marks are the numbers met, each once. Assumes nothing.
use Rattle.heap_sound_free.specs.Marks.{tally, new_at, column_of}
use lib.ListN.{get_or}
use Prim.Native.Nat.{ℕ, ◌<◌}
use mathlib.Core.Path.{◌≡◌}
use mathlib.Core.Bool.{true}
use Rattle.heap_sound_free.proofs.mark_column.Given as goal

abbrev pub invariant-loop-i : goal.invariant-loop-i
invariant-loop-i l = ((j : ℕ) → j < l.i → new_at (column_of l.words l.column) l.capacity j ≡ true) × ((s : ℕ) → get_or l.marks s 0 ≡ tally (column_of l.words l.column) l.i s)
