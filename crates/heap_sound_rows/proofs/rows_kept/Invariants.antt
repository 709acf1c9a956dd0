-- `heap_sound_rows::rows_kept`: the rows before are kept. Assumes nothing.
use Rattle.heap_sound_rows.specs.Rows.{row_kept}
use Rattle.laws.specs.Basics.{every_below}
use mathlib.Core.Bool.{true}
use mathlib.Core.Path.{◌≡◌}
use Rattle.heap_sound_rows.proofs.rows_kept.Given as goal

abbrev pub invariant-loop-i : goal.invariant-loop-i
invariant-loop-i l = every_below l.i (row_kept l.words) ≡ true
