-- `heap_sound_rows::rows_kept`: row after row. Assumes nothing.
use Rattle.heap_sound_rows.proofs.UpLaws.{up_starts, up_on, up_stops, up_ends}
use Rattle.heap_sound_rows.specs.Rows.{row_kept}
use mathlib.Core.Path.{sym, ◌∙◌}
use native.Mathlib.Omega.{arith}
use Rattle.heap_sound_rows.proofs.rows_kept.Goals as goal

pub loop-i-init : goal.loop-i-init
loop-i-init c = up_starts _

pub returns-then-not-row_kept : goal.returns-then-not-row_kept
returns-then-not-row_kept c = up_stops (row_kept c.args.words.now) _ c.loop-i.i (omega arith) (sym c.row_kept.ensures ∙ c.if-not-row_kept.true)

pub loop-i-preserved : goal.loop-i-preserved
loop-i-preserved c = up_on (row_kept c.args.words.now) c.loop-i.i c.loop-i.invariant (sym c.row_kept.ensures ∙ c.if-not-row_kept.false)

pub returns : goal.returns
returns c = up_ends (row_kept c.args.words.now) _ c.loop-i.i (omega arith) (omega arith) c.loop-i.invariant
