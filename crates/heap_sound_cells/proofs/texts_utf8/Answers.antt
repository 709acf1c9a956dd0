-- `heap_sound_cells::texts_utf8`: those before were found good. Assumes nothing.
use Rattle.heap_sound_cells.proofs.FirstLaws.{apart_bound}
use Rattle.heap_sound_cells.specs.Looked.{first_text}
use Rattle.heap_sound_rows.proofs.UpLaws.{up_starts, up_on, up_stops, up_ends}
use mathlib.Core.Path.{sym, ◌∙◌}
use native.Mathlib.Omega.{arith}
use Rattle.heap_sound_cells.proofs.texts_utf8.Goals as goal

pub loop-i-init : goal.loop-i-init
loop-i-init c = up_starts _

pub text_utf8-requires : goal.text_utf8-requires
text_utf8-requires c = record { slot_in_bounds = omega arith; slot_in_bounds_2 = apart_bound _ _ _ _ c.requires.apart (omega arith); bytes_in_bounds = c.requires.bytes_in_bounds }

pub returns-then-not-text_utf8 : goal.returns-then-not-text_utf8
returns-then-not-text_utf8 c = up_stops (first_text c.args.words.now c.args.bytes.now c.args.paint.now) _ c.loop-i.i (omega arith) (sym c.text_utf8.ensures ∙ c.if-not-text_utf8.true)

pub loop-i-preserved : goal.loop-i-preserved
loop-i-preserved c = up_on (first_text c.args.words.now c.args.bytes.now c.args.paint.now) c.loop-i.i c.loop-i.invariant (sym c.text_utf8.ensures ∙ c.if-not-text_utf8.false)

pub returns : goal.returns
returns c = up_ends (first_text c.args.words.now c.args.bytes.now c.args.paint.now) _ c.loop-i.i (omega arith) (omega arith) c.loop-i.invariant
