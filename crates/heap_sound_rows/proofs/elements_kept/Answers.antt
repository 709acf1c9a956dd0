-- `heap_sound_rows::elements_kept`: element after element. Assumes nothing.
use Rattle.heap_sound_rows.proofs.RowLaws.{element_is}
use Rattle.heap_sound_rows.proofs.UpLaws.{up_starts, up_on, up_stops, up_ends}
use Rattle.heap_sound_rows.specs.Rows.{element_kept}
use mathlib.Core.Path.{sym, ◌∙◌}
use native.Mathlib.Omega.{arith}
use Rattle.heap_sound_rows.proofs.elements_kept.Goals as goal

pub loop-i-init : goal.loop-i-init
loop-i-init c = up_starts _

pub returns-then-not-value_known : goal.returns-then-not-value_known
returns-then-not-value_known c = up_stops (element_kept c.args.elems.now) _ c.loop-i.i (omega arith) (sym (element_is _ _) ∙ sym c.value_known.ensures ∙ c.if-not-value_known.true)

pub loop-i-preserved : goal.loop-i-preserved
loop-i-preserved c = up_on (element_kept c.args.elems.now) c.loop-i.i c.loop-i.invariant (sym (element_is _ _) ∙ sym c.value_known.ensures ∙ c.if-not-value_known.false)

pub returns : goal.returns
returns c = up_ends (element_kept c.args.elems.now) _ c.loop-i.i (omega arith) (omega arith) c.loop-i.invariant
