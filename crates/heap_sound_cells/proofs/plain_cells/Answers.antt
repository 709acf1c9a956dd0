-- `heap_sound_cells::plain_cells`: those before were found good. Assumes nothing.
use Rattle.heap_sound_cells.proofs.PlainLaws.{plain_is}
use Rattle.heap_sound_cells.specs.Looked.{plain_at}
use Rattle.heap_sound_rows.proofs.UpLaws.{up_starts, up_on, up_stops, up_ends}
use mathlib.Core.Path.{sym, ◌∙◌}
use native.Mathlib.Omega.{arith}
use Rattle.heap_sound_cells.proofs.plain_cells.Goals as goal

pub loop-i-init : goal.loop-i-init
loop-i-init c = up_starts _

pub returns-then-not-plain_good : goal.returns-then-not-plain_good
returns-then-not-plain_good c = up_stops (plain_at c.args.words.now c.args.map.now c.args.capacity) _ c.loop-i.i (omega arith) (sym (plain_is _ _ _ _) ∙ sym c.plain_good.ensures ∙ c.if-not-plain_good.true)

pub loop-i-preserved : goal.loop-i-preserved
loop-i-preserved c = up_on (plain_at c.args.words.now c.args.map.now c.args.capacity) c.loop-i.i c.loop-i.invariant (sym (plain_is _ _ _ _) ∙ sym c.plain_good.ensures ∙ c.if-not-plain_good.false)

pub returns : goal.returns
returns c = up_ends (plain_at c.args.words.now c.args.map.now c.args.capacity) _ c.loop-i.i (omega arith) (omega arith) c.loop-i.invariant
