-- `heap_sound_free::free_slots`: slot after slot. Assumes nothing.
use Rattle.heap_sound_free.specs.Marks.{free_slot}
use Rattle.heap_sound_rows.proofs.UpLaws.{up_starts, up_on, up_stops, up_ends}
use mathlib.Core.Path.{sym, ◌∙◌}
use native.Mathlib.Omega.{arith}
use Rattle.heap_sound_free.proofs.free_slots.Goals as goal

pub loop-i-init : goal.loop-i-init
loop-i-init c = up_starts _

pub returns-then-not-free_slot : goal.returns-then-not-free_slot
returns-then-not-free_slot c = up_stops (free_slot c.args.words.now c.args.map.now c.args.marks.now) _ c.loop-i.i (omega arith) (sym c.free_slot.ensures ∙ c.if-not-free_slot.true)

pub loop-i-preserved : goal.loop-i-preserved
loop-i-preserved c = up_on (free_slot c.args.words.now c.args.map.now c.args.marks.now) c.loop-i.i c.loop-i.invariant (sym c.free_slot.ensures ∙ c.if-not-free_slot.false)

pub returns : goal.returns
returns c = up_ends (free_slot c.args.words.now c.args.map.now c.args.marks.now) _ c.loop-i.i (omega arith) (omega arith) c.loop-i.invariant
