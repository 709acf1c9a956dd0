-- `heap_steps::in_slot`: a slot stays, a scalar gets a new one. Assumes nothing.
use mathlib.Core.Path.{sym, ap, ◌∙◌}
use Rattle.heap_steps.specs.Places.{shown_place}
use Rattle.heap_steps.proofs.PlaceSteps.{slot_there, slot_open, slot_new}
use Rattle.heap_steps.proofs.in_slot.Goals as goal

-- src/lib.rt:99:26
pub new_cell-requires : goal.new_cell-requires
new_cell-requires c = (_, _, slot_open c.requires.0 c.requires.1 _ _ _ c.requires.2 _ (sym (ap shown_place c.in-New.is) ∙ c.place_of.ensures))

-- src/lib.rt:92:1
pub returns-in-At : goal.returns-in-At
returns-in-At c = λ n h o. slot_there n h _ _ _ o _ (sym (ap shown_place c.in-At.is) ∙ c.place_of.ensures)

-- src/lib.rt:92:1
pub returns-in-New : goal.returns-in-New
returns-in-New c = λ n h o. slot_new n h _ _ (sym (ap shown_place c.in-New.is) ∙ c.place_of.ensures) _ _ _ (c.new_cell.ensures n h (slot_open n h _ _ _ o _ (sym (ap shown_place c.in-New.is) ∙ c.place_of.ensures)))
