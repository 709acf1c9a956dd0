-- `heap_eqv::same_slot`: two slots by their numbers, and no scalar. Assumes nothing.
use mathlib.Core.Path.{sym}
use Rattle.rules.specs.Equal.{same_slot}
use Rattle.leaf_cells.specs.Elements.{value_of}
use Rattle.leaf_cells.proofs.Variants.{other_value}
use Rattle.heap_eqv.proofs.WordLaws.{first_no_slot, second_no_slot}
use Rattle.heap_eqv.proofs.same_slot.Goals as goal

pub returns-in-Slot-Slot : goal.returns-in-Slot-Slot
unfolding same_slot
returns-in-Slot-Slot c = λ j. same_slot (value_of (sym c.in-Slot-Slot.is-0 j)) (value_of (sym c.in-Slot-Slot.is-1 j))

pub returns-in_default : goal.returns-in_default
returns-in_default c = second_no_slot (value_of c.args.v) _ (other_value c.args.w c.in_default.not-Slot-1)

pub returns-in_default-2 : goal.returns-in_default-2
returns-in_default-2 c = first_no_slot _ (value_of c.args.w) (other_value c.args.v c.in_default.not-Slot-0)
