-- `heap_given::value_in_use`: a slot, or nothing is named. Assumes nothing.
use mathlib.Core.Path.{sym, ap, ◌∙◌}
use Rattle.leaf_cells.specs.Elements.{value_of}
use Rattle.leaf_cells.specs.declared.Value.{Value}
use Rattle.leaf_cells.proofs.Variants.{other_value}
use Rattle.heap_sound_cells.specs.Looked.{named}
use Rattle.heap_given.proofs.GivenLaws.{scalar_named}
use Rattle.heap_given.proofs.value_in_use.Goals as goal

pub returns-in-Slot : goal.returns-in-Slot
unfolding named
returns-in-Slot c = c.in_use.ensures ∙ ap (λ (x : Value). named c.args.capacity c.args.map.now (value_of x)) (sym c.in-Slot.is)

pub returns-in_default : goal.returns-in_default
returns-in_default c = scalar_named _ _ _ (other_value c.args.v c.in_default.not-Slot)
