-- `heap_walk::label`: the walk from a slot with nothing met; a scalar leads nowhere. Assumes nothing.
use Rattle.heap_walk.proofs.Cycle.{some_words, capacity_most, first_task, first_done, scalar_done}
use Rattle.leaf_cells.proofs.Variants.{other_value}
use Rattle.leaf_cells.specs.Elements.{value_of}
use native.Mathlib.Omega.{arith}
use mathlib.Core.Path.{sym, ap}
use Rattle.heap_walk.proofs.label.Goals as goal

pub bounds-words-1 : goal.bounds-words-1
bounds-words-1 c = some_words _ _ _ _ _ _ c.requires.2

pub overflow_add-words : goal.overflow_add-words
overflow_add-words c = omega (arith, capacity_most _ _ _ _ _ _ c.requires.2)

pub walk-requires : goal.walk-requires
walk-requires c = (_, first_task _ _ _ _ _ _ c.requires.2 _ (sym (ap value_of c.in-Slot.is)))

pub returns-in-Slot : goal.returns-in-Slot
returns-in-Slot c = λ r h k. first_done r h _ _ _ _ k _ (sym (ap value_of c.in-Slot.is)) _ _ (c.walk.ensures _ (first_task r h _ _ _ _ k _ (sym (ap value_of c.in-Slot.is))))

pub returns-in_default : goal.returns-in_default
returns-in_default c = λ r h k. let x = other_value c.args.v c.in_default.not-Slot in scalar_done r h _ _ _ _ k x.plain x.is
