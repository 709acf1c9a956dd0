-- `heap_labels::slot_of`: the slot at the label's place. Assumes nothing.
use native.Mathlib.Omega.{arith}
use Rattle.heap_labels.proofs.LabelLaws.{slot_there, slot_gone}
use Rattle.heap_labels.proofs.slot_of.Goals as goal

pub returns-in-Some : goal.returns-in-Some
returns-in-Some c = slot_there _ _ _ _ c.in-Some.ensures.place c.in-Some.ensures.within

pub returns-in-None : goal.returns-in-None
returns-in-None c = slot_gone _ _ _ _ c.in-None.ensures.place (omega arith)
