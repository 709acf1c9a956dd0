-- `heap_read::build_value`: a slot by the build, a scalar by its node. Assumes nothing.
use Rattle.heap_read.proofs.ValueLaws.{slot_task, slot_value, scalar_value}
use Rattle.heap_build.proofs.Cycle.{value_scalar}
use Rattle.leaf_cells.proofs.Variants.{other_value}
use native.Mathlib.Omega.{arith}
use Rattle.heap_read.proofs.build_value.Goals as goal

pub build-requires : goal.build-requires
build-requires c = (_, slot_task _ _ _ _ _ _ _ _ _ c.requires.3 _ c.in-Slot.is)

pub scalar-requires : goal.scalar-requires
scalar-requires c = let x = other_value c.args.v c.in_default.not-Slot in (omega arith, (x.plain, value_scalar _ c.args.v _ c.value_words.ensures x.is))

pub returns-in-Slot : goal.returns-in-Slot
returns-in-Slot c = λ r h labels k. slot_value r h labels c.args.v _ _ _ _ _ k _ c.in-Slot.is _ _ _ (c.build.ensures _ (slot_task r h labels c.args.v _ _ _ _ _ k _ c.in-Slot.is))

pub returns-in_default : goal.returns-in_default
returns-in_default c = λ r h labels k. let x = other_value c.args.v c.in_default.not-Slot in scalar_value r h labels c.args.v _ _ _ _ _ k x.plain x.is _ _ (c.scalar.ensures x.plain (value_scalar _ c.args.v _ c.value_words.ensures x.is))
