-- The cycle of `heap_walk`: a slot, what its cell holds, a vector's elements and one of them. The bound of the path falls from a
-- slot to what its cell holds. Assumes nothing.
use Rattle.heap_walk.proofs.Cycle.{slot_row, slot_mark, few, walk_ended, walk_nowhere, walk_again, parts_task, mark_low, walk_through, parts_row, car_task, cdr_task, pair_done, elements_task, vector_done, parts_none, going_place, going_ends, element_task, going_on, element_here, element_slot, element_walked, element_scalar}
use Rattle.heap_walk.proofs.KindLaws.{no_parts}
use Rattle.leaf_cells.proofs.Variants.{other_value}
use mathlib.Core.Path.{sym, ◌∙◌}
use native.Mathlib.Omega.{arith}
use Rattle.heap_walk.proofs.+walking.Goals as goal
use Rattle.heap_walk.proofs.+walking.Goals.{walk-then-left-eq0-via-then-left-eq0, walk-then-left-eq0-via-else-left-eq0+then-not-has_parts}

pub walk-returns-then-left-eq0 : goal.walk-returns-then-left-eq0
walk-returns-then-left-eq0 t c =
    λ j k.
    elim c.then-left-eq0.branch [
      | walk-then-left-eq0-via-then-left-eq0 w ↦ walk_ended j _ _ _ _ _ _ k w.if-left-eq0.true
      | walk-then-left-eq0-via-else-left-eq0+then-not-has_parts w ↦ walk_nowhere j _ _ _ _ _ _ k (sym (w.if-not-has_parts.true) ∙ w.has_parts.ensures)
    ]

pub walk-has_parts-requires : goal.walk-has_parts-requires
walk-has_parts-requires t c = slot_row _ _ _ _ _ _ _ c.requires.1

pub walk-met_again-requires : goal.walk-met_again-requires
walk-met_again-requires t c = (slot_mark _ _ _ _ _ _ _ c.requires.1, few _ _ _ _ _ _ _ c.requires.1)

pub walk-returns-then-marks-slot-ne0 : goal.walk-returns-then-marks-slot-ne0
walk-returns-then-marks-slot-ne0 t c = λ j k. walk_again j _ _ _ _ _ _ k c.if-left-eq0.false (sym (c.if-not-has_parts.false) ∙ c.has_parts.ensures) c.if-marks-slot-ne0.true _ _ c.met_again.ensures

pub walk-walk_parts-known-requires : goal.walk-walk_parts-known-requires
walk-walk_parts-known-requires t c = (omega arith, (_, parts_task _ _ _ _ _ _ _ c.requires.1 c.if-left-eq0.false (sym (c.if-not-has_parts.false) ∙ c.has_parts.ensures) c.if-marks-slot-ne0.false))

pub walk-overflow_sub-marks : goal.walk-overflow_sub-marks
walk-overflow_sub-marks t c = mark_low _ _ _ _ _ _ _ c.requires.1 c.if-left-eq0.false (sym (c.if-not-has_parts.false) ∙ c.has_parts.ensures) c.if-marks-slot-ne0.false _ _ (c.walk_parts-known.ensures _ (parts_task _ _ _ _ _ _ _ c.requires.1 c.if-left-eq0.false (sym (c.if-not-has_parts.false) ∙ c.has_parts.ensures) c.if-marks-slot-ne0.false))

pub walk-returns : goal.walk-returns
walk-returns t c = λ j k. let p = sym (c.if-not-has_parts.false) ∙ c.has_parts.ensures in walk_through j _ _ _ _ _ _ k c.if-left-eq0.false p c.if-marks-slot-ne0.false _ _ (c.walk_parts-known.ensures _ (parts_task j _ _ _ _ _ _ k c.if-left-eq0.false p c.if-marks-slot-ne0.false)) c.walk_parts-known.auto.marks

pub walk_element-load_element-requires : goal.walk_element-load_element-requires
walk_element-load_element-requires t c = element_here _ _ _ _ _ _ _ c.requires.1

pub walk_element-walk-requires : goal.walk_element-walk-requires
walk_element-walk-requires t c = (omega arith, (_, element_slot _ _ _ _ _ _ _ c.requires.1 c.load_element.result c.load_element.ensures _ c.in-Slot.is))

pub walk_element-returns-in-Slot : goal.walk_element-returns-in-Slot
walk_element-returns-in-Slot t c = λ j k. element_walked j _ _ _ _ _ _ k c.load_element.result c.load_element.ensures _ c.in-Slot.is _ _ (c.walk.ensures _ (element_slot j _ _ _ _ _ _ k c.load_element.result c.load_element.ensures _ c.in-Slot.is))

pub walk_element-returns-in_default : goal.walk_element-returns-in_default
walk_element-returns-in_default t c = λ j k. let x = other_value c.load_element.result c.in_default.not-Slot in element_scalar j _ _ _ _ _ _ k c.load_element.result c.load_element.ensures x.plain x.is

pub walk_elements-overflow_add-place : goal.walk_elements-overflow_add-place
walk_elements-overflow_add-place t c = omega (arith, going_place _ _ _ _ _ _ _ _ c.requires.1, (c.loop-i.invariant.going _ c.requires.1).inside)

pub walk_elements-walk_element-known-requires : goal.walk_elements-walk_element-known-requires
walk_elements-walk_element-known-requires t c = (omega arith, (_, element_task _ _ _ _ _ _ _ _ c.requires.1 _ _ _ (c.loop-i.invariant.going _ c.requires.1) c.loop-i-test.true))

pub walk_elements-loop-i-preserved : goal.walk_elements-loop-i-preserved
walk_elements-loop-i-preserved t c = record { same = c.walk_element-known.auto.marks ∙ c.loop-i.invariant.same; going = λ j k. going_on j _ _ _ _ _ _ _ k _ _ _ (c.loop-i.invariant.going j k) c.loop-i-test.true _ _ (c.walk_element-known.ensures _ (element_task j _ _ _ _ _ _ _ k _ _ _ (c.loop-i.invariant.going j k) c.loop-i-test.true)) c.walk_element-known.auto.marks }

pub walk_elements-returns : goal.walk_elements-returns
walk_elements-returns t c = λ j k. going_ends j _ _ _ _ _ _ _ k _ _ _ (c.loop-i.invariant.going j k) c.loop-i-test.false

pub walk_parts-load-requires : goal.walk_parts-load-requires
walk_parts-load-requires t c = parts_row _ _ _ _ _ _ _ c.requires.1

pub walk_parts-walk-known-requires : goal.walk_parts-walk-known-requires
walk_parts-walk-known-requires t c = (omega arith, (_, car_task _ _ _ _ _ _ _ c.requires.1 c.load.result c.load.ensures _ _ c.in-Pair.is))

pub walk_parts-walk-requires : goal.walk_parts-walk-requires
walk_parts-walk-requires t c = (omega arith, (_, cdr_task _ _ _ _ _ _ _ c.requires.1 c.load.result c.load.ensures _ _ c.in-Pair.is _ _ (c.walk-known.ensures _ (car_task _ _ _ _ _ _ _ c.requires.1 c.load.result c.load.ensures _ _ c.in-Pair.is)) c.walk-known.auto.marks))

pub walk_parts-walk_elements-requires : goal.walk_parts-walk_elements-requires
walk_parts-walk_elements-requires t c = (omega arith, (_, elements_task _ _ _ _ _ _ _ c.requires.1 c.load.result c.load.ensures _ _ c.in-Vector.is))

pub walk_parts-returns-in-Pair : goal.walk_parts-returns-in-Pair
walk_parts-returns-in-Pair t c = λ j k. let x = car_task j _ _ _ _ _ _ k c.load.result c.load.ensures _ _ c.in-Pair.is in pair_done j _ _ _ _ _ _ k c.load.result c.load.ensures _ _ c.in-Pair.is _ _ (c.walk.ensures _ (cdr_task j _ _ _ _ _ _ k c.load.result c.load.ensures _ _ c.in-Pair.is _ _ (c.walk-known.ensures _ x) c.walk-known.auto.marks))

pub walk_parts-returns-in-Vector : goal.walk_parts-returns-in-Vector
walk_parts-returns-in-Vector t c = λ j k. vector_done j _ _ _ _ _ _ k c.load.result c.load.ensures _ _ c.in-Vector.is _ _ (c.walk_elements.ensures _ (elements_task j _ _ _ _ _ _ k c.load.result c.load.ensures _ _ c.in-Vector.is))

pub walk_parts-returns-in_default : goal.walk_parts-returns-in_default
walk_parts-returns-in_default t c = λ j k. parts_none j _ _ _ _ _ _ k c.load.result c.load.ensures (no_parts c.load.result c.in_default.not-Pair c.in_default.not-Vector)
