-- The cycle of `heap_build`: a slot, its cell, a pair, a vector, its elements and one of them. The nodes left fall from a pair or a
-- vector to what it holds, and from a definition to its cell. Assumes nothing.
use Rattle.heap_build.proofs.Cycle.{plain_task, plain_done, ref_done, def_none, def_falls, def_task, def_done, cell_row, cell_at_small, pair_task, pair_cell, vector_task, vector_cell, symbol_room, symbol_short, symbol_cell, string_room, string_short, string_cell, scalar_cell, cell_scalar, value_scalar, pair_none, head_falls, car_task, car_none, car_falls, cdr_task, pair_done, vector_none, vector_falls, items_task, vector_done, going_place, going_left, going_ends, element_task, going_none, going_on, element_here, element_at_small, element_slot, slot_element, scalar_element}
use Rattle.heap_build.proofs.KindLaws.{plain_cell}
use Rattle.leaf_cells.proofs.Variants.{other_value}
use mathlib.Core.Path.{◌∙◌}
use native.Mathlib.Omega.{arith}
use Rattle.heap_build.proofs.+building.Goals as goal

pub build-returns-in-0-default : goal.build-returns-in-0-default
build-returns-in-0-default t c = λ j k. plain_done j _ _ _ _ _ _ _ k c.in-0-default.is-0 _ _ _ (c.build_cell.ensures _ (plain_task j _ _ _ _ _ _ _ k c.in-0-default.is-0))

pub build-returns-in_default-eq2 : goal.build-returns-in_default-eq2
build-returns-in_default-eq2 t c = λ j k. ref_done j _ _ _ _ _ _ _ k c.in_default-eq2.is-0.1 c.in_default-eq2.is-1 _ _ c.field.ensures

pub build-returns-in_err-head-in_default : goal.build-returns-in_err-head-in_default
build-returns-in_err-head-in_default t c = λ j k. def_none j _ _ _ _ _ _ _ k c.in_default.is-0.1 c.in_default.is-1.1 _ _ c.field-in_default.ensures c.in_err-head-in_default.was _ c.from_residual.ensures

pub build-build_cell-requires-in_default : goal.build-build_cell-requires-in_default
build-build_cell-requires-in_default t c = (omega (arith, def_falls _ _ _ _ _ _ _ _ c.requires.1 c.in_default.is-0.1 c.in_default.is-1.1 _ _ c.field-in_default.ensures _ c.in_ok-head-in_default.was), (_, def_task _ _ _ _ _ _ _ _ c.requires.1 c.in_default.is-0.1 c.in_default.is-1.1 _ _ c.field-in_default.ensures _ c.in_ok-head-in_default.was))

pub build-returns-in_ok-head-in_default : goal.build-returns-in_ok-head-in_default
build-returns-in_ok-head-in_default t c = λ j k. def_done j _ _ _ _ _ _ _ k c.in_default.is-0.1 c.in_default.is-1.1 _ _ c.field-in_default.ensures _ c.in_ok-head-in_default.was _ _ _ (c.build_cell-in_default.ensures _ (def_task j _ _ _ _ _ _ _ k c.in_default.is-0.1 c.in_default.is-1.1 _ _ c.field-in_default.ensures _ c.in_ok-head-in_default.was))

pub build_cell-load-requires : goal.build_cell-load-requires
build_cell-load-requires t c = cell_row _ _ _ _ _ _ _ _ c.requires.1

pub build_cell-build_pair-requires : goal.build_cell-build_pair-requires
build_cell-build_pair-requires t c = (omega arith, (_, pair_task _ _ _ _ _ _ _ _ c.requires.1 c.load.result c.load.ensures _ _ c.in-Pair.is))

pub build_cell-build_vector-requires : goal.build_cell-build_vector-requires
build_cell-build_vector-requires t c = (omega arith, (_, vector_task _ _ _ _ _ _ _ _ c.requires.1 c.load.result c.load.ensures _ _ c.in-Vector.is))

pub build_cell-text-requires : goal.build_cell-text-requires
build_cell-text-requires t c = symbol_room _ _ _ _ _ _ _ _ c.requires.1 c.load.result c.load.ensures _ _ c.in-Symbol.is

pub build_cell-text-requires-in-Symbol : goal.build_cell-text-requires-in-Symbol
build_cell-text-requires-in-Symbol t c = (omega (arith, cell_at_small _ _ _ _ _ _ _ _ c.requires.1), omega (arith, symbol_short _ _ _ _ _ _ _ _ c.requires.1 c.load.result c.load.ensures _ _ c.in-Symbol.is _ c.text.ensures))

pub build_cell-text-requires-in-String : goal.build_cell-text-requires-in-String
build_cell-text-requires-in-String t c = string_room _ _ _ _ _ _ _ _ c.requires.1 c.load.result c.load.ensures _ _ c.in-String.is

pub build_cell-text-requires-in-String-2 : goal.build_cell-text-requires-in-String-2
build_cell-text-requires-in-String-2 t c = (omega (arith, cell_at_small _ _ _ _ _ _ _ _ c.requires.1), omega (arith, string_short _ _ _ _ _ _ _ _ c.requires.1 c.load.result c.load.ensures _ _ c.in-String.is _ c.text-in-String.ensures))

pub build_cell-scalar-requires : goal.build_cell-scalar-requires
build_cell-scalar-requires t c = let x = plain_cell c.load.result c.in_default.not-Pair c.in_default.not-Symbol c.in_default.not-String c.in_default.not-Vector in (omega (arith, cell_at_small _ _ _ _ _ _ _ _ c.requires.1), (x.scalar_is, cell_scalar _ c.load.result _ c.cell_words.ensures x.is))

pub build_cell-returns-in-Pair : goal.build_cell-returns-in-Pair
build_cell-returns-in-Pair t c = λ j k. pair_cell j _ _ _ _ _ _ _ k c.load.result c.load.ensures _ _ c.in-Pair.is _ _ _ (c.build_pair.ensures _ (pair_task j _ _ _ _ _ _ _ k c.load.result c.load.ensures _ _ c.in-Pair.is))

pub build_cell-returns-in-Vector : goal.build_cell-returns-in-Vector
build_cell-returns-in-Vector t c = λ j k. vector_cell j _ _ _ _ _ _ _ k c.load.result c.load.ensures _ _ c.in-Vector.is _ _ _ (c.build_vector.ensures _ (vector_task j _ _ _ _ _ _ _ k c.load.result c.load.ensures _ _ c.in-Vector.is))

pub build_cell-returns-in-Symbol : goal.build_cell-returns-in-Symbol
build_cell-returns-in-Symbol t c = λ j k. symbol_cell j _ _ _ _ _ _ _ k c.load.result c.load.ensures _ _ c.in-Symbol.is _ c.text.ensures _ _ c.text-in-Symbol.ensures

pub build_cell-returns-in-String : goal.build_cell-returns-in-String
build_cell-returns-in-String t c = λ j k. string_cell j _ _ _ _ _ _ _ k c.load.result c.load.ensures _ _ c.in-String.is _ c.text-in-String.ensures _ _ c.text-in-String-2.ensures

pub build_cell-returns-in_default : goal.build_cell-returns-in_default
build_cell-returns-in_default t c = λ j k. let x = plain_cell c.load.result c.in_default.not-Pair c.in_default.not-Symbol c.in_default.not-String c.in_default.not-Vector in scalar_cell j _ _ _ _ _ _ _ k c.load.result c.load.ensures x.scalar_is x.is _ _ (c.scalar.ensures x.scalar_is (cell_scalar _ c.load.result _ c.cell_words.ensures x.is))

pub build_element-load_element-requires : goal.build_element-load_element-requires
build_element-load_element-requires t c = element_here _ _ _ _ _ _ _ _ c.requires.1

pub build_element-build-requires : goal.build_element-build-requires
build_element-build-requires t c = (omega arith, (_, element_slot _ _ _ _ _ _ _ _ c.requires.1 c.load_element.result c.load_element.ensures _ c.in-Slot.is))

pub build_element-scalar-requires : goal.build_element-scalar-requires
build_element-scalar-requires t c = let x = other_value c.load_element.result c.in_default.not-Slot in (omega (arith, element_at_small _ _ _ _ _ _ _ _ c.requires.1), (x.plain, value_scalar _ c.load_element.result _ c.value_words.ensures x.is))

pub build_element-returns-in-Slot : goal.build_element-returns-in-Slot
build_element-returns-in-Slot t c = λ j k. slot_element j _ _ _ _ _ _ _ k c.load_element.result c.load_element.ensures _ c.in-Slot.is _ _ _ (c.build.ensures _ (element_slot j _ _ _ _ _ _ _ k c.load_element.result c.load_element.ensures _ c.in-Slot.is))

pub build_element-returns-in_default : goal.build_element-returns-in_default
build_element-returns-in_default t c = λ j k. let x = other_value c.load_element.result c.in_default.not-Slot in scalar_element j _ _ _ _ _ _ _ k c.load_element.result c.load_element.ensures x.plain x.is _ _ (c.scalar.ensures x.plain (value_scalar _ c.load_element.result _ c.value_words.ensures x.is))

pub build_elements-overflow_add-place : goal.build_elements-overflow_add-place
build_elements-overflow_add-place t c = omega (arith, going_place _ _ _ _ _ _ _ _ _ c.requires.1, (c.loop-i.invariant.going _ c.requires.1).passed)

pub build_elements-build_element-requires : goal.build_elements-build_element-requires
build_elements-build_element-requires t c = (omega (arith, going_left _ _ _ _ _ _ _ _ _ c.requires.1 _ _ _ _ (c.loop-i.invariant.going _ c.requires.1)), (_, element_task _ _ _ _ _ _ _ _ _ c.requires.1 _ _ _ _ (c.loop-i.invariant.going _ c.requires.1) c.loop-i-test.true))

pub build_elements-returns-in_err-q : goal.build_elements-returns-in_err-q
build_elements-returns-in_err-q t c = λ j k. going_none j _ _ _ _ _ _ _ _ k _ _ _ _ (c.loop-i.invariant.going j k) c.loop-i-test.true _ _ _ (c.build_element.ensures _ (element_task j _ _ _ _ _ _ _ _ k _ _ _ _ (c.loop-i.invariant.going j k) c.loop-i-test.true)) c.in_err-q.was _ c.from_residual.ensures

pub build_elements-loop-i-preserved : goal.build_elements-loop-i-preserved
build_elements-loop-i-preserved t c = record { marks_same = c.build_element.auto.marks ∙ c.loop-i.invariant.marks_same; out_same = c.build_element.auto.out ∙ c.loop-i.invariant.out_same; going = λ j k. going_on j _ _ _ _ _ _ _ _ k _ _ _ _ (c.loop-i.invariant.going j k) c.loop-i-test.true _ _ _ (c.build_element.ensures _ (element_task j _ _ _ _ _ _ _ _ k _ _ _ _ (c.loop-i.invariant.going j k) c.loop-i-test.true)) _ c.in_ok-q.was c.build_element.auto.marks }

pub build_elements-returns : goal.build_elements-returns
build_elements-returns t c = λ j k. going_ends j _ _ _ _ _ _ _ _ k _ _ _ _ (c.loop-i.invariant.going j k) c.loop-i-test.false

pub build_pair-returns-in_err-head : goal.build_pair-returns-in_err-head
build_pair-returns-in_err-head t c = λ j k. pair_none j _ _ _ _ _ _ _ _ k _ _ c.field.ensures c.in_err-head.was _ c.from_residual.ensures

pub build_pair-build-requires : goal.build_pair-build-requires
build_pair-build-requires t c = (omega (arith, head_falls _ _ _ _ _ _ _ _ _ c.requires.1 _ _ c.field.ensures _ c.in_ok-head.was), (_, car_task _ _ _ _ _ _ _ _ _ c.requires.1 _ _ c.field.ensures _ c.in_ok-head.was))

pub build_pair-returns-in_err-car : goal.build_pair-returns-in_err-car
build_pair-returns-in_err-car t c = λ j k. car_none j _ _ _ _ _ _ _ _ k _ _ c.field.ensures _ c.in_ok-head.was _ _ _ (c.build.ensures _ (car_task j _ _ _ _ _ _ _ _ k _ _ c.field.ensures _ c.in_ok-head.was)) c.in_err-car.was _ c.from_residual-in_err-car.ensures

pub build_pair-build-requires-2 : goal.build_pair-build-requires-2
build_pair-build-requires-2 t c = let o = c.build.ensures _ (car_task _ _ _ _ _ _ _ _ _ c.requires.1 _ _ c.field.ensures _ c.in_ok-head.was) in (omega (arith, car_falls _ _ _ _ _ _ _ _ _ c.requires.1 _ _ c.field.ensures _ c.in_ok-head.was _ _ _ o _ c.in_ok-car.was), (_, cdr_task _ _ _ _ _ _ _ _ _ c.requires.1 _ _ c.field.ensures _ c.in_ok-head.was _ _ _ o _ c.in_ok-car.was c.build.auto.marks))

pub build_pair-returns : goal.build_pair-returns
build_pair-returns t c = λ j k. let o = c.build.ensures _ (car_task j _ _ _ _ _ _ _ _ k _ _ c.field.ensures _ c.in_ok-head.was) in pair_done j _ _ _ _ _ _ _ _ k _ _ c.field.ensures _ c.in_ok-head.was _ _ _ o _ c.in_ok-car.was _ _ _ (c.build-2.ensures _ (cdr_task j _ _ _ _ _ _ _ _ k _ _ c.field.ensures _ c.in_ok-head.was _ _ _ o _ c.in_ok-car.was c.build.auto.marks))

pub build_vector-returns-in_err-head : goal.build_vector-returns-in_err-head
build_vector-returns-in_err-head t c = λ j k. vector_none j _ _ _ _ _ _ _ _ k _ _ c.field.ensures c.in_err-head.was _ c.from_residual.ensures

pub build_vector-build_elements-requires : goal.build_vector-build_elements-requires
build_vector-build_elements-requires t c = (omega (arith, vector_falls _ _ _ _ _ _ _ _ _ c.requires.1 _ _ c.field.ensures _ c.in_ok-head.was), (_, items_task _ _ _ _ _ _ _ _ _ c.requires.1 _ _ c.field.ensures _ c.in_ok-head.was))

pub build_vector-returns : goal.build_vector-returns
build_vector-returns t c = λ j k. vector_done j _ _ _ _ _ _ _ _ k _ _ c.field.ensures _ c.in_ok-head.was _ _ _ (c.build_elements.ensures _ (items_task j _ _ _ _ _ _ _ _ k _ _ c.field.ensures _ c.in_ok-head.was))
