-- `sheet_answer::answer_in`: what is listed is the part of the room that the heap takes. Assumes nothing.
use native.Mathlib.Omega.{arith}
use Rattle.sheet_answer.proofs.LineLaws.{part_long, left_by}
use Rattle.sheet_answer.proofs.answer_in.Goals as goal

pub overflow_mul-rows : goal.overflow_mul-rows
overflow_mul-rows g c = omega (arith, (left_by c.args.text.now _ _ _ _ _ c.in-Ok.listed c.in-Ok.ensures).few)

pub overflow_add-rows : goal.overflow_add-rows
overflow_add-rows g c = omega (arith, (left_by c.args.text.now _ _ _ _ _ c.in-Ok.listed c.in-Ok.ensures).few)

pub overflow_add-states : goal.overflow_add-states
overflow_add-states g c = omega (arith, (left_by c.args.text.now _ _ _ _ _ c.in-Ok.listed c.in-Ok.ensures).few)

pub slice_bounds-lists-end : goal.slice_bounds-lists-end
slice_bounds-lists-end g c = omega (arith, (left_by c.args.text.now _ _ _ _ _ c.in-Ok.listed c.in-Ok.ensures).few, c.requires.rooms_lent.rows, c.run.auto.words)

pub slice_bounds-lists-end-in-Ok : goal.slice_bounds-lists-end-in-Ok
slice_bounds-lists-end-in-Ok g c = part_long _ _ (omega (arith, (left_by c.args.text.now _ _ _ _ _ c.in-Ok.listed c.in-Ok.ensures).few, c.requires.rooms_lent.rows, c.run.auto.words))

pub slice_bounds-lists-end-in-Ok-2 : goal.slice_bounds-lists-end-in-Ok-2
slice_bounds-lists-end-in-Ok-2 g c = omega (arith, (left_by c.args.text.now _ _ _ _ _ c.in-Ok.listed c.in-Ok.ensures).few, c.requires.rooms_lent.states, c.run.auto.map)

pub slice_bounds-lists-end-in-Ok-3 : goal.slice_bounds-lists-end-in-Ok-3
slice_bounds-lists-end-in-Ok-3 g c = part_long _ _ (omega (arith, (left_by c.args.text.now _ _ _ _ _ c.in-Ok.listed c.in-Ok.ensures).few, c.requires.rooms_lent.states, c.run.auto.map))

pub slice_bounds-say_listing-end : goal.slice_bounds-say_listing-end
slice_bounds-say_listing-end g c = (left_by c.args.text.now _ _ _ _ _ c.in-Ok.listed c.in-Ok.ensures).room

pub slice_bounds-say_listing-end-in-Ok : goal.slice_bounds-say_listing-end-in-Ok
slice_bounds-say_listing-end-in-Ok g c = part_long _ _ (left_by c.args.text.now _ _ _ _ _ c.in-Ok.listed c.in-Ok.ensures).room

pub invariant_of-say_listing : goal.invariant_of-say_listing
invariant_of-say_listing g c = record { sound = (left_by c.args.text.now _ _ _ _ _ c.in-Ok.listed c.in-Ok.ensures).whole }
