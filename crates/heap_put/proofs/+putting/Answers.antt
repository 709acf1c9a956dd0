-- The cycle of `heap_put`: datum, pair, vector and label, with what is left of the datum falling. Assumes nothing.
use Prim.Native.Nat.{◌+◌, ◌<◌}
use mathlib.Core.Path.{sym, ap, ◌∙◌}
use native.Mathlib.Omega.{arith}
use lib.ListN.{length}
use native.Mathlib.Nat.{lt_of_le_of_lt}
use mir.Val.{Fits}
use mir.Syntax.{w64}
use Rattle.heap_atoms.specs.Makings.{shown_shape}
use Rattle.heap_put.proofs.Cycle.{task_as, done_as, seen_atom, seen_pair, seen_vector, seen_label, leaf_task, leaf_done, slot_inner, slot_open, slot_done, pair_some, car_task, cdr_place, cdr_task, pair_open, pair_sizes, pair_done, vector_header, vector_room, vector_some, all_task, vector_open, vector_sizes, vector_done, element_row, element_done, element_task, size_room, going_on, going_ends, label_alloc, label_some, label_room, label_task, label_copy, label_sizes, label_done, tail_length, task_part, slot_part, element_part, all_part, all_places}
use Rattle.heap_put.proofs.+putting.Goals as goal

pub put_datum-put_atom-requires : goal.put_datum-put_atom-requires
put_datum-put_atom-requires t c = let x = seen_atom c.requires.3 c.requires.4 _ c.requires.5.datum_is c.requires.5.fits (sym (ap shown_shape c.in-Atom.is) ∙ c.shape_of.ensures) in (_, _, _, x.leaf, _, leaf_task (task_as x.is_leaf c.requires.5))

pub put_datum-put_pair-requires : goal.put_datum-put_pair-requires
put_datum-put_pair-requires t c = let x = seen_pair c.requires.3 c.requires.4 _ c.requires.5.datum_is c.requires.5.fits (sym (ap shown_shape c.in-Pair.is) ∙ c.shape_of.ensures) in (omega arith, (_, _, _, x.car, x.cdr, _, task_as x.is c.requires.5))

pub put_datum-put_vector-requires : goal.put_datum-put_vector-requires
put_datum-put_vector-requires t c = let x = seen_vector c.requires.3 c.requires.4 _ c.requires.5.datum_is c.requires.5.fits _ (sym (ap shown_shape c.in-Vector.is) ∙ c.shape_of.ensures) in (omega arith, (_, _, _, x.items, _, x.many, task_as x.is c.requires.5))

pub put_datum-put_label-requires : goal.put_datum-put_label-requires
put_datum-put_label-requires t c = let x = seen_label c.requires.3 c.requires.4 _ c.requires.5.datum_is c.requires.5.fits _ (sym (ap shown_shape c.in-Label.is) ∙ c.shape_of.ensures) in (omega arith, (_, _, _, x.inner, _, task_as x.is c.requires.5))

pub put_datum-returns-in-Atom-clause-done : goal.put_datum-returns-in-Atom-clause-done
put_datum-returns-in-Atom-clause-done t c = λ r f m t₁ rest k. let x = seen_atom t₁ rest _ k.datum_is k.fits (sym (ap shown_shape c.in-Atom.is) ∙ c.shape_of.ensures) in let j = task_as x.is_leaf k in done_as x.is_leaf (leaf_done j (c.put_atom.ensures r f m x.leaf rest (leaf_task j)))

pub put_datum-returns-in-Pair-clause-done : goal.put_datum-returns-in-Pair-clause-done
put_datum-returns-in-Pair-clause-done t c = λ r f m t₁ rest k. let x = seen_pair t₁ rest _ k.datum_is k.fits (sym (ap shown_shape c.in-Pair.is) ∙ c.shape_of.ensures) in done_as x.is (c.put_pair.ensures.done r f m x.car x.cdr rest (task_as x.is k))

pub put_datum-returns-in-Vector-clause-done : goal.put_datum-returns-in-Vector-clause-done
put_datum-returns-in-Vector-clause-done t c = λ r f m t₁ rest k. let x = seen_vector t₁ rest _ k.datum_is k.fits _ (sym (ap shown_shape c.in-Vector.is) ∙ c.shape_of.ensures) in done_as x.is (c.put_vector.ensures.done r f m x.items rest x.many (task_as x.is k))

pub put_datum-returns-in-Label-clause-done : goal.put_datum-returns-in-Label-clause-done
put_datum-returns-in-Label-clause-done t c = λ r f m t₁ rest k. let x = seen_label t₁ rest _ k.datum_is k.fits _ (sym (ap shown_shape c.in-Label.is) ∙ c.shape_of.ensures) in done_as x.is (c.put_label.ensures.done r f m x.inner rest (task_as x.is k))

pub put_element-store_element-requires : goal.put_element-store_element-requires
put_element-store_element-requires t c = element_row c.requires.5 (c.put_datum-p.ensures.done _ _ _ _ _ c.requires.5.task)

pub put_element-returns-clause-done : goal.put_element-returns-clause-done
put_element-returns-clause-done t c = λ r f m t₁ rest k. element_done k (c.put_datum-p.ensures.done _ _ _ _ _ k.task) c.store_element.ensures

pub put_elements-slice_bounds-put_element-count : goal.put_elements-slice_bounds-put_element-count
put_elements-slice_bounds-put_element-count t c = (c.loop-i.invariant.going _ _ _ _ _ c.requires.5).inside

pub put_elements-slice_bounds-put_element-start : goal.put_elements-slice_bounds-put_element-start
put_elements-slice_bounds-put_element-start t c = (c.loop-i.invariant.going _ _ _ _ _ c.requires.5).inside

pub put_elements-overflow_add-place : goal.put_elements-overflow_add-place
put_elements-overflow_add-place t c = let h : Fits w64 (c.args.place + c.loop-i.i) = omega (arith, all_places c.requires.5) in h

pub put_elements-put_element-p-requires : goal.put_elements-put_element-p-requires
put_elements-put_element-p-requires t c = (omega (arith, tail_length c.args.datum.now c.loop-i.at), (_, _, _, _, _, element_part c.args.datum.now c.loop-i.at (element_task c.requires.5 (c.loop-i.invariant.going _ _ _ _ _ c.requires.5) c.loop-i-test.true)))

pub put_elements-overflow_add-at : goal.put_elements-overflow_add-at
put_elements-overflow_add-at t c =
    let going = c.loop-i.invariant.going _ _ _ _ _ c.requires.5 in
    let here = element_task c.requires.5 going c.loop-i-test.true in
    let h : Fits w64 (c.loop-i.at + c.put_element-p.result.size) = omega (arith, size_room c.requires.5 going c.loop-i-test.true (c.put_element-p.ensures.done _ _ _ _ _ (element_part c.args.datum.now c.loop-i.at here))) in h

pub put_elements-loop-i-preserved : goal.put_elements-loop-i-preserved
put_elements-loop-i-preserved t c =
    record {
      same = grind arith;
      labels_same = c.put_element-p.auto.labels ∙ c.loop-i.invariant.labels_same;
      going = λ r f m ds rest k.
          let going = c.loop-i.invariant.going r f m ds rest k in
          let here = element_task k going c.loop-i-test.true in
          going_on k going c.loop-i-test.true (c.put_element-p.ensures.done _ _ _ _ _ (element_part c.args.datum.now c.loop-i.at here));
    }

pub put_elements-returns-clause-done : goal.put_elements-returns-clause-done
put_elements-returns-clause-done t c = λ r f m ds rest k. going_ends k (c.loop-i.invariant.going r f m ds rest k) (omega arith)

pub put_in_slot-put_datum-p-requires : goal.put_in_slot-put_datum-p-requires
put_in_slot-put_datum-p-requires t c = (omega arith, (_, _, _, _, _, slot_inner c.requires.5))

pub put_in_slot-in_slot-requires : goal.put_in_slot-in_slot-requires
put_in_slot-in_slot-requires t c = (_, _, slot_open c.requires.5 (c.put_datum-p.ensures.done _ _ _ _ _ (slot_inner c.requires.5)))

pub put_in_slot-returns-clause-done : goal.put_in_slot-returns-clause-done
put_in_slot-returns-clause-done t c = λ r f m t₁ rest k.
    let inner = c.put_datum-p.ensures.done _ _ _ _ _ (slot_inner k) in
    slot_done k inner (c.in_slot.ensures _ _ (slot_open k inner))

pub put_label-alloc-slot-requires : goal.put_label-alloc-slot-requires
put_label-alloc-slot-requires t c = label_alloc c.requires.5

pub put_label-define-known-requires : goal.put_label-define-known-requires
put_label-define-known-requires t c = label_room c.requires.5

pub put_label-slice_bounds-put_datum-count : goal.put_label-slice_bounds-put_datum-count
put_label-slice_bounds-put_datum-count t c = label_some c.requires.5

pub put_label-slice_bounds-put_datum-start : goal.put_label-slice_bounds-put_datum-start
put_label-slice_bounds-put_datum-start t c = label_some c.requires.5

pub put_label-put_datum-p-requires : goal.put_label-put_datum-p-requires
put_label-put_datum-p-requires t c = (omega (arith, label_some c.requires.5, tail_length c.args.datum.now 5), (_, _, _, _, _, task_part c.args.datum.now 5 (label_task c.requires.5 c.alloc-slot.ensures c.define-known.ensures)))

pub put_label-copy_cell-requires : goal.put_label-copy_cell-requires
put_label-copy_cell-requires t c = (_, _, label_copy c.requires.5 c.alloc-slot.ensures c.define-known.ensures (c.put_datum-p.ensures.done _ _ _ _ _ (task_part c.args.datum.now 5 (label_task c.requires.5 c.alloc-slot.ensures c.define-known.ensures))))

pub put_label-overflow_add-result : goal.put_label-overflow_add-result
put_label-overflow_add-result t c = let h : Fits w64 (5 + c.put_datum-p.result.size) = omega (arith, label_sizes c.requires.5 c.alloc-slot.ensures c.define-known.ensures (c.put_datum-p.ensures.done _ _ _ _ _ (task_part c.args.datum.now 5 (label_task c.requires.5 c.alloc-slot.ensures c.define-known.ensures)))) in h

pub put_label-returns-clause-done : goal.put_label-returns-clause-done
put_label-returns-clause-done t c = λ r f m d rest k.
    let inner = c.put_datum-p.ensures.done _ _ _ _ _ (task_part c.args.datum.now 5 (label_task k c.alloc-slot.ensures c.define-known.ensures)) in
    label_done k c.alloc-slot.ensures c.define-known.ensures inner (c.copy_cell.ensures _ _ (label_copy k c.alloc-slot.ensures c.define-known.ensures inner))

pub put_pair-slice_bounds-put_in_slot-count : goal.put_pair-slice_bounds-put_in_slot-count
put_pair-slice_bounds-put_in_slot-count t c = pair_some c.requires.6

pub put_pair-slice_bounds-put_in_slot-start : goal.put_pair-slice_bounds-put_in_slot-start
put_pair-slice_bounds-put_in_slot-start t c = pair_some c.requires.6

pub put_pair-put_in_slot-car-requires : goal.put_pair-put_in_slot-car-requires
put_pair-put_in_slot-car-requires t c = (omega (arith, pair_some c.requires.6, tail_length c.args.datum.now 1), (_, _, _, _, _, slot_part c.args.datum.now 1 (car_task c.requires.6)))

pub put_pair-overflow_add-next : goal.put_pair-overflow_add-next
put_pair-overflow_add-next t c = let h : Fits w64 (1 + c.put_in_slot-car.result.size) = omega (arith, cdr_place c.requires.6 (c.put_in_slot-car.ensures.done _ _ _ _ _ (slot_part c.args.datum.now 1 (car_task c.requires.6)))) in h

pub put_pair-slice_bounds-put_in_slot-count-2 : goal.put_pair-slice_bounds-put_in_slot-count-2
put_pair-slice_bounds-put_in_slot-count-2 t c = cdr_place c.requires.6 (c.put_in_slot-car.ensures.done _ _ _ _ _ (slot_part c.args.datum.now 1 (car_task c.requires.6)))

pub put_pair-slice_bounds-put_in_slot-start-2 : goal.put_pair-slice_bounds-put_in_slot-start-2
put_pair-slice_bounds-put_in_slot-start-2 t c = cdr_place c.requires.6 (c.put_in_slot-car.ensures.done _ _ _ _ _ (slot_part c.args.datum.now 1 (car_task c.requires.6)))

pub put_pair-put_in_slot-cdr-requires : goal.put_pair-put_in_slot-cdr-requires
put_pair-put_in_slot-cdr-requires t c =
    let car = c.put_in_slot-car.ensures.done _ _ _ _ _ (slot_part c.args.datum.now 1 (car_task c.requires.6)) in
    (omega (arith, pair_some c.requires.6, cdr_place c.requires.6 car, tail_length c.args.datum.now (1 + c.put_in_slot-car.result.size)), (_, _, _, _, _, slot_part c.args.datum.now (1 + c.put_in_slot-car.result.size) (cdr_task c.requires.6 car)))

pub put_pair-new_cell-s-requires : goal.put_pair-new_cell-s-requires
put_pair-new_cell-s-requires t c =
    let car = c.put_in_slot-car.ensures.done _ _ _ _ _ (slot_part c.args.datum.now 1 (car_task c.requires.6)) in
    let cdr = c.put_in_slot-cdr.ensures.done _ _ _ _ _ (slot_part c.args.datum.now (1 + c.put_in_slot-car.result.size) (cdr_task c.requires.6 car)) in
    (_, _, pair_open c.requires.6 car cdr)

pub put_pair-overflow_add-result : goal.put_pair-overflow_add-result
put_pair-overflow_add-result t c =
    let car = c.put_in_slot-car.ensures.done _ _ _ _ _ (slot_part c.args.datum.now 1 (car_task c.requires.6)) in
    let cdr = c.put_in_slot-cdr.ensures.done _ _ _ _ _ (slot_part c.args.datum.now (1 + c.put_in_slot-car.result.size) (cdr_task c.requires.6 car)) in
    let h : Fits w64 (1 + c.put_in_slot-car.result.size + c.put_in_slot-cdr.result.size) = omega (arith, pair_sizes c.requires.6 car cdr) in h

pub put_pair-returns-clause-done : goal.put_pair-returns-clause-done
put_pair-returns-clause-done t c = λ r f m a d rest k.
    let car = c.put_in_slot-car.ensures.done _ _ _ _ _ (slot_part c.args.datum.now 1 (car_task k)) in
    let cdr = c.put_in_slot-cdr.ensures.done _ _ _ _ _ (slot_part c.args.datum.now (1 + c.put_in_slot-car.result.size) (cdr_task k car)) in
    pair_done k car cdr (c.new_cell-s.ensures _ _ (pair_open k car cdr))

pub put_vector-reserve_elements-place-requires : goal.put_vector-reserve_elements-place-requires
put_vector-reserve_elements-place-requires t c =
    let b : length c.args.heap.now.elems.now < 18446744073709551616 = omega arith in
    record {
      in_bounds = vector_header c.requires.5 c.requires.6;
      n_bound = lt_of_le_of_lt (vector_room c.requires.5 c.requires.6) b;
    }

pub put_vector-slice_bounds-put_elements-count : goal.put_vector-slice_bounds-put_elements-count
put_vector-slice_bounds-put_elements-count t c = vector_some c.requires.5 c.requires.6

pub put_vector-slice_bounds-put_elements-start : goal.put_vector-slice_bounds-put_elements-start
put_vector-slice_bounds-put_elements-start t c = vector_some c.requires.5 c.requires.6

pub put_vector-put_elements-done-requires : goal.put_vector-put_elements-done-requires
put_vector-put_elements-done-requires t c = (omega (arith, vector_some c.requires.5 c.requires.6, tail_length c.args.datum.now 5), (_, _, _, _, _, all_part c.args.datum.now 5 (all_task c.requires.5 c.requires.6 c.reserve_elements-place.ensures)))

pub put_vector-new_cell-s-requires : goal.put_vector-new_cell-s-requires
put_vector-new_cell-s-requires t c = (_, _, vector_open c.requires.5 c.requires.6 c.reserve_elements-place.ensures (c.put_elements-done.ensures.done _ _ _ _ _ (all_part c.args.datum.now 5 (all_task c.requires.5 c.requires.6 c.reserve_elements-place.ensures))))

pub put_vector-overflow_add-result : goal.put_vector-overflow_add-result
put_vector-overflow_add-result t c = let h : Fits w64 (5 + c.put_elements-done.result.size) = omega (arith, vector_sizes c.requires.5 c.requires.6 c.reserve_elements-place.ensures (c.put_elements-done.ensures.done _ _ _ _ _ (all_part c.args.datum.now 5 (all_task c.requires.5 c.requires.6 c.reserve_elements-place.ensures)))) in h

pub put_vector-returns-clause-done : goal.put_vector-returns-clause-done
put_vector-returns-clause-done t c = λ r f m ds rest e k.
    let elements = c.put_elements-done.ensures.done _ _ _ _ _ (all_part c.args.datum.now 5 (all_task e k c.reserve_elements-place.ensures)) in
    vector_done e k c.reserve_elements-place.ensures elements (c.new_cell-s.ensures _ _ (vector_open e k c.reserve_elements-place.ensures elements))
