-- `heap_put_whole::put_checked`: what the needs and their tests tell, and the put. Assumes nothing.
use Rattle.std.proofs.Common.{arith}
use Rattle.leaf_lists.specs.Lists.{lent_of, held}
use Rattle.heap_put_whole.proofs.WholeLaws.{needs_open, short_open, there, told, task, slot_left, lack_left}
use Rattle.heap_put_whole.proofs.put_checked.Goals as goal

pub needs-needed-requires : goal.needs-needed-requires
needs-needed-requires c =
    let l = held c.args.heap.now in
    let r = c.requires in
    record {
      lent = needs_open l c.args.scratch.now r.ready (lent_of c.lists-lent.result) c.lists-lent.ensures;
      datum_there = there l c.args.scratch.now r.ready c.args.datum.now r.accepted;
    }

pub short-requires : goal.short-requires
short-requires c =
    short_open (held c.args.heap.now) c.args.scratch.now c.requires.ready (lent_of c.lists-lent.result) c.lists-lent.ensures

pub put_in_slot-p-requires : goal.put_in_slot-p-requires
put_in_slot-p-requires c =
    let l = held c.args.heap.now in
    let r = c.requires in
    let t = told l c.args.scratch.now r.ready c.args.datum.now r.accepted _ c.lists-lent.ensures c.needs-needed.result c.short.result c.needs-needed.ensures c.short.ensures in
    (_, _, _, _, _, task l c.args.scratch.now r.ready c.args.datum.now r.accepted c.short.result c.in_ok-short.was t)

pub returns-clause-outcome : goal.returns-clause-outcome
returns-clause-outcome c =
    let l = held c.args.heap.now in
    let r = c.requires in
    let t = told l c.args.scratch.now r.ready c.args.datum.now r.accepted _ c.lists-lent.ensures c.needs-needed.result c.short.result c.needs-needed.ensures c.short.ensures in
    slot_left l c.args.scratch.now r.ready c.args.datum.now r.accepted c.short.result c.in_ok-short.was t _ _ _ _ _ _ _ _
    (c.put_in_slot-p.ensures.done _ _ _ _ _ (task l c.args.scratch.now r.ready c.args.datum.now r.accepted c.short.result c.in_ok-short.was t))

pub returns-in_err-short-clause-outcome : goal.returns-in_err-short-clause-outcome
returns-in_err-short-clause-outcome c =
    let l = held c.args.heap.now in
    let r = c.requires in
    let t = told l c.args.scratch.now r.ready c.args.datum.now r.accepted _ c.lists-lent.ensures c.needs-needed.result c.short.result c.needs-needed.ensures c.short.ensures in
    lack_left l c.args.scratch.now r.ready c.args.datum.now r.accepted c.short.result c.in_err-short.field-0.0 c.in_err-short.was t (grind arith)
