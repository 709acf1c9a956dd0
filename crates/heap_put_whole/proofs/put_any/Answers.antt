-- `heap_put_whole::put_any`: what the check refuses is what the call refuses. Assumes nothing.
use Rattle.std.proofs.Common.{arith}
use Rattle.leaf_lists.specs.Lists.{held}
use Rattle.heap_put_whole.proofs.WholeLaws.{passed, refused_left}
use Rattle.heap_put_whole.proofs.put_any.Goals as goal

pub put_checked-requires : goal.put_checked-requires
put_checked-requires c =
    let l = held c.args.heap.now in
    record { ready = c.requires; accepted = passed l c.args.scratch.now c.args.datum.now c.check.result c.check.ensures c.type_inv.datum c.in_ok-check.was }

pub returns-in_err-check-clause-outcome : goal.returns-in_err-check-clause-outcome
returns-in_err-check-clause-outcome c =
    let l = held c.args.heap.now in
    refused_left l c.args.scratch.now c.args.datum.now c.check.result c.check.ensures c.in_err-check.field-0.0 c.in_err-check.was (grind arith)
