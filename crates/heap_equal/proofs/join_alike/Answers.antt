-- `heap_equal::join_alike`: the first part of the scratch is lent. Assumes nothing.
use Rattle.heap_equal.proofs.Pushing.{part_size, alike_ask, alike_joined}
use Rattle.heap_equal.proofs.join_alike.Goals as goal

pub slice_bounds-join-end-2 : goal.slice_bounds-join-end-2
slice_bounds-join-end-2 c = part_size c.args.c c.args.scratch.now c.args.s c.args.t c.requires

pub join-requires : goal.join-requires
join-requires c = let v = alike_ask c.args.c c.args.scratch.now c.args.s c.args.t c.requires in record { rises = v.0; s_in_bounds = v.1 }

pub returns : goal.returns
returns c = alike_joined c.args.c c.args.scratch.now c.args.s c.args.t c.requires c.join.new.links c.join.result c.join.ensures
