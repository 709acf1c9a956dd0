-- `heap_equal::join_walks`: the second part of the scratch is lent. Assumes nothing.
use Rattle.heap_equal.proofs.Pushing.{walks_ask, walks_joined}
use Rattle.heap_equal.proofs.join_walks.Goals as goal

pub join-requires : goal.join-requires
join-requires c = let v = walks_ask c.args.c c.args.scratch.now c.args.s c.args.t c.requires in record { rises = v.0; s_in_bounds = v.1 }

pub returns : goal.returns
returns c = walks_joined c.args.c c.args.scratch.now c.args.s c.args.t c.requires c.join.new.links c.join.result c.join.ensures
