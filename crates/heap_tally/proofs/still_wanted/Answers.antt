-- `heap_tally::still_wanted`: the sum, or one more than the bytes left. Assumes nothing.
use Rattle.std.proofs.Common.{◌+◌, arith}
use Rattle.heap_tally.proofs.StepLaws.{capped_is}
use Rattle.heap_tally.proofs.still_wanted.Goals as goal

pub returns : goal.returns
returns c = omega (arith, capped_is c.args.left (c.args.more + c.args.others))
