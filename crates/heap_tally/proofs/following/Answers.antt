-- `heap_tally::following`: each case has its number of data. Assumes nothing.
use Rattle.heap_tally.proofs.StepLaws.{as_follow, none_follow}
use Rattle.heap_tally.proofs.following.Goals as goal

pub returns-in-Pair : goal.returns-in-Pair
returns-in-Pair c = λ n s. as_follow c.in-Pair.is n s

pub returns-in-Vector : goal.returns-in-Vector
returns-in-Vector c = λ n s. as_follow c.in-Vector.is n s

pub returns-in-Def : goal.returns-in-Def
returns-in-Def c = λ n s. as_follow c.in-Def.is n s

pub returns-in_default : goal.returns-in_default
returns-in_default c = λ n s. none_follow c.args.node n (c.in_default.not-Pair) c.in_default.not-Vector c.in_default.not-Def s
