-- `heap_tally::within`: each case keeps its number or has none. Assumes nothing.
use Rattle.heap_tally.proofs.StepLaws.{as_within, all_within, as_name}
use Rattle.heap_tally.proofs.within.Goals as goal

pub returns-in-String : goal.returns-in-String
returns-in-String c = λ n s. as_within c.in-String.is n s

pub returns-in-Vector : goal.returns-in-Vector
returns-in-Vector c = λ n s. as_within c.in-Vector.is n s

pub returns-in_default : goal.returns-in_default
returns-in_default c =
    λ n s. all_within c.args.node n c.in_default.not-String c.in_default.not-Symbol c.in_default.not-Ident c.in_default.not-Vector s

pub returns-in-Symbol : goal.returns-in-Symbol
returns-in-Symbol c = λ n s. as_name c.args.node n c.in-Symbol.n c.in-Symbol.is s
