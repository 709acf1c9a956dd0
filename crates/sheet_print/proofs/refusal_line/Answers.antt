-- `sheet_print::refusal_line`: a line of one number. Assumes nothing.
use Rattle.laws.specs.Basics.{basics}
use Rattle.sheet_print.proofs.WordLaws.{refusal_is}
use Rattle.sheet_print.proofs.refusal_line.Goals as goal

pub returns : goal.returns
unfolding basics
returns c = refusal_is c.args.n c.number_line.ensures
