-- `sheet_print::root_line`: a line of one number. Assumes nothing.
use Rattle.laws.specs.Basics.{basics}
use Rattle.sheet_print.proofs.WordLaws.{root_is}
use Rattle.sheet_print.proofs.root_line.Goals as goal

pub returns : goal.returns
unfolding basics
returns c = root_is c.args.slot c.number_line.ensures
