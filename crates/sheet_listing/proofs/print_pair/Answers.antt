-- `sheet_listing::print_pair`: the first slot behind its key, the second behind a comma. Assumes nothing.
use Rattle.laws.specs.Basics.{basics}
use Rattle.sheet_values.proofs.CellLaws.{pair_printed}
use Rattle.sheet_listing.proofs.print_pair.Goals as goal

pub returns : goal.returns
unfolding basics
returns c = pair_printed c.args.car c.args.cdr c.print_keyed-end.ensures c.print_keyed.ensures
