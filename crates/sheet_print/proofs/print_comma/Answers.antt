-- `sheet_print::print_comma`: no comma before the first. Assumes nothing.
use Rattle.sheet_print.proofs.ListLaws.{no_comma, a_comma}
use Rattle.sheet_print.proofs.print_comma.Goals as goal

pub returns-then-i-eq0 : goal.returns-then-i-eq0
returns-then-i-eq0 c = no_comma c.args.out.now c.args.at c.args.i c.if-i-eq0.true

pub returns : goal.returns
returns c = a_comma c.args.out.now c.args.at c.args.i c.if-i-eq0.false
