-- `sheet_print::number_line`: the key and the number, then the line end. Assumes nothing.
use Rattle.sheet_print.proofs.PrintLaws.{line_ended}
use Rattle.sheet_print.proofs.number_line.Goals as goal

pub returns : goal.returns
returns c = line_ended c.args.out.now c.args.key.now c.args.n c.requires.key_len_bound c.print_keyed-end.ensures
