-- `sheet_listing::print_hexed`: the key, then the hex. Assumes nothing.
use Rattle.sheet_print.proofs.PrintLaws.{behind}
use Rattle.sheet_listing.proofs.print_hexed.Goals as goal

pub returns : goal.returns
returns c = behind c.args.out.now c.args.at c.print_text-end.ensures c.print_hex.ensures
