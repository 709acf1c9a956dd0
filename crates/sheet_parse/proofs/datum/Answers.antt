-- `sheet_parse::datum`: the part from where the datum begins to where it ends. Assumes nothing.
use Rattle.sheet_parse.proofs.DatumLaws.{part_is}
use Rattle.sheet_parse.proofs.datum.Goals as goal

pub returns : goal.returns
returns c = part_is c.args.out.now c.args.ends.now c.args.i c.start_of-start.result c.start_of-start.ensures
