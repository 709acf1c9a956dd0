-- `sheet_keys::after`: what `strip_prefix` tells. Assumes nothing.
use Rattle.sheet_keys.proofs.KeyLaws.{keyed}
use Rattle.sheet_keys.proofs.after.Goals as goal

pub returns : goal.returns
returns c = keyed c.args.key.now c.args.line.now c.strip_prefix.result c.strip_prefix.ensures.cases
