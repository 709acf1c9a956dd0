-- `text_decimals::unsigned32`: a natural number of 32 bits. Assumes nothing.
use Rattle.rules.specs.Text.{text_rules}
use Rattle.text_decimals.proofs.unsigned32.Goals as goal

pub returns : goal.returns
unfolding text_rules
returns c = rw c.from.ensures at c.natural.ensures
