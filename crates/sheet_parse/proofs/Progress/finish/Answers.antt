-- `sheet_parse::Progress::finish`: no datum is begun, or one that ends here. Assumes nothing.
use Rattle.sheet_parse.proofs.StepLaws.{none_begun, one_begun}
use Rattle.sheet_parse.proofs.Progress.finish.Goals as goal

pub returns-then-self : goal.returns-then-self
returns-then-self c = none_begun c.args.self c.args.ends.now c.if-self.true

pub returns : goal.returns
returns c = one_begun c.args.self c.args.ends.now c.if-self.false
