-- `sheet_parse::Progress::advance`: the datum begun goes on, or ends. Assumes nothing.
use native.Mathlib.Omega.{arith}
use Rattle.sheet_parse.proofs.StepLaws.{datum_ended, datum_goes_on}
use Rattle.sheet_parse.proofs.Progress.advance.Goals as goal

pub returns-then-wants-gt0 : goal.returns-then-wants-gt0
returns-then-wants-gt0 c = datum_goes_on c.args.self c.args.node.size c.args.node.follow c.args.next c.args.ends.now (λ e. omega arith)

pub returns : goal.returns
returns c = datum_ended c.args.self c.args.node.size c.args.node.follow c.args.next c.args.ends.now (omega arith)
