-- `sheet_parse::read_line`: the last line, in its place or not; or a node line. Assumes nothing.
use mathlib.Core.Path.{sym, ◌∙◌}
use Rattle.sheet_parse.proofs.ReadLaws.{the_end, end_early, bad_line, good_line}
use Rattle.sheet_parse.proofs.read_line.Goals as goal

pub returns-then-ended : goal.returns-then-ended
returns-then-ended c = the_end c.args.out.now c.args.used c.args.line.now c.args.next c.args.ended (sym c.if-is_end.true ∙ c.is_end.ensures) c.if-ended.true

pub returns-else-ended : goal.returns-else-ended
returns-else-ended c = end_early c.args.out.now c.args.used c.args.line.now c.args.next c.args.ended (sym c.if-is_end.true ∙ c.is_end.ensures) c.if-ended.false

pub returns-in_err-node : goal.returns-in_err-node
returns-in_err-node c = rw c.from_residual.ensures (bad_line c.args.out.now c.args.used c.args.line.now c.args.next c.args.ended (sym c.if-is_end.false ∙ c.is_end.ensures) _ c.in_err-node.ensures)

pub returns : goal.returns
returns c = good_line c.args.out.now c.args.used c.args.line.now c.args.next c.args.ended (sym c.if-is_end.false ∙ c.is_end.ensures) _ c.in_ok-node.node c.in_ok-node.ensures
