-- `sheet_parse::parse`: bad first lines; bad lines of the data; or the sheet. Assumes nothing.
use Rattle.sheet_parse.proofs.SheetLaws.{parsed_bad, front_bad, nodes_bad, nodes_good}
use Rattle.sheet_parse.proofs.parse.Goals as goal

pub returns-in_default : goal.returns-in_default
returns-in_default c = parsed_bad (front_bad c.args.text.now c.args.out.now c.args.ends.now c.in_default.ensures) c.clear_bytes.ensures c.clear_words.ensures

pub returns-in_err-nodes : goal.returns-in_err-nodes
returns-in_err-nodes c = rw c.from_residual.ensures (nodes_bad c.args.text.now c.args.out.now c.args.ends.now c.in-Some.front c.in-Some.ensures _ _ c.in_err-nodes.ensures)

pub returns : goal.returns
returns c = nodes_good c.args.text.now c.args.out.now c.args.ends.now c.in-Some.front c.in-Some.ensures _ _ c.in_ok-nodes.nodes c.in_ok-nodes.ensures
