-- `sheet_lines::node_line`: no form, or the form and its value. Assumes nothing.
use Rattle.sheet_nodes.proofs.NodeLaws.{lined_bad, lined_same}
use Rattle.sheet_lines.proofs.FormLaws.{no_line, the_line}
use Rattle.sheet_lines.proofs.node_line.Goals as goal

pub returns-in_err-form : goal.returns-in_err-form
returns-in_err-form c = rw c.from_residual.ensures (lined_bad (no_line c.args.line.now c.in_err-form.ensures))

pub returns : goal.returns
returns c = lined_same (the_line c.args.line.now c.in_ok-form.form c.in_ok-form.value c.in_ok-form.ensures) c.write.ensures
