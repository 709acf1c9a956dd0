-- `sheet_lines::scoped`: no colon, or the scope before it and the text behind. Assumes nothing.
use Rattle.sheet_nodes.proofs.NodeLaws.{lined_bad, lined_same}
use Rattle.sheet_lines.proofs.FormLaws.{unscoped, colon_inside, scoped_is}
use Rattle.sheet_lines.proofs.scoped.Goals as goal

pub returns-in_err-p : goal.returns-in_err-p
returns-in_err-p c = rw c.from_residual.ensures (lined_bad (unscoped c.args.value.now c.in_err-p.ensures))

pub scoped_at-requires-clause-p_in_bounds : goal.scoped_at-requires-clause-p_in_bounds
scoped_at-requires-clause-p_in_bounds c = colon_inside c.args.value.now c.in_ok-p.p c.in_ok-p.ensures

pub returns : goal.returns
returns c = lined_same (scoped_is c.args.value.now c.in_ok-p.p c.in_ok-p.ensures) c.scoped_at.ensures
