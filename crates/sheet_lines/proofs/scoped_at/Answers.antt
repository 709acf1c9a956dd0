-- `sheet_lines::scoped_at`: no number, or what follows the colon. Assumes nothing.
use Rattle.sheet_lines.proofs.FormLaws.{no_scope, a_scope}
use Rattle.sheet_lines.proofs.scoped_at.Goals as goal

pub returns-in_err-scope : goal.returns-in_err-scope
returns-in_err-scope c = rw c.from_residual.ensures (no_scope c.args.out.now c.args.value.now c.args.at c.args.p c.in_err-scope.ensures)

pub returns : goal.returns
returns c = a_scope c.args.out.now c.args.value.now c.args.at c.args.p c.in_ok-scope.scope c.in_ok-scope.ensures c.ident.ensures
