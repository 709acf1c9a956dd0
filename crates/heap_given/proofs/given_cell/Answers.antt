-- `heap_given::given_cell`: a pair by its kind, or a scalar. Assumes nothing.
use mathlib.Core.Path.{ap, ◌∙◌}
use Rattle.std.proofs.lemmas.Result.{err_from_is_err_and}
use Rattle.rules.specs.Refusals.{accepted}
use Rattle.heap_given.proofs.GivenLaws.{cell_pair, cell_good, cell_bad}
use Rattle.heap_given.proofs.given_cell.Goals as goal

pub returns-then-kind-eq9 : goal.returns-then-kind-eq9
returns-then-kind-eq9 c = cell_pair c.args.kind c.args.a c.args.b c.if-kind-eq9.true

pub returns-in_err-given_scalar : goal.returns-in_err-given_scalar
returns-in_err-given_scalar c =
    let p = err_from_is_err_and c.from_residual.result c.from_residual.ensures.1 in
    rw (p.1, p.2) (cell_bad c.args.kind c.args.a c.args.b c.if-kind-eq9.false _ c.in_err-given_scalar.ensures)

pub returns : goal.returns
returns c = ap accepted c.cell_from.ensures ∙ cell_good c.args.kind c.args.a c.args.b c.if-kind-eq9.false c.in_ok-given_scalar.ensures
