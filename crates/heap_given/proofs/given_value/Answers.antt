-- `heap_given::given_value`: a slot by its kind, or a scalar. Assumes nothing.
use mathlib.Core.Path.{ap, ◌∙◌}
use Rattle.std.proofs.lemmas.Result.{err_from_is_err_and}
use Rattle.rules.specs.Refusals.{accepted}
use Rattle.heap_given.proofs.GivenLaws.{value_slot, value_good, value_bad}
use Rattle.heap_given.proofs.given_value.Goals as goal

pub returns-then-kind-eq15 : goal.returns-then-kind-eq15
returns-then-kind-eq15 c = value_slot c.args.kind c.args.a c.if-kind-eq15.true

pub returns-in_err-given_scalar : goal.returns-in_err-given_scalar
returns-in_err-given_scalar c =
    let p = err_from_is_err_and c.from_residual.result c.from_residual.ensures.1 in
    rw (p.1, p.2) (value_bad c.args.kind c.args.a c.if-kind-eq15.false _ c.in_err-given_scalar.ensures)

pub returns : goal.returns
returns c = ap accepted c.value_from.ensures ∙ value_good c.args.kind c.args.a c.if-kind-eq15.false c.in_ok-given_scalar.ensures
