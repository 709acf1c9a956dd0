-- `sheet_parse::read_at`: no line; or the line up to its end. Assumes nothing.
use mathlib.Core.Path.{sym}
use Rattle.sheet_parse.proofs.StepLaws.{line_size}
use native.Mathlib.Omega.{arith}
use Rattle.sheet_parse.proofs.ReadLaws.{between, read_same, told_some, none_at}
use Rattle.sheet_parse.proofs.read_at.Goals as goal

pub returns-in_err-end : goal.returns-in_err-end
returns-in_err-end c = rw c.from_residual.ensures (none_at c.args.text.now c.args.at c.in_err-end.ensures)

pub overflow_add-next : goal.overflow_add-next
overflow_add-next c = omega (arith, (between c.args.text.now c.args.at c.in_ok-end.end (sym c.in_ok-end.ensures)).inside)

pub slice_bounds-read_line-count : goal.slice_bounds-read_line-count
slice_bounds-read_line-count c = omega (arith, (between c.args.text.now c.args.at c.in_ok-end.end (sym c.in_ok-end.ensures)).from)

pub slice_bounds-read_line-start : goal.slice_bounds-read_line-start
slice_bounds-read_line-start c = omega (arith, (between c.args.text.now c.args.at c.in_ok-end.end (sym c.in_ok-end.ensures)).from)

pub slice_bounds-read_line-end : goal.slice_bounds-read_line-end
slice_bounds-read_line-end c = omega (arith, (between c.args.text.now c.args.at c.in_ok-end.end (sym c.in_ok-end.ensures)).inside)

pub read_line-requires : goal.read_line-requires
read_line-requires c =
    let b = between c.args.text.now c.args.at c.in_ok-end.end (sym c.in_ok-end.ensures) in
    omega (arith, b.inside, b.from, line_size c.args.text.now c.args.at c.in_ok-end.end b)

pub returns : goal.returns
returns c = read_same (sym (told_some c.args.text.now c.args.at c.in_ok-end.end (sym c.in_ok-end.ensures))) c.read_line.ensures
