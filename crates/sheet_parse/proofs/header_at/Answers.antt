-- `sheet_parse::header_at`: no line; no such number; or the number and the place behind the line. Assumes nothing.
use native.Mathlib.Omega.{arith}
use mathlib.Core.Path.{sym}
use Rattle.sheet_parse.proofs.ReadLaws.{between, no_end, no_number, a_number}
use Rattle.sheet_parse.proofs.header_at.Goals as goal

pub returns-in_err-end : goal.returns-in_err-end
returns-in_err-end c = rw c.from_residual.ensures (no_end c.args.key.now c.args.text.now c.args.from c.in_err-end.ensures)

pub slice_bounds-header_line-count : goal.slice_bounds-header_line-count
slice_bounds-header_line-count c = omega (arith, (between c.args.text.now c.args.from c.in_ok-end.end (sym c.in_ok-end.ensures)).from)

pub slice_bounds-header_line-start : goal.slice_bounds-header_line-start
slice_bounds-header_line-start c = omega (arith, (between c.args.text.now c.args.from c.in_ok-end.end (sym c.in_ok-end.ensures)).from)

pub slice_bounds-header_line-end : goal.slice_bounds-header_line-end
slice_bounds-header_line-end c = omega (arith, (between c.args.text.now c.args.from c.in_ok-end.end (sym c.in_ok-end.ensures)).inside)

pub returns-in_err-number : goal.returns-in_err-number
returns-in_err-number c = rw c.from_residual-in_err-number.ensures (no_number c.args.key.now c.args.text.now c.args.from c.in_ok-end.end c.in_ok-end.ensures c.in_err-number.ensures)

pub overflow_add-result : goal.overflow_add-result
overflow_add-result c = omega (arith, (between c.args.text.now c.args.from c.in_ok-end.end (sym c.in_ok-end.ensures)).inside)

pub returns : goal.returns
returns c = a_number c.args.key.now c.args.text.now c.args.from c.in_ok-end.end c.in_ok-end.ensures c.in_ok-number.number c.in_ok-number.ensures
