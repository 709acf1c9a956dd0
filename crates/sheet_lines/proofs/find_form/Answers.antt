-- `sheet_lines::find_form`: what was to try is what is left to try. Assumes nothing.
use Rattle.sheet_lines.proofs.FormLaws.{other_form, this_form, no_form_left}
use native.Mathlib.Omega.{arith}
use Rattle.sheet_lines.proofs.find_form.Goals as goal

pub loop-form-preserved : goal.loop-form-preserved
loop-form-preserved c = other_form c.args.line.now c.loop-form.form-index c.loop-form.invariant (omega arith) c.key.result.now c.key.ensures c.after.result c.after.ensures c.in_default.is

pub returns-in-Some : goal.returns-in-Some
returns-in-Some c = this_form c.args.line.now c.loop-form.form-index c.loop-form.invariant (omega arith) c.key.result.now c.key.ensures c.after.result c.after.ensures c.in-Some.value c.in-Some.is

pub returns : goal.returns
returns c = no_form_left c.args.line.now c.loop-form.form-index c.loop-form.invariant (omega arith)
