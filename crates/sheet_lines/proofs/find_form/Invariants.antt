-- `sheet_lines::find_form`: what was to try is what is left to try. Assumes nothing.
use Rattle.sheet_lines.proofs.FormLaws.{Tried}
use Rattle.sheet_lines.proofs.find_form.Given as goal

abbrev pub invariant-loop-form : goal.invariant-loop-form
invariant-loop-form l = Tried l.line l.form-index
