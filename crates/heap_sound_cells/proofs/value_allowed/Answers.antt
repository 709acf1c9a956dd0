-- `heap_sound_cells::value_allowed`: a Char, or not. Assumes nothing.
use Rattle.heap_sound_cells.proofs.PlainLaws.{char_allowed, other_allowed}
use borrow.Author.Tests.{ne_eqb}
use mathlib.Core.Bool.{not}
use mathlib.Core.Path.{ap, ◌∙◌}
use Rattle.heap_sound_cells.proofs.value_allowed.Goals as goal

pub returns-then-kind-ne5 : goal.returns-then-kind-ne5
returns-then-kind-ne5 c = ap not (ne_eqb _ 5 c.if-kind-ne5.true) ∙ other_allowed c.args.kind c.args.a c.if-kind-ne5.true

pub returns-else-kind-ne5 : goal.returns-else-kind-ne5
returns-else-kind-ne5 c = c.is_scalar_value.ensures ∙ char_allowed c.args.kind c.args.a c.if-kind-ne5.false
