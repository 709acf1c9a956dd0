-- `heap_sound_cells::named`: a slot, or not. Assumes nothing.
use Rattle.heap_sound_cells.proofs.PlainLaws.{slot_named, scalar_named}
use borrow.Author.Tests.{ne_eqb}
use mathlib.Core.Bool.{not}
use mathlib.Core.Path.{ap, ◌∙◌}
use Rattle.heap_sound_cells.proofs.named.Goals as goal

pub returns-then-kind-ne15 : goal.returns-then-kind-ne15
returns-then-kind-ne15 c = ap not (ne_eqb _ 15 c.if-kind-ne15.true) ∙ scalar_named c.args.kind c.args.a c.args.capacity c.args.map.now c.if-kind-ne15.true

pub returns-else-kind-ne15 : goal.returns-else-kind-ne15
returns-else-kind-ne15 c = c.in_use.ensures ∙ slot_named c.args.kind c.args.a c.args.capacity c.args.map.now c.if-kind-ne15.false
