-- `heap_given::cell_in_use`: a pair names two slots, and no other cell any. Assumes nothing.
use mathlib.Core.Path.{sym, ap, ◌∙◌}
use Rattle.leaf_cells.specs.Cells.{cell_of}
use Rattle.leaf_cells.specs.declared.VCell.{VCell}
use Rattle.heap_given.specs.Given.{cell_named}
use Rattle.heap_given.proofs.GivenLaws.{first_unused, first_used, other_named}
use Rattle.heap_given.proofs.cell_in_use.Goals as goal

pub returns-then-in_use : goal.returns-then-in_use
returns-then-in_use c = first_used _ _ _ _ _ (sym c.in_use.ensures ∙ c.if-in_use.true) c.in_use-then-in_use.ensures ∙ ap (λ (x : VCell). cell_named c.args.capacity c.args.map.now (cell_of x)) (sym c.in-Pair.is)

pub returns-else-in_use : goal.returns-else-in_use
returns-else-in_use c = c.if-in_use.false ∙ first_unused _ _ _ _ (sym c.in_use.ensures ∙ c.if-in_use.false) ∙ ap (λ (x : VCell). cell_named c.args.capacity c.args.map.now (cell_of x)) (sym c.in-Pair.is)

pub returns-in_default : goal.returns-in_default
returns-in_default c = other_named _ _ c.args.c c.in_default.not-Pair
