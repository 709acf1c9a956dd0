-- `heap_eqv::eqv`: the same slot, or the cells that the values show. Assumes nothing.
use mathlib.Core.Path.{sym, ◌∙◌}
use Rattle.leaf_cells.specs.Elements.{value_of}
use Rattle.leaf_lists.specs.Lists.{lent_of}
use Rattle.heap_eqv.proofs.EqvLaws.{row_there, text_there, same_eqv, cells_eqv}
use Rattle.heap_eqv.proofs.eqv.Goals as goal

pub shown-requires : goal.shown-requires
shown-requires c = row_there (lent_of c.args.heap) c.requires.lists_sound (value_of c.args.v) c.requires.first

pub shown-requires-else-same_slot : goal.shown-requires-else-same_slot
shown-requires-else-same_slot c = row_there (lent_of c.args.heap) c.requires.lists_sound (value_of c.args.w) c.requires.second

pub eqv_cells-requires-clause-within : goal.eqv_cells-requires-clause-within
eqv_cells-requires-clause-within c = text_there (lent_of c.args.heap) c.requires.lists_sound (value_of c.args.v) c.requires.first _ c.shown.ensures

pub eqv_cells-requires-clause-within_2 : goal.eqv_cells-requires-clause-within_2
eqv_cells-requires-clause-within_2 c = text_there (lent_of c.args.heap) c.requires.lists_sound (value_of c.args.w) c.requires.second _ c.shown-else-same_slot.ensures

pub returns-then-same_slot : goal.returns-then-same_slot
returns-then-same_slot c = c.if-same_slot.true ∙ same_eqv (lent_of c.args.heap) (value_of c.args.v) (value_of c.args.w) c.requires (sym c.if-same_slot.true ∙ c.same_slot.ensures)

pub returns-else-same_slot : goal.returns-else-same_slot
returns-else-same_slot c = cells_eqv (lent_of c.args.heap) (value_of c.args.v) (value_of c.args.w) c.requires (sym c.if-same_slot.false ∙ c.same_slot.ensures) _ _ _ c.shown.ensures c.shown-else-same_slot.ensures c.eqv_cells.ensures
