-- `heap_eqv::shown`: a slot's cell is loaded, a scalar is its own. Assumes nothing.
use Rattle.leaf_cells.specs.Elements.{value_of}
use Rattle.heap_eqv.proofs.EqvLaws.{shape_at, shows_slot, shows_scalar}
use Rattle.heap_eqv.proofs.shown.Goals as goal

pub load-requires : goal.load-requires
load-requires c = c.requires _ (shape_at (value_of c.args.v) _ c.in-At.ensures)

pub returns-in-At : goal.returns-in-At
returns-in-At c = shows_slot c.args.words.now (value_of c.args.v) _ _ c.in-At.ensures c.load.ensures

pub returns-in-New : goal.returns-in-New
returns-in-New c = shows_scalar c.args.words.now (value_of c.args.v) _ c.in-New.ensures
