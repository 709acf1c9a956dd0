-- `heap_equal::walk_step`: two slots that were met end the walk; so do two cells that are not both pairs. Assumes nothing.
use mathlib.Core.Bool.{not}
use mathlib.Core.Path.{ap}
use denote.Enum.Declared.{tag_of}
use Rattle.leaf_cells.specs.Cells.{cell_of}
use Rattle.leaf_lists.specs.Lists.{lent_of}
use Rattle.heap_equal.specs.declared.Parts.{Parts}
use Rattle.heap_equal.specs.contracts.Parts.{the_type}
use Rattle.heap_equal.proofs.CellParts.{pairs_first}
use Rattle.heap_equal.proofs.Walking.{rows_there, can_join, texts_there, walk_over, walk_fails, walk_met, cars_ask, walk_on, walk_stops}
use Rattle.heap_equal.proofs.walk_step.Goals as goal

pub join_walks-requires : goal.join_walks-requires
join_walks-requires c = can_join (lent_of c.args.heap) c.args.c c.args.scratch.now c.args.top c.args.s c.args.t (c.requires.ready, c.requires.used_slots)

pub returns-then-not-join_walks : goal.returns-then-not-join_walks
returns-then-not-join_walks c = walk_met (lent_of c.args.heap) c.args.c c.args.scratch.now c.args.top c.args.s c.args.t (c.requires.ready, c.requires.used_slots) c.join_walks.result c.join_walks.new.scratch c.join_walks.ensures (ap not c.if-not-join_walks.true)

pub parts_of-parts-requires : goal.parts_of-parts-requires
parts_of-parts-requires c = rows_there (lent_of c.args.heap) c.args.c c.args.scratch.now c.args.top c.args.s c.args.t (c.requires.ready, c.requires.used_slots)

pub load-x-requires : goal.load-x-requires
load-x-requires c = (rows_there (lent_of c.args.heap) c.args.c c.args.scratch.now c.args.top c.args.s c.args.t (c.requires.ready, c.requires.used_slots)).0

pub load-y-requires : goal.load-y-requires
load-y-requires c = (rows_there (lent_of c.args.heap) c.args.c c.args.scratch.now c.args.top c.args.s c.args.t (c.requires.ready, c.requires.used_slots)).1

pub eqv_cells-requires : goal.eqv_cells-requires
eqv_cells-requires c = let v = texts_there (lent_of c.args.heap) c.args.c c.args.scratch.now c.args.top c.args.s c.args.t (c.requires.ready, c.requires.used_slots) (cell_of c.load-x.result) (cell_of c.load-y.result) c.load-x.ensures c.load-y.ensures in record { within = v.0; within_2 = v.1 }

pub returns-then-eqv_cells : goal.returns-then-eqv_cells
returns-then-eqv_cells c = walk_over (lent_of c.args.heap) c.args.c c.args.scratch.now c.args.top c.args.s c.args.t (c.requires.ready, c.requires.used_slots) c.join_walks.result c.join_walks.new.scratch c.join_walks.ensures (ap not c.if-not-join_walks.false) c.parts_of-parts.result c.parts_of-parts.ensures (λ a d b e q. pairs_first _ c.in_default.in_default-own.keys2 (ap (λ (x : Parts). tag_of the_type x) q)) (cell_of c.load-x.result) (cell_of c.load-y.result) c.eqv_cells.result c.load-x.ensures c.load-y.ensures c.eqv_cells.ensures c.if-eqv_cells.true

pub returns-in_default : goal.returns-in_default
returns-in_default c = walk_fails (lent_of c.args.heap) c.args.c c.args.scratch.now c.args.top c.args.s c.args.t (c.requires.ready, c.requires.used_slots) c.join_walks.result c.join_walks.new.scratch c.join_walks.ensures (ap not c.if-not-join_walks.false) c.parts_of-parts.result c.parts_of-parts.ensures (λ a d b e q. pairs_first _ c.in_default.in_default-own.keys2 (ap (λ (x : Parts). tag_of the_type x) q)) (cell_of c.load-x.result) (cell_of c.load-y.result) c.eqv_cells.result c.load-x.ensures c.load-y.ensures c.eqv_cells.ensures c.if-eqv_cells.false

pub push_alike-next-requires : goal.push_alike-next-requires
push_alike-next-requires c = let v = cars_ask (lent_of c.args.heap) c.args.c c.args.scratch.now c.args.top c.args.s c.args.t (c.requires.ready, c.requires.used_slots) c.join_walks.result c.join_walks.new.scratch c.join_walks.ensures (ap not c.if-not-join_walks.false) c.parts_of-parts.result c.parts_of-parts.ensures c.in-Pairs.a c.in-Pairs.d c.in-Pairs.b c.in-Pairs.e c.in-Pairs.is in record { ready = v.0; comparable = v.1 }

pub returns-in-Some : goal.returns-in-Some
returns-in-Some c = walk_on (lent_of c.args.heap) c.args.c c.args.scratch.now c.args.top c.args.s c.args.t (c.requires.ready, c.requires.used_slots) c.join_walks.result c.join_walks.new.scratch c.join_walks.ensures (ap not c.if-not-join_walks.false) c.parts_of-parts.result c.parts_of-parts.ensures c.in-Pairs.a c.in-Pairs.d c.in-Pairs.b c.in-Pairs.e c.in-Pairs.is c.push_alike-next.new.scratch c.push_alike-next.result c.push_alike-next.ensures c.in-Some.n c.in-Some.is

pub returns-in-None : goal.returns-in-None
returns-in-None c = walk_stops (lent_of c.args.heap) c.args.c c.args.scratch.now c.args.top c.args.s c.args.t (c.requires.ready, c.requires.used_slots) c.join_walks.result c.join_walks.new.scratch c.join_walks.ensures (ap not c.if-not-join_walks.false) c.parts_of-parts.result c.parts_of-parts.ensures c.in-Pairs.a c.in-Pairs.d c.in-Pairs.b c.in-Pairs.e c.in-Pairs.is c.push_alike-next.new.scratch c.push_alike-next.result c.push_alike-next.ensures c.in-None.is
