-- `heap_equal::decide`: the two values are the first goal. Assumes nothing.
use Rattle.leaf_cells.specs.Elements.{value_of}
use Rattle.leaf_lists.specs.Lists.{lent_of}
use Rattle.heap_equal.proofs.Deciding.{header_there, first_asks, compare_asks, compared, differs}
use Rattle.heap_equal.proofs.decide.Goals as goal

pub bounds-heap-1 : goal.bounds-heap-1
bounds-heap-1 c = header_there (lent_of c.args.heap) c.args.scratch.now (value_of c.args.v) (value_of c.args.w) (c.requires.comparable, (c.requires.room, c.requires.clear))

pub push_alike-next-requires : goal.push_alike-next-requires
push_alike-next-requires c = let v = first_asks (lent_of c.args.heap) c.args.scratch.now (value_of c.args.v) (value_of c.args.w) (c.requires.comparable, (c.requires.room, c.requires.clear)) in record { ready = v.0; comparable = v.1 }

pub compare-requires : goal.compare-requires
compare-requires c = compare_asks (lent_of c.args.heap) c.args.scratch.now (value_of c.args.v) (value_of c.args.w) (c.requires.comparable, (c.requires.room, c.requires.clear)) c.push_alike-next.new.scratch c.push_alike-next.result c.push_alike-next.ensures c.in-Some.top c.in-Some.is

pub returns-in-Some : goal.returns-in-Some
returns-in-Some c = compared (lent_of c.args.heap) c.args.scratch.now (value_of c.args.v) (value_of c.args.w) (c.requires.comparable, (c.requires.room, c.requires.clear)) c.push_alike-next.new.scratch c.push_alike-next.result c.push_alike-next.ensures c.in-Some.top c.in-Some.is c.compare.result c.compare.ensures

pub returns-in-None : goal.returns-in-None
returns-in-None c = differs (lent_of c.args.heap) c.args.scratch.now (value_of c.args.v) (value_of c.args.w) (c.requires.comparable, (c.requires.room, c.requires.clear)) c.push_alike-next.new.scratch c.push_alike-next.result c.push_alike-next.ensures c.in-None.is
