-- `heap_pack::pack_elements`: a slot's turn. Assumes nothing.
use Rattle.heap_pack.proofs.TurnLaws.{elements_none, elements_ready, elements_gone}
use Rattle.heap_pack.proofs.pack_elements.Goals as goal

pub returns-then-b-eq0 : goal.returns-then-b-eq0
returns-then-b-eq0 c = elements_none c.args.words.now c.args.old.now c.args.table.now c.args.at c.args.s c.load-c.result c.vector_block-b.result c.load-c.ensures c.args.elems.now c.vector_block-b.ensures c.if-b-eq0.true

pub move_elements-g-requires : goal.move_elements-g-requires
move_elements-g-requires c = elements_ready c.args.words.now c.args.old.now c.args.table.now c.args.at c.args.s c.load-c.result c.vector_block-b.result c.load-c.ensures c.args.elems.now c.vector_block-b.ensures c.if-b-eq0.false c.requires

pub returns : goal.returns
returns c = elements_gone c.args.words.now c.args.old.now c.args.table.now c.args.at c.args.s c.load-c.result c.vector_block-b.result c.load-c.ensures c.args.elems.now c.vector_block-b.ensures c.if-b-eq0.false c.move_elements-g.result _ _ _ c.with_place.result c.store.result c.move_elements-g.ensures c.with_place.ensures c.store.ensures
