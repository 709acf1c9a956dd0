-- `heap_pack::pack_text`: a slot's turn. Assumes nothing.
use Rattle.heap_pack.proofs.TurnLaws.{text_none, text_ready, text_gone}
use Rattle.heap_pack.proofs.pack_text.Goals as goal

pub returns-then-b-eq0 : goal.returns-then-b-eq0
returns-then-b-eq0 c = text_none c.args.words.now c.args.old.now c.args.table.now c.args.at c.args.s c.load-c.result c.text_block-b.result c.load-c.ensures c.args.bytes.now c.text_block-b.ensures c.if-b-eq0.true

pub move_text-g-requires : goal.move_text-g-requires
move_text-g-requires c = text_ready c.args.words.now c.args.old.now c.args.table.now c.args.at c.args.s c.load-c.result c.text_block-b.result c.load-c.ensures c.args.bytes.now c.text_block-b.ensures c.if-b-eq0.false c.requires

pub returns : goal.returns
returns c = text_gone c.args.words.now c.args.old.now c.args.table.now c.args.at c.args.s c.load-c.result c.text_block-b.result c.load-c.ensures c.args.bytes.now c.text_block-b.ensures c.if-b-eq0.false c.move_text-g.result _ _ _ c.with_place.result c.store.result c.move_text-g.ensures c.with_place.ensures c.store.ensures
