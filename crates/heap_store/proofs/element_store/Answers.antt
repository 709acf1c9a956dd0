-- `heap_store::element_store`: the element is stored where the vector has it. Assumes nothing.
use Rattle.heap_sound_rows.specs.Rows.{lists}
use Rattle.heap_store.proofs.StoreLaws.{row_there, block_small, element_row, element_written, element_refused}
use Rattle.heap_store.proofs.element_store.Goals as goal

pub load-requires : goal.load-requires
load-requires c = row_there (lists c.args.words.now c.args.map.now c.args.bytes.now c.args.elems.now) c.args.slot c.requires

pub element_place-requires : goal.element_place-requires
element_place-requires c = block_small (lists c.args.words.now c.args.map.now c.args.bytes.now c.args.elems.now) c.args.slot c.requires c.load.result c.load.ensures

pub returns-in_default : goal.returns-in_default
returns-in_default c = element_refused (lists c.args.words.now c.args.map.now c.args.bytes.now c.args.elems.now) c.args.slot c.requires c.args.k c.load.result c.load.ensures c.args.new c.in_default.ensures

pub store_element-requires : goal.store_element-requires
store_element-requires c = element_row (lists c.args.words.now c.args.map.now c.args.bytes.now c.args.elems.now) c.args.slot c.requires c.args.k c.load.result c.load.ensures _ c.in-Some.ensures

pub returns : goal.returns
returns c = element_written (lists c.args.words.now c.args.map.now c.args.bytes.now c.args.elems.now) c.args.slot c.requires c.args.k c.load.result c.load.ensures _ c.in-Some.ensures c.args.new _ c.store_element.result c.store_element.ensures
