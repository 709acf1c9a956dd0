-- `heap_setup::fresh`: all lists are cleared, then the first chunk is written. Assumes nothing.
use Rattle.heap_setup.proofs.FreshLaws.{starts_on, fresh_on}
use Rattle.heap_setup.proofs.fresh.Goals as goal

pub fresh-requires : goal.fresh-requires
fresh-requires c = starts_on c.args.chunk c.args.heap.now.words.now c.args.heap.now.map.now c.args.heap.now.bytes.now c.args.heap.now.elems.now c.requires _ c.clear_words.ensures

pub returns-clause-fresh : goal.returns-clause-fresh
returns-clause-fresh c = fresh_on c.args.chunk c.args.heap.now.words.now c.args.heap.now.map.now c.args.heap.now.bytes.now c.args.heap.now.elems.now c.requires _ c.clear_words.ensures _ _ _ _ c.fresh.ensures c.clear_bytes.ensures c.clear_bytes-2.ensures c.clear_words-2.ensures
