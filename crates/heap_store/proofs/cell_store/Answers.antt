-- `heap_store::cell_store`: a symbol stays, and any other cell is stored over. Assumes nothing.
use mathlib.Core.Path.{sym, ◌∙◌}
use Rattle.leaf_cells.specs.Cells.{cell_of}
use Rattle.heap_sound_rows.specs.Rows.{lists}
use Rattle.heap_store.proofs.StoreLaws.{row_there, symbol_kept, cell_written}
use Rattle.heap_store.proofs.cell_store.Goals as goal

pub load-requires : goal.load-requires
load-requires c = row_there (lists c.args.words.now c.args.map.now c.args.bytes.now c.args.elems.now) c.args.slot c.requires

pub returns-then-is_symbol : goal.returns-then-is_symbol
returns-then-is_symbol c = symbol_kept (lists c.args.words.now c.args.map.now c.args.bytes.now c.args.elems.now) c.args.slot c.requires (cell_of c.args.new) c.load.result c.load.ensures (sym c.is_symbol.ensures ∙ c.if-is_symbol.true)

pub store-requires : goal.store-requires
store-requires c = row_there (lists c.args.words.now c.args.map.now c.args.bytes.now c.args.elems.now) c.args.slot c.requires

pub returns : goal.returns
returns c = cell_written (lists c.args.words.now c.args.map.now c.args.bytes.now c.args.elems.now) c.args.slot c.requires c.args.new c.load.result _ c.store.result c.load.ensures (sym c.is_symbol.ensures ∙ c.if-is_symbol.false) c.store.ensures
