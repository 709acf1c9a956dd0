-- `doors_store::store_cell`: 14 of the slot, then of what is given, then the heap's own store. Assumes nothing.
use mathlib.Core.Path.{sym, ◌∙◌}
use native.Mathlib.Omega.{arith}
use Rattle.leaf_cells.specs.Cells.{cell_of}
use Rattle.heap_sound_rows.specs.Rows.{lists}
use Rattle.heap_given.proofs.HeaderLaws.{header_there}
use Rattle.doors_store.proofs.StoreLaws.{ready, cell_slot_free, cell_names_free, cell_passed}
use Rattle.doors_store.proofs.store_cell.Goals as goal

pub bounds-words-1 : goal.bounds-words-1
bounds-words-1 c = omega (arith, header_there (lists c.args.words.now c.args.map.now c.args.bytes.now c.args.elems.now) c.requires)

pub returns-then-not-in_use : goal.returns-then-not-in_use
returns-then-not-in_use c = cell_slot_free (lists c.args.words.now c.args.map.now c.args.bytes.now c.args.elems.now) c.args.slot c.requires (cell_of c.args.new) (sym c.in_use.ensures ∙ c.if-not-in_use.true)

pub returns-then-not-cell_in_use : goal.returns-then-not-cell_in_use
returns-then-not-cell_in_use c = cell_names_free (lists c.args.words.now c.args.map.now c.args.bytes.now c.args.elems.now) c.args.slot c.requires (cell_of c.args.new) (sym c.in_use.ensures ∙ c.if-not-in_use.false) (sym c.cell_in_use.ensures ∙ c.if-not-cell_in_use.true)

pub cell_store-requires : goal.cell_store-requires
cell_store-requires c = ready (lists c.args.words.now c.args.map.now c.args.bytes.now c.args.elems.now) c.args.slot c.requires (sym c.in_use.ensures ∙ c.if-not-in_use.false)

pub shape_of-words : goal.shape_of-words
shape_of-words c = c.cell_store.auto.words

pub returns : goal.returns
returns c = cell_passed (lists c.args.words.now c.args.map.now c.args.bytes.now c.args.elems.now) c.args.slot c.requires (cell_of c.args.new) (sym c.in_use.ensures ∙ c.if-not-in_use.false) (sym c.cell_in_use.ensures ∙ c.if-not-cell_in_use.false) _ _ c.cell_store.ensures
