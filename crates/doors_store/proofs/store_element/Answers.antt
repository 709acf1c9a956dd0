-- `doors_store::store_element`: 14 of the slot, then of what is given, then the heap's own store. Assumes nothing.
use mathlib.Core.Path.{sym, ◌∙◌}
use native.Mathlib.Omega.{arith}
use Rattle.leaf_cells.specs.Elements.{value_of}
use Rattle.heap_sound_rows.specs.Rows.{lists}
use Rattle.heap_given.proofs.HeaderLaws.{header_there}
use Rattle.doors_store.proofs.StoreLaws.{ready, element_slot_free, element_name_free, element_passed}
use Rattle.doors_store.proofs.store_element.Goals as goal

pub bounds-words-1 : goal.bounds-words-1
bounds-words-1 c = omega (arith, header_there (lists c.args.words.now c.args.map.now c.args.bytes.now c.args.elems.now) c.requires)

pub returns-then-not-in_use : goal.returns-then-not-in_use
returns-then-not-in_use c = element_slot_free (lists c.args.words.now c.args.map.now c.args.bytes.now c.args.elems.now) c.args.slot c.requires c.args.k (value_of c.args.new) (sym c.in_use.ensures ∙ c.if-not-in_use.true)

pub returns-then-not-value_in_use : goal.returns-then-not-value_in_use
returns-then-not-value_in_use c = element_name_free (lists c.args.words.now c.args.map.now c.args.bytes.now c.args.elems.now) c.args.slot c.requires c.args.k (value_of c.args.new) (sym c.in_use.ensures ∙ c.if-not-in_use.false) (sym c.value_in_use.ensures ∙ c.if-not-value_in_use.true)

pub element_store-requires : goal.element_store-requires
element_store-requires c = ready (lists c.args.words.now c.args.map.now c.args.bytes.now c.args.elems.now) c.args.slot c.requires (sym c.in_use.ensures ∙ c.if-not-in_use.false)

pub shape_of-elems : goal.shape_of-elems
shape_of-elems c = c.element_store.auto.elems

pub returns : goal.returns
returns c = element_passed (lists c.args.words.now c.args.map.now c.args.bytes.now c.args.elems.now) c.args.slot c.requires c.args.k (value_of c.args.new) (sym c.in_use.ensures ∙ c.if-not-in_use.false) (sym c.value_in_use.ensures ∙ c.if-not-value_in_use.false) _ _ c.element_store.ensures
