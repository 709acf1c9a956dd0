-- `heap_equal::push_alike`: two slots, or a scalar. Assumes nothing.
use mathlib.Core.Path.{ap}
use denote.Enum.Declared.{tag_of}
use Rattle.leaf_cells.specs.contracts.Value.{the_type}
use Rattle.leaf_cells.specs.Elements.{value_of}
use Rattle.leaf_cells.specs.declared.Value.{Value}
use Rattle.leaf_lists.specs.Lists.{lent_of}
use Rattle.heap_equal.proofs.Alikes.{not_first, scalar_given, first_scalar, slot_ask, second_scalar, slots_ask, slots_told}
use Rattle.heap_equal.proofs.push_alike.Goals as goal

pub returns-in_default : goal.returns-in_default
returns-in_default c = first_scalar (lent_of c.args.heap) c.args.c c.args.scratch.now c.args.top (value_of c.args.v) (value_of c.args.w) (c.requires.ready, c.requires.comparable) c.push_scalar.result c.push_scalar.ensures (scalar_given c.args.v (λ s e. not_first _ c.in_default.in_default-own.keys2 (ap (λ (x : Value). tag_of the_type x) e)))

pub push_scalar-requires-in_default-w : goal.push_scalar-requires-in_default-w
push_scalar-requires-in_default-w c = slot_ask (lent_of c.args.heap) c.args.c c.args.scratch.now c.args.top (value_of c.args.v) (value_of c.args.w) (c.requires.ready, c.requires.comparable) c.in-Slot.s (ap value_of c.in-Slot.is)

pub returns-in_default-w : goal.returns-in_default-w
returns-in_default-w c = second_scalar (lent_of c.args.heap) c.args.c c.args.scratch.now c.args.top (value_of c.args.v) (value_of c.args.w) (c.requires.ready, c.requires.comparable) c.in-Slot.s (ap value_of c.in-Slot.is) c.push_scalar-in_default-w.result c.push_scalar-in_default-w.ensures (scalar_given c.args.w (λ s e. not_first _ c.in_default-w.in_default-w-own.keys2 (ap (λ (x : Value). tag_of the_type x) e)))

pub push_slots-requires : goal.push_slots-requires
push_slots-requires c = let v = slots_ask (lent_of c.args.heap) c.args.c c.args.scratch.now c.args.top (value_of c.args.v) (value_of c.args.w) (c.requires.ready, c.requires.comparable) c.in-Slot.s c.in-Slot-w.t (ap value_of c.in-Slot.is) (ap value_of c.in-Slot-w.is) in record { ready = v.0; used_slots = v.1 }

pub returns : goal.returns
returns c = slots_told (lent_of c.args.heap) c.args.c c.args.scratch.now c.args.top (value_of c.args.v) (value_of c.args.w) (c.requires.ready, c.requires.comparable) c.in-Slot.s c.in-Slot-w.t (ap value_of c.in-Slot.is) (ap value_of c.in-Slot-w.is) c.push_slots.new.scratch c.push_slots.result c.push_slots.ensures
