-- `heap_equal::push_slots`: one class first, then `eqv`, then the parts. Assumes nothing.
use mathlib.Core.Bool.{not}
use mathlib.Core.Path.{ap}
use denote.Enum.Declared.{tag_of}
use Rattle.leaf_lists.specs.Lists.{lent_of}
use Rattle.heap_equal.specs.declared.Parts.{Parts}
use Rattle.heap_equal.specs.contracts.Parts.{the_type}
use Rattle.heap_equal.proofs.CellParts.{like_variant, last_variant}
use Rattle.heap_equal.proofs.Alikes.{both_rows, both_comparable, can_join_alike, slots_known, room_left, slots_eqv, parts_differ, parts_alike}
use Rattle.heap_equal.proofs.push_slots.Goals as goal

pub join_alike-requires : goal.join_alike-requires
join_alike-requires c = can_join_alike (lent_of c.args.heap) c.args.c c.args.scratch.now c.args.top c.args.s c.args.t (c.requires.ready, c.requires.used_slots)

pub returns-then-not-join_alike : goal.returns-then-not-join_alike
returns-then-not-join_alike c = slots_known (lent_of c.args.heap) c.args.c c.args.scratch.now c.args.top c.args.s c.args.t (c.requires.ready, c.requires.used_slots) c.join_alike.result c.join_alike.new.scratch c.join_alike.ensures (ap not c.if-not-join_alike.true)

pub eqv-requires : goal.eqv-requires
eqv-requires c = both_comparable (lent_of c.args.heap) c.args.c c.args.scratch.now c.args.top c.args.s c.args.t (c.requires.ready, c.requires.used_slots)

pub returns-then-eqv : goal.returns-then-eqv
returns-then-eqv c = slots_eqv (lent_of c.args.heap) c.args.c c.args.scratch.now c.args.top c.args.s c.args.t (c.requires.ready, c.requires.used_slots) c.join_alike.result c.join_alike.new.scratch c.join_alike.ensures (ap not c.if-not-join_alike.false) c.eqv.result c.eqv.ensures c.if-eqv.true

pub parts_of-parts-requires : goal.parts_of-parts-requires
parts_of-parts-requires c = both_rows (lent_of c.args.heap) c.args.c c.args.scratch.now c.args.top c.args.s c.args.t (c.requires.ready, c.requires.used_slots)

pub push_pair-requires : goal.push_pair-requires
push_pair-requires c = room_left (lent_of c.args.heap) c.args.c c.args.scratch.now c.args.top c.args.s c.args.t (c.requires.ready, c.requires.used_slots) c.join_alike.result c.join_alike.new.scratch c.join_alike.ensures

pub returns-in-Unlike : goal.returns-in-Unlike
returns-in-Unlike c = parts_differ (lent_of c.args.heap) c.args.c c.args.scratch.now c.args.top c.args.s c.args.t (c.requires.ready, c.requires.used_slots) c.join_alike.result c.join_alike.new.scratch c.join_alike.ensures (ap not c.if-not-join_alike.false) c.eqv.result c.eqv.ensures c.if-eqv.false c.parts_of-parts.result c.parts_of-parts.ensures (last_variant _ c.in-Unlike.in-Unlike-own.keys1)

pub returns-in_default : goal.returns-in_default
returns-in_default c = parts_alike (lent_of c.args.heap) c.args.c c.args.scratch.now c.args.top c.args.s c.args.t (c.requires.ready, c.requires.used_slots) c.join_alike.result c.join_alike.new.scratch c.join_alike.ensures (ap not c.if-not-join_alike.false) c.eqv.result c.eqv.ensures c.if-eqv.false c.parts_of-parts.result c.parts_of-parts.ensures (λ e. like_variant _ c.in_default.in_default-own.keys2 (ap (λ (x : Parts). tag_of the_type x) e)) c.push_pair.new.scratch c.push_pair.result c.push_pair.ensures
