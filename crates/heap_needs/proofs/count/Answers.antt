-- `heap_needs::count`: what each kind of node adds. Assumes nothing.
use native.Mathlib.Omega.{arith}
use mathlib.Core.Logic.{inl, inr}
use mathlib.Core.Path.{ap}
use Rattle.leaf_nodes.specs.Reads.{text_length}
use Rattle.heap_needs.specs.Needs.{needs_rules}
use Rattle.heap_needs.specs.Pass.{following, known_in}
use Rattle.heap_needs.proofs.CountLaws.{counted_node, countable_node, count_none, count_slot, count_block, count_text, wanted_slot, unwanted_slot}
use Rattle.heap_needs.proofs.count.Goals as goal

pub more-requires-in-String : goal.more-requires-in-String
more-requires-in-String c = record { slots_bound = omega arith; bytes_bound = omega (arith, ap text_length c.in-String.is, c.requires.countable.bytes, c.requires.countable.inside); elements_bound = omega arith }

pub count_name-requires : goal.count_name-requires
count_name-requires c = record { lent = c.requires.lent; countable = countable_node c.in-Symbol.is c.requires.countable }

pub count_name-requires-in-Ident : goal.count_name-requires-in-Ident
count_name-requires-in-Ident c = record { lent = c.requires.lent; countable = countable_node c.in-Ident.is c.requires.countable }

pub more-requires-in-Vector : goal.more-requires-in-Vector
more-requires-in-Vector c = record { slots_bound = omega arith; bytes_bound = omega arith; elements_bound = omega (arith, ap following c.in-Vector.is, c.requires.node_bound) }

pub returns-then-wanted : goal.returns-then-wanted
unfolding needs_rules
returns-then-wanted c = counted_node (known_in c.args.words.now c.args.bytes.now) c.args.names.now.items c.args.names.now.items c.args.datum.now c.args.t _ c.args.wanted c.args.end c.in-Plain.is (wanted_slot c.args.names.now.items c.args.datum.now c.args.t _ c.args.wanted 0 c.if-wanted.true (count_slot c.args.names.now.items c.args.datum.now c.args.t _ c.args.end (countable_node c.in-Plain.is c.requires.countable) _ _ c.more.ensures))

pub returns-else-wanted : goal.returns-else-wanted
unfolding needs_rules
returns-else-wanted c = counted_node (known_in c.args.words.now c.args.bytes.now) c.args.names.now.items c.args.names.now.items c.args.datum.now c.args.t _ c.args.wanted c.args.end c.in-Plain.is (unwanted_slot c.args.names.now.items c.args.datum.now c.args.t _ c.args.wanted 0 c.if-wanted.false (count_none c.args.names.now.items c.args.datum.now c.args.t _ c.args.end (countable_node c.in-Plain.is c.requires.countable) _))

pub returns-in-String : goal.returns-in-String
unfolding needs_rules
returns-in-String c = counted_node (known_in c.args.words.now c.args.bytes.now) c.args.names.now.items c.args.names.now.items c.args.datum.now c.args.t _ c.args.wanted c.args.end c.in-String.is (count_text c.args.names.now.items c.args.datum.now c.args.t _ c.args.end (countable_node c.in-String.is c.requires.countable) _ _ c.more-in-String.ensures)

pub returns-in-Symbol : goal.returns-in-Symbol
unfolding needs_rules
returns-in-Symbol c = counted_node (known_in c.args.words.now c.args.bytes.now) c.args.names.now.items _ c.args.datum.now c.args.t _ c.args.wanted c.args.end c.in-Symbol.is c.count_name.ensures

pub returns-in-Ident : goal.returns-in-Ident
unfolding needs_rules
returns-in-Ident c = counted_node (known_in c.args.words.now c.args.bytes.now) c.args.names.now.items _ c.args.datum.now c.args.t _ c.args.wanted c.args.end c.in-Ident.is c.count_name-in-Ident.ensures

pub returns-in-Ref : goal.returns-in-Ref
unfolding needs_rules
returns-in-Ref c = counted_node (known_in c.args.words.now c.args.bytes.now) c.args.names.now.items c.args.names.now.items c.args.datum.now c.args.t _ c.args.wanted c.args.end c.in-Ref.is (count_none c.args.names.now.items c.args.datum.now c.args.t _ c.args.end (countable_node c.in-Ref.is c.requires.countable) _)

pub returns-in-Pair : goal.returns-in-Pair
unfolding needs_rules
returns-in-Pair c =
    let known = known_in c.args.words.now c.args.bytes.now in
    elim c.in-Pair.is [
      | inl e ↦ counted_node known c.args.names.now.items c.args.names.now.items c.args.datum.now c.args.t _ c.args.wanted c.args.end e (count_slot c.args.names.now.items c.args.datum.now c.args.t _ c.args.end (countable_node e c.requires.countable) _ _ c.more-in-Pair.ensures)
      | inr (l, e) ↦ counted_node known c.args.names.now.items c.args.names.now.items c.args.datum.now c.args.t _ c.args.wanted c.args.end e (count_slot c.args.names.now.items c.args.datum.now c.args.t _ c.args.end (countable_node e c.requires.countable) _ _ c.more-in-Pair.ensures)
    ]

pub returns-in-Vector : goal.returns-in-Vector
unfolding needs_rules
returns-in-Vector c = counted_node (known_in c.args.words.now c.args.bytes.now) c.args.names.now.items c.args.names.now.items c.args.datum.now c.args.t _ c.args.wanted c.args.end c.in-Vector.is (count_block c.args.names.now.items c.args.datum.now c.args.t _ c.args.end (countable_node c.in-Vector.is c.requires.countable) _ _ c.more-in-Vector.ensures)
