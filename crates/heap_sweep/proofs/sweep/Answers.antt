-- `heap_sweep::sweep`: the slots, then the table. Assumes nothing.
use Rattle.heap_sweep.proofs.SlotLaws.{can_drop, drops_all}
use Rattle.heap_sweep.proofs.sweep.Goals as goal

pub drop_freed-requires : goal.drop_freed-requires
drop_freed-requires c = let v = can_drop c.args.words.now c.args.map.now c.sweep_slots.new.words c.sweep_slots.new.map c.sweep_slots.ensures c.requires in record { in_bounds = v.0; words_in_bounds = v.1 }

pub returns : goal.returns
returns c = drops_all c.args.words.now c.args.map.now c.sweep_slots.new.words c.sweep_slots.new.map c.sweep_slots.ensures c.drop_freed.new.words c.drop_freed.ensures
