-- `heap_sweep::sweep_slots`: what was to sweep is what is left to sweep. Assumes nothing.
use native.Mathlib.Omega.{arith}
use mathlib.Core.Path.{refl}
use Rattle.heap_sweep.specs.Sweeps.{swept}
use Rattle.heap_sweep.proofs.SlotLaws.{sweeping, sweeps, sweeps_on, sweeps_end}
use Rattle.heap_sweep.proofs.sweep_slots.Goals as goal

pub loop-slot-init : goal.loop-slot-init
loop-slot-init c = sweeping c.args.words.now c.args.map.now c.requires

pub sweep_slot-requires : goal.sweep_slot-requires
sweep_slot-requires c = sweeps (swept c.args.words.now c.args.map.now) _ (swept c.loop-slot.words c.loop-slot.map) c.loop-slot.slot c.loop-slot.invariant c.loop-slot-test.true

pub loop-slot-preserved : goal.loop-slot-preserved
loop-slot-preserved c = sweeps_on (swept c.args.words.now c.args.map.now) _ (swept c.loop-slot.words c.loop-slot.map) c.loop-slot.slot c.loop-slot.invariant c.loop-slot-test.true (swept c.sweep_slot.new.words c.sweep_slot.new.map) c.sweep_slot.ensures

pub returns : goal.returns
returns c = sweeps_end (swept c.args.words.now c.args.map.now) _ (swept c.loop-slot.words c.loop-slot.map) c.loop-slot.slot c.loop-slot.invariant (omega arith) refl
