-- `heap_sweep::sweep_slots`: what was to sweep is what is left to sweep. Assumes nothing.
use Rattle.heap_sweep.specs.Sweeps.{swept}
use Rattle.heap_sweep.proofs.SlotLaws.{Sweeping}
use Rattle.heap_sweep.proofs.sweep_slots.Given as goal

abbrev pub invariant-loop-slot : goal.invariant-loop-slot
invariant-loop-slot l = Sweeping (swept l.initial.words l.initial.map) l.capacity (swept l.words l.map) l.slot
