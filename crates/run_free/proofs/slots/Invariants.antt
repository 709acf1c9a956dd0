-- `run_free::slots`: as many slots can be taken as are left to print.
use Rattle.std.proofs.Common.{◌-◌}
use Rattle.run_free.proofs.Giving.{Giving}
use Rattle.run_free.proofs.slots.Given as goal

abbrev pub invariant-loop : goal.invariant-loop
invariant-loop g l = Giving l.lent (l.size - l.counter) l.words l.map
