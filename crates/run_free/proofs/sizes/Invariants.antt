-- `run_free::sizes`: a size stays within the lent slots.
use Rattle.std.proofs.Common.{◌≤◌}
use Rattle.run_free.proofs.sizes.Given as goal

abbrev pub invariant-loop : goal.invariant-loop
invariant-loop g l = l.size ≤ l.lent
