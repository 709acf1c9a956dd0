-- `leaf_free::reaches`: what is left to reach is what was to reach, and a size that passed the goal stays past it. Assumes nothing.
use mathlib.Core.Path.{◌≡◌}
use Prim.Native.Nat.{◌-◌}
use Rattle.rules.specs.Heap.{reaches, most_growths}
use Rattle.rules.proofs.Growth.{Whole}
use Rattle.leaf_free.proofs.reaches.Given as goal

abbrev pub invariant-loop : goal.invariant-loop
invariant-loop l = record {
  whole : Whole l.chunk l.size;
  rest : reaches (most_growths - l.counter) l.chunk l.goal l.size ≡ reaches most_growths l.chunk l.goal l.chunk;
}
