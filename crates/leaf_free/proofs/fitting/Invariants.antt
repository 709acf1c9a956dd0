-- `leaf_free::fitting`: growth from here with the turns left ends where the whole does. Assumes nothing.
use mathlib.Core.Path.{◌≡◌}
use Prim.Native.Nat.{◌-◌, ◌≤◌}
use Rattle.rules.specs.Heap.{fitting, most_growths}
use Rattle.leaf_free.proofs.fitting.Given as goal

abbrev pub invariant-loop : goal.invariant-loop
invariant-loop l = record {
  within : l.size ≤ l.lent;
  rest : fitting (most_growths - l.counter) l.chunk l.lent l.size ≡ fitting most_growths l.chunk l.lent l.from;
}
