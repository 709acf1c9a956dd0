-- `leaf_find::find`: what is found from the place on is what is found in the whole. Assumes nothing.
use mathlib.Core.Path.{◌≡◌}
use Prim.Native.Nat.{◌-◌}
use Rattle.leaf_symbols.specs.Table.{found_in}
use Rattle.leaf_symbols.proofs.Turns.{found_from}
use Rattle.leaf_find.proofs.find.Given as goal

abbrev pub invariant-loop-i : goal.invariant-loop-i
invariant-loop-i l = found_from l.words l.bytes l.name l.scope l.i (l.count - l.i) ≡ found_in l.words l.bytes l.name l.scope
