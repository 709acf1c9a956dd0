-- `leaf_map::used`: what is counted and what is left to count make the whole. Assumes nothing.
use mathlib.Core.Path.{◌≡◌}
use Rattle.rules.specs.Map.{set_low_bits}
use lib.ListN.{drop}
use Prim.Native.Nat.{◌+◌, ◌*◌, ◌≤◌}
use Rattle.leaf_map.proofs.used.Given as goal

abbrev pub invariant-loop-byte : goal.invariant-loop-byte
invariant-loop-byte l = (l.n ≤ 4 * l.byte-index) × (l.n + set_low_bits (drop l.byte-index l.map) ≡ set_low_bits l.map)
