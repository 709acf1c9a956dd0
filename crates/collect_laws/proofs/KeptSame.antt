-- What a collection keeps reads as it read, and is `eqv` and `equal` to what it was. Document 01: "Reading back", "Equality".
-- Assumes nothing.
use mathlib.Core.Path.{◌≡◌}
use mathlib.Core.Bool.{Bool, true}
use mathlib.Core.List.{List}
use mathlib.Core.Logic.{◌↔◌}
use Prim.Native.Nat.{ℕ}
use Rattle.laws.specs.Basics.{every}
use Rattle.rules.specs.Cells.{Value}
use Rattle.rules.specs.Heap.{Heap, in_use}
use Rattle.rules.specs.Collect.{collect}
use Rattle.rules.specs.Read.{reading}
use Rattle.rules.specs.Equal.{eqv, Equal}
use Rattle.rules.proofs.Good.{Good}
use Rattle.collect_laws.specs.Kept.{ReachedValue}
use Rattle.collect_laws.proofs.Collected.{kept_capacity, kept_cell}
use Rattle.collect_laws.proofs.Reading.{same_reading}
use Rattle.collect_laws.proofs.Comparing.{same_eqv, same_equal}

module _ (h : Heap) (g : Good h) (roots : List ℕ) (u : every (in_use h) roots ≡ true) where
  pub kept_reading : (v : Value) → ReachedValue h roots v → reading (collect roots h) v ≡ reading h v
  kept_reading = same_reading h (collect roots h) roots (kept_cell h g roots u) (kept_capacity h g roots)

  pub kept_eqv : {v w : Value} → ReachedValue h roots v → ReachedValue h roots w → eqv (collect roots h) v w ≡ eqv h v w
  kept_eqv = same_eqv h (collect roots h) roots (kept_cell h g roots u)

  pub kept_equal : {v w : Value} → ReachedValue h roots v → ReachedValue h roots w → (answer : Bool) → Equal (collect roots h) v w answer ↔ Equal h v w answer
  kept_equal = same_equal h (collect roots h) roots (kept_cell h g roots u)
