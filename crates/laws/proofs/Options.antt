-- What there may be or not: that something is there is not nothing, and it is one thing. Assumes nothing.
use mathlib.Core.Path.{◌≡◌}
use mathlib.Core.Option.{none, some}
use Prim.Native.Nat.{ℕ}
use Rattle.laws.proofs.Variants.{clash}

pub none_some : {A : Type 0} {a : A} → none ≡ some a → ⊥
none_some e = let z : ◌≡◌ {A = ℕ} 0 1 = cc in clash z

pub some_value : {A : Type 0} {a b : A} → some a ≡ some b → a ≡ b
some_value e = cc
