-- std's word for so many zeros is the rules'. Assumes nothing.
use Rattle.std.proofs.Common.{◌≡◌, ℕ, zero, suc, ◌∷◌, List, replicate, refl, ap}
use Rattle.laws.specs.Basics.{zeros, basics}

pub zeroed : (n : ℕ) → replicate n 0 ≡ zeros n
unfolding basics
zeroed zero = refl
zeroed (suc n) = ap (λ (l : List ℕ). 0 ∷ l) (zeroed n)
