-- What a number that was read means in the rules' words. Assumes nothing.
use Rattle.std.specs.Prelude.{◌≡◌, List, ◌∷◌, ℕ, ◌≤◌, Option, Some, None, unwrap_or}
use Rattle.std.proofs.Math.Option as maybe
use Rattle.rules.specs.Text.{number_from, at_most}

-- a value or none, as the rules have it
abbrev pub shown : {A : Type 0} → Option A → maybe.Option A
shown None = maybe.none
shown (Some a) = maybe.some a

-- the number of what was read so far and of the digits that follow
unfoldable pub rest : ℕ → Option ℕ → List ℕ → maybe.Option ℕ
rest most None cs = maybe.none
rest most (Some n) cs = at_most most (number_from n cs)

-- one digit more was read
pub record Step (most n c : ℕ) (r : Option ℕ) : Type 0 where
  pub is : (cs : List ℕ) → at_most most (number_from n (c ∷ cs)) ≡ rest most r cs
  pub small : unwrap_or r 0 ≤ most
