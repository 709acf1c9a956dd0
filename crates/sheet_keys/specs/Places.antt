-- Places in a text, and what stands behind a key. Assumes nothing.
use Rattle.std.specs.Prelude.{◌≡◌, true, false, List, [], ◌∷◌, ℕ, suc, ◌≤◌, eqb, length, Option, IfSome, option_copied}
use Rattle.std.specs.Borrow.{Bor}
use Rattle.std.proofs.Math.Option as maybe
use Rattle.std.proofs.Math.Option.{none, some}
use Rattle.rules.specs.Sheet.{value_of}
use Rattle.text_decimals.specs.Reads.{shown}

-- ---- places

-- the place of the first c, in a list that begins at place i
unfoldable pub first_from : ℕ → ℕ → List ℕ → maybe.Option ℕ
first_from c i [] = none
first_from c i (x ∷ xs) = elim (eqb x c) [ true ↦ some i | false ↦ first_from c (suc i) xs ]

-- ---- keys

-- the value behind a key was found so, as a part of the line
pub record Keyed (key line : List ℕ) (r : Option (Bor (List ℕ))) : Type 0 where
  pub is : value_of key line ≡ shown (option_copied r)
  pub inside : IfSome r (λ v. length v.now ≤ length line)
