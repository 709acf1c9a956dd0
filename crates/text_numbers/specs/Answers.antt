-- What is written, and what the answers on hex mean in the rules' words. Assumes nothing.
use Rattle.std.specs.Prelude.{◌≡◌, Bool, true, false, List, [], ℕ, ◌+◌, ◌*◌, length, Option, Some, None}
use Rattle.std.proofs.Math.Option as maybe
use Rattle.std.proofs.Math.Option.{none, some}
use Rattle.std.proofs.lemmas.List.Edits.{sets}
use Rattle.rules.specs.Text.{hex_value, unhex}

-- ---- writing

-- the list with these written over what stood from a place on
unfoldable pub written : List ℕ → ℕ → List ℕ → List ℕ
written l at new = sets l at new

-- a text was written from a place on, and its end answered
pub record Printed (before : List ℕ) (at : ℕ) (t after : List ℕ) (r : ℕ) : Type 0 where
  pub is : after ≡ written before at t
  pub end : r ≡ at + length t

-- ---- hex

unfoldable pub pair_value : ℕ → ℕ → maybe.Option ℕ
pair_value a b = elim (hex_value a) [ none ↦ none | some x ↦ elim (hex_value b) [ none ↦ none | some y ↦ some (16 * x + y) ] ]

unfoldable pub is_hex : List ℕ → Bool
is_hex t = elim (unhex t) [ none ↦ false | some bs ↦ true ]

-- the bytes of a hex text; none of one that is not hex
unfoldable pub unhexed : List ℕ → List ℕ
unhexed t = elim (unhex t) [ none ↦ [] | some bs ↦ bs ]

-- the answer, how many bytes there are, and what stands in the lent bytes
unfoldable pub hexed_answer : maybe.Option (List ℕ) → Option ℕ
hexed_answer none = None
hexed_answer (some bs) = Some (length bs)

unfoldable pub hexed_bytes : List ℕ → ℕ → maybe.Option (List ℕ) → List ℕ
unfolding written
hexed_bytes l at none = l
hexed_bytes l at (some bs) = written l at bs

pub record Unhexed (before : List ℕ) (at : ℕ) (t after : List ℕ) (r : Option ℕ) : Type 0 where
  pub answer : r ≡ hexed_answer (unhex t)
  pub bytes : after ≡ hexed_bytes before at (unhex t)

unfoldable pub answers : Unit {0}
unfolding written pair_value is_hex unhexed hexed_answer hexed_bytes
answers = tt
