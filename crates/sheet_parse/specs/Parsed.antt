-- What the parse of a sheet answers and leaves, in the rules' words. Assumes nothing.
use Rattle.std.specs.Prelude.{◌≡◌, List, [], ◌∷◌, ℕ, zero, suc, ◌+◌, ◌-◌, ◌≤◌, ◌<◌, length, get_or, take, drop}
use Rattle.std.proofs.Math.Option.{Option, none, some}
use Rattle.laws.specs.Basics.{join, zeros}
use Rattle.rules.specs.Sheet as rules
use Rattle.text_numbers.specs.Answers.{written}
use Rattle.sheet_parse.specs.declared.Sheet as code
use Rattle.std.specs.Prelude as std

-- where each datum ends, the first of them beginning at a place
unfoldable pub totals : ℕ → List (List ℕ) → List ℕ
totals at [] = []
totals at (d ∷ ds) = (at + length d) ∷ totals (at + length d) ds

-- the data of a sheet; none of bad text
unfoldable pub data_in : Option rules.Sheet → List (List ℕ)
data_in none = []
data_in (some s) = rules.data_of s

abbrev pub sheet_of : ℕ → ℕ → ℕ → std.Option code.Sheet
sheet_of c s n = std.Some (record { chunk = c; slots = s; count = n })

unfoldable pub answer_of : Option rules.Sheet → std.Option code.Sheet
answer_of none = std.None
answer_of (some s) = sheet_of s.chunk s.slots (length (rules.data_of s))

-- the data one behind the other, and the rest as it was; zero for bad text
unfoldable pub bytes_of : List ℕ → Option rules.Sheet → List ℕ
bytes_of before none = zeros (length before)
bytes_of before (some s) = written before 0 (join (λ d. d) (rules.data_of s))

-- where each datum ends, and the rest as it was; zero for bad text
unfoldable pub ends_of : List ℕ → Option rules.Sheet → List ℕ
unfolding totals
ends_of before none = zeros (length before)
ends_of before (some s) = written before 0 (totals 0 (rules.data_of s))

-- a text was parsed, its data inside the room
pub record Parsed (text out₀ ends₀ out ends : List ℕ) (r : std.Option code.Sheet) : Type 0 where
  pub answer : r ≡ answer_of (rules.sheet text)
  pub bytes : out ≡ bytes_of out₀ (rules.sheet text)
  pub places : ends ≡ ends_of ends₀ (rules.sheet text)
  pub room : length (join (λ d. d) (data_in (rules.sheet text))) ≤ length out₀
  pub few : length (data_in (rules.sheet text)) ≤ length ends₀

-- ---- one datum

unfoldable pub place_before : List ℕ → ℕ → ℕ
place_before ends zero = 0
place_before ends (suc i) = get_or ends i 0

-- there is such a datum in the bytes
pub record Within (out ends : List ℕ) (i : ℕ) : Type 0 where
  pub known : i < length ends
  pub rises : place_before ends i ≤ get_or ends i 0
  pub inside : get_or ends i 0 ≤ length out

unfoldable pub part_of : List ℕ → List ℕ → ℕ → List ℕ
unfolding place_before
part_of out ends i = take (get_or ends i 0 - place_before ends i) (drop (place_before ends i) out)

unfoldable pub parsed_words : Unit {0}
unfolding totals data_in answer_of bytes_of ends_of place_before part_of
parsed_words = tt
