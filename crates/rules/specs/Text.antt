-- Numbers and bytes as a sheet's text has them, both ways. Document 01, "Sheets": "Decimals have no leading zero or plus,
-- zero has no minus, and a number too big for its field (`num` signed 64 bits, all others unsigned 32) is bad text; hex is
-- lower case, may be empty." Assumes nothing.
use Rattle.std.specs.Prelude.{true, false, List, [], ◌∷◌, ℕ, zero, suc, ◌+◌, ◌-◌, ◌*◌, ◌/◌, ◌%◌, eqb, leb, ltb}
use Rattle.std.proofs.Math.Option.{Option, none, some}
use Rattle.laws.specs.Basics.{choose, between, join, basics}
use Rattle.rules.specs.Numbers.{bits32, bits64}

-- ---- writing

unfoldable pub digit : ℕ → ℕ
digit n = choose (ltb n 10) (48 + n) (87 + n)

-- the digits of n before those given; the first number bounds how many there are
unfoldable pub digits_before : ℕ → ℕ → List ℕ → List ℕ
unfolding digit
digits_before zero n later = digit (n % 10) ∷ later
digits_before (suc f) n later =
    elim (ltb n 10) [ true ↦ digit n ∷ later | false ↦ digits_before f (n / 10) (digit (n % 10) ∷ later) ]

unfoldable pub decimal : ℕ → List ℕ
unfolding digits_before
decimal n = digits_before n n []

-- a number of 64 bits, read as signed
unfoldable pub signed : ℕ → List ℕ
unfolding decimal
signed n = elim (ltb n 0x8000_0000_0000_0000) [ true ↦ decimal n | false ↦ 45 ∷ decimal (bits64 - n) ]

unfoldable pub hex : List ℕ → List ℕ
unfolding digit basics
hex bs = join (λ b. digit (b / 16) ∷ digit (b % 16) ∷ []) bs

-- ---- reading

-- a digit's number; none where it is no digit
unfoldable pub digit_value : ℕ → Option ℕ
digit_value c = choose (between 48 57 c) (some (c - 48)) none

unfoldable pub hex_value : ℕ → Option ℕ
hex_value c = choose (between 48 57 c) (some (c - 48)) (choose (between 97 102 c) (some (c - 87)) none)

-- the number of digits read so far, and those that follow
unfoldable pub number_from : ℕ → List ℕ → Option ℕ
unfolding digit_value
number_from n [] = some n
number_from n (c ∷ cs) = elim (digit_value c) [ none ↦ none | some d ↦ number_from (10 * n + d) cs ]

-- digits, one at least, none of them a leading zero
unfoldable pub natural : List ℕ → Option ℕ
unfolding number_from
natural [] = none
natural (c ∷ []) = number_from 0 (c ∷ [])
natural (c ∷ d ∷ cs) = elim (eqb c 48) [ true ↦ none | false ↦ number_from 0 (c ∷ d ∷ cs) ]

-- a number that is at most so much
unfoldable pub at_most : ℕ → Option ℕ → Option ℕ
at_most m none = none
at_most m (some n) = choose (leb n m) (some n) none

unfoldable pub unsigned32 : List ℕ → Option ℕ
unfolding natural at_most
unsigned32 t = at_most (bits32 - 1) (natural t)

-- its 64 bits; "zero has no minus"
unfoldable pub negative : Option ℕ → Option ℕ
negative none = none
negative (some zero) = none
negative (some (suc n)) = some (bits64 - suc n)

unfoldable pub signed64 : List ℕ → Option ℕ
unfolding natural at_most negative
signed64 [] = none
signed64 (c ∷ cs) =
    elim (eqb c 45)
    [ true ↦ negative (at_most 0x8000_0000_0000_0000 (natural cs)) | false ↦ at_most 0x7fff_ffff_ffff_ffff (natural (c ∷ cs)) ]

unfoldable pub unhex : List ℕ → Option (List ℕ)
unfolding hex_value
unhex [] = some []
unhex (a ∷ []) = none
unhex (a ∷ b ∷ cs) =
    elim (hex_value a) [
      | none ↦ none
      | some x ↦
          elim (hex_value b) [ none ↦ none | some y ↦ elim (unhex cs) [ none ↦ none | some bs ↦ some ((16 * x + y) ∷ bs) ] ]
    ]

unfoldable pub text_rules : Unit {0}
unfolding digit digits_before decimal signed hex digit_value hex_value number_from natural at_most unsigned32 negative signed64 unhex
text_rules = tt
