-- Decimals and hex, written. Assumes nothing.
use mathlib.Core.Path.{◌≡◌, refl, sym, ap, ◌∙◌, subst}
use mathlib.Core.Bool.{Bool, true, false}
use mathlib.Core.List.{List, [], ◌∷◌, ◌++◌, append_assoc}
use Prim.Native.Nat.{ℕ, zero, suc, ◌+◌, ◌-◌, ◌*◌, ◌/◌, ◌%◌, ◌^◌, ◌≤◌, ◌<◌}
use native.Mathlib.Decide.{dec_lt}
use native.Mathlib.Nat.{pow-suc}
use native.Mathlib.Omega.{arith}
use borrow.Author.Tests.{lt-ltb, le-ltb, ltb-true, ltb-false}
use lib.Dec.{ltb}
use lib.ListN.{length, get_or, set, drop, length-append, drop_of_length-le}
use lib.Seq.{sets, drop-cons}
use Rattle.laws.specs.Basics.{choose, basics}
use Rattle.rules.specs.Numbers.{bits64}
use Rattle.rules.specs.Text.{digit, digits_before, decimal, signed, hex, text_rules}
use Rattle.std.specs.Fmt as std
use Rattle.std.specs.Int.{cast_signed}
use Rattle.std.specs.Prelude.{ℤ, pos, negsuc, Option, Some, None, IfSome, IfNone, unwrap_or}
use mir.Val.{sel, of_z}
use Rattle.std.proofs.lemmas.Int.{to_z_pos, of_z-to_z}
use Rattle.std.proofs.Common.{w64}
use Rattle.std.proofs.lemmas.Fmt.{decimal_by_steps}
use Rattle.std.proofs.lemmas.List.Edits.{sets-eq, paste_all}
use Rattle.std.proofs.lemmas.Slice.{put_mid-paste}
use borrow.Rule.Slice.PartMut.{put_mid}
use Rattle.text_numbers.specs.Answers.{written, Printed, answers}

-- ---- digits

pub digit_low : (n : ℕ) → n < 10 → digit n ≡ 48 + n
unfolding text_rules
digit_low n h = ap (λ (b : Bool). choose b (48 + n) (87 + n)) (lt-ltb n 10 h)

pub digit_high : (n : ℕ) → 10 ≤ n → digit n ≡ 97 + (n - 10)
unfolding text_rules
digit_high n h = ap (λ (b : Bool). choose b (48 + n) (87 + n)) (le-ltb n 10 h) ∙ omega arith

-- every bound that is enough gives the same digits
enough : (f g n : ℕ) (later : List ℕ) → n ≤ f → n ≤ g → digits_before f n later ≡ digits_before g n later
unfolding text_rules
enough zero zero n later p q = refl
enough zero (suc g) zero later p q = refl
enough zero (suc g) (suc n) later p q = absurd (omega arith)
enough (suc f) zero zero later p q = refl
enough (suc f) zero (suc n) later p q = absurd (omega arith)
enough (suc f) (suc g) n later p q =
    ap (λ (l : List ℕ). elim (ltb n 10) [ true ↦ digit n ∷ later | false ↦ l ])
    (enough f g (n / 10) (digit (n % 10) ∷ later) (omega arith) (omega arith))

-- what stands later stays behind
behind : (f n : ℕ) (later : List ℕ) → digits_before f n later ≡ digits_before f n [] ++ later
unfolding text_rules
behind zero n later = refl
behind (suc f) n later = by (ltb n 10) (λ l. behind f (n / 10) l)
  where
    by : (b : Bool) → ((l : List ℕ) → digits_before f (n / 10) l ≡ digits_before f (n / 10) [] ++ l)
        → ◌≡◌ {A = List ℕ}
        (elim b [ true ↦ digit n ∷ later | false ↦ digits_before f (n / 10) (digit (n % 10) ∷ later) ])
        (elim b as (λ b. List ℕ) [ true ↦ digit n ∷ [] | false ↦ digits_before f (n / 10) (digit (n % 10) ∷ []) ] ++ later)
    by true again = refl
    by false again =
        again (digit (n % 10) ∷ later)
        ∙ sym (append_assoc (digits_before f (n / 10) []) (digit (n % 10) ∷ []) later)
        ∙ ap (λ (l : List ℕ). l ++ later) (sym (again (digit (n % 10) ∷ [])))

pub decimal_one : (n : ℕ) → n < 10 → decimal n ≡ digit n ∷ []
unfolding text_rules
decimal_one zero h = refl
decimal_one (suc n) h =
    ap (λ (b : Bool). elim b [ true ↦ digit (suc n) ∷ [] | false ↦ digits_before n (suc n / 10) (digit (suc n % 10) ∷ []) ])
    (lt-ltb (suc n) 10 h)

pub decimal_more : (n : ℕ) → 10 ≤ n → decimal n ≡ decimal (n / 10) ++ (digit (n % 10) ∷ [])
unfolding text_rules
decimal_more zero h = absurd (omega arith)
decimal_more (suc n) h =
    ap (λ (b : Bool). elim b [ true ↦ digit (suc n) ∷ [] | false ↦ digits_before n (suc n / 10) (digit (suc n % 10) ∷ []) ])
    (le-ltb (suc n) 10 h)
    ∙ behind n (suc n / 10) (digit (suc n % 10) ∷ [])
    ∙ ap (λ (l : List ℕ). l ++ (digit (suc n % 10) ∷ [])) (enough n (suc n / 10) (suc n / 10) [] (omega arith) (omega arith))

-- ---- how many

pub length-one : (n : ℕ) → n < 10 → length (decimal n) ≡ 1
length-one n h = ap length (decimal_one n h)

pub length_more : (n : ℕ) → 10 ≤ n → length (decimal n) ≡ length (decimal (n / 10)) + 1
length_more n h = ap length (decimal_more n h) ∙ length-append (decimal (n / 10)) (digit (n % 10) ∷ [])

-- a number of 64 bits has at most 20 digits, and with its minus at most 20 characters
short : (d n : ℕ) → n < 10 ^ suc d → length (decimal n) ≤ suc d
short zero n h = omega (arith, length-one n h)
short (suc d) n h =
    elim (dec_lt n 10) [
      | yes k ↦ omega (arith, length-one n k)
      | no k ↦
          let p : n < 10 ^ suc d * 10 = subst (λ (k : ℕ). n < k) (pow-suc 10 (suc d)) h in
          omega (arith, length_more n (omega arith), short d (n / 10) (omega arith))
    ]

pub decimal_short : (n : ℕ) → n < bits64 → length (decimal n) ≤ 20
decimal_short n h = let e : 10 ^ 20 ≡ 100000000000000000000 = refl in short 19 n (omega (arith, e))

pub one_at_least : (n : ℕ) → 1 ≤ length (decimal n)
one_at_least n =
    elim (dec_lt n 10) [ yes k ↦ omega (arith, length-one n k) | no k ↦ omega (arith, length_more n (omega arith)) ]

-- one digit more than the power of ten that is at most the number
pub power_digits : (k n : ℕ) → 10 ^ k ≤ n → n < 10 * 10 ^ k → 1 + k ≡ length (decimal n)
power_digits zero n p q = omega (arith, length-one n (omega arith))
power_digits (suc k) n p q =
    let e : 10 ^ suc k ≡ 10 ^ k * 10 = pow-suc 10 k in
    let some : 1 ≤ 10 ^ k = omega arith in
    omega (arith, length_more n (omega (arith, e)), power_digits k (n / 10) (omega (arith, e)) (omega (arith, e)))

pub log_digits : (n : ℕ) (o : Option ℕ) → IfNone o (n ≡ 0) → IfSome o (λ k. 10 ^ k ≤ n) → IfSome o (λ k. n < 10 * 10 ^ k) → 1 + unwrap_or o 0 ≡ length (decimal n)
log_digits n None z p q = sym (length-one n (omega (arith, z)))
log_digits n (Some k) z p q = power_digits k n p q

-- ---- std's digits

pub std_decimal : (n : ℕ) → n < bits64 → std.decimal n ≡ decimal n
std_decimal n h =
    decimal_by_steps
    (λ n ds. ds ≡ decimal n)
    (λ n k. sym (decimal_one n k ∙ ap (λ (d : ℕ). d ∷ []) (digit_low n k)))
    (λ n ds k e.
    sym (decimal_more n k ∙ (λ j. sym e j ++ (digit_low (n % 10) (omega arith) j ∷ []))))
    n
    h

-- ---- signed

pub signed_low : (n : ℕ) → n < 0x8000_0000_0000_0000 → signed n ≡ decimal n
unfolding text_rules
signed_low n h = ap (λ (b : Bool). elim b [ true ↦ decimal n | false ↦ 45 ∷ decimal (bits64 - n) ]) (lt-ltb n 0x8000_0000_0000_0000 h)

pub signed_high : (n : ℕ) → 0x8000_0000_0000_0000 ≤ n → signed n ≡ 45 ∷ decimal (bits64 - n)
unfolding text_rules
signed_high n h = ap (λ (b : Bool). elim b [ true ↦ decimal n | false ↦ 45 ∷ decimal (bits64 - n) ]) (le-ltb n 0x8000_0000_0000_0000 h)

pub signed_short : (n : ℕ) → n < bits64 → length (signed n) ≤ 20
signed_short n h =
    elim (dec_lt n 0x8000_0000_0000_0000) [
      | yes k ↦ omega (arith, ap length (signed_low n k), decimal_short n h)
      | no k ↦
          let e : 10 ^ 19 ≡ 10000000000000000000 = refl in
          omega (arith, ap length (signed_high n (omega arith)), short 18 (bits64 - n) (omega (arith, e)))
    ]

pub length_minus : (n : ℕ) → 0x8000_0000_0000_0000 ≤ n → n < bits64 → length (signed n) ≡ 1 + length (decimal (18446744073709551615 - n + 1))
length_minus n h k =
    let e : bits64 - n ≡ 18446744073709551615 - n + 1 = omega arith in
    ap length (signed_high n h) ∙ ap (λ (k : ℕ). suc (length (decimal k))) e ∙ omega arith

-- std's text of the 64 bits, read as signed
pub std_signed : (n : ℕ) → n < bits64 → std.signed_decimal (cast_signed w64 n) ≡ signed n
std_signed n h = by (ltb n 0x8000_0000_0000_0000) refl
  where
    by : (b : Bool) → ltb n 0x8000_0000_0000_0000 ≡ b → std.signed_decimal (cast_signed w64 n) ≡ signed n
    by true e =
        let k : n < 0x8000_0000_0000_0000 = omega (arith, ltb-true n 0x8000_0000_0000_0000 e) in
        ap std.signed_decimal (to_z_pos w64 n k) ∙ std_decimal n h ∙ sym (signed_low n k)
    by false e =
        let k : 0x8000_0000_0000_0000 ≤ n = omega (arith, ltb-false n 0x8000_0000_0000_0000 e) in
        let m : suc (2 ^ 64 - suc n) ≡ bits64 - n = omega arith in
        ap (λ (b : Bool). std.signed_decimal (sel b (pos n) (negsuc (2 ^ 64 - suc n)))) e
        ∙ ap (λ (d : ℕ). 45 ∷ std.decimal d) m
        ∙ ap (λ (l : List ℕ). 45 ∷ l) (std_decimal (bits64 - n) (omega arith))
        ∙ sym (signed_high n k)

-- std's text of a number that was cast
pub cast_text : (n : ℕ) (z : ℤ) → n < bits64 → z ≡ cast_signed w64 n → std.signed_decimal (cast_signed w64 (of_z w64 z)) ≡ signed n
cast_text n z h e =
    ap (λ (z : ℤ). std.signed_decimal (cast_signed w64 (of_z w64 z))) e
    ∙ ap (λ (m : ℕ). std.signed_decimal (cast_signed w64 m)) (of_z-to_z w64 n h)
    ∙ std_signed n h

-- ---- written at once

pub put_printed : (l t t' : List ℕ) (at : ℕ) → t' ≡ t → at + length t ≤ length l → Printed l at t (put_mid at (at + length t - at) l t') (at + length t)
unfolding answers
put_printed l t t' at e h =
    let n : length t ≡ at + length t - at = omega arith in
    record {
      is =
          put_mid-paste at (at + length t - at) l t' t (length t) e n refl
          ∙ paste_all l at t (length t) refl
          ∙ rw (sets-eq t l at h, append_assoc) refl;
      end = refl;
    }

-- ---- hex

pub length-hex : (t : List ℕ) → length (hex t) ≡ 2 * length t
unfolding text_rules basics
length-hex [] = refl
length-hex (b ∷ t) = omega (arith, length-hex t)

pub hex_written : (l t : List ℕ) (at i a b : ℕ) → i < length t → a ≡ digit (get_or t i 0 / 16) → b ≡ digit (get_or t i 0 % 16)
    → written (set (set l (at + 2 * i) a) (at + 2 * i + 1) b) (at + 2 * (i + 1)) (hex (drop (i + 1) t)) ≡ written l (at + 2 * i) (hex (drop i t))
unfolding answers text_rules basics
hex_written l t at i a b h p q =
    let one : at + 2 * i + 1 ≡ suc (at + 2 * i) = omega arith in
    let two : at + 2 * (i + 1) ≡ suc (suc (at + 2 * i)) = omega arith in
    let next : i + 1 ≡ suc i = omega arith in
    (λ j. sets (set (set l (at + 2 * i) (p j)) (one j) (q j)) (two j) (hex (drop (next j) t)))
    ∙ ap (λ (t : List ℕ). sets l (at + 2 * i) (hex t)) (sym (drop-cons t i 0 h))

pub hex_done : (l t : List ℕ) (at i : ℕ) → length t ≤ i → l ≡ written l at (hex (drop i t))
unfolding answers text_rules basics
hex_done l t at i h = sym (ap (λ (t : List ℕ). sets l at (hex t)) (drop_of_length-le t h))
