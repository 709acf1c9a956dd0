-- Decimals, digit by digit. Assumes nothing.
use mathlib.Core.Path.{◌≡◌, refl, sym, ap, ◌∙◌}
use mathlib.Core.Bool.{Bool, true, false, ◌&&◌, true≢false}
use mathlib.Core.List.{List, [], ◌∷◌}
use mathlib.Core.Option.{Option, none, some}
use Rattle.std.specs.Prelude as std
use Rattle.std.specs.Prelude.{Some, None, unwrap_or}
use Prim.Native.Nat.{ℕ, zero, suc, ◌+◌, ◌-◌, ◌*◌, ◌≤◌, ◌<◌}
use native.Mathlib.Numerals.{add-one}
use native.Mathlib.Omega.{arith}
use borrow.Author.Tests.{le-leb, lt-leb, leb-true, eq-eqb, ne_eqb, eqb-true}
use lib.Dec.{leb, eqb}
use lib.Pointwise.{pointwise}
use lib.ListN.{length, get_or, take, drop, drop_of_length-le}
use lib.Seq.{drop-cons}
use Rattle.laws.specs.Basics.{choose}
use Rattle.laws.proofs.Options.{none_some}
use Rattle.rules.specs.Numbers.{bits32, bits64}
use Rattle.rules.specs.Text.{digit_value, number_from, natural, at_most, unsigned32, negative, signed64, text_rules}
use Rattle.text_decimals.specs.Reads.{shown, rest, Step}

-- ---- at most

pub within_most : (most n : ℕ) → n ≤ most → at_most most (some n) ≡ some n
unfolding text_rules
within_most most n h = ap (λ (b : Bool). choose b (some n) none) (le-leb n most h)

pub past_most : (most n : ℕ) → most < n → at_most most (some n) ≡ none
unfolding text_rules
past_most most n h = ap (λ (b : Bool). choose b (some n) none) (lt-leb n most h)

pub most_small : (most n : ℕ) (o : Option ℕ) → at_most most o ≡ some n → n ≤ most
unfolding text_rules
most_small most n none e = absurd (none_some e)
most_small most n (some m) e = by (leb m most) refl e
  where
    by : (b : Bool) → leb m most ≡ b → choose b (some m) none ≡ some n → n ≤ most
    by true q e = let s : m ≡ n = cc in omega (arith, leb-true m most q)
    by false q e = absurd (none_some e)

-- "all others unsigned 32"
pub unsigned32_small : (t : List ℕ) (n : ℕ) → unsigned32 t ≡ some n → n < bits32
unfolding text_rules
unsigned32_small t n e = omega (arith, most_small (bits32 - 1) n (natural t) e)

-- ---- one digit more

pub no_low : (c : ℕ) → c < 48 → digit_value c ≡ none
unfolding text_rules
no_low c h = rw (lt-leb 48 c h)

pub no_high : (c : ℕ) → 48 ≤ c → 57 < c → digit_value c ≡ none
unfolding text_rules
no_high c l h = rw (le-leb 48 c l, lt-leb c 57 h)

pub a_digit : (c : ℕ) → 48 ≤ c → c ≤ 57 → digit_value c ≡ some (c - 48)
unfolding text_rules
a_digit c l h = rw (le-leb 48 c l, le-leb c 57 h)

-- the number after a digit, or none where it is no digit
after : ℕ → List ℕ → Option ℕ → Option ℕ
after n cs o = elim o [ none ↦ none | some d ↦ number_from (10 * n + d) cs ]

from_digit : (n c : ℕ) (cs : List ℕ) → number_from n (c ∷ cs) ≡ after n cs (digit_value c)
unfolding text_rules after
from_digit n c cs = refl

-- a number past the most stays past it
stays : (most n : ℕ) (cs : List ℕ) → most < n → at_most most (number_from n cs) ≡ none
unfolding text_rules after
stays most n [] h = past_most most n h
stays most n (c ∷ cs) h = by (digit_value c) (λ d. stays most (10 * n + d) cs (omega arith))
  where
    by : (o : Option ℕ) → ((d : ℕ) → at_most most (number_from (10 * n + d) cs) ≡ none) → at_most most (after n cs o) ≡ none
    by none again = refl
    by (some d) again = again d

module _ (most n c : ℕ) where
  steps : (o : Option ℕ) (r : std.Option ℕ) → digit_value c ≡ o → ((cs : List ℕ) → at_most most (after n cs o) ≡ rest most r cs) → (cs : List ℕ) → at_most most (number_from n (c ∷ cs)) ≡ rest most r cs
  steps o r e p cs = ap (at_most most) (from_digit n c cs ∙ ap (after n cs) e) ∙ p cs

  pub step_bad : none ≡ digit_value c → Step most n c None
  unfolding after text_rules rest
  step_bad e = record { is = steps none None (sym e) (λ cs. refl); small = omega arith }

  pub step_past : (d : ℕ) → some d ≡ digit_value c → most < 10 * n + d → Step most n c None
  unfolding after rest
  step_past d e p =
      record {
        is = steps (some d) None (sym e) (λ cs. stays most (10 * n + d) cs p);
        small = omega arith;
      }

  pub step_good : (d m : ℕ) → some d ≡ digit_value c → m ≡ 10 * n + d → m ≤ most → Step most n c (Some m)
  unfolding after rest
  step_good d m e q s =
      record {
        is = steps (some d) (Some m) (sym e) (λ cs. ap (λ (k : ℕ). at_most most (number_from k cs)) (sym q));
        small = s;
      }

-- ---- the digits of a text

module _ (most : ℕ) (t : List ℕ) where
  -- the text's number, of which n was read up to a place
  abbrev pub SoFar : ℕ → ℕ → Type 0
  SoFar n i = at_most most (number_from 0 t) ≡ at_most most (number_from n (drop i t))

  module _ (n i : ℕ) (now : SoFar n i) (h : i < length t) (r : std.Option ℕ) (s : Step most n (get_or t i 0) r) where
    turn : at_most most (number_from 0 t) ≡ rest most r (drop (i + 1) t)
    turn = now ∙ (rw (add-one, drop-cons t i 0) (s.is (drop (suc i) t)))

    pub stops : r ≡ None → none ≡ at_most most (number_from 0 t)
    unfolding rest
    stops e = sym (turn ∙ ap (λ (r : std.Option ℕ). rest most r (drop (i + 1) t)) e)

    pub bounded : (m : ℕ) → r ≡ Some m → m ≤ most
    bounded m e = omega (arith, s.small, ap (λ (r : std.Option ℕ). unwrap_or r 0) e)

    pub goes_on : (m : ℕ) → r ≡ Some m → SoFar m (i + 1)
    unfolding rest
    goes_on m e = turn ∙ ap (λ (r : std.Option ℕ). rest most r (drop (i + 1) t)) e

  pub ends : (n i : ℕ) → SoFar n i → n ≤ most → length t ≤ i → some n ≡ at_most most (number_from 0 t)
  unfolding text_rules
  ends n i now s h = sym (now ∙ ap (λ (l : List ℕ). at_most most (number_from n l)) (drop_of_length-le t h) ∙ within_most most n s)

-- ---- no leading zero

module _ (most : ℕ) where
  pub natural_none : (t : List ℕ) → length t ≡ 0 → none ≡ at_most most (natural t)
  unfolding text_rules
  natural_none [] h = refl
  natural_none (c ∷ cs) h = absurd (omega arith)

  pub natural_one : (t : List ℕ) → length t ≡ 1 → at_most most (number_from 0 t) ≡ at_most most (natural t)
  unfolding text_rules
  natural_one [] h = absurd (omega arith)
  natural_one (c ∷ []) h = refl
  natural_one (c ∷ d ∷ cs) h = absurd (omega arith)

  pub natural_led : (t : List ℕ) → 2 ≤ length t → get_or t 0 0 ≡ 48 → none ≡ at_most most (natural t)
  unfolding text_rules
  natural_led [] h e = absurd (omega arith)
  natural_led (c ∷ []) h e = absurd (omega arith)
  natural_led (c ∷ d ∷ cs) h e =
      sym (ap (λ (b : Bool). at_most most (elim b [ true ↦ none | false ↦ number_from 0 (c ∷ d ∷ cs) ])) (eq-eqb c 48 e))

  pub natural_more : (t : List ℕ) → 2 ≤ length t → (get_or t 0 0 ≡ 48 → ⊥) → at_most most (number_from 0 t) ≡ at_most most (natural t)
  unfolding text_rules
  natural_more [] h e = absurd (omega arith)
  natural_more (c ∷ []) h e = absurd (omega arith)
  natural_more (c ∷ d ∷ cs) h e =
      sym (ap (λ (b : Bool). at_most most (elim b [ true ↦ none | false ↦ number_from 0 (c ∷ d ∷ cs) ])) (ne_eqb c 48 e))

-- ---- signed

pub no_zero : (m : ℕ) → m ≡ 0 → none ≡ negative (some m)
unfolding text_rules
no_zero m z = sym (ap (λ (m : ℕ). negative (some m)) z)

pub negated : (m k : ℕ) → (m ≡ 0 → ⊥) → k ≡ bits64 - m → some k ≡ negative (some m)
unfolding text_rules
negated zero k d s = absurd (d refl)
negated (suc m) k d s = ap (λ (k : ℕ). some k) s

signed_minus : (cs : List ℕ) → negative (at_most 0x8000_0000_0000_0000 (natural cs)) ≡ signed64 (45 ∷ cs)
unfolding text_rules
signed_minus cs = refl

-- what follows a minus
pub signed_by : (t rest : List ℕ) (r : std.Option ℕ) → pointwise eqb (take 1 t) (45 ∷ []) ≡ true → rest ≡ drop 1 t → shown r ≡ at_most 0x8000_0000_0000_0000 (natural rest) → negative (shown r) ≡ signed64 t
signed_by [] rest r h e q = absurd (true≢false (sym h))
signed_by (c ∷ cs) rest r h e q =
    let m : c ≡ 45 = eqb-true c 45 (by (eqb c 45) h) in
    ap negative (q ∙ ap (λ (l : List ℕ). at_most 0x8000_0000_0000_0000 (natural l)) e)
    ∙ signed_minus cs ∙ ap (λ (n : ℕ). signed64 (n ∷ cs)) (sym m)
  where
    by : (b : Bool) → (b && true) ≡ true → b ≡ true
    by true e = refl
    by false e = e

-- no minus
pub signed_plain : (t : List ℕ) → pointwise eqb (take 1 t) (45 ∷ []) ≡ false → at_most 0x7fff_ffff_ffff_ffff (natural t) ≡ signed64 t
unfolding text_rules
signed_plain [] h = refl
signed_plain (c ∷ cs) h = by (eqb c 45) h
  where
    by : (b : Bool) → (b && true) ≡ false → at_most 0x7fff_ffff_ffff_ffff (natural (c ∷ cs)) ≡ elim b [ true ↦ negative (at_most 0x8000_0000_0000_0000 (natural cs)) | false ↦ at_most 0x7fff_ffff_ffff_ffff (natural (c ∷ cs)) ]
    by true e = absurd (true≢false e)
    by false e = refl
