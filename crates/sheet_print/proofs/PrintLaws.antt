-- Texts printed one behind the other, and numbers behind their keys. Assumes nothing.
use mathlib.Core.Path.{◌≡◌, refl, ◌∙◌, subst}
use mathlib.Core.List.{List, [], ◌∷◌, ◌++◌, append_assoc}
use Prim.Native.Nat.{ℕ, ◌+◌, ◌*◌, ◌/◌, ◌≤◌, ◌<◌}
use native.Mathlib.Decide.{dec_lt}
use native.Mathlib.Omega.{arith}
use lib.ListN.{length, set, length-append}
use lib.Seq.{sets}
use Rattle.laws.proofs.Writing.{sets_append}
use Rattle.rules.specs.Numbers.{bits64}
use Rattle.rules.specs.Text.{decimal}
use Rattle.text_numbers.specs.Answers.{Printed, answers}
use Rattle.text_numbers.proofs.PrintLaws.{length-one, length_more, decimal_short}
use Rattle.sheet_print.specs.Printing.{most_line, Within}

-- ---- one behind the other

module _ (l : List ℕ) (at : ℕ) where
  pub byte_printed : (x : ℕ) → Printed l at (x ∷ []) (set l at x) (at + 1)
  unfolding answers
  byte_printed x = record { is = refl; end = refl }

  pub nothing_printed : Printed l at [] l at
  unfolding answers
  nothing_printed = record { is = refl; end = omega arith }

  module _ {a b middle after : List ℕ} {p r : ℕ} where
    pub behind : Printed l at a middle p → Printed middle p b after r → Printed l at (a ++ b) after r
    unfolding answers
    behind f g =
        record {
          is = g.is ∙ (λ j. sets (f.is j) (f.end j) b) ∙ sets_append l at a b;
          end = omega (arith, f.end, g.end, length-append a b);
        }

-- another text, the same
pub printed_as : {l t u after : List ℕ} {at r : ℕ} → t ≡ u → Printed l at t after r → Printed l at u after r
printed_as {l = l} {after = after} {at = at} {r = r} e p = subst (λ (t : List ℕ). Printed l at t after r) e p

pub within_as : {most : ℕ} {l t u after : List ℕ} {at r : ℕ} → t ≡ u → Within most l at t after r → Within most l at u after r
within_as {most} {l = l} {after = after} {at = at} {r = r} e p = subst (λ (t : List ℕ). Within most l at t after r) e p

-- a text that is short enough, and room that is more
pub bounded : {l t after : List ℕ} {at r : ℕ} (k : ℕ) → length t ≤ k → Printed l at t after r → Within k l at t after r
bounded k h p = record { printed = p; short = omega (arith, p.end) }

pub loosened : {k : ℕ} {l t after : List ℕ} {at r : ℕ} (m : ℕ) → k ≤ m → Within k l at t after r → Within m l at t after r
loosened m h p = record { printed = p.printed; short = omega (arith, p.short) }

-- ---- numbers behind their keys

module _ (l key : List ℕ) (at n : ℕ) (fits : n < bits64) where
  pub keyed : {middle after : List ℕ} {p r : ℕ} → Printed l at key middle p → Printed middle p (decimal n) after r → Within (length key + 20) l at (key ++ decimal n) after r
  keyed f g = record { printed = behind l at f g; short = omega (arith, f.end, g.end, decimal_short n fits) }

pub line_ended : (l key : List ℕ) (n : ℕ) {middle : List ℕ} {p : ℕ} → length key + 21 ≤ most_line → Within (length key + 20) l 0 (key ++ decimal n) middle p → Within most_line l 0 (key ++ (decimal n ++ (10 ∷ []))) (set middle p 10) (p + 1)
line_ended l key n {middle} {p} h f =
    record {
      printed = printed_as (append_assoc key (decimal n) (10 ∷ [])) (behind l 0 f.printed (byte_printed middle p 10));
      short = omega (arith, f.short);
    }

-- a slot's number
under : (d n m : ℕ) → (n / 10 < m → length (decimal (n / 10)) ≤ d) → n < 10 * m → length (decimal n) ≤ d + 1
under d n m short h =
    elim (dec_lt n 10) [
      | yes k ↦ omega (arith, length-one n k)
      | no k ↦ omega (arith, length_more n (omega arith), short (omega arith))
    ]

pub slot_short : (n : ℕ) → n < 4096 → length (decimal n) ≤ 4
slot_short n h =
    under 3 n 1000 (λ k. under 2 (n / 10) 100 (λ k. under 1 (n / 10 / 10) 10 (λ k. omega (arith, length-one (n / 10 / 10 / 10) k)) k) k) (omega arith)
