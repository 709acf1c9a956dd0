-- Texts with commas between, one more at a time. Assumes nothing.
use mathlib.Core.Path.{◌≡◌, refl, sym, ap, ◌∙◌}
use mathlib.Core.List.{List, [], ◌∷◌, ◌++◌, map, map-append, append_assoc}
use Prim.Native.Nat.{ℕ, zero, suc, ◌+◌, ◌*◌}
use native.Mathlib.Nat.{zero-add}
use native.Mathlib.Numerals.{add-one}
use native.Mathlib.Omega.{arith}
use lib.ListN.{set}
use Rattle.laws.specs.Basics.{rising, basics}
use Rattle.laws.proofs.Zeros.{rising_last}
use Rattle.rules.specs.Listing.{commas, listing_rules}
use Rattle.text_numbers.specs.Answers.{Printed}
use Rattle.sheet_print.specs.Printing.{Within, comma_before, listed}
use Rattle.sheet_print.proofs.PrintLaws.{nothing_printed, byte_printed, behind, printed_as}

-- ---- one more

commas_last : (t : List ℕ) (ts : List (List ℕ)) (x : List ℕ) → commas (t ∷ (ts ++ (x ∷ []))) ≡ commas (t ∷ ts) ++ (44 ∷ x)
unfolding listing_rules
commas_last t [] x = refl
commas_last t (u ∷ us) x =
    ap (λ (l : List ℕ). t ++ (44 ∷ l)) (commas_last u us x) ∙ sym (append_assoc t (44 ∷ commas (u ∷ us)) (44 ∷ x))

module _ (f : ℕ → List ℕ) where
  texts_last : (n : ℕ) → map f (rising 0 (suc n)) ≡ map f (rising 0 n) ++ (f n ∷ [])
  texts_last n =
      ap (map f) (rising_last 0 n) ∙ map-append f (rising 0 n) ((0 + n) ∷ [])
      ∙ ap (λ (k : ℕ). map f (rising 0 n) ++ (f k ∷ [])) (zero-add n)

  more : (n : ℕ) → listed f (suc n) ≡ listed f n ++ (comma_before n ++ f n)
  unfolding listed comma_before listing_rules basics
  more zero = refl
  more (suc n) = ap commas (texts_last (suc n)) ∙ commas_last (f 0) (map f (rising 1 n)) (f (suc n))

  pub listed_none : (l : List ℕ) (at : ℕ) → Within 0 l at (listed f 0) l at
  unfolding listed listing_rules basics
  listed_none l at = record { printed = nothing_printed l at; short = omega arith }

  -- the comma and the text were printed behind the first i
  module _ (l : List ℕ) (at i k : ℕ) {now next after : List ℕ} {p q r : ℕ} where
    pub listed_on : Within ((k + 1) * i) l at (listed f i) now p → Within 1 now p (comma_before i) next q → Within k next q (f i) after r
        → Within ((k + 1) * (i + 1)) l at (listed f (i + 1)) after r
    listed_on a b c =
        record {
          printed =
              printed_as (sym (more i) ∙ ap (listed f) (sym (add-one i)))
              (behind l at a.printed (behind now p b.printed c.printed));
          short = let e : (k + 1) * (i + 1) ≡ (k + 1) * i + (k + 1) = native.Mathlib.Nat.mul-add (k + 1) i 1 ∙ ap (λ (m : ℕ). (k + 1) * i + m) (native.Mathlib.Nat.mul-one (k + 1)) in
              omega (arith, a.short, b.short, c.short);
        }

-- ---- the comma

module _ (l : List ℕ) (at i : ℕ) where
  pub no_comma : i ≡ 0 → Within 1 l at (comma_before i) l at
  unfolding comma_before
  no_comma e = record { printed = printed_as (ap comma_before (sym e)) (nothing_printed l at); short = omega arith }

  pub a_comma : (i ≡ 0 → ⊥) → Within 1 l at (comma_before i) (set l at 44) (at + 1)
  unfolding comma_before
  a_comma d = record { printed = by i d; short = omega arith }
    where
      by : (i : ℕ) → (i ≡ 0 → ⊥) → Printed l at (comma_before i) (set l at 44) (at + 1)
      by zero d = absurd (d refl)
      by (suc i) d = byte_printed l at 44
