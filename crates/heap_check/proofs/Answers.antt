-- What a caller may use of an answer of the check. Assumes nothing.
use mathlib.Core.Path.{◌≡◌, refl, sym, ap, ◌∙◌}
use mathlib.Core.Bool.{Bool, true, false}
use mathlib.Core.List.{List}
use mathlib.Core.Option.{Option, none, some}
use Prim.Native.Nat.{ℕ}
use Rattle.laws.proofs.Bytes.{all_bytes}
use Rattle.laws.proofs.Options.{none_some}
use Rattle.rules.specs.Refusals.{Refusal, malformed}
use Rattle.rules.specs.Datum.{Datum, encode, Parse, good, bad, parse, datum_fits, within_limits, early_reference}
use Rattle.rules.proofs.Datum.{encode_parse, parse_fits}
use Rattle.std.specs.Prelude.{Result, Ok}
use Rattle.refusals.specs.declared.Refusal as code
use Rattle.heap_tally.specs.Pass.{limits}
use Rattle.heap_check.specs.Verdict.{verdict, checked_of}

-- a datum that passes: its tree, whose bytes these are, within 11's, 12's and 13's rules
pub record Accepted (bs : List ℕ) : Type 0 where
  pub tree : Datum
  pub parses : parse bs ≡ good tree
  pub written : encode tree ≡ bs
  pub fits : datum_fits tree ≡ true
  pub within : within_limits tree ≡ true
  pub labels : early_reference tree ≡ false

passes : (w e : Bool) → limits w e ≡ none → (w ≡ true) × (e ≡ false)
unfolding limits
passes true true h = absurd (none_some (sym h))
passes true false h = (refl, refl)
passes false e h = absurd (none_some (sym h))

pub accepted : (bs : List ℕ) (r : Result (Unit {0}) code.Refusal) → all_bytes bs ≡ true → checked_of r ≡ verdict bs → r ≡ Ok tt → Accepted bs
unfolding verdict
accepted bs r h is e = go (parse bs) refl (sym is ∙ ap checked_of e)
  where
    go : (p : Parse) → parse bs ≡ p → ◌≡◌ {A = Option Refusal} (elim p [ good d ↦ limits (within_limits d) (early_reference d) | bad f n ↦ some (malformed f n) ]) none → Accepted bs
    go (good d) q z =
        let both = passes (within_limits d) (early_reference d) z in
        record {
          tree = d;
          parses = q;
          written = encode_parse bs d h q;
          fits = parse_fits bs d h q;
          within = both.0;
          labels = both.1;
        }
    go (bad f n) q z = absurd (none_some (sym z))
