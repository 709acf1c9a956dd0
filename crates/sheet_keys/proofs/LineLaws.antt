-- What a caller may use of a line's end: the rules' lines of a text, the first of them taken off. Assumes nothing.
use mathlib.Core.Path.{◌≡◌, sym, ap, ◌∙◌}
use mathlib.Core.Bool.{Bool, true, false}
use mathlib.Core.List.{List, [], ◌∷◌, ◌++◌, append-nil, append_assoc}
use mathlib.Core.Option.{Option, none, some}
use Prim.Native.Nat.{ℕ, suc, ◌+◌, ◌-◌, ◌≤◌}
use native.Mathlib.Omega.{arith}
use lib.Dec.{eqb}
use lib.ListN.{take, drop}
use lib.Seq.{drop-drop}
use Rattle.laws.proofs.Options.{none_some, some_value}
use Rattle.rules.specs.Sheet.{lines_from, lines, sheet_rules}
use Rattle.sheet_keys.specs.Places.{first_from}
use Rattle.sheet_keys.proofs.KeyLaws.{placed}

-- a line before the others
unfoldable pub and_line : List ℕ → Option (List (List ℕ)) → Option (List (List ℕ))
and_line l o = elim o [ none ↦ none | some ls ↦ some (l ∷ ls) ]

-- no line end: only an empty rest is well ended
unfoldable pub only_empty : List ℕ → Option (List (List ℕ))
only_empty l = elim l [ [] ↦ some [] | c ∷ cs ↦ none ]

found_from : (line cs : List ℕ) (i p : ℕ) → first_from 10 i cs ≡ some p → i ≤ p → lines_from line cs ≡ and_line (line ++ take (p - i) cs) (lines_from [] (drop (p - i + 1) cs))
unfolding sheet_rules first_from and_line
found_from line [] i p e h = absurd (none_some e)
found_from line (c ∷ cs) i p e h = by (eqb c 10) e (λ q k. found_from (line ++ (c ∷ [])) cs (suc i) p q k)
  where
    by : (b : Bool) → ◌≡◌ {A = Option ℕ} (elim b [ true ↦ some i | false ↦ first_from 10 (suc i) cs ]) (some p) → (first_from 10 (suc i) cs ≡ some p → suc i ≤ p → lines_from (line ++ (c ∷ [])) cs ≡ and_line ((line ++ (c ∷ [])) ++ take (p - suc i) cs) (lines_from [] (drop (p - suc i + 1) cs))) → ◌≡◌ {A = Option (List (List ℕ))} (elim b [ true ↦ and_line line (lines_from [] cs) | false ↦ lines_from (line ++ (c ∷ [])) cs ]) (and_line (line ++ take (p - i) (c ∷ cs)) (lines_from [] (drop (p - i + 1) (c ∷ cs))))
    by true e again =
        let z : 0 ≡ p - i = omega (arith, some_value e) in
        ap (λ (l : List ℕ). and_line l (lines_from [] cs)) (sym (append-nil line))
        ∙ ap (λ (k : ℕ). and_line (line ++ take k (c ∷ cs)) (lines_from [] (drop (k + 1) (c ∷ cs)))) z
    by false e again =
        let r = placed 10 (suc i) cs p e in
        let more : suc (p - suc i) ≡ p - i = omega (arith, r.from) in
        let next : suc (p - suc i + 1) ≡ p - i + 1 = omega (arith, r.from) in
        again e r.from
        ∙ ap (λ (l : List ℕ). and_line l (lines_from [] (drop (p - suc i + 1) cs))) (append_assoc line (c ∷ []) (take (p - suc i) cs))
        ∙ (λ j. and_line (line ++ take (more j) (c ∷ cs)) (lines_from [] (drop (next j) (c ∷ cs))))

none_from : (line cs : List ℕ) (i : ℕ) → first_from 10 i cs ≡ none → lines_from line cs ≡ only_empty (line ++ cs)
unfolding sheet_rules first_from only_empty
none_from line [] i e = ap only_empty (sym (append-nil line))
none_from line (c ∷ cs) i e = by (eqb c 10) e (λ q. none_from (line ++ (c ∷ [])) cs (suc i) q)
  where
    by : (b : Bool) → ◌≡◌ {A = Option ℕ} (elim b [ true ↦ some i | false ↦ first_from 10 (suc i) cs ]) none → (first_from 10 (suc i) cs ≡ none → lines_from (line ++ (c ∷ [])) cs ≡ only_empty ((line ++ (c ∷ [])) ++ cs)) → ◌≡◌ {A = Option (List (List ℕ))} (elim b [ true ↦ elim (lines_from [] cs) [ none ↦ none | some ls ↦ some (line ∷ ls) ] | false ↦ lines_from (line ++ (c ∷ [])) cs ]) (only_empty (line ++ (c ∷ cs)))
    by true e again = absurd (none_some (sym e))
    by false e again = again e ∙ ap only_empty (append_assoc line (c ∷ []) cs)

module _ (t : List ℕ) (from : ℕ) where
  pub line_found : (e : ℕ) → first_from 10 from (drop from t) ≡ some e → lines (drop from t) ≡ and_line (take (e - from) (drop from t)) (lines (drop (e + 1) t))
  unfolding sheet_rules
  line_found e q =
      let r = placed 10 from (drop from t) e q in
      let past : from + (e - from + 1) ≡ e + 1 = omega (arith, r.from) in
      found_from [] (drop from t) from e q r.from
      ∙ ap (λ (l : List ℕ). and_line (take (e - from) (drop from t)) (lines_from [] l)) (drop-drop (e - from + 1) from t ∙ ap (λ (n : ℕ). drop n t) past)

  pub line_missing : first_from 10 from (drop from t) ≡ none → lines (drop from t) ≡ only_empty (drop from t)
  unfolding sheet_rules
  line_missing q = none_from [] (drop from t) from q
