-- The forms of a line, and SCOPE:HEX. Assumes nothing.
use mathlib.Core.Path.{◌≡◌, refl, sym, ap, ◌∙◌, subst}
use mathlib.Core.Bool.{Bool, true, false}
use mathlib.Core.List.{List, [], ◌∷◌, ◌++◌, map, append-nil, append_assoc}
use mathlib.Core.Option.{Option, none, some}
use Prim.Native.Nat.{ℕ, zero, suc, ◌+◌, ◌-◌, ◌≤◌, ◌<◌}
use native.Mathlib.Numerals.{add-one}
use native.Mathlib.Omega.{arith}
use lib.Dec.{eqb}
use lib.ListN.{length, get_or, take, drop, drop_of_length-le}
use lib.Seq.{drop-cons}
use Rattle.laws.specs.Basics.{little}
use Rattle.laws.proofs.Writing.{to_end}
use Rattle.laws.proofs.Options.{none_some, some_value}
use Rattle.rules.specs.Text.{unsigned32}
use Rattle.rules.specs.Sheet.{Line, Form, value_of, then_read, hexed, scoped_from, scoped, forms, read_form, node_line, sheet_rules}
use Rattle.std.specs.Prelude as std
use Rattle.std.specs.Prelude.{None, Some, IfSome}
use Rattle.std.specs.Borrow.{Bor}
use Rattle.sheet_lines.specs.declared.Form as code
use Rattle.sheet_lines.specs.declared.Form.TheVariants as form
use Rattle.sheet_lines.specs.declared.TheConstants.{FORMS}
use Rattle.sheet_keys.specs.Places.{first_from, Keyed}
use Rattle.sheet_nodes.specs.declared.Node.{Node}
use Rattle.sheet_nodes.specs.Written.{Lined}
use Rattle.sheet_lines.specs.Lines.{no_form, form_at, form_of, FormRead, scoped_at, lines_words}
use Rattle.sheet_keys.proofs.KeyLaws.{no_value, a_value}
use Rattle.sheet_nodes.proofs.NodeLaws.{then_none, then_some, lined_bad, lined_same}

-- ---- forms

length-forms : length forms ≡ 14
unfolding sheet_rules
length-forms = refl

same_at : {A B : Type 0} (f : A → B) (l : List A) (k : ℕ) (d : A) (e : B) → k < length l → get_or (map f l) k e ≡ f (get_or l k d)
same_at f [] k d e h = absurd (omega arith)
same_at f (x ∷ l) zero d e h = refl
same_at f (x ∷ l) (suc k) d e h = same_at f l k d e (omega arith)

the_forms : map form_of FORMS ≡ forms
unfolding sheet_rules lines_words
the_forms = refl

-- the code's list is the rules'
abbrev code_form : ℕ → code.Form
code_form k = get_or FORMS k form.Bool

form_there : (k : ℕ) → k < 14 → form_at k ≡ form_of (code_form k)
unfolding lines_words
form_there k h = ap (λ (l : List Form). get_or l k no_form) (sym the_forms) ∙ same_at form_of FORMS k form.Bool no_form h

module _ (line : List ℕ) where
  abbrev pub Tried : ℕ → Type 0
  Tried k = read_form forms line ≡ read_form (drop k forms) line

  module _ (k : ℕ) (now : Tried k) (h : k < 14) (key : List ℕ) (its : key ≡ (form_of (code_form k)).key) (r : std.Option (Bor (List ℕ))) (q : Keyed key line r) where
    abbrev next_forms : Option (List ℕ) → Option Line
    next_forms o = elim o [ none ↦ read_form (drop (suc k) forms) line | some v ↦ (form_of (code_form k)).read v ]

    tried : read_form forms line ≡ next_forms (value_of key line)
    unfolding lines_words read_form
    tried =
        now ∙ ap (λ (fs : List Form). read_form fs line) (drop-cons forms k no_form (omega (arith, length-forms)))
        ∙ ap (λ (f : Form). elim (value_of f.key line) [ none ↦ read_form (drop (suc k) forms) line | some v ↦ f.read v ]) (form_there k h)
        ∙ ap (λ (l : List ℕ). next_forms (value_of l line)) (sym its)

    pub other_form : r ≡ None → Tried (k + 1)
    other_form e =
        tried
        ∙ ap next_forms (no_value q e)
        ∙ ap (λ (n : ℕ). read_form (drop n forms) line) (sym (add-one k))

    pub this_form : (v : Bor (List ℕ)) → r ≡ Some v → FormRead line (Some (code_form k, v))
    unfolding lines_words
    this_form v e =
        record {
          is =
              tried
              ∙ ap next_forms (a_value q v e);
          inside = subst (λ (r : std.Option (Bor (List ℕ))). IfSome r (λ v. length v.now ≤ length line)) e q.inside;
        }

  pub no_form_left : (k : ℕ) → Tried k → 14 ≤ k → FormRead line None
  unfolding lines_words read_form
  no_form_left k now h =
      record {
        is = now ∙ ap (λ (fs : List Form). read_form fs line) (drop_of_length-le forms {i = k} (omega (arith, length-forms)));
        inside = tt;
      }

module _ (line : List ℕ) where
  pub no_line : FormRead line None → node_line line ≡ none
  unfolding node_line lines_words
  no_line f = f.is

  pub the_line : (f : code.Form) (v : Bor (List ℕ)) → FormRead line (Some (f, v)) → (form_of f).read v.now ≡ node_line line
  unfolding node_line lines_words
  the_line f v r = sym r.is

-- ---- SCOPE:HEX

-- the colon's place
pub record Colon (scope cs : List ℕ) (i p : ℕ) : Type 0 where
  pub from : i ≤ p
  pub inside : p < i + length cs
  pub is : scoped_from scope cs ≡ then_read (unsigned32 (scope ++ take (p - i) cs)) (λ n. hexed (11 ∷ little 4 n) (drop (p - i + 1) cs))

colon : (scope cs : List ℕ) (i p : ℕ) → first_from 58 i cs ≡ some p → Colon scope cs i p
unfolding sheet_rules first_from lines_words
colon scope [] i p e = absurd (none_some e)
colon scope (c ∷ cs) i p e = by (eqb c 58) refl e (λ q. colon (scope ++ (c ∷ [])) cs (suc i) p q)
  where
    by : (b : Bool) → eqb c 58 ≡ b → ◌≡◌ {A = Option ℕ} (elim b [ true ↦ some i | false ↦ first_from 58 (suc i) cs ]) (some p) → (first_from 58 (suc i) cs ≡ some p → Colon (scope ++ (c ∷ [])) cs (suc i) p) → Colon scope (c ∷ cs) i p
    by true q e again =
        let s : i ≡ p = some_value e in
        let z : p - i ≡ 0 = omega arith in
        record {
          from = omega arith;
          inside = omega arith;
          is =
              ap (λ (b : Bool). elim b [ true ↦ then_read (unsigned32 scope) (λ n. hexed (11 ∷ little 4 n) cs) | false ↦ scoped_from (scope ++ (c ∷ [])) cs ]) q
              ∙ (λ j. then_read (unsigned32 (sym (append-nil scope) j)) (λ n. hexed (11 ∷ little 4 n) cs))
              ∙ ap (λ (k : ℕ). then_read (unsigned32 (scope ++ take k (c ∷ cs))) (λ n. hexed (11 ∷ little 4 n) (drop (k + 1) (c ∷ cs)))) (sym z);
        }
    by false q e again =
        let r = again e in
        let more : p - i ≡ suc (p - suc i) = omega (arith, r.from) in
        let after : p - i + 1 ≡ suc (p - suc i + 1) = omega (arith, r.from) in
        record {
          from = omega (arith, r.from);
          inside = omega (arith, r.inside);
          is =
              ap (λ (b : Bool). elim b [ true ↦ then_read (unsigned32 scope) (λ n. hexed (11 ∷ little 4 n) cs) | false ↦ scoped_from (scope ++ (c ∷ [])) cs ]) q
              ∙ r.is
              ∙ (λ j. then_read (unsigned32 (append_assoc scope (c ∷ []) (take (p - suc i) cs) j)) (λ n. hexed (11 ∷ little 4 n) (drop (p - suc i + 1) cs)))
              ∙ (λ j. then_read (unsigned32 (scope ++ take (sym more j) (c ∷ cs))) (λ n. hexed (11 ∷ little 4 n) (drop (sym after j) (c ∷ cs))));
        }

no_colon : (scope cs : List ℕ) (i : ℕ) → first_from 58 i cs ≡ none → scoped_from scope cs ≡ none
unfolding sheet_rules first_from lines_words
no_colon scope [] i e = refl
no_colon scope (c ∷ cs) i e = by (eqb c 58) e (λ q. no_colon (scope ++ (c ∷ [])) cs (suc i) q)
  where
    by : (b : Bool) → ◌≡◌ {A = Option ℕ} (elim b [ true ↦ some i | false ↦ first_from 58 (suc i) cs ]) none → (first_from 58 (suc i) cs ≡ none → scoped_from (scope ++ (c ∷ [])) cs ≡ none) → ◌≡◌ {A = Option Line} (elim b [ true ↦ then_read (unsigned32 scope) (λ n. hexed (11 ∷ little 4 n) cs) | false ↦ scoped_from (scope ++ (c ∷ [])) cs ]) none
    by true e again = absurd (none_some (sym e))
    by false e again = again e

module _ (t : List ℕ) where
  pub unscoped : none ≡ first_from 58 0 t → scoped t ≡ none
  unfolding sheet_rules
  unscoped f = no_colon [] t 0 (sym f)

  module _ (p : ℕ) (f : some p ≡ first_from 58 0 t) where
    the_colon : Colon [] t 0 p
    the_colon = colon [] t 0 p (sym f)

    pub colon_inside : p < length t
    colon_inside = omega (arith, the_colon.inside)

    pub scoped_is : scoped_at t p ≡ scoped t
    unfolding sheet_rules first_from lines_words
    scoped_is =
        let z : p - 0 ≡ p = omega arith in
        sym (the_colon.is ∙ ap (λ (k : ℕ). then_read (unsigned32 (take k t)) (λ n. hexed (11 ∷ little 4 n) (drop (k + 1) t))) z)

-- ---- the line of a form

module _ (before t : List ℕ) (at p : ℕ) where
  pub no_scope : none ≡ unsigned32 (take p t) → Lined before at (scoped_at t p) before None
  unfolding sheet_rules first_from lines_words
  no_scope e = lined_bad (then_none _ (sym e))

  pub a_scope : {after : List ℕ} {s : std.Option Node} (n : ℕ) → some n ≡ unsigned32 (take p t) → Lined before at (hexed (11 ∷ little 4 n) (take (length t - (p + 1)) (drop (p + 1) t))) after s → Lined before at (scoped_at t p) after s
  unfolding sheet_rules first_from lines_words
  a_scope n e l =
      lined_same
      (ap (hexed (11 ∷ little 4 n)) (to_end t (p + 1))
      ∙ sym (then_some (λ n. hexed (11 ∷ little 4 n) (drop (p + 1) t)) (sym e)))
      l
