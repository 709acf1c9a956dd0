-- How long a node line is, and how long its node: so much text takes at most so much room. Assumes nothing.
use mathlib.Core.Path.{◌≡◌, refl, sym, ap, ◌∙◌, subst}
use mathlib.Core.Bool.{Bool, true, false}
use mathlib.Core.List.{List, [], ◌∷◌, ◌++◌}
use mathlib.Core.Option.{Option, none, some}
use Prim.Native.Nat.{ℕ, ◌+◌, ◌-◌, ◌*◌, ◌/◌, ◌≤◌, ◌<◌}
use native.Mathlib.Omega.{arith}
use lib.Dec.{eqb}
use lib.ListN.{length, length-append}
use Rattle.laws.specs.Basics.{little, basics}
use Rattle.laws.proofs.Bytes.{length-little}
use Rattle.laws.proofs.Options.{none_some, some_value}
use Rattle.rules.specs.Nodes.{write_text, nodes_rules}
use Rattle.rules.specs.Text.{unsigned32, signed64, unhex}
use Rattle.rules.specs.Sheet.{Line, Form, value_of, then_read, bare, numbered, hexed, signed_number, scoped_from, forms, read_form, node_line, sheet_rules}
use Rattle.text_numbers.specs.Answers.{is_hex, unhexed, answers}
use Rattle.text_numbers.proofs.HexLaws.{length-unhexed}
use Rattle.text_decimals.proofs.ReadLaws.{unsigned32_small}

-- ---- what is read further

-- what was read first, where something was read at last
pub record Then {A B : Type 0} (o : Option A) (f : A → Option B) (b : B) : Type 0 where
  pub first : A
  pub is : o ≡ some first
  pub then : f first ≡ some b

pub then_both : {A B : Type 0} (o : Option A) (f : A → Option B) (b : B) → then_read o f ≡ some b → Then o f b
unfolding sheet_rules
then_both none f b e = absurd (none_some e)
then_both (some a) f b e = record { first = a; is = refl; then = e }

-- ---- sizes

-- a line of n bytes, and its node
pub record Fits (n : ℕ) (l : Line) : Type 0 where
  pub long : 4 ≤ n
  pub size : length l.node ≤ 2 * n + 2
  pub few : l.follow < 4294967296

longer : {l : Line} (m n : ℕ) → m ≤ n → Fits m l → Fits n l
longer m n h f = record { long = omega (arith, f.long); size = omega (arith, f.size); few = f.few }

same_line : {l m : Line} (n : ℕ) → some m ≡ some l → Fits n m → Fits n l
same_line n e f = subst (λ (x : Line). Fits n x) (some_value e) f

bare_fits : (kind follow k : ℕ) (v : List ℕ) (l : Line) → 4 ≤ k → follow < 4294967296 → bare kind follow v ≡ some l → Fits (k + length v) l
unfolding sheet_rules
bare_fits kind follow k [] l h f e = same_line _ e (record { long = omega arith; size = omega arith; few = f })
bare_fits kind follow k (c ∷ cs) l h f e = absurd (none_some e)

numbered_fits : (kind k : ℕ) (follow : ℕ → ℕ) (v : List ℕ) (l : Line) → 4 ≤ k → ((n : ℕ) → n < 4294967296 → follow n < 4294967296) → numbered kind follow v ≡ some l → Fits (k + length v) l
unfolding sheet_rules
numbered_fits kind k follow v l h f e =
    let r = then_both (unsigned32 v) _ l e in
    same_line _ r.then
    (record {
      long = omega arith;
      size = omega (arith, length-little 4 r.first);
      few = f r.first (unsigned32_small v r.first r.is);
    })

signed_fits : (k : ℕ) (v : List ℕ) (l : Line) → 4 ≤ k → signed_number v ≡ some l → Fits (k + length v) l
unfolding sheet_rules
signed_fits k v l h e =
    let r = then_both (signed64 v) _ l e in
    same_line _ r.then (record { long = omega arith; size = omega (arith, length-little 8 r.first); few = omega arith })

unhex_half : (t bs : List ℕ) → unhex t ≡ some bs → length bs ≡ length t / 2
unfolding answers
unhex_half t bs e =
    let hexed : is_hex t ≡ true = ap (λ (o : Option (List ℕ)). elim o [ none ↦ false | some x ↦ true ]) e in
    let is : unhexed t ≡ bs = ap (λ (o : Option (List ℕ)). elim o [ none ↦ [] | some x ↦ x ]) e in
    sym (ap length is) ∙ length-unhexed t hexed

hexed_fits : (k : ℕ) (front v : List ℕ) (l : Line) → 4 ≤ k → length front ≤ 2 * k - 2 → hexed front v ≡ some l → Fits (k + length v) l
unfolding sheet_rules nodes_rules
hexed_fits k front v l h f e =
    let r = then_both (unhex v) _ l e in
    same_line _ r.then
    (record {
      long = omega arith;
      size =
          omega (
            arith,
            unhex_half v r.first r.is,
            length-append front (write_text r.first),
            length-append (little 4 (length r.first)) r.first,
            length-little 4 (length r.first),
          );
      few = omega arith;
    })

scoped_fits : (scope v : List ℕ) (l : Line) → scoped_from scope v ≡ some l → Fits (6 + length v) l
unfolding sheet_rules
scoped_fits scope [] l e = absurd (none_some e)
scoped_fits scope (c ∷ cs) l e = by (eqb c 58) e (λ q. scoped_fits (scope ++ (c ∷ [])) cs l q)
  where
    by : (b : Bool) → ◌≡◌ {A = Option Line} (elim b [ true ↦ then_read (unsigned32 scope) (λ n. hexed (11 ∷ little 4 n) cs) | false ↦ scoped_from (scope ++ (c ∷ [])) cs ]) (some l) → (scoped_from (scope ++ (c ∷ [])) cs ≡ some l → Fits (6 + length cs) l) → Fits (6 + length (c ∷ cs)) l
    by true e again =
        let r = then_both (unsigned32 scope) _ l e in
        longer _ _ (omega arith) (hexed_fits 6 (11 ∷ little 4 r.first) cs l (omega arith) (omega (arith, length-little 4 r.first)) r.then)
    by false e again = longer _ _ (omega arith) (again e)

-- ---- forms

abbrev Sized : Form → Type 0
Sized f = (v : List ℕ) (l : Line) → f.read v ≡ some l → Fits (length f.key + length v) l

data Sizes : List Form → Type 0 where
  no_more : Sizes []
  and_form : {f : Form} {fs : List Form} → Sized f → Sizes fs → Sizes (f ∷ fs)

value_length : (key t v : List ℕ) → value_of key t ≡ some v → length t ≡ length key + length v
unfolding sheet_rules
value_length [] t v e = omega (arith, ap length (some_value e))
value_length (k ∷ ks) [] v e = absurd (none_some e)
value_length (k ∷ ks) (c ∷ cs) v e = by (eqb k c) e (λ q. value_length ks cs v q)
  where
    by : (b : Bool) → ◌≡◌ {A = Option (List ℕ)} (elim b [ true ↦ value_of ks cs | false ↦ none ]) (some v) → (value_of ks cs ≡ some v → length cs ≡ length ks + length v) → length (c ∷ cs) ≡ length (k ∷ ks) + length v
    by true e again = omega (arith, again e)
    by false e again = absurd (none_some e)

form_fits : (fs : List Form) → Sizes fs → (t : List ℕ) (l : Line) → read_form fs t ≡ some l → Fits (length t) l
unfolding sheet_rules
form_fits [] s t l e = absurd (none_some e)
form_fits (f ∷ fs) (and_form s ss) t l e = by (value_of f.key t) refl e (λ q. form_fits fs ss t l q)
  where
    by : (o : Option (List ℕ)) → value_of f.key t ≡ o → ◌≡◌ {A = Option Line} (elim o [ none ↦ read_form fs t | some v ↦ f.read v ]) (some l) → (read_form fs t ≡ some l → Fits (length t) l) → Fits (length t) l
    by none q e again = again e
    by (some v) q e again = subst (λ (n : ℕ). Fits n l) (sym (value_length f.key t v q)) (s v l e)

small : (m : ℕ) → m < 4294967296 → (n : ℕ) → n < 4294967296 → m < 4294967296
small m h n k = h

all_sizes : Sizes forms
unfolding sheet_rules basics
all_sizes =
    and_form (λ v l e. numbered_fits 4 5 _ v l (omega arith) (small 0 (omega arith)) e)
    (and_form (λ v l e. numbered_fits 5 5 _ v l (omega arith) (small 0 (omega arith)) e)
    (and_form (λ v l e. signed_fits 4 v l (omega arith) e)
    (and_form (λ v l e. hexed_fits 4 (7 ∷ []) v l (omega arith) (omega arith) e)
    (and_form (λ v l e. hexed_fits 4 (8 ∷ []) v l (omega arith) (omega arith) e)
    (and_form (λ v l e. scoped_fits [] v l e)
    (and_form (λ v l e. bare_fits 1 0 4 v l (omega arith) (omega arith) e)
    (and_form (λ v l e. bare_fits 2 0 4 v l (omega arith) (omega arith) e)
    (and_form (λ v l e. bare_fits 0 0 6 v l (omega arith) (omega arith) e)
    (and_form (λ v l e. bare_fits 3 0 5 v l (omega arith) (omega arith) e)
    (and_form (λ v l e. bare_fits 9 2 5 v l (omega arith) (omega arith) e)
    (and_form (λ v l e. numbered_fits 10 4 _ v l (omega arith) (λ n h. h) e)
    (and_form (λ v l e. numbered_fits 12 4 _ v l (omega arith) (small 1 (omega arith)) e)
    (and_form (λ v l e. numbered_fits 13 4 _ v l (omega arith) (small 0 (omega arith)) e) no_more)))))))))))))

pub line_fits : (t : List ℕ) (l : Line) → node_line t ≡ some l → Fits (length t) l
unfolding node_line
line_fits t l e = form_fits forms all_sizes t l e
