-- Places in a text, keys, and the lines that are a key and a number. Assumes nothing.
use mathlib.Core.Path.{◌≡◌, refl, sym, ap, ◌∙◌}
use mathlib.Core.Bool.{Bool, true, false, ◌&&◌, true≢false}
use mathlib.Core.List.{List, [], ◌∷◌}
use mathlib.Core.Option.{Option, none, some}
use Prim.Native.Nat.{ℕ, zero, suc, ◌+◌, ◌-◌, ◌≤◌, ◌<◌}
use native.Mathlib.Numerals.{add-one}
use native.Mathlib.Omega.{arith}
use borrow.Author.Tests.{eq-eqb, ne_eqb, eqb-true, eqb-false}
use lib.Dec.{eqb}
use lib.ListN.{length, get_or, take, drop, drop_of_length-le}
use lib.Seq.{drop-cons}
use Rattle.laws.specs.Basics.{both, same, basics}
use Rattle.laws.proofs.Options.{none_some, some_value}
use Rattle.rules.specs.Text.{unsigned32}
use Rattle.rules.specs.Sheet.{value_of, then_read, header_line, sheet_rules}
use Rattle.std.specs.Prelude as std
use Rattle.std.specs.Prelude.{None, Some, option_copied, MatchOption}
use Rattle.std.specs.Borrow.{Bor}
use lib.Pointwise.{pointwise}
use Rattle.text_decimals.specs.Reads.{shown}
use Rattle.sheet_keys.specs.Places.{first_from, Keyed}

-- ---- the first place

module _ (c : ℕ) (t : List ℕ) (from : ℕ) where
  -- what was to look at is what is left from a place on
  abbrev pub Looked : ℕ → Type 0
  Looked i = first_from c from (drop from t) ≡ first_from c i (drop i t)

  module _ (i : ℕ) (now : Looked i) where
    pub hit : i < length t → get_or t i 0 ≡ c → some i ≡ first_from c from (drop from t)
    unfolding first_from
    hit h e =
        sym
        (now ∙ ap (first_from c i) (drop-cons t i 0 h)
        ∙ ap (λ (b : Bool). elim b [ true ↦ some i | false ↦ first_from c (suc i) (drop (suc i) t) ]) (eq-eqb (get_or t i 0) c e))

    pub miss : i < length t → (get_or t i 0 ≡ c → ⊥) → Looked (i + 1)
    unfolding first_from
    miss h d =
        now ∙ ap (first_from c i) (drop-cons t i 0 h)
        ∙ ap (λ (b : Bool). elim b [ true ↦ some i | false ↦ first_from c (suc i) (drop (suc i) t) ]) (ne_eqb (get_or t i 0) c d)
        ∙ ap (λ (n : ℕ). first_from c n (drop n t)) (sym (add-one i))

    pub nowhere : length t ≤ i → none ≡ first_from c from (drop from t)
    unfolding first_from
    nowhere h = sym (now ∙ ap (first_from c i) (drop_of_length-le t h))

-- what a caller may use: the place lies behind where the search began, inside the text, the byte stands there, and nowhere
-- between
pub record Placed (c i : ℕ) (cs : List ℕ) (p : ℕ) : Type 0 where
  pub from : i ≤ p
  pub inside : p < i + length cs
  pub there : get_or cs (p - i) 0 ≡ c
  pub none_before : (k : ℕ) → k < p - i → get_or cs k 0 ≡ c → ⊥

pub placed : (c i : ℕ) (cs : List ℕ) (p : ℕ) → first_from c i cs ≡ some p → Placed c i cs p
unfolding first_from
placed c i [] p e = absurd (none_some e)
placed c i (x ∷ cs) p e = by (eqb x c) refl e (λ q. placed c (suc i) cs p q)
  where
    by : (b : Bool) → eqb x c ≡ b → ◌≡◌ {A = Option ℕ} (elim b [ true ↦ some i | false ↦ first_from c (suc i) cs ]) (some p) → (first_from c (suc i) cs ≡ some p → Placed c (suc i) cs p) → Placed c i (x ∷ cs) p
    by true q e again =
        let s : i ≡ p = some_value e in
        let z : p - i ≡ 0 = omega arith in
        record {
          from = omega arith;
          inside = omega arith;
          there = ap (λ (n : ℕ). get_or (x ∷ cs) n 0) z ∙ eqb-true x c q;
          none_before = λ k h. absurd (omega arith);
        }
    by false q e again =
        let r = again e in
        let more : p - i ≡ suc (p - suc i) = omega (arith, r.from) in
        record {
          from = omega (arith, r.from);
          inside = omega (arith, r.inside);
          there = ap (λ (n : ℕ). get_or (x ∷ cs) n 0) more ∙ r.there;
          none_before = λ k h. not_there r more k h;
        }
      where
        not_there : Placed c (suc i) cs p → p - i ≡ suc (p - suc i) → (k : ℕ) → k < p - i → get_or (x ∷ cs) k 0 ≡ c → ⊥
        not_there r more zero h = eqb-false x c q
        not_there r more (suc k) h = r.none_before k (omega arith)

-- ---- keys

-- what `strip_prefix` tests
value_there : (key line : List ℕ) → pointwise eqb (take (length key) line) key ≡ true → value_of key line ≡ some (drop (length key) line)
unfolding sheet_rules
value_there [] line h = refl
value_there (k ∷ ks) [] h = absurd (true≢false (sym h))
value_there (k ∷ ks) (c ∷ cs) h = by (eqb c k) refl h (λ h. value_there ks cs h)
  where
    by : (b : Bool) → eqb c k ≡ b → (b && pointwise eqb (take (length ks) cs) ks) ≡ true → (pointwise eqb (take (length ks) cs) ks ≡ true → value_of ks cs ≡ some (drop (length ks) cs)) → value_of (k ∷ ks) (c ∷ cs) ≡ some (drop (length ks) cs)
    by true q h again =
        ap (λ (b : Bool). elim b [ true ↦ value_of ks cs | false ↦ none ]) (eq-eqb k c (sym (eqb-true c k q)))
        ∙ again h
    by false q h again = absurd (true≢false (sym h))

value_missing : (key line : List ℕ) → pointwise eqb (take (length key) line) key ≡ false → value_of key line ≡ none
unfolding sheet_rules
value_missing [] line h = absurd (true≢false h)
value_missing (k ∷ ks) [] h = refl
value_missing (k ∷ ks) (c ∷ cs) h = by (eqb c k) refl h (λ h. value_missing ks cs h)
  where
    by : (b : Bool) → eqb c k ≡ b → (b && pointwise eqb (take (length ks) cs) ks) ≡ false → (pointwise eqb (take (length ks) cs) ks ≡ false → value_of ks cs ≡ none) → value_of (k ∷ ks) (c ∷ cs) ≡ none
    by true q h again =
        ap (λ (b : Bool). elim b [ true ↦ value_of ks cs | false ↦ none ]) (eq-eqb k c (sym (eqb-true c k q)))
        ∙ again h
    by false q h again =
        ap (λ (b : Bool). elim b [ true ↦ value_of ks cs | false ↦ none ]) (ne_eqb k c (λ e. eqb-false c k q (sym e)))

pub keyed : (key line : List ℕ) (r : std.Option (Bor (List ℕ)))
    → MatchOption r (pointwise eqb (take (length key) line) key ≡ false)
    (λ (v : Bor (List ℕ)). (pointwise eqb (take (length key) line) key ≡ true) × (v.now ≡ drop (length key) line) × (length v.now + length key ≡ length line))
    → Keyed key line r
keyed key line None h = record { is = value_missing key line h; inside = tt }
keyed key line (Some v) h =
    let n = h.2 in
    record { is = value_there key line h.0 ∙ ap (λ (l : List ℕ). some l) (sym h.1); inside = omega arith }

module _ {key line : List ℕ} {r : std.Option (Bor (List ℕ))} (k : Keyed key line r) where
  pub no_value : r ≡ None → value_of key line ≡ none
  no_value e = k.is ∙ ap (λ (r : std.Option (Bor (List ℕ))). shown (option_copied r)) e

  pub a_value : (v : Bor (List ℕ)) → r ≡ Some v → value_of key line ≡ some v.now
  a_value v e = k.is ∙ ap (λ (r : std.Option (Bor (List ℕ))). shown (option_copied r)) e

-- ---- the header's lines and the last

module _ (key line : List ℕ) where
  pub no_header : value_of key line ≡ none → none ≡ header_line key line
  unfolding sheet_rules
  no_header e = sym (ap (λ (o : Option (List ℕ)). then_read o unsigned32) e)

  pub header : (v : List ℕ) (n : Option ℕ) → value_of key line ≡ some v → n ≡ unsigned32 v → n ≡ header_line key line
  unfolding sheet_rules
  header v n e q = q ∙ sym (ap (λ (o : Option (List ℕ)). then_read o unsigned32) e)

-- `==` on slices
pub pointwise_same : (xs ys : List ℕ) → pointwise eqb xs ys ≡ same xs ys
unfolding basics
pointwise_same [] [] = refl
pointwise_same [] (y ∷ ys) = refl
pointwise_same (x ∷ xs) [] = refl
pointwise_same (x ∷ xs) (y ∷ ys) = by (eqb x y) (pointwise_same xs ys)
  where
    by : (b : Bool) → pointwise eqb xs ys ≡ same xs ys → (b && pointwise eqb xs ys) ≡ both b (same xs ys)
    by true e = e
    by false e = refl
