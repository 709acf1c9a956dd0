-- The names met, in their rows: one more row is one more name, and a search from the last row down. Assumes nothing.
use mathlib.Core.Path.{◌≡◌, refl, sym, ap, ◌∙◌}
use mathlib.Core.Bool.{Bool, true, false}
use mathlib.Core.List.{List, [], ◌∷◌, ◌++◌}
use mathlib.Core.Option.{Option, none, some}
use Prim.Native.Nat.{ℕ, suc, ◌+◌, ◌-◌, ◌≤◌, ◌<◌}
use native.Mathlib.Omega.{arith}
use borrow.Author.Tests.{eq-eqb, ne_eqb}
use lib.Dec.{eqb}
use lib.ListN.{length, get_or, take, drop}
use Rattle.laws.specs.Basics.{choose, both, either, same, basics}
use Rattle.laws.proofs.Writing.{part_end}
use Rattle.std.specs.Prelude as code
use Rattle.std.specs.Prelude.{Some, None, is_some}
use Rattle.leaf_symbols.specs.Table.{found_in}
use Rattle.leaf_find.specs.Finds.{shown_found}
use Rattle.std.proofs.lemmas.List.Elements.{All-same, All-push}
use lib.Seq.{take-suc}
use Rattle.std.proofs.lemmas.List.{map-append}
use Rattle.laws.proofs.Tests.{either_false}
use Rattle.heap_needs.proofs.Standing.{any_append}
use lib.ListN.{length-append}
use Rattle.heap_needs.specs.declared.Name as code_name
use Rattle.heap_needs.specs.declared.Tally.{Tally}
use Rattle.heap_needs.specs.Needs.{Name, Needs, a_name, met, symbol_needs, needs_rules}
use Rattle.heap_needs.specs.Pass.{name_in, names_in, needs_in, known_in, Countable, Counted, with_more, pass_rules}

-- a part by its ends is the part by its size
pub part_sized : (datum : List ℕ) (size end : ℕ) → size ≤ end → take (end - (end - size)) (drop (end - size) datum) ≡ take size (drop (end - size) datum)
part_sized datum size end h =
    let e : end - (end - size) ≡ size = omega arith in ap (λ (n : ℕ). take n (drop (end - size) datum)) e

-- ---- looking for a name, from the latest on

either_true : (b : Bool) → either b true ≡ true
either_true true = refl
either_true false = refl

module _ (names : List code_name.Name) (datum text : List ℕ) (scope i : ℕ) (n d : code_name.Name) (left : 0 < i) (small : i ≤ length names) (item : n ≡ get_or names (i - 1) d) where
  abbrev before : ℕ → Bool
  before k = met (names_in (take k names) datum) text scope

  name_met : before i ≡ either (before (i - 1)) (both (eqb n.scope scope) (same (take n.size (drop n.place datum)) text))
  unfolding needs_rules pass_rules basics
  name_met =
      let next : i ≡ suc (i - 1) = omega arith in
      ap before next
      ∙ ap (λ (l : List code_name.Name). met (names_in l datum) text scope)
      (take-suc names (i - 1) d (omega arith) ∙ ap (λ (x : code_name.Name). take (i - 1) names ++ (x ∷ [])) (sym item))
      ∙ ap (λ (l : List Name). met l text scope) (map-append (name_in datum) (take (i - 1) names) (n ∷ []))
      ∙ any_append (λ (x : Name). both (eqb x.scope scope) (same x.text text)) (names_in (take (i - 1) names) datum) (name_in datum n ∷ [])
      ∙ ap (either (before (i - 1))) (either_false (both (eqb n.scope scope) (same (take n.size (drop n.place datum)) text)))

  not_here : both (eqb n.scope scope) (same (take n.size (drop n.place datum)) text) ≡ false → before i ≡ before (i - 1)
  not_here e = name_met ∙ ap (either (before (i - 1))) e ∙ either_false (before (i - 1))

  pub other_scope : (n.scope ≡ scope → ⊥) → before i ≡ before (i - 1)
  other_scope q = not_here (ap (λ (b : Bool). both b (same (take n.size (drop n.place datum)) text)) (ne_eqb n.scope scope q))

  module _ (same_scope : n.scope ≡ scope) where
    scope_text : (b : Bool) → same (take (n.place + n.size - n.place) (drop n.place datum)) text ≡ b → both (eqb n.scope scope) (same (take n.size (drop n.place datum)) text) ≡ b
    scope_text b e =
        ap (λ (b : Bool). both b (same (take n.size (drop n.place datum)) text)) (eq-eqb n.scope scope same_scope)
        ∙ ap (λ (l : List ℕ). same l text) (sym (part_end datum n.place n.size)) ∙ e

    pub other_text : same (take (n.place + n.size - n.place) (drop n.place datum)) text ≡ false → before i ≡ before (i - 1)
    other_text e = not_here (scope_text false e)

    pub here : same (take (n.place + n.size - n.place) (drop n.place datum)) text ≡ true → before i ≡ true
    here e = name_met ∙ ap (either (before (i - 1))) (scope_text true e) ∙ either_true (before (i - 1))

pub none_met : (names : List code_name.Name) (datum text : List ℕ) (scope i : ℕ) → i ≤ 0 → met (names_in (take i names) datum) text scope ≡ false
unfolding needs_rules pass_rules basics
none_met names datum text scope i h =
    let none_left : i ≡ 0 = omega arith in ap (λ (k : ℕ). met (names_in (take k names) datum) text scope) none_left

-- ---- a new name

names_more : (datum : List ℕ) (names : List code_name.Name) (n : code_name.Name) → names_in (names ++ (n ∷ [])) datum ≡ names_in names datum ++ (name_in datum n ∷ [])
unfolding pass_rules
names_more datum [] n = refl
names_more datum (x ∷ names) n = ap (λ (l : List Name). name_in datum x ∷ l) (names_more datum names n)

abbrev Inside : List ℕ → code_name.Name → Type 0
Inside datum n = n.place + n.size ≤ length datum

pub name_made : (names names' : List code_name.Name) (datum : List ℕ) (t r : Tally) (size end scope : ℕ) → Countable names datum t size end
    → names' ≡ names ++ (record { place = end - size; size = size; scope = scope } ∷ [])
    → r ≡ with_more t 1 size 0
    → Counted names names' datum t r size 0 (a_name (take size (drop (end - size) datum)) scope (needs_in names datum t))
name_made names names' datum t r size end scope c p e =
    let same_slots = ap (λ (x : Tally). x.slots) e in
    let same_bytes = ap (λ (x : Tally). x.bytes) e in
    let same_elements = ap (λ (x : Tally). x.elements) e in
    let none_more : t.elements + 0 ≡ t.elements = omega arith in
    let new : code_name.Name = record { place = end - size; size = size; scope = scope } in
    record {
      is =
          λ j.
          record {
            slots = same_slots j;
            bytes = (same_bytes ∙ ap (λ (x : ℕ). t.bytes + x) (sym (Rattle.laws.proofs.Pointwise.length_part datum (end - size) size (omega (arith, c.bytes, c.inside))))) j;
            elements = (same_elements ∙ none_more) j;
            names = (ap (λ (l : List code_name.Name). names_in l datum) p ∙ names_more datum names new) j;
          };
      rows =
          record {
            few = omega (arith, ap length p, length-append names (new ∷ []), c.names_few);
            within = All-same (Inside datum) names' (names ++ (new ∷ [])) p (All-push (Inside datum) names new c.rows.within (omega (arith, c.bytes, c.inside)));
          };
      names_more = omega (arith, ap length p, length-append names (new ∷ []));
      slots = omega arith;
      bytes = omega arith;
      elements = omega arith;
    }

-- ---- a symbol's needs

-- nothing was taken
pub name_same : (names : List code_name.Name) (datum : List ℕ) (t : Tally) (size end many : ℕ) (after : Needs) → Countable names datum t size end → after ≡ needs_in names datum t → Counted names names datum t t size many after
name_same names datum t size end many after c e =
    record {
      is = sym e;
      rows = c.rows;
      names_more = omega arith;
      slots = omega arith;
      bytes = omega arith;
      elements = omega arith;
    }

module _ (known : List ℕ → ℕ → Bool) (text : List ℕ) (scope : ℕ) (t : Needs) where
  pub symbol_known : known text scope ≡ true → symbol_needs known text scope t ≡ t
  unfolding needs_rules
  symbol_known e = ap (λ (b : Bool). choose (either b (met t.names text scope)) t (a_name text scope t)) e

  pub symbol_met : known text scope ≡ false → met t.names text scope ≡ true → symbol_needs known text scope t ≡ t
  unfolding needs_rules
  symbol_met e m = (λ i. choose (either (e i) (m i)) t (a_name text scope t))

  pub symbol_new : known text scope ≡ false → met t.names text scope ≡ false → symbol_needs known text scope t ≡ a_name text scope t
  unfolding needs_rules
  symbol_new e m = (λ i. choose (either (e i) (m i)) t (a_name text scope t))

pub counted_as : {names names' : List code_name.Name} {datum : List ℕ} {t r : Tally} {size many : ℕ} {a b : Needs} → a ≡ b → Counted names names' datum t r size many a → Counted names names' datum t r size many b
counted_as {names} {names'} {datum} {t} {r} {size} {many} e c =
    mathlib.Core.Path.subst (λ (x : Needs). Counted names names' datum t r size many x) e c

-- ---- the lent table

module _ (ws bytes text : List ℕ) (scope : ℕ) where
  known_by : (o : Option ℕ) → o ≡ found_in ws bytes text scope → elim o as (λ o. Bool) [ none ↦ false | some s ↦ true ] ≡ known_in ws bytes text scope
  unfolding pass_rules
  known_by o e = ap (λ (o : Option ℕ). elim o as (λ o. Bool) [ none ↦ false | some s ↦ true ]) e

  pub known_found : (f : code.Option ℕ) → shown_found f ≡ found_in ws bytes text scope → is_some f ≡ known_in ws bytes text scope
  known_found (Some s) e = known_by (some s) e
  known_found None e = known_by none e
