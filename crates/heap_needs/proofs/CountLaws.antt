-- What each kind of node adds to the needs. Assumes nothing.
use mathlib.Core.Path.{◌≡◌, refl, sym, ap, ◌∙◌, subst}
use mathlib.Core.Bool.{Bool, true, false}
use mathlib.Core.List.{List}
use Prim.Native.Nat.{ℕ, ◌+◌, ◌-◌, ◌≤◌}
use native.Mathlib.Omega.{arith}
use lib.ListN.{length, take, drop}
use Rattle.laws.specs.Basics.{choose}
use Rattle.laws.proofs.Pointwise.{length_part}
use Rattle.leaf_nodes.specs.declared.Node as leaf
use Rattle.leaf_nodes.specs.Reads.{text_length}
use Rattle.heap_needs.specs.declared.Name as code_name
use Rattle.heap_needs.specs.declared.Tally.{Tally}
use Rattle.heap_needs.specs.Needs.{Needs, node_needs, a_slot, a_text, a_block}
use Rattle.heap_needs.specs.Pass.{needs_in, node_of, following, Countable, Counted, with_more}

-- a node was counted
abbrev pub NodeCounted : (List ℕ → ℕ → Bool) → List code_name.Name → List code_name.Name → List ℕ → Tally → Tally → Bool → ℕ → leaf.Node → Type 0
NodeCounted known names names' datum t r wanted end x =
    Counted names names' datum t r (text_length x) (following x)
    (node_needs known wanted (node_of x (take (text_length x) (drop (end - text_length x) datum))) (needs_in names datum t))

module _ (known : List ℕ → ℕ → Bool) (names names' : List code_name.Name) (datum : List ℕ) (t r : Tally) (wanted : Bool) (end : ℕ) where
  pub counted_node : {x y : leaf.Node} → x ≡ y → NodeCounted known names names' datum t r wanted end y → NodeCounted known names names' datum t r wanted end x
  counted_node e c = subst (NodeCounted known names names' datum t r wanted end) (sym e) c

-- the numbers of the node that was matched
pub countable_node : {names : List code_name.Name} {datum : List ℕ} {t : Tally} {end : ℕ} {x y : leaf.Node} → x ≡ y → Countable names datum t (text_length x) end → Countable names datum t (text_length y) end
countable_node {names} {datum} {t} {end} e c = subst (λ (n : leaf.Node). Countable names datum t (text_length n) end) e c

module _ (names : List code_name.Name) (datum : List ℕ) (t : Tally) (size end : ℕ) (c : Countable names datum t size end) where
  -- nothing
  pub count_none : (many : ℕ) → Counted names names datum t t size many (needs_in names datum t)
  count_none many =
      record {
        is = refl;
        rows = c.rows;
        names_more = omega arith;
        slots = omega arith;
        bytes = omega arith;
        elements = omega arith;
      }

  -- a slot, and perhaps bytes or elements
  count_more : (r : Tally) (b e many : ℕ) (after : Needs) → r ≡ with_more t 1 b e → b ≤ size → e ≤ many → needs_in names datum (with_more t 1 b e) ≡ after → Counted names names datum t r size many after
  count_more r b e many after q low high is =
      record {
        is = ap (needs_in names datum) q ∙ is;
        rows = c.rows;
        names_more = omega arith;
        slots = omega (arith, ap (λ (u : Tally). u.slots) q);
        bytes = omega (arith, ap (λ (u : Tally). u.bytes) q);
        elements = omega (arith, ap (λ (u : Tally). u.elements) q);
      }

  none_more : (n : ℕ) → n + 0 ≡ n
  none_more n = omega arith

  pub count_slot : (r : Tally) (many : ℕ) → r ≡ with_more t 1 0 0 → Counted names names datum t r size many (a_slot (needs_in names datum t))
  count_slot r many q =
      count_more r 0 0 many (a_slot (needs_in names datum t)) q (omega arith) (omega arith)
      (λ i. record { slots = t.slots + 1; bytes = none_more t.bytes i; elements = none_more t.elements i; names = (needs_in names datum t).names })

  pub count_block : (r : Tally) (many : ℕ) → r ≡ with_more t 1 0 many → Counted names names datum t r size many (a_block many (needs_in names datum t))
  count_block r many q =
      count_more r 0 many many (a_block many (needs_in names datum t)) q (omega arith) (omega arith)
      (λ i. record { slots = t.slots + 1; bytes = none_more t.bytes i; elements = t.elements + many; names = (needs_in names datum t).names })

  pub count_text : (r : Tally) (many : ℕ) → r ≡ with_more t 1 size 0 → Counted names names datum t r size many (a_text (length (take size (drop (end - size) datum))) (needs_in names datum t))
  count_text r many q =
      let long = length_part datum (end - size) size (omega (arith, c.bytes, c.inside)) in
      count_more r size 0 many (a_text (length (take size (drop (end - size) datum))) (needs_in names datum t)) q (omega arith) (omega arith)
      (λ i. record { slots = t.slots + 1; bytes = t.bytes + sym long i; elements = none_more t.elements i; names = (needs_in names datum t).names })

-- a scalar: by whether it wants a slot
module _ (names : List code_name.Name) (datum : List ℕ) (t r : Tally) (wanted : Bool) (size : ℕ) where
  pub wanted_slot : wanted ≡ true → Counted names names datum t r size 0 (a_slot (needs_in names datum t)) → Counted names names datum t r size 0 (choose wanted (a_slot (needs_in names datum t)) (needs_in names datum t))
  wanted_slot e c =
      subst (λ (b : Bool). Counted names names datum t r size 0 (choose b (a_slot (needs_in names datum t)) (needs_in names datum t))) (sym e) c

  pub unwanted_slot : wanted ≡ false → Counted names names datum t r size 0 (needs_in names datum t) → Counted names names datum t r size 0 (choose wanted (a_slot (needs_in names datum t)) (needs_in names datum t))
  unwanted_slot e c =
      subst (λ (b : Bool). Counted names names datum t r size 0 (choose b (a_slot (needs_in names datum t)) (needs_in names datum t))) (sym e) c
