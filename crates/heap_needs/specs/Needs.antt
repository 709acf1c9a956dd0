-- What a put will take, told from the datum and the symbol table alone, node by node: slots, bytes and elements, and the
-- names that it will make. Document 01: "the slots needed exceed the free ones plus all growth that fits"; "every car and
-- cdr in a slot"; "Vector elements that are scalars stay in the vector"; "a scalar takes no slot of its own here"; "a name
-- only for a new symbol". Assumes nothing.
use Rattle.std.specs.Prelude.{Bool, true, false, List, [], ◌∷◌, ◌++◌, ℕ, ◌+◌, eqb, length}
use Rattle.std.proofs.Math.Option.{none, some}
use Rattle.laws.specs.Basics.{choose, both, either, any, same, basics}
use Rattle.rules.specs.Nodes.{Node, Atom}
use Rattle.rules.specs.Datum.{Datum, Data, end, more, how_many}
use Rattle.rules.specs.Heap.{Heap, found, heap_rules}

-- a symbol's name and scope
pub record Name : Type 0 where
  pub text : List ℕ
  pub scope : ℕ

-- what the nodes so far take; `names` are those not in the table before, in order of making
pub record Needs : Type 0 where
  pub slots : ℕ
  pub bytes : ℕ
  pub elements : ℕ
  pub names : List Name

abbrev pub no_needs : Needs
no_needs = record { slots = 0; bytes = 0; elements = 0; names = [] }

-- a symbol of this name and scope stands in the table
unfoldable pub in_table : Heap → List ℕ → ℕ → Bool
unfolding heap_rules
in_table h text scope = elim (found h text scope) [ none ↦ false | some e ↦ true ]

-- it was met among the nodes so far
unfoldable pub met : List Name → List ℕ → ℕ → Bool
unfolding basics
met ns text scope = any (λ (n : Name). both (eqb n.scope scope) (same n.text text)) ns

-- ---- what a node takes

abbrev pub a_slot : Needs → Needs
a_slot t =
    record { slots = t.slots + 1; bytes = t.bytes; elements = t.elements; names = t.names }

abbrev pub a_text : ℕ → Needs → Needs
a_text n t =
    record { slots = t.slots + 1; bytes = t.bytes + n; elements = t.elements; names = t.names }

abbrev pub a_block : ℕ → Needs → Needs
a_block n t =
    record { slots = t.slots + 1; bytes = t.bytes; elements = t.elements + n; names = t.names }

abbrev pub a_name : List ℕ → ℕ → Needs → Needs
a_name text scope t =
    record {
      slots = t.slots + 1;
      bytes = t.bytes + length text;
      elements = t.elements;
      names = t.names ++ (record { text = text; scope = scope } ∷ []);
    }

-- "A symbol is found or made": found in the table or among the names so far, it takes nothing
unfoldable pub symbol_needs : (List ℕ → ℕ → Bool) → List ℕ → ℕ → Needs → Needs
unfolding met
symbol_needs known text scope t =
    choose (either (known text scope) (met t.names text scope)) t (a_name text scope t)

-- a node's own slot, text and block; the first says whether a scalar wants a slot here
unfoldable pub node_needs : (List ℕ → ℕ → Bool) → Bool → Node → Needs → Needs
unfolding symbol_needs
node_needs known wanted (Node.atom (Atom.plain s)) t = choose wanted (a_slot t) t
node_needs known wanted (Node.atom (Atom.string b)) t = a_text (length b) t
node_needs known wanted (Node.atom (Atom.symbol b)) t = symbol_needs known b 0 t
node_needs known wanted (Node.atom (Atom.ident s b)) t = symbol_needs known b s t
node_needs known wanted (Node.atom (Atom.ref l)) t = t
node_needs known wanted Node.pair t = a_slot t
node_needs known wanted (Node.vector n) t = a_block n t
node_needs known wanted (Node.def l) t = a_slot t

-- ---- what a datum takes

unfoldable mutual
  unfolding node_needs how_many

  pub need : (List ℕ → ℕ → Bool) → Bool → Datum → Needs → Needs
  need known wanted (Datum.atom a) t = node_needs known wanted (Node.atom a) t
  need known wanted (Datum.pair a d) t = need known true d (need known true a (node_needs known wanted Node.pair t))
  need known wanted (Datum.vector ds) t = need_all known ds (node_needs known wanted (Node.vector (how_many ds)) t)
  need known wanted (Datum.def l d) t = need known false d (node_needs known wanted (Node.def l) t)

  pub need_all : (List ℕ → ℕ → Bool) → Data → Needs → Needs
  need_all known end t = t
  need_all known (more d ds) t = need_all known ds (need known false d t)

-- "The outer answer is always a slot."
unfoldable pub needs_of : Heap → Datum → Needs
unfolding need need_all in_table
needs_of h d = need (in_table h) true d no_needs

unfoldable pub needs_rules : Unit {0}
unfolding in_table met symbol_needs node_needs need need_all needs_of
needs_rules = tt
