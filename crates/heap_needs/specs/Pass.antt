-- The needs of a datum in one pass over its nodes: a stack says of each datum still awaited whether a scalar wants a slot
-- there, and the names met are told by where they stand in the lent datum. Assumes nothing.
use Rattle.std.specs.Prelude.{◌≡◌, Bool, true, false, List, [], ◌∷◌, ◌++◌, ℕ, zero, suc, ◌+◌, ◌*◌, ◌≤◌, ◌<◌, eqb, length, get_or, take, drop, replicate}
use Rattle.std.proofs.Math.Option.{none, some}
use Rattle.laws.specs.Basics.{every, join}
use Rattle.rules.specs.Nodes.{Atom, Node, write_node, node_fits}
use Rattle.rules.specs.Datum.{Datum, Data, end, more, how_many, all_nodes, encode, nodes, datum_fits}
use Rattle.leaf_nodes.specs.declared.Node as leaf
use Rattle.leaf_nodes.specs.declared.Node.TheVariants.{Plain, String, Symbol, Ident, Ref, Pair, Vector, Def}
use Rattle.leaf_nodes.specs.Reads.{scalar_of}
use Rattle.leaf_symbols.specs.Table.{found_in, Tabled, bytes_used}
use Rattle.heap_needs.specs.Needs.{Name, Needs, need, needs_rules}
use Rattle.std.specs.Prelude.{map}
use Rattle.std.specs.List.{All}
use Rattle.heap_needs.specs.declared.Name as code
use Rattle.heap_needs.specs.declared.Needed.{Needed}
use Rattle.heap_needs.specs.declared.Tally.{Tally}

-- ---- the names met

-- a name by its place and size in the datum
abbrev pub name_in : List ℕ → code.Name → Name
name_in datum n = record { text = take n.size (drop n.place datum); scope = n.scope }

unfoldable pub names_in : List code.Name → List ℕ → List Name
names_in names datum = map (name_in datum) names

-- each name is a part of the datum
pub record Within (names : List code.Name) (datum : List ℕ) : Type 0 where
  pub few : length names ≤ 4096
  pub within : All (λ (n : code.Name). n.place + n.size ≤ length datum) names

-- the needs that the code carries
abbrev pub needs_in : List code.Name → List ℕ → Tally → Needs
needs_in names datum t =
    record { slots = t.slots; bytes = t.bytes; elements = t.elements; names = names_in names datum }

-- a symbol of this name and scope stands in the lent table
unfoldable pub known_in : List ℕ → List ℕ → List ℕ → ℕ → Bool
known_in ws bytes text scope = elim (found_in ws bytes text scope) [ none ↦ false | some s ↦ true ]

-- the lent table can be searched
pub record Lent (ws bytes : List ℕ) : Type 0 where
  pub table : Tabled ws
  pub texts : bytes_used ws ≤ length bytes

-- ---- a node of the code

-- the rules' node, with this text
abbrev pub node_of : leaf.Node → List ℕ → Node
node_of (Plain v) t = Node.atom (Atom.plain (scalar_of v))
node_of (String n) t = Node.atom (Atom.string t)
node_of (Symbol n) t = Node.atom (Atom.symbol t)
node_of (Ident s n) t = Node.atom (Atom.ident s t)
node_of (Ref l) t = Node.atom (Atom.ref l)
node_of Pair t = Node.pair
node_of (Vector n) t = Node.vector n
node_of (Def l) t = Node.def l

-- how many data follow it
abbrev pub following : leaf.Node → ℕ
following (Plain v) = 0
following (String n) = 0
following (Symbol n) = 0
following (Ident s n) = 0
following (Ref l) = 0
following Pair = 2
following (Vector n) = n
following (Def l) = 1

-- of each datum that follows a node, 1 where a scalar wants a slot there: "every car and cdr in a slot"
unfoldable pub flags : Node → List ℕ
flags (Node.atom a) = []
flags Node.pair = 1 ∷ 1 ∷ []
flags (Node.vector n) = replicate n 0
flags (Node.def l) = 0 ∷ []

-- ---- steps

-- room for one node's part, whose text ends at a place of the datum
pub record Countable (names : List code.Name) (datum : List ℕ) (t : Tally) (size end : ℕ) : Type 0 where
  pub rows : Within names datum
  pub names_few : length names < 4096
  pub slots : t.slots ≤ 4096
  pub elements : t.elements ≤ 16777216
  pub bytes : t.bytes + size ≤ end
  pub inside : end ≤ length datum

-- what a node added
pub record Counted (names names' : List code.Name) (datum : List ℕ) (t r : Tally) (size many : ℕ) (after : Needs) : Type 0 where
  pub is : needs_in names' datum r ≡ after
  pub rows : Within names' datum
  pub names_more : length names' ≤ length names + 1
  pub slots : r.slots ≤ t.slots + 1
  pub bytes : r.bytes ≤ t.bytes + size
  pub elements : r.elements ≤ t.elements + many

abbrev pub with_more : Tally → ℕ → ℕ → ℕ → Tally
with_more t slots bytes elements =
    record {
      slots = t.slots + slots;
      bytes = t.bytes + bytes;
      elements = t.elements + elements;
      at = t.at;
      top = t.top;
    }

-- the top n of the stack, topmost first
unfoldable pub stack_of : List ℕ → ℕ → List ℕ
stack_of s zero = []
stack_of s (suc n) = get_or s n 0 ∷ stack_of s n

-- nothing stands above the top
pub record Clear (s : List ℕ) (n : ℕ) : Type 0 where
  pub long : length s ≡ 4096
  pub above : (i : ℕ) → n ≤ i → get_or s i 0 ≡ 0

pub record Pushed (s s' : List ℕ) (top r : ℕ) (fs : List ℕ) : Type 0 where
  pub top_is : r ≡ top + length fs
  pub stack : stack_of s' r ≡ fs ++ stack_of s top
  pub clear : Clear s' r

-- ---- the whole pass

-- the data still awaited, each with its flag
unfoldable pub forest : (List ℕ → ℕ → Bool) → List ℕ → Data → Needs → Needs
unfolding needs_rules
forest known [] ds t = t
forest known (f ∷ fs) end t = t
forest known (f ∷ fs) (more d ds) t = forest known fs ds (need known (eqb f 1) d t)

-- what is left of the datum is these data, and they lead to these needs
pub record Doing (known : List ℕ → ℕ → Bool) (datum : List ℕ) (names : List code.Name) (stack : List ℕ) (t : Tally) (ds : Data) (whole : Needs) : Type 0 where
  pub left : drop t.at datum ≡ join write_node (all_nodes ds)
  pub inside : t.at ≤ length datum
  pub fits : every node_fits (all_nodes ds) ≡ true
  pub awaited : t.top ≡ how_many ds
  pub clear : Clear stack t.top
  pub rows : Within names datum
  pub goal : forest known (stack_of stack t.top) ds (needs_in names datum t) ≡ whole
  pub slots : t.slots + length (all_nodes ds) ≤ 4096
  pub names_few : length names + length (all_nodes ds) ≤ 4096
  pub bytes : t.bytes ≤ t.at
  pub elements : t.elements + 4096 * length (all_nodes ds) ≤ 16777216

-- some data are awaited, and what they need can be told
pub record Going (known : List ℕ → ℕ → Bool) (datum : List ℕ) (names : List code.Name) (stack : List ℕ) (t : Tally) : Type 0 where
  pub awaits : Data
  pub whole : Needs
  pub doing : Doing known datum names stack t awaits whole

-- one datum is awaited, and wants a slot
pub record Started (stack : List ℕ) (t : Tally) : Type 0 where
  pub is : t ≡ record { slots = 0; bytes = 0; elements = 0; at = 0; top = 1 }
  pub stack_is : stack_of stack 1 ≡ 1 ∷ []
  pub clear : Clear stack 1

-- one node on
pub record Turned (known : List ℕ → ℕ → Bool) (datum : List ℕ) (names : List code.Name) (stack : List ℕ) (names' : List code.Name) (stack' : List ℕ) (t r : Tally) : Type 0 where
  pub on : t.at < r.at
  pub inside : r.at ≤ length datum
  pub goes : (ds : Data) (whole : Needs) → Doing known datum names stack t ds whole → (ds' : Data) × Doing known datum names' stack' r ds' whole

-- a datum stands there, of 4,096 nodes at most
pub record DatumThere (datum : List ℕ) : Type 0 where
  pub tree : Datum
  pub written : datum ≡ encode tree
  pub fits : datum_fits tree ≡ true
  pub few : length (nodes tree) ≤ 4096

-- the slots, bytes and elements of the needs
abbrev pub needed : Needs → Needed
needed t = record { slots = t.slots; bytes = t.bytes; elements = t.elements }

unfoldable pub pass_rules : Unit {0}
unfolding names_in known_in flags stack_of forest
pass_rules = tt
