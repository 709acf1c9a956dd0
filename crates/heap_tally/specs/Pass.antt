-- One pass over a datum's nodes: what is tallied of them, node by node. Assumes nothing.
use Rattle.std.specs.Prelude.{◌≡◌, Bool, true, false, not, List, [], ◌∷◌, ◌++◌, ℕ, suc, leb, ltb, length, take}
use Rattle.std.proofs.Math.Option.{Option, none, some}
use Rattle.laws.specs.Basics.{choose, both, either, member}
use Rattle.rules.specs.Numbers.{most_nodes, most_labels}
use Rattle.rules.specs.Refusals.{Refusal, over_limit, early_label}
use Rattle.rules.specs.Nodes.{Atom, Node, reads}
use Rattle.rules.specs.Datum.{node_within}
use Rattle.leaf_nodes.specs.declared.Node as leaf
use Rattle.leaf_nodes.specs.Reads.{shown, text_length}
use Rattle.heap_tally.specs.declared.tallied.Tally as code

-- the nodes so far, whether one broke a number of its own or a label was one too many, whether a reference came early, and
-- the labels in the order of their first mention
pub record Tally : Type 0 where
  pub nodes : ℕ
  pub over : Bool
  pub early : Bool
  pub labels : List ℕ

abbrev pub tally : ℕ → Bool → Bool → List ℕ → Tally
tally n o e ls = record { nodes = n; over = o; early = e; labels = ls }

unfoldable pub counted : Bool → Tally → Tally
counted within t = tally (suc t.nodes) (either (not within) t.over) t.early t.labels

-- A label is mentioned. Up to the first early reference the labels mentioned are those begun, so a reference is early where
-- its label is new. A label past the 64th is not kept: by then 12 is certain, and comes before 13.
unfoldable pub mentioned : Bool → ℕ → Tally → Tally
mentioned refers l t =
    choose (member l t.labels) t
    (choose (ltb (length t.labels) most_labels)
    (tally t.nodes t.over (either refers t.early) (t.labels ++ (l ∷ [])))
    (tally t.nodes true t.early t.labels))

unfoldable pub labelled : Node → Tally → Tally
unfolding mentioned
labelled (Node.atom (Atom.plain s)) t = t
labelled (Node.atom (Atom.string x)) t = t
labelled (Node.atom (Atom.symbol x)) t = t
labelled (Node.atom (Atom.ident s x)) t = t
labelled (Node.atom (Atom.ref l)) t = mentioned true l t
labelled Node.pair t = t
labelled (Node.vector n) t = t
labelled (Node.def l) t = mentioned false l t

unfoldable pub stepped : Tally → Node → Tally
unfolding labelled counted
stepped t n = labelled n (counted (node_within n) t)

-- 12 before 13
unfoldable pub limits : Bool → Bool → Option Refusal
limits within early = choose within (choose early (some early_label) none) (some over_limit)

unfoldable pub judged : Tally → Option Refusal
judged t = limits (both (leb t.nodes most_nodes) (not t.over)) t.early

-- how many data are wanted, where so many bytes are left: past those any number does
unfoldable pub capped : ℕ → ℕ → ℕ
capped left w = choose (ltb left w) (suc left) w

-- ---- the code's values

-- the tally that the code carries
abbrev pub tally_of : code.Tally → Tally
tally_of t = tally t.nodes t.over t.early (take t.known t.labels)

-- a node by value shows a node of the rules, with a text of its length
pub record Shown (x : leaf.Node) (n : Node) : Type 0 where
  pub text : List ℕ
  pub rest : List ℕ
  pub long : length text ≡ text_length x
  pub is : shown x text rest ≡ reads n rest

unfoldable pub pass_rules : Unit {0}
unfolding counted mentioned labelled stepped judged capped
pass_rules = tt
