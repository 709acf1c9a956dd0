-- The datum tree, its nodes in prefix order, and the parse of any list of bytes into a tree or a fault with its node.
-- Document 01, "What a caller is told", rows 11, 12 and 13, and "Numbers". Assumes nothing.
use Rattle.std.specs.Prelude.{Bool, true, false, not, List, [], ◌∷◌, ◌++◌, ℕ, zero, suc, ◌+◌, ◌*◌, leb, length}
use Rattle.laws.specs.Basics.{both, either, every, join, member, distinct, basics}
use Rattle.rules.specs.Numbers.{most_nodes, most_labels, most_vector, most_string, most_name}
use Rattle.rules.specs.Refusals.{Fault, cut_short, left_over}
use Rattle.rules.specs.Nodes.{Atom, Node, reads, faulty, write_node, read_node, nodes_rules, node_fits}

mutual
  pub data Datum : Type 0 where
    atom : Atom → Datum
    pair : Datum → Datum → Datum
    vector : Data → Datum
    def : ℕ → Datum → Datum

  pub data Data : Type 0 where
    end : Data
    more : Datum → Data → Data

unfoldable pub how_many : Data → ℕ
how_many end = 0
how_many (more d ds) = suc (how_many ds)

-- ---- writing

-- the nodes in prefix order
unfoldable mutual
  unfolding how_many

  pub nodes : Datum → List Node
  nodes (atom a) = Node.atom a ∷ []
  nodes (pair a d) = Node.pair ∷ nodes a ++ nodes d
  nodes (vector ds) = Node.vector (how_many ds) ∷ all_nodes ds
  nodes (def l d) = Node.def l ∷ nodes d

  pub all_nodes : Data → List Node
  all_nodes end = []
  all_nodes (more d ds) = nodes d ++ all_nodes ds

unfoldable pub encode : Datum → List ℕ
unfolding nodes nodes_rules basics
encode d = join write_node (nodes d)

-- ---- parsing

-- what was read, the bytes that are left and the number of the next node; or a fault and the node where it was found
pub data Parsed (A : Type 0) : Type 0 where
  parsed : A → List ℕ → ℕ → Parsed A
  fault : Fault → ℕ → Parsed A

unfoldable pub then : {A B : Type 0} → Parsed A → (A → List ℕ → ℕ → Parsed B) → Parsed B
then (parsed a bs k) next = next a bs k
then (fault x k) next = fault x k

-- the datum that begins with a node, by what follows that node: `one` reads a datum, `some` as many as it is told
unfoldable pub of_node : (List ℕ → ℕ → Parsed Datum) → (ℕ → List ℕ → ℕ → Parsed Data) → Node → List ℕ → ℕ → Parsed Datum
unfolding then
of_node one some (Node.atom a) bs k = parsed (atom a) bs k
of_node one some Node.pair bs k = then (one bs k) (λ a bs k. then (one bs k) (λ d. parsed (pair a d)))
of_node one some (Node.vector n) bs k = then (some n bs k) (λ ds. parsed (vector ds))
of_node one some (Node.def l) bs k = then (one bs k) (λ d. parsed (def l d))

-- Reading bytes at node k. The first number only bounds how deep the calls go: each datum takes a byte at least, so twice
-- the bytes and two are always enough.
unfoldable mutual
  unfolding of_node nodes_rules

  pub datum_at : ℕ → List ℕ → ℕ → Parsed Datum
  datum_at zero bs k = fault cut_short k
  datum_at (suc f) bs k =
      elim (read_node bs) [
        | reads n rest ↦ of_node (λ bs k. datum_at f bs k) (λ n bs k. data_at f n bs k) n rest (suc k)
        | faulty x ↦ fault x k
      ]

  pub data_at : ℕ → ℕ → List ℕ → ℕ → Parsed Data
  data_at zero zero bs k = parsed end bs k
  data_at zero (suc n) bs k = fault cut_short k
  data_at (suc f) zero bs k = parsed end bs k
  data_at (suc f) (suc n) bs k = then (datum_at f bs k) (λ d bs k. then (data_at f n bs k) (λ ds. parsed (more d ds)))

-- a whole datum: nothing is left over
pub data Parse : Type 0 where
  good : Datum → Parse
  bad : Fault → ℕ → Parse

unfoldable pub whole : Parsed Datum → Parse
whole (parsed d [] k) = good d
whole (parsed d (b ∷ bs) k) = bad left_over k
whole (fault x k) = bad x k

unfoldable pub parse : List ℕ → Parse
unfolding datum_at data_at whole
parse bs = whole (datum_at (2 * length bs + 2) bs 0)

-- the datum's fields are in their widths and keep 11's rules
unfoldable pub datum_fits : Datum → Bool
unfolding nodes nodes_rules basics
datum_fits d = every node_fits (nodes d)

-- ---- 12: the numbers of a datum

unfoldable pub node_within : Node → Bool
node_within (Node.atom (Atom.plain s)) = true
node_within (Node.atom (Atom.string t)) = leb (length t) most_string
node_within (Node.atom (Atom.symbol t)) = leb (length t) most_name
node_within (Node.atom (Atom.ident s t)) = leb (length t) most_name
node_within (Node.atom (Atom.ref l)) = true
node_within Node.pair = true
node_within (Node.vector n) = leb n most_vector
node_within (Node.def l) = true

-- the label that a node defines or refers to
unfoldable pub label_of : Node → List ℕ
label_of (Node.atom (Atom.plain s)) = []
label_of (Node.atom (Atom.string t)) = []
label_of (Node.atom (Atom.symbol t)) = []
label_of (Node.atom (Atom.ident s t)) = []
label_of (Node.atom (Atom.ref l)) = l ∷ []
label_of Node.pair = []
label_of (Node.vector n) = []
label_of (Node.def l) = l ∷ []

unfoldable pub within_limits : Datum → Bool
unfolding nodes node_within label_of basics
within_limits d =
    both (leb (length (nodes d)) most_nodes)
    (both (leb (length (distinct (join label_of (nodes d)))) most_labels) (every node_within (nodes d)))

-- ---- 13: "a label is referred to before a definition of it has begun"

-- the labels begun by the nodes so far, then what a node does to them
unfoldable pub refers_early : List ℕ → List Node → Bool
unfolding basics
refers_early begun [] = false
refers_early begun (Node.atom (Atom.plain s) ∷ ns) = refers_early begun ns
refers_early begun (Node.atom (Atom.string t) ∷ ns) = refers_early begun ns
refers_early begun (Node.atom (Atom.symbol t) ∷ ns) = refers_early begun ns
refers_early begun (Node.atom (Atom.ident s t) ∷ ns) = refers_early begun ns
refers_early begun (Node.atom (Atom.ref l) ∷ ns) = either (not (member l begun)) (refers_early begun ns)
refers_early begun (Node.pair ∷ ns) = refers_early begun ns
refers_early begun (Node.vector n ∷ ns) = refers_early begun ns
refers_early begun (Node.def l ∷ ns) = refers_early (l ∷ begun) ns

unfoldable pub early_reference : Datum → Bool
unfolding nodes refers_early
early_reference d = refers_early [] (nodes d)

unfoldable pub datum_rules : Unit {0}
unfolding how_many nodes all_nodes encode then of_node datum_at data_at whole parse datum_fits node_within label_of within_limits
    refers_early early_reference
datum_rules = tt
