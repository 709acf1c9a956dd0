-- The tree at the start of a datum, by the node that was read there. Assumes nothing.
use mathlib.Core.Path.{◌≡◌, refl, sym, ap, ◌∙◌}
use mathlib.Core.Bool.{true}
use mathlib.Core.List.{List, [], ◌∷◌, ◌++◌, append_assoc}
use Prim.Native.Nat.{ℕ, ◌+◌}
use lib.ListN.{length, length-append}
use Rattle.laws.specs.Basics.{every, join, basics}
use Rattle.laws.proofs.Tests.{both_left, both_right}
use Rattle.laws.proofs.Variants.{clash}
use Rattle.rules.specs.Nodes.{Atom, Node, reads, read_node, write_node, node_fits}
use Rattle.rules.specs.Datum.{Datum, Data, atom, pair, vector, def, how_many, nodes, all_nodes, encode, datum_fits, datum_rules}
use Rattle.rules.proofs.Nodes.{read_written}

-- the first node of a tree, and the nodes after it
unfoldable pub first : Datum → Node
first (atom a) = Node.atom a
first (pair a d) = Node.pair
first (vector ds) = Node.vector (how_many ds)
first (def l d) = Node.def l

unfoldable pub others : Datum → List Node
others (atom a) = []
others (pair a d) = nodes a ++ nodes d
others (vector ds) = all_nodes ds
others (def l d) = nodes d

abbrev pub written : List Node → List ℕ
written ns = join write_node ns

first_others : (t : Datum) → nodes t ≡ first t ∷ others t
unfolding datum_rules first others
first_others (atom a) = refl
first_others (pair a d) = refl
first_others (vector ds) = refl
first_others (def l d) = refl

pub encode_is : (t : Datum) (rest : List ℕ) → encode t ++ rest ≡ write_node (first t) ++ (written (others t) ++ rest)
unfolding datum_rules basics
encode_is t rest =
    ap (λ (ns : List Node). written ns ++ rest) (first_others t) ∙ append_assoc (write_node (first t)) (written (others t)) rest

pub first_fits : (t : Datum) → datum_fits t ≡ true → node_fits (first t) ≡ true
unfolding datum_rules basics
first_fits t h =
    both_left (node_fits (first t)) _ (ap (every node_fits) (sym (first_others t)) ∙ h)

pub others_fit : (t : Datum) → datum_fits t ≡ true → every node_fits (others t) ≡ true
unfolding datum_rules basics
others_fit t h =
    both_right (node_fits (first t)) _ (ap (every node_fits) (sym (first_others t)) ∙ h)

-- the node that is read at the start of a tree's bytes
pub read_first : (t : Datum) (rest bs : List ℕ) → bs ≡ encode t ++ rest → datum_fits t ≡ true → read_node bs ≡ reads (first t) (written (others t) ++ rest)
read_first t rest bs e h =
    ap read_node (e ∙ encode_is t rest) ∙ read_written (first t) (written (others t) ++ rest) (first_fits t h)

pub encode_length : (t : Datum) → length (encode t) ≡ length (write_node (first t)) + length (written (others t))
unfolding datum_rules basics
encode_length t = ap (λ (ns : List Node). length (written ns)) (first_others t) ∙ length-append (write_node (first t)) (written (others t))

-- ---- which tree it is

pub record IsPair (t : Datum) : Type 0 where
  pub car : Datum
  pub cdr : Datum
  pub is : t ≡ pair car cdr

pub record IsVector (t : Datum) (n : ℕ) : Type 0 where
  pub items : Data
  pub is : t ≡ vector items
  pub many : n ≡ how_many items

pub record IsLabel (t : Datum) (l : ℕ) : Type 0 where
  pub inner : Datum
  pub is : t ≡ def l inner

pub is_atom : (t : Datum) (a : Atom) → first t ≡ Node.atom a → t ≡ atom a
unfolding first
is_atom (atom b) a e = let q : b ≡ a = cc in ap atom q
is_atom (pair x y) a e = let z : ◌≡◌ {A = ℕ} 0 1 = cc in clash z
is_atom (vector ds) a e = let z : ◌≡◌ {A = ℕ} 0 1 = cc in clash z
is_atom (def l d) a e = let z : ◌≡◌ {A = ℕ} 0 1 = cc in clash z

pub is_pair : (t : Datum) → first t ≡ Node.pair → IsPair t
unfolding first
is_pair (atom b) e = let z : ◌≡◌ {A = ℕ} 0 1 = cc in clash z
is_pair (pair x y) e = record { car = x; cdr = y; is = refl }
is_pair (vector ds) e = let z : ◌≡◌ {A = ℕ} 0 1 = cc in clash z
is_pair (def l d) e = let z : ◌≡◌ {A = ℕ} 0 1 = cc in clash z

pub is_vector : (t : Datum) (n : ℕ) → first t ≡ Node.vector n → IsVector t n
unfolding first
is_vector (atom b) n e = let z : ◌≡◌ {A = ℕ} 0 1 = cc in clash z
is_vector (pair x y) n e = let z : ◌≡◌ {A = ℕ} 0 1 = cc in clash z
is_vector (vector ds) n e = record { items = ds; is = refl; many = cc }
is_vector (def l d) n e = let z : ◌≡◌ {A = ℕ} 0 1 = cc in clash z

pub is_label : (t : Datum) (l : ℕ) → first t ≡ Node.def l → IsLabel t l
unfolding first
is_label (atom b) l e = let z : ◌≡◌ {A = ℕ} 0 1 = cc in clash z
is_label (pair x y) l e = let z : ◌≡◌ {A = ℕ} 0 1 = cc in clash z
is_label (vector ds) l e = let z : ◌≡◌ {A = ℕ} 0 1 = cc in clash z
is_label (def k d) l e = let q : k ≡ l = cc in record { inner = d; is = ap (λ (x : ℕ). def x d) q }
