-- The rules' build as bytes in their order: what is written so far, the nodes left and the slots whose definitions have begun.
-- DraftLaws shows that this is the rules' build, written by `encode`. Assumes nothing.
use Rattle.std.specs.Prelude.{true, false, List, [], ◌∷◌, ◌++◌, ℕ, zero, suc, length}
use Rattle.std.proofs.Math.Option.{Option, none, some}
use Rattle.laws.specs.Basics.{member}
use Rattle.rules.specs.Cells.{Value, slot, scalar, Cell, plain, pair, symbol, string, vector}
use Rattle.rules.specs.Nodes.{Atom, Node, write_node}
use Rattle.rules.specs.Heap.{Heap, cell_at, text_of, elements_of}
use Rattle.rules.specs.Read.{place_in}

pub record Draft : Type 0 where
  pub left : ℕ
  pub begun : List ℕ
  pub text : List ℕ

-- one more node; none where none is left
unfoldable pub note : Node → Draft → Option Draft
note n d =
    elim d.left [
      | zero ↦ none
      | suc k ↦ some (record { left = k; begun = d.begun; text = d.text ++ write_node n })
    ]

unfoldable pub and_next : Option Draft → (Draft → Option Draft) → Option Draft
and_next none next = none
and_next (some d) next = next d

abbrev pub begin : ℕ → Draft → Draft
begin s d = record { left = d.left; begun = s ∷ d.begun; text = d.text }

unfoldable pub draft_all : (Value → Draft → Option Draft) → List Value → Draft → Option Draft
unfolding and_next
draft_all one [] d = some d
draft_all one (v ∷ vs) d = and_next (one v d) (λ d. draft_all one vs d)

unfoldable pub draft_pair : (Value → Draft → Option Draft) → ℕ → ℕ → Draft → Option Draft
unfolding note and_next
draft_pair one a b d = and_next (note Node.pair d) (λ d. and_next (one (slot a) d) (λ d. one (slot b) d))

unfoldable pub draft_vector : (Value → Draft → Option Draft) → List Value → Draft → Option Draft
unfolding note and_next draft_all
draft_vector one vs d = and_next (note (Node.vector (length vs)) d) (λ d. draft_all one vs d)

unfoldable pub draft_cell : (Value → Draft → Option Draft) → Heap → Cell → Draft → Option Draft
unfolding note draft_pair draft_vector
draft_cell one h (plain x) d = note (Node.atom (Atom.plain x)) d
draft_cell one h (symbol b) d = note (Node.atom (Atom.symbol (text_of h b))) d
draft_cell one h (string b) d = note (Node.atom (Atom.string (text_of h b))) d
draft_cell one h (pair a b) d = draft_pair one a b d
draft_cell one h (vector b) d = draft_vector one (elements_of h b) d

-- a labelled slot: "a definition at first meeting and a reference later"
unfoldable pub draft_label : (Draft → Option Draft) → ℕ → ℕ → Draft → Option Draft
unfolding note and_next
draft_label inside label s d =
    elim (member s d.begun) [
      | true ↦ note (Node.atom (Atom.ref label)) d
      | false ↦ and_next (note (Node.def label) (begin s d)) inside
    ]

unfoldable pub draft_slot : (Value → Draft → Option Draft) → Heap → List ℕ → ℕ → Draft → Option Draft
unfolding draft_cell draft_label
draft_slot one h labels s d =
    elim (member s labels) [
      | false ↦ draft_cell one h (cell_at h s) d
      | true ↦ draft_label (draft_cell one h (cell_at h s)) (place_in labels s) s d
    ]

-- the first number bounds the depth: each step down spends a node, so the nodes left are enough
unfoldable pub draft : ℕ → Heap → List ℕ → Value → Draft → Option Draft
unfolding draft_slot draft_cell
draft zero h labels v d = none
draft (suc n) h labels (scalar x) d = draft_cell (λ v d. draft n h labels v d) h (plain x) d
draft (suc n) h labels (slot s) d = draft_slot (λ v d. draft n h labels v d) h labels s d

unfoldable pub draft_rules : Unit {0}
unfolding note and_next draft_all draft_pair draft_vector draft_cell draft_label draft_slot draft
draft_rules = tt
