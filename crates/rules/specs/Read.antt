-- Document 01, "Reading back": the walk that gives labels, then the build in the same order. Assumes nothing.
use Rattle.std.specs.Prelude.{true, false, List, [], ◌∷◌, ◌++◌, ℕ, zero, suc, eqb, leb, length}
use Rattle.std.proofs.Math.Option.{Option, none, some}
use Rattle.laws.specs.Basics.{choose, member, basics}
use Rattle.rules.specs.Numbers.{most_nodes, most_labels}
use Rattle.rules.specs.Cells.{Value, slot, scalar, Cell, plain, pair, symbol, string, vector}
use Rattle.rules.specs.Nodes.{Atom}
use Rattle.rules.specs.Datum.{Datum, Data, end, more}
use Rattle.rules.specs.Heap.{Heap, capacity, cell_at, text_of, elements_of}

-- ---- the walk

-- the pairs and vectors met so far; and those that have a label, in the order of their labels, from 0
pub record Walk : Type 0 where
  pub met : List ℕ
  pub labels : List ℕ

abbrev pub meet : ℕ → Walk → Walk
meet s w = record { met = s ∷ w.met; labels = w.labels }

-- "gets, if it has none, the next label from 0"
unfoldable pub give_label : ℕ → Walk → Walk
unfolding basics
give_label s w =
    record { met = w.met; labels = choose (member s w.labels) w.labels (w.labels ++ (s ∷ [])) }

-- "each pair or vector once"; "A slot met again while on the current path"
unfoldable pub enter : List ℕ → ℕ → (Walk → Walk) → Walk → Walk
unfolding give_label basics
enter path s inside w =
    elim (member s path) [
      | true ↦ give_label s w
      | false ↦ elim (member s w.met) [ true ↦ w | false ↦ inside (meet s w) ]
    ]

unfoldable pub in_order : (Value → Walk → Walk) → List Value → Walk → Walk
in_order step [] w = w
in_order step (v ∷ vs) w = in_order step vs (step v w)

-- "Walk car before cdr, elements in order". The first number bounds the path: a path has each slot once.
unfoldable pub walk : ℕ → Heap → List ℕ → Value → Walk → Walk
unfolding enter in_order
walk zero h path v w = w
walk (suc n) h path (scalar x) w = w
walk (suc n) h path (slot s) w =
    elim (cell_at h s) [
      | plain x ↦ w
      | pair a d ↦ enter path s (λ w. walk n h (s ∷ path) (slot d) (walk n h (s ∷ path) (slot a) w)) w
      | symbol b ↦ w
      | string b ↦ w
      | vector b ↦ enter path s (in_order (λ v w. walk n h (s ∷ path) v w) (elements_of h b)) w
    ]

-- the labelled slots, in the order of their labels
unfoldable pub labels_for : Heap → Value → List ℕ
unfolding walk
labels_for h v = (walk (suc (capacity h)) h [] v (record { met = []; labels = [] })).labels

-- a slot's place among them is its label
unfoldable pub place_in : List ℕ → ℕ → ℕ
place_in [] s = 0
place_in (x ∷ xs) s = let r = suc (place_in xs s) in choose (eqb s x) 0 r

-- ---- the build

-- the nodes that may still be written, and the labelled slots already defined
pub record Room : Type 0 where
  pub left : ℕ
  pub begun : List ℕ

pub record Built (A : Type 0) : Type 0 where
  pub made : A
  pub room : Room

abbrev pub built : {A : Type 0} → A → Room → Option (Built A)
built a r = some (record { made = a; room = r })

unfoldable pub and_then : {A B : Type 0} → Option (Built A) → (A → Room → Option (Built B)) → Option (Built B)
and_then none next = none
and_then (some b) next = next b.made b.room

-- one node of those left; none where all are used
unfoldable pub spend : {A : Type 0} → Room → (Room → Option (Built A)) → Option (Built A)
spend r next = elim r.left [ zero ↦ none | suc n ↦ next (record { left = n; begun = r.begun }) ]

unfoldable pub build_all : (Value → Room → Option (Built Datum)) → List Value → Room → Option (Built Data)
unfolding and_then
build_all one [] r = built end r
build_all one (v ∷ vs) r = and_then (one v r) (λ d r. and_then (build_all one vs r) (λ ds. built (more d ds)))

-- a cell's datum, one node and what it holds: `one` builds a value's
unfoldable pub build_cell : (Value → Room → Option (Built Datum)) → Heap → Cell → Room → Option (Built Datum)
unfolding and_then spend build_all
build_cell one h (plain s) r = spend r (built (Datum.atom (Atom.plain s)))
build_cell one h (symbol b) r = spend r (built (Datum.atom (Atom.symbol (text_of h b))))
build_cell one h (string b) r = spend r (built (Datum.atom (Atom.string (text_of h b))))
build_cell one h (pair a d) r =
    spend r (λ r. and_then (one (slot a) r) (λ x r. and_then (one (slot d) r) (λ y. built (Datum.pair x y))))
build_cell one h (vector b) r =
    spend r (λ r. and_then (build_all one (elements_of h b) r) (λ ds. built (Datum.vector ds)))

-- "a labelled slot is a definition at first meeting and a reference later. Sharing without a cycle is written out again
-- in full." The first number bounds the depth: each step down spends a node, so the nodes left are enough.
unfoldable pub build : ℕ → Heap → List ℕ → Value → Room → Option (Built Datum)
unfolding build_cell spend and_then place_in basics
build zero h labels v r = none
build (suc n) h labels (scalar x) r = build_cell (λ v r. build n h labels v r) h (plain x) r
build (suc n) h labels (slot s) r =
    let one : Value → Room → Option (Built Datum) = λ v r. build n h labels v r in
    let label = place_in labels s in
    elim (member s labels) [
      | false ↦ build_cell one h (cell_at h s) r
      | true ↦
          spend r
          (λ r.
          elim (member s r.begun) [
            | true ↦ built (Datum.atom (Atom.ref label)) r
            | false ↦
                and_then (build_cell one h (cell_at h s) (record { left = r.left; begun = s ∷ r.begun }))
                (λ d. built (Datum.def label d))
          ])
    ]

-- ---- the reading: a datum, or none where it breaks a datum number (12)

unfoldable pub reading_of : Option (Built Datum) → Option Datum
reading_of none = none
reading_of (some b) = some b.made

unfoldable pub reading : Heap → Value → Option Datum
unfolding labels_for build reading_of
reading h v =
    elim (leb (length (labels_for h v)) most_labels) [
      | false ↦ none
      | true ↦ reading_of (build most_nodes h (labels_for h v) v (record { left = most_nodes; begun = [] }))
    ]

unfoldable pub read_rules : Unit {0}
unfolding give_label enter in_order walk labels_for place_in and_then spend build_all build_cell build reading_of reading
read_rules = tt
