-- What a build writes, node by node: each keeps 11's rules and 12's numbers, as many are written as the room loses, and no
-- label is referred to that is not begun by then. Document 01, "Reading back": "a labelled slot is a definition at first
-- meeting and a reference later." Assumes nothing.
use mathlib.Core.Path.{◌≡◌, refl, ap, ◌∙◌, subst}
use mathlib.Core.Bool.{Bool, true, false, not}
use mathlib.Core.List.{List, [], ◌∷◌, ◌++◌, map, append_assoc}
use mathlib.Core.Option.{Option, none, some}
use Prim.Native.Nat.{ℕ, zero, suc, ◌+◌, ◌≤◌, ◌<◌}
use native.Mathlib.Omega.{arith}
use borrow.Author.Tests.{leb-true, le-leb, lt-ltb}
use lib.Dec.{leb, ltb}
use lib.ListN.{length, length-append}
use Rattle.laws.specs.Basics.{both, either, every, member, basics}
use Rattle.laws.proofs.Tests.{both_left, both_right, both_true, every_append}
use Rattle.laws.proofs.Pointwise.{all_every, length_part, get_d_part}
use Rattle.laws.proofs.Options.{some_value, none_some}
use Rattle.rules.specs.Numbers.{bits32, most_labels, most_vector, most_string, most_name}
use Rattle.rules.specs.Utf8.{utf8}
use Rattle.rules.specs.Cells.{Scalar, undefined, Value, slot, scalar, Block, Cell, plain, pair, symbol, string, vector}
use Rattle.rules.specs.Nodes.{Atom, Node, node_fits, scalar_fits, text_fits, nodes_rules}
use Rattle.rules.specs.Datum.{Datum, Data, more, how_many, nodes, all_nodes, node_within, label_of, refers_early, datum_rules}
use Rattle.rules.specs.Heap.{Heap, cell_at, text_of, elements_of}
use Rattle.rules.specs.Sound.{sound_rules}
use Rattle.rules.specs.Read.{Room, Built, built, and_then, spend, place_in, build_all, build_cell, build, read_rules}
use Rattle.rules.proofs.Good.{element_at, Good, CellGood}
use Rattle.rules.proofs.Keeping.{lies_below}
use Rattle.read_laws.proofs.Texts.{utf8_bytes}
use Rattle.read_laws.proofs.Limits.{place_below, member_map}

-- ---- values that a node can hold

-- a Number of a heap is in 64 bits, a Char is allowed
unfoldable pub value_fits : Value → Bool
value_fits (slot s) = true
value_fits (scalar x) = scalar_fits x

unfoldable pub cell_fits : Cell → Bool
cell_fits (plain x) = scalar_fits x
cell_fits (pair a d) = true
cell_fits (symbol b) = true
cell_fits (string b) = true
cell_fits (vector b) = true

pub record Narrow (h : Heap) : Type 0 where
  pub cells : (s : ℕ) → cell_fits (cell_at h s) ≡ true
  pub elements : (k : ℕ) → value_fits (element_at h k) ≡ true

-- ---- nodes written

-- the node keeps 11's rules and 12's numbers, and its label is below a number
unfoldable pub node_fine : ℕ → Node → Bool
node_fine m n = both (node_fits n) (both (node_within n) (every (λ l. ltb l m) (label_of n)))

-- the labels of slots
abbrev pub numbered : List ℕ → List ℕ → List ℕ
numbered labels begun = map (place_in labels) begun

pub record Written (labels : List ℕ) (before : Room) (ns : List Node) (after : Room) : Type 0 where
  pub fine : every (node_fine (length labels)) ns ≡ true
  pub spent : length ns + after.left ≡ before.left
  pub early : (rest : List Node) → refers_early (numbered labels before.begun) (ns ++ rest) ≡ refers_early (numbered labels after.begun) rest

module _ (labels : List ℕ) where
  written_none : (r : Room) → Written labels r [] r
  unfolding basics
  written_none r = record { fine = refl; spent = omega arith; early = λ rest. refl }

  written_append : (a b c : Room) (xs ys : List Node) → Written labels a xs b → Written labels b ys c → Written labels a (xs ++ ys) c
  written_append a b c xs ys p q =
      record {
        fine = every_append (node_fine (length labels)) xs ys p.fine q.fine;
        spent = omega (arith, length-append xs ys, p.spent, q.spent);
        early =
            λ rest.
            ap (refers_early (numbered labels a.begun)) (append_assoc xs ys rest) ∙ p.early (ys ++ rest) ∙ q.early rest;
      }

  -- one node
  written_one : (a b : Room) (n : Node) → node_fine (length labels) n ≡ true → a.left ≡ suc b.left → ((rest : List Node) → refers_early (numbered labels a.begun) (n ∷ rest) ≡ refers_early (numbered labels b.begun) rest) → Written labels a (n ∷ []) b
  unfolding basics
  written_one a b n f l e = record { fine = both_true f refl; spent = omega (arith, l); early = e }

-- ---- what a step of the build gives

-- a part was built, and what follows it
pub record Went {A B : Type 0} (o : Option (Built A)) (next : A → Room → Option (Built B)) (b : Built B) : Type 0 where
  pub first : Built A
  pub is : o ≡ some first
  pub then : next first.made first.room ≡ some b

pub went : {A B : Type 0} (o : Option (Built A)) (next : A → Room → Option (Built B)) (b : Built B) → and_then o next ≡ some b → Went o next b
unfolding and_then
went none next b e = absurd (none_some e)
went (some a) next b e = record { first = a; is = refl; then = e }

-- a node was spent
pub record Spent {A : Type 0} (r : Room) (next : Room → Option (Built A)) (b : Built A) : Type 0 where
  pub left : ℕ
  pub is : r.left ≡ suc left
  pub then : next (record { left = left; begun = r.begun }) ≡ some b

pub spent_one : {A : Type 0} (r : Room) (next : Room → Option (Built A)) (b : Built A) → spend r next ≡ some b → Spent r next b
unfolding spend
spent_one {A} r next b e = go r.left refl e
  where
    go : (k : ℕ) → r.left ≡ k → elim k as (λ k. Option (Built A)) [ zero ↦ none | suc n ↦ next (record { left = n; begun = r.begun }) ] ≡ some b → Spent r next b
    go zero q e = absurd (none_some e)
    go (suc n) q e = record { left = n; is = q; then = e }

-- ---- a cell's nodes

text_node : (h : Heap) (b : Block) (most : ℕ) → most < bits32 → both (leb b.size most) (utf8 (text_of h b)) ≡ true → b.place + b.size ≤ length h.bytes → both (text_fits (text_of h b)) (leb (length (text_of h b)) most) ≡ true
unfolding nodes_rules
text_node h b most small a lies =
    let size = length_part h.bytes b.place b.size lies in
    let u = both_right (leb b.size most) _ a in
    let le = leb-true b.size most (both_left (leb b.size most) _ a) in
    both_true
    (both_true (lt-ltb (length (text_of h b)) bits32 (omega (arith, size, le, small))) (both_true (utf8_bytes (text_of h b) u) u))
    (le-leb (length (text_of h b)) most (omega (arith, size, le)))

module _ (h : Heap) (g : Good h) (narrow : Narrow h) (labels : List ℕ) (few : length labels ≤ most_labels) where
  -- a build of one value, or of some, writes well
  abbrev Writes : (Value → Room → Option (Built Datum)) → Type 0
  Writes one = (v : Value) (r : Room) (b : Built Datum) → value_fits v ≡ true → one v r ≡ some b → Written labels r (nodes b.made) b.room

  pub record AllWritten (vs : List Value) (r : Room) (b : Built Data) : Type 0 where
    pub written : Written labels r (all_nodes b.made) b.room
    pub many : how_many b.made ≡ length vs

  all_written : (one : Value → Room → Option (Built Datum)) → Writes one → (vs : List Value) → every value_fits vs ≡ true → (r : Room) (b : Built Data) → build_all one vs r ≡ some b → AllWritten vs r b
  unfolding read_rules datum_rules basics
  all_written one w [] f r b e =
      subst (λ (x : Built Data). AllWritten [] r x) (some_value e) (record { written = written_none labels r; many = refl })
  all_written one w (v ∷ vs) f r b e =
      let x = went (one v r) (λ d r. and_then (build_all one vs r) (λ ds. built (more d ds))) b e in
      let d = x.first in
      let y = went (build_all one vs d.room) (λ ds. built (more d.made ds)) b x.then in
      let ds = y.first in
      let p = w v r d (both_left (value_fits v) _ f) x.is in
      let q = all_written one w vs (both_right (value_fits v) _ f) d.room ds y.is in
      subst (λ (x : Built Data). AllWritten (v ∷ vs) r x) (some_value y.then)
      (record {
        written = written_append labels r d.room ds.room (nodes d.made) (all_nodes ds.made) p q.written;
        many = ap suc q.many;
      })

  elements_fit : (b : Block) → b.place + b.size ≤ length h.elements → every value_fits (elements_of h b) ≡ true
  elements_fit b lies =
      all_every value_fits (scalar undefined) (elements_of h b)
      (λ i l.
      let size = length_part h.elements b.place b.size lies in
      ap value_fits (get_d_part h.elements b.place b.size i (scalar undefined) (omega (arith, size)))
      ∙ narrow.elements (b.place + i))

  -- a node that neither begins a label nor refers to one
  plain_node : (r : Room) (n : Node) (k : ℕ) → r.left ≡ suc k → both (node_fits n) (node_within n) ≡ true → label_of n ≡ [] → ((begun : List ℕ) (rest : List Node) → refers_early begun (n ∷ rest) ≡ refers_early begun rest) → Written labels r (n ∷ []) (record { left = k; begun = r.begun })
  unfolding node_fine basics
  plain_node r n k l f quiet e =
      written_one labels r (record { left = k; begun = r.begun }) n
      (both_true (both_left (node_fits n) _ f)
      (both_true (both_right (node_fits n) _ f) (ap (every (λ l. ltb l (length labels))) quiet))) l
      (e (numbered labels r.begun))

  scalar_written : (one : Value → Room → Option (Built Datum)) (x : Scalar) → scalar_fits x ≡ true → (r : Room) (b : Built Datum) → build_cell one h (plain x) r ≡ some b → Written labels r (nodes b.made) b.room
  unfolding read_rules datum_rules nodes_rules
  scalar_written one x f r b e =
      let s = spent_one r (built (Datum.atom (Atom.plain x))) b e in
      subst (λ (y : Built Datum). Written labels r (nodes y.made) y.room) (some_value s.then)
      (plain_node r (Node.atom (Atom.plain x)) s.left s.is (both_true f refl) refl (λ begun rest. refl))

  cell_written : (one : Value → Room → Option (Built Datum)) → Writes one → (c : Cell) → CellGood h c → cell_fits c ≡ true → (r : Room) (b : Built Datum) → build_cell one h c r ≡ some b → Written labels r (nodes b.made) b.room
  unfolding read_rules datum_rules nodes_rules sound_rules value_fits cell_fits
  cell_written one w (plain x) c f r b e = scalar_written one x f r b e
  cell_written one w (symbol t) c f r b e =
      let s = spent_one r (built (Datum.atom (Atom.symbol (text_of h t)))) b e in
      subst (λ (y : Built Datum). Written labels r (nodes y.made) y.room) (some_value s.then)
      (plain_node r (Node.atom (Atom.symbol (text_of h t))) s.left s.is
      (text_node h t most_name (omega arith) c.allowed (lies_below (length h.bytes) t c.text_in)) refl (λ begun rest. refl))
  cell_written one w (string t) c f r b e =
      let s = spent_one r (built (Datum.atom (Atom.string (text_of h t)))) b e in
      subst (λ (y : Built Datum). Written labels r (nodes y.made) y.room) (some_value s.then)
      (plain_node r (Node.atom (Atom.string (text_of h t))) s.left s.is
      (text_node h t most_string (omega arith) c.allowed (lies_below (length h.bytes) t c.text_in)) refl (λ begun rest. refl))
  cell_written one w (pair a d) c f r b e =
      let s = spent_one r (λ r. and_then (one (slot a) r) (λ x r. and_then (one (slot d) r) (λ y. built (Datum.pair x y)))) b e in
      let r₁ : Room = record { left = s.left; begun = r.begun } in
      let x = went (one (slot a) r₁) (λ x r. and_then (one (slot d) r) (λ y. built (Datum.pair x y))) b s.then in
      let y = went (one (slot d) x.first.room) (λ y. built (Datum.pair x.first.made y)) b x.then in
      let p = w (slot a) r₁ x.first refl x.is in
      let q = w (slot d) x.first.room y.first refl y.is in
      subst (λ (z : Built Datum). Written labels r (nodes z.made) z.room) (some_value y.then)
      (written_append labels r r₁ y.first.room (Node.pair ∷ []) (nodes x.first.made ++ nodes y.first.made)
      (plain_node r Node.pair s.left s.is refl refl (λ begun rest. refl))
      (written_append labels r₁ x.first.room y.first.room (nodes x.first.made) (nodes y.first.made) p q))
  cell_written one w (vector t) c f r b e =
      let s = spent_one r (λ r. and_then (build_all one (elements_of h t) r) (λ ds. built (Datum.vector ds))) b e in
      let r₁ : Room = record { left = s.left; begun = r.begun } in
      let x = went (build_all one (elements_of h t) r₁) (λ ds. built (Datum.vector ds)) b s.then in
      let lies = lies_below (length h.elements) t c.vector_in in
      let q = all_written one w (elements_of h t) (elements_fit t lies) r₁ x.first x.is in
      let size = q.many ∙ length_part h.elements t.place t.size lies in
      let most = leb-true t.size most_vector c.allowed in
      let m = how_many x.first.made in
      subst (λ (z : Built Datum). Written labels r (nodes z.made) z.room) (some_value x.then)
      (written_append labels r r₁ x.first.room (Node.vector m ∷ []) (all_nodes x.first.made)
      (plain_node r (Node.vector m) s.left s.is
      (both_true (lt-ltb m bits32 (omega (arith, size, most))) (le-leb m most_vector (omega (arith, size, most)))) refl (λ begun rest. refl))
      q.written)

  -- ---- a value's nodes

  -- a node of a labelled slot
  label_fine : (s : ℕ) → member s labels ≡ true → every (λ l. ltb l (length labels)) (place_in labels s ∷ []) ≡ true
  unfolding basics
  label_fine s h = both_true (lt-ltb (place_in labels s) (length labels) (place_below labels s h)) refl

  label_small : (s : ℕ) → member s labels ≡ true → ltb (place_in labels s) bits32 ≡ true
  label_small s h = lt-ltb (place_in labels s) bits32 (omega (arith, place_below labels s h, few))

  ref_written : (s : ℕ) (r : Room) (k : ℕ) → member s labels ≡ true → member s r.begun ≡ true → r.left ≡ suc k → Written labels r (Node.atom (Atom.ref (place_in labels s)) ∷ []) (record { left = k; begun = r.begun })
  unfolding node_fine datum_rules nodes_rules
  ref_written s r k m begun l =
      written_one labels r (record { left = k; begun = r.begun }) (Node.atom (Atom.ref (place_in labels s)))
      (both_true (label_small s m) (both_true refl (label_fine s m))) l
      (λ rest.
      ap (λ (b : Bool). either (not b) (refers_early (numbered labels r.begun) rest)) (member_map (place_in labels) s r.begun begun))

  def_written : (s : ℕ) (r : Room) (k : ℕ) → member s labels ≡ true → r.left ≡ suc k → Written labels r (Node.def (place_in labels s) ∷ []) (record { left = k; begun = s ∷ r.begun })
  unfolding node_fine datum_rules nodes_rules
  def_written s r k m l =
      written_one labels r (record { left = k; begun = s ∷ r.begun }) (Node.def (place_in labels s))
      (both_true (label_small s m) (both_true refl (label_fine s m))) l
      (λ rest. refl)

  slot_written : (one : Value → Room → Option (Built Datum)) → Writes one → (s : ℕ) (r : Room) (b : Built Datum) (m : Bool) → member s labels ≡ m → elim m as (λ m. Option (Built Datum)) [ false ↦ build_cell one h (cell_at h s) r | true ↦ spend r (λ r. elim (member s r.begun) as (λ m. Option (Built Datum)) [ true ↦ built (Datum.atom (Atom.ref (place_in labels s))) r | false ↦ and_then (build_cell one h (cell_at h s) (record { left = r.left; begun = s ∷ r.begun })) (λ d. built (Datum.def (place_in labels s) d)) ]) ] ≡ some b → Written labels r (nodes b.made) b.room
  unfolding datum_rules
  slot_written one w s r b false m e = cell_written one w (cell_at h s) (g.cells s) (narrow.cells s) r b e
  slot_written one w s r b true m e =
      let x = spent_one r (λ r. elim (member s r.begun) as (λ m. Option (Built Datum)) [ true ↦ built (Datum.atom (Atom.ref (place_in labels s))) r | false ↦ and_then (build_cell one h (cell_at h s) (record { left = r.left; begun = s ∷ r.begun })) (λ d. built (Datum.def (place_in labels s) d)) ]) b e in
      go x.left x.is (member s r.begun) refl x.then
    where
      go : (k : ℕ) → r.left ≡ suc k → (t : Bool) → member s r.begun ≡ t → elim t as (λ m. Option (Built Datum)) [ true ↦ built (Datum.atom (Atom.ref (place_in labels s))) (record { left = k; begun = r.begun }) | false ↦ and_then (build_cell one h (cell_at h s) (record { left = k; begun = s ∷ r.begun })) (λ d. built (Datum.def (place_in labels s) d)) ] ≡ some b → Written labels r (nodes b.made) b.room
      go k l true t e =
          subst (λ (y : Built Datum). Written labels r (nodes y.made) y.room) (some_value e) (ref_written s r k m t l)
      go k l false t e =
          let r₁ : Room = record { left = k; begun = s ∷ r.begun } in
          let y = went (build_cell one h (cell_at h s) r₁) (λ d. built (Datum.def (place_in labels s) d)) b e in
          subst (λ (z : Built Datum). Written labels r (nodes z.made) z.room) (some_value y.then)
          (written_append labels r r₁ y.first.room (Node.def (place_in labels s) ∷ []) (nodes y.first.made)
          (def_written s r k m l)
          (cell_written one w (cell_at h s) (g.cells s) (narrow.cells s) r₁ y.first y.is))

  pub build_written : (n : ℕ) → Writes (λ v r. build n h labels v r)
  unfolding read_rules value_fits
  build_written zero v r b f e = absurd (none_some e)
  build_written (suc n) (scalar x) r b f e = scalar_written (λ v r. build n h labels v r) x f r b e
  build_written (suc n) (slot s) r b f e =
      slot_written (λ v r. build n h labels v r) (build_written n) s r b (member s labels) refl e
