-- The drafts are the rules' build: a datum is built just where a draft is made, and the draft has the datum's bytes. Document
-- 01, "Reading back". Assumes nothing.
use mathlib.Core.Path.{◌≡◌, refl, sym, ap, ◌∙◌}
use mathlib.Core.Bool.{Bool, true, false}
use mathlib.Core.List.{List, [], ◌∷◌, ◌++◌, append_assoc, append-nil}
use mathlib.Core.Option.{Option, none, some}
use Prim.Native.Nat.{ℕ, zero, suc}
use native.Mathlib.Omega.{arith}
use lib.ListN.{length}
use Rattle.laws.specs.Basics.{join, member, basics}
use Rattle.laws.proofs.Tests.{join_append}
use Rattle.rules.specs.Cells.{Value, slot, scalar, Cell, plain, pair, symbol, string, vector}
use Rattle.rules.specs.Nodes.{Atom, Node, write_node}
use Rattle.rules.specs.Datum.{Datum, Data, more, how_many, nodes, all_nodes, encode, datum_rules}
use Rattle.rules.specs.Heap.{Heap, cell_at, text_of, elements_of}
use Rattle.rules.specs.Read.{Room, Built, built, and_then, spend, place_in, build_all, build_cell, build, read_rules}
use Rattle.heap_build.specs.Drafts.{Draft, note, and_next, draft_all, draft_pair, draft_vector, draft_cell, draft_label, draft_slot, draft, draft_rules}

abbrev room_of : Draft → Room
room_of d = record { left = d.left; begun = d.begun }

-- the draft after what was built, by its bytes
unfoldable pub drawn : {A : Type 0} → (A → List ℕ) → Draft → Option (Built A) → Option Draft
drawn bytes d none = none
drawn bytes d (some b) = some (record { left = b.room.left; begun = b.room.begun; text = d.text ++ bytes b.made })

abbrev encode_all : Data → List ℕ
encode_all ds = join write_node (all_nodes ds)

-- two drafts that differ in how their texts are put together
same_text : (l : ℕ) (b x y : List ℕ) → x ≡ y → ◌≡◌ {A = Option Draft} (some (record { left = l; begun = b; text = x })) (some (record { left = l; begun = b; text = y }))
same_text l b x y e = ap (λ (t : List ℕ). some (record { left = l; begun = b; text = t })) e

-- one node alone
drawn_node : (a : Atom) (d : Draft) → note (Node.atom a) d ≡ drawn encode d (spend (room_of d) (built (Datum.atom a)))
unfolding draft_rules read_rules drawn datum_rules basics
drawn_node a d = go d.left
  where
    go : (k : ℕ) → elim k as (λ k. Option Draft) [ zero ↦ none | suc k ↦ some (record { left = k; begun = d.begun; text = d.text ++ write_node (Node.atom a) }) ] ≡ drawn encode d (elim k as (λ k. Option (Built Datum)) [ zero ↦ none | suc n ↦ built (Datum.atom a) (record { left = n; begun = d.begun }) ])
    go zero = refl
    go (suc k) = same_text k d.begun _ _ (ap (λ (l : List ℕ). d.text ++ l) (sym (append-nil (write_node (Node.atom a)))))

module _ (h : Heap) (one : Value → Room → Option (Built Datum)) (one' : Value → Draft → Option Draft) (same : (v : Value) (d : Draft) → one' v d ≡ drawn encode d (one v (room_of d))) where
  how_many_built : (vs : List Value) (r : Room) (b : Built Data) → build_all one vs r ≡ some b → how_many b.made ≡ length vs
  unfolding read_rules datum_rules
  how_many_built [] r b e = ap (λ (o : Option (Built Data)). elim o as (λ o. ℕ) [ none ↦ 0 | some b ↦ how_many b.made ]) (sym e)
  how_many_built (v ∷ vs) r b e = go (one v r) (λ r b e. how_many_built vs r b e) e
    where
      by : (x : Datum) (r : Room) → (o : Option (Built Data)) → build_all one vs r ≡ o → ((b : Built Data) → o ≡ some b → how_many b.made ≡ length vs) → and_then o (λ ds. built (more x ds)) ≡ some b → how_many b.made ≡ suc (length vs)
      by x r none q again e = let z : ◌≡◌ {A = ℕ} 0 1 = cc in absurd (omega arith)
      by x r (some y) q again e =
          ap (λ (o : Option (Built Data)). elim o as (λ o. ℕ) [ none ↦ 0 | some b ↦ how_many b.made ]) (sym e) ∙ ap suc (again y refl)

      go : (o : Option (Built Datum)) → ((r : Room) (b : Built Data) → build_all one vs r ≡ some b → how_many b.made ≡ length vs) → and_then o (λ d r. and_then (build_all one vs r) (λ ds. built (more d ds))) ≡ some b → how_many b.made ≡ suc (length vs)
      go none again e = let z : ◌≡◌ {A = ℕ} 0 1 = cc in absurd (omega arith)
      go (some x) again e = by x.made x.room (build_all one vs x.room) refl (λ b e. again x.room b e) e

  all_drawn : (vs : List Value) (d : Draft) → draft_all one' vs d ≡ drawn encode_all d (build_all one vs (room_of d))
  unfolding draft_rules read_rules drawn datum_rules basics
  all_drawn [] d = same_text d.left d.begun _ _ (sym (append-nil d.text))
  all_drawn (v ∷ vs) d = ap (λ (o : Option Draft). and_next o (λ d. draft_all one' vs d)) (same v d) ∙ go (one v (room_of d)) (λ d. all_drawn vs d)
    where
      by : (x : Datum) (o : Option (Built Data)) (e : Draft) → e.text ≡ d.text ++ encode x → drawn encode_all e o ≡ drawn encode_all d (and_then o (λ ds. built (more x ds)))
      by x none e t = refl
      by x (some y) e t =
          same_text y.room.left y.room.begun _ _
          (ap (λ (l : List ℕ). l ++ encode_all y.made) t ∙ append_assoc d.text (encode x) (encode_all y.made)
          ∙ ap (λ (l : List ℕ). d.text ++ l) (sym (join_append write_node (nodes x) (all_nodes y.made))))

      go : (o : Option (Built Datum)) → ((d : Draft) → draft_all one' vs d ≡ drawn encode_all d (build_all one vs (room_of d))) → and_next (drawn encode d o) (λ d. draft_all one' vs d) ≡ drawn encode_all d (and_then o (λ d r. and_then (build_all one vs r) (λ ds. built (more d ds))))
      go none again = refl
      go (some x) again =
          let e : Draft = record { left = x.room.left; begun = x.room.begun; text = d.text ++ encode x.made } in
          again e ∙ by x.made (build_all one vs x.room) e refl

  -- a pair
  pair_drawn : (a b : ℕ) (d : Draft) → draft_pair one' a b d ≡ drawn encode d (build_cell one h (pair a b) (room_of d))
  unfolding draft_rules read_rules drawn datum_rules basics
  pair_drawn a b d = go d.left
    where
      last : (x : Datum) (o : Option (Built Datum)) (e : Draft) → e.text ≡ (d.text ++ write_node Node.pair) ++ encode x → drawn encode e o ≡ drawn encode d (and_then o (λ y. built (Datum.pair x y)))
      last x none e t = refl
      last x (some y) e t =
          same_text y.room.left y.room.begun _ _
          (ap (λ (l : List ℕ). l ++ encode y.made) t ∙ append_assoc (d.text ++ write_node Node.pair) (encode x) (encode y.made)
          ∙ append_assoc d.text (write_node Node.pair) (encode x ++ encode y.made)
          ∙ ap (λ (l : List ℕ). d.text ++ (write_node Node.pair ++ l)) (sym (join_append write_node (nodes x) (nodes y.made))))

      first : (k : ℕ) (e : Draft) → e.text ≡ d.text ++ write_node Node.pair → (o : Option (Built Datum)) → and_next (drawn encode e o) (λ d. one' (slot b) d) ≡ drawn encode d (and_then o (λ x r. and_then (one (slot b) r) (λ y. built (Datum.pair x y))))
      first k e t none = refl
      first k e t (some x) =
          let f : Draft = record { left = x.room.left; begun = x.room.begun; text = e.text ++ encode x.made } in
          same (slot b) f ∙ last x.made (one (slot b) x.room) f (ap (λ (l : List ℕ). l ++ encode x.made) t)

      go : (k : ℕ) → and_next (elim k as (λ k. Option Draft) [ zero ↦ none | suc k ↦ some (record { left = k; begun = d.begun; text = d.text ++ write_node Node.pair }) ]) (λ d. and_next (one' (slot a) d) (λ d. one' (slot b) d)) ≡ drawn encode d (elim k as (λ k. Option (Built Datum)) [ zero ↦ none | suc n ↦ and_then (one (slot a) (record { left = n; begun = d.begun })) (λ x r. and_then (one (slot b) r) (λ y. built (Datum.pair x y))) ])
      go zero = refl
      go (suc k) =
          let e : Draft = record { left = k; begun = d.begun; text = d.text ++ write_node Node.pair } in
          ap (λ (o : Option Draft). and_next o (λ d. one' (slot b) d)) (same (slot a) e)
          ∙ first k e refl (one (slot a) (record { left = k; begun = d.begun }))

  -- a vector
  vector_drawn : (vs : List Value) (d : Draft) → draft_vector one' vs d ≡ drawn encode d (spend (room_of d) (λ r. and_then (build_all one vs r) (λ ds. built (Datum.vector ds))))
  unfolding draft_rules read_rules drawn datum_rules basics
  vector_drawn vs d = go d.left
    where
      last : (e : Draft) → e.text ≡ d.text ++ write_node (Node.vector (length vs)) → (o : Option (Built Data)) → ((b : Built Data) → o ≡ some b → how_many b.made ≡ length vs) → drawn encode_all e o ≡ drawn encode d (and_then o (λ ds. built (Datum.vector ds)))
      last e t none m = refl
      last e t (some y) m =
          same_text y.room.left y.room.begun _ _
          (ap (λ (l : List ℕ). l ++ encode_all y.made) t
          ∙ append_assoc d.text (write_node (Node.vector (length vs))) (encode_all y.made)
          ∙ ap (λ (n : ℕ). d.text ++ (write_node (Node.vector n) ++ encode_all y.made)) (sym (m y refl)))

      go : (k : ℕ) → and_next (elim k as (λ k. Option Draft) [ zero ↦ none | suc k ↦ some (record { left = k; begun = d.begun; text = d.text ++ write_node (Node.vector (length vs)) }) ]) (λ d. draft_all one' vs d) ≡ drawn encode d (elim k as (λ k. Option (Built Datum)) [ zero ↦ none | suc n ↦ and_then (build_all one vs (record { left = n; begun = d.begun })) (λ ds. built (Datum.vector ds)) ])
      go zero = refl
      go (suc k) =
          let e : Draft = record { left = k; begun = d.begun; text = d.text ++ write_node (Node.vector (length vs)) } in
          all_drawn vs e
          ∙ last e refl (build_all one vs (record { left = k; begun = d.begun }))
          (how_many_built vs (record { left = k; begun = d.begun }))

  cell_drawn : (c : Cell) (d : Draft) → draft_cell one' h c d ≡ drawn encode d (build_cell one h c (room_of d))
  unfolding draft_cell build_cell
  cell_drawn (plain x) d = drawn_node (Atom.plain x) d
  cell_drawn (symbol b) d = drawn_node (Atom.symbol (text_of h b)) d
  cell_drawn (string b) d = drawn_node (Atom.string (text_of h b)) d
  cell_drawn (pair a b) d = pair_drawn a b d
  cell_drawn (vector b) d = vector_drawn (elements_of h b) d

  -- a labelled slot
  label_drawn : (c : Cell) (label s : ℕ) (d : Draft) → draft_label (draft_cell one' h c) label s d ≡ drawn encode d (spend (room_of d) (λ r. elim (member s r.begun) as (λ m. Option (Built Datum)) [ true ↦ built (Datum.atom (Atom.ref label)) r | false ↦ and_then (build_cell one h c (record { left = r.left; begun = s ∷ r.begun })) (λ x. built (Datum.def label x)) ]))
  unfolding draft_label draft_rules read_rules drawn datum_rules basics
  label_drawn c label s d = go (member s d.begun) d.left
    where
      last : (e : Draft) → e.text ≡ d.text ++ write_node (Node.def label) → (o : Option (Built Datum)) → drawn encode e o ≡ drawn encode d (and_then o (λ x. built (Datum.def label x)))
      last e t none = refl
      last e t (some y) =
          same_text y.room.left y.room.begun _ _
          (ap (λ (l : List ℕ). l ++ encode y.made) t ∙ append_assoc d.text (write_node (Node.def label)) (encode y.made))

      go : (m : Bool) (k : ℕ) → elim m as (λ m. Option Draft) [ true ↦ elim k as (λ k. Option Draft) [ zero ↦ none | suc k ↦ some (record { left = k; begun = d.begun; text = d.text ++ write_node (Node.atom (Atom.ref label)) }) ] | false ↦ and_next (elim k as (λ k. Option Draft) [ zero ↦ none | suc k ↦ some (record { left = k; begun = s ∷ d.begun; text = d.text ++ write_node (Node.def label) }) ]) (draft_cell one' h c) ] ≡ drawn encode d (elim k as (λ k. Option (Built Datum)) [ zero ↦ none | suc n ↦ elim m as (λ m. Option (Built Datum)) [ true ↦ built (Datum.atom (Atom.ref label)) (record { left = n; begun = d.begun }) | false ↦ and_then (build_cell one h c (record { left = n; begun = s ∷ d.begun })) (λ x. built (Datum.def label x)) ] ])
      go true zero = refl
      go true (suc k) = same_text k d.begun _ _ (ap (λ (l : List ℕ). d.text ++ l) (sym (append-nil (write_node (Node.atom (Atom.ref label))))))
      go false zero = refl
      go false (suc k) =
          let e : Draft = record { left = k; begun = s ∷ d.begun; text = d.text ++ write_node (Node.def label) } in
          cell_drawn c e ∙ last e refl (build_cell one h c (record { left = k; begun = s ∷ d.begun }))

  slot_drawn : (labels : List ℕ) (s : ℕ) (d : Draft) → draft_slot one' h labels s d ≡ drawn encode d (elim (member s labels) as (λ m. Option (Built Datum)) [ false ↦ build_cell one h (cell_at h s) (room_of d) | true ↦ spend (room_of d) (λ r. elim (member s r.begun) as (λ m. Option (Built Datum)) [ true ↦ built (Datum.atom (Atom.ref (place_in labels s))) r | false ↦ and_then (build_cell one h (cell_at h s) (record { left = r.left; begun = s ∷ r.begun })) (λ x. built (Datum.def (place_in labels s) x)) ]) ])
  unfolding draft_slot
  slot_drawn labels s d = go (member s labels)
    where
      go : (m : Bool) → elim m as (λ m. Option Draft) [ false ↦ draft_cell one' h (cell_at h s) d | true ↦ draft_label (draft_cell one' h (cell_at h s)) (place_in labels s) s d ] ≡ drawn encode d (elim m as (λ m. Option (Built Datum)) [ false ↦ build_cell one h (cell_at h s) (room_of d) | true ↦ spend (room_of d) (λ r. elim (member s r.begun) as (λ m. Option (Built Datum)) [ true ↦ built (Datum.atom (Atom.ref (place_in labels s))) r | false ↦ and_then (build_cell one h (cell_at h s) (record { left = r.left; begun = s ∷ r.begun })) (λ x. built (Datum.def (place_in labels s) x)) ]) ])
      go false = cell_drawn (cell_at h s) d
      go true = label_drawn (cell_at h s) (place_in labels s) s d

-- a value's draft has the bytes of what is built from it
pub draft_drawn : (n : ℕ) (h : Heap) (labels : List ℕ) (v : Value) (d : Draft) → draft n h labels v d ≡ drawn encode d (build n h labels v (room_of d))
unfolding draft build drawn
draft_drawn zero h labels v d = refl
draft_drawn (suc n) h labels (scalar x) d =
    cell_drawn h (λ v r. build n h labels v r) (λ v d. draft n h labels v d) (λ v d. draft_drawn n h labels v d) (plain x) d
draft_drawn (suc n) h labels (slot s) d =
    slot_drawn h (λ v r. build n h labels v r) (λ v d. draft n h labels v d) (λ v d. draft_drawn n h labels v d) labels s d
