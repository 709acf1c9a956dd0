-- A put keeps a heap good, and leaves what was there as it was, by induction over the tree. Document 01: "each accepted
-- call keeps it so". Assumes nothing.
use mathlib.Core.Path.{◌≡◌, refl, sym, ap, ◌∙◌}
use mathlib.Core.Bool.{Bool, true, false, not}
use mathlib.Core.List.{List, [], ◌∷◌, ◌++◌, append_assoc, append-nil}
use mathlib.Core.Option.{Option, none, some}
use Prim.Native.Nat.{ℕ, suc, ◌+◌, ◌-◌, ◌≤◌, ◌<◌}
use native.Mathlib.Omega.{arith}
use native.Mathlib.Decide.{ℕ_discrete}
use borrow.Author.Tests.{eq-eqb, ne_eqb, leb-true, ltb-true, le-leb, not-false}
use lib.Dec.{eqb, leb, ltb}
use lib.Seq.{ext_get_or}
use lib.ListN.{length, get_or, replicate, length-append, length-replicate, get_or-replicate}
use Rattle.laws.specs.Basics.{choose, every, find, member, basics}
use Rattle.laws.proofs.Tests.{true≢false, both_left, both_right, every_front, every_back, either_right_false, either_left_false, either_by}
use Rattle.laws.proofs.Pointwise.{every_same, get_d_part, length_part}
use Rattle.rules.specs.Numbers.{bits32, most_string, most_name, most_vector}
use Rattle.rules.specs.Utf8.{utf8}
use Rattle.rules.specs.Map.{state_of, Free}
use Rattle.rules.specs.Cells.{Scalar, undefined, nil, eof, void, bool, char, number, slot, scalar, Block, block, Cell}
use Rattle.rules.specs.Nodes.{Atom, Node, node_fits, scalar_fits, text_fits, bytes, nodes_rules}
use Rattle.rules.specs.Datum.{Datum, Data, end, more, how_many, nodes, all_nodes, node_within, refers_early, early_reference, datum_fits, datum_rules}
use Rattle.rules.specs.Heap.{Heap, Entry, Given, cell_at, in_use, shown, part_of, text_of, elements_of, name_at, block_after, alloc}
use Rattle.rules.specs.Sound.{scalar_allowed, value_allowed, value_named, text_block, vector_block, lies_in, sound_rules}
use Rattle.rules.specs.Calls.{call_rules}
use Rattle.rules.specs.Put.{Put, Making, Label, making, new_cell, in_slot, slot_in, with_label, slot_of, put_string, put_symbol, labelled, end_label, with_block, store_at, put_atom, put, put_all, put_datum, put_rules}
use Rattle.rules.proofs.Good.{element_at, Good, not_used}
use Rattle.rules.proofs.Keeping.{text_kept, name_kept, lies_below, lies_more, apart_sym, apart_empty, with_cell_used, with_cell_good, with_elements_good, with_elements_new, with_element_good}
use Rattle.rules.proofs.Allocate.{Took, took}
use Rattle.rules.proofs.Grows.{Clear, Grows, unlisted_kept, grows_refl, grows_trans, grows_less, grows_took, grows_elements, grows_element, grows_cell}
use Rattle.rules.proofs.PutCells.{CellFits, clear_empty, lies_none, pair_fits, shown_fits, shown_clear, Behind, nothing, after, behind, behind_apart, behind_lies, Done, InSlot, AtomDone, new_done, new_cell_done, in_slot_done, took_unlisted, put_string_done, grows_wider, put_symbol_done}

-- ---- labels

module _ (l : ℕ) (x : Label) (xs : List Label) where
  slot_here : x.label ≡ l → slot_of l (x ∷ xs) ≡ x.slot
  unfolding slot_of basics
  slot_here e =
      ap
      (λ (b : Bool).
      elim (elim b as (λ b. Option Label) [ true ↦ some x | false ↦ find (λ (x : Label). eqb x.label l) xs ]) as (λ o. ℕ)
      [ none ↦ 0 | some x ↦ x.slot ])
      (eq-eqb x.label l e)

  slot_there : (x.label ≡ l → ⊥) → slot_of l (x ∷ xs) ≡ slot_of l xs
  unfolding slot_of basics
  slot_there d =
      ap
      (λ (b : Bool).
      elim (elim b as (λ b. Option Label) [ true ↦ some x | false ↦ find (λ (x : Label). eqb x.label l) xs ]) as (λ o. ℕ)
      [ none ↦ 0 | some x ↦ x.slot ])
      (ne_eqb x.label l d)

abbrev label : ℕ → ℕ → Label
label l s = record { label = l; slot = s }

module _ (l s : ℕ) (x : Label) (xs : List Label) where
  label_hit : x.label ≡ l → with_label l s (x ∷ xs) ≡ label l s ∷ xs
  unfolding with_label
  label_hit e = ap (λ (b : Bool). choose b (label l s ∷ xs) (x ∷ with_label l s xs)) (eq-eqb x.label l e)

  label_miss : (x.label ≡ l → ⊥) → with_label l s (x ∷ xs) ≡ x ∷ with_label l s xs
  unfolding with_label
  label_miss d = ap (λ (b : Bool). choose b (label l s ∷ xs) (x ∷ with_label l s xs)) (ne_eqb x.label l d)

-- a label's slot is that of its latest definition
pub labelled_same : (l s : ℕ) (xs : List Label) → slot_of l (with_label l s xs) ≡ s
unfolding with_label
labelled_same l s [] = slot_here l (label l s) [] refl
labelled_same l s (x ∷ xs) =
    elim (ℕ_discrete x.label l) [
      | yes e ↦ ap (slot_of l) (label_hit l s x xs e) ∙ slot_here l (label l s) xs refl
      | no d ↦ ap (slot_of l) (label_miss l s x xs d) ∙ slot_there l x (with_label l s xs) d ∙ labelled_same l s xs
    ]

pub labelled_other : (l s k : ℕ) (xs : List Label) → (k ≡ l → ⊥) → slot_of k (with_label l s xs) ≡ slot_of k xs
unfolding with_label
labelled_other l s k [] d = slot_there k (label l s) [] (λ e. d (sym e))
labelled_other l s k (x ∷ xs) d =
    elim (ℕ_discrete x.label l) [
      | yes e ↦
          ap (slot_of k) (label_hit l s x xs e) ∙ slot_there k (label l s) xs (λ q. d (sym q))
          ∙ sym (slot_there k x xs (λ q. d (sym q ∙ e)))
      | no n ↦
          ap (slot_of k) (label_miss l s x xs n)
          ∙ (elim (ℕ_discrete x.label k) [
            | yes q ↦ slot_here k x (with_label l s xs) q ∙ sym (slot_here k x xs q)
            | no q ↦ slot_there k x (with_label l s xs) q ∙ labelled_other l s k xs d ∙ sym (slot_there k x xs q)
          ])
    ]

-- each label that was begun has a slot in use
abbrev pub Labels : List ℕ → Making → Type 0
Labels begun m = (l : ℕ) → member l begun ≡ true → in_use m.heap (slot_of l m.labels) ≡ true

-- the labels begun after a datum
unfoldable mutual
  pub begun_by : Datum → List ℕ → List ℕ
  begun_by (Datum.atom a) b = b
  begun_by (Datum.pair a d) b = begun_by d (begun_by a b)
  begun_by (Datum.vector ds) b = begun_all ds b
  begun_by (Datum.def l d) b = begun_by d (l ∷ b)

  pub begun_all : Data → List ℕ → List ℕ
  begun_all end b = b
  begun_all (more d ds) b = begun_all ds (begun_by d b)

-- what is left refers to no label that is not begun by then
mutual
  unfolding begun_by begun_all datum_rules

  pub later : (d : Datum) (begun : List ℕ) (rest : List Node) → refers_early begun (nodes d ++ rest) ≡ false → refers_early (begun_by d begun) rest ≡ false
  later (Datum.atom (Atom.plain s)) begun rest e = e
  later (Datum.atom (Atom.string t)) begun rest e = e
  later (Datum.atom (Atom.symbol t)) begun rest e = e
  later (Datum.atom (Atom.ident s t)) begun rest e = e
  later (Datum.atom (Atom.ref l)) begun rest e = either_right_false (not (member l begun)) _ e
  later (Datum.pair a d) begun rest e =
      later d (begun_by a begun) rest
      (later a begun (nodes d ++ rest) (ap (refers_early begun) (sym (append_assoc (nodes a) (nodes d) rest)) ∙ e))
  later (Datum.vector ds) begun rest e = later_all ds begun rest e
  later (Datum.def l d) begun rest e = later d (l ∷ begun) rest e

  pub later_all : (ds : Data) (begun : List ℕ) (rest : List Node) → refers_early begun (all_nodes ds ++ rest) ≡ false → refers_early (begun_all ds begun) rest ≡ false
  later_all end begun rest e = e
  later_all (more d ds) begun rest e =
      later_all ds (begun_by d begun) rest
      (later d begun (all_nodes ds ++ rest) (ap (refers_early begun) (sym (append_assoc (nodes d) (all_nodes ds) rest)) ∙ e))

-- ---- the steps of the induction

pub record PutDone (from : ℕ) (begun : List ℕ) (m : Making) (p : Put) : Type 0 where
  pub done : Done from m.heap p
  pub labels : Labels begun p.making

pub record SlotPut (from : ℕ) (begun : List ℕ) (m : Making) (p : Put) : Type 0 where
  pub here : InSlot from m.heap p
  pub labels : Labels begun p.making

pub record AllDone (from : ℕ) (begun : List ℕ) (m m' : Making) : Type 0 where
  pub good : Good m'.heap
  pub grows : Grows from m.heap m'.heap
  pub labels : Labels begun m'

labels_kept : (begun : List ℕ) (m m' : Making) → ((s : ℕ) → in_use m.heap s ≡ true → in_use m'.heap s ≡ true) → m'.labels ≡ m.labels → Labels begun m → Labels begun m'
labels_kept begun m m' used same ls l e =
    ap (λ (x : List Label). in_use m'.heap (slot_of l x)) same ∙ used (slot_of l m.labels) (ls l e)

new_cell_used : (m : Making) (c : Cell) → Good m.heap → (s : ℕ) → in_use m.heap s ≡ true → in_use (new_cell c m).making.heap s ≡ true
unfolding new_cell
new_cell_used m c g s e =
    let t = alloc m.heap in
    with_cell_used t.heap t.slot c s ∙ (took m.heap g).used s e

new_cell_labels : (m : Making) (c : Cell) → (new_cell c m).making.labels ≡ m.labels
unfolding new_cell
new_cell_labels m c = refl

in_slot_put : (from : ℕ) (begun : List ℕ) (m : Making) (p : Put) → PutDone from begun m p → SlotPut from begun m (in_slot p)
in_slot_put from begun m p d =
    let h = p.making.heap in
    let s = in_slot_done {from = from} {h₀ = h} p (record { good = d.done.good; grows = grows_refl from h; value = d.done.value }) in
    record {
      here =
          record {
            good = s.here.good;
            grows = grows_trans d.done.grows s.here.grows (omega arith);
            is = s.here.is;
            used = s.here.used;
          };
      labels = labels_kept begun p.making (in_slot p).making s.here.grows.used s.labels d.labels;
    }

scalar_may : (s : Scalar) → scalar_fits s ≡ true → scalar_allowed s ≡ true
unfolding nodes_rules sound_rules
scalar_may undefined e = refl
scalar_may nil e = refl
scalar_may eof e = refl
scalar_may void e = refl
scalar_may (bool b) e = refl
scalar_may (char n) e = e
scalar_may (number n) e = refl

text_utf8 : (t : List ℕ) → text_fits t ≡ true → utf8 t ≡ true
unfolding nodes_rules
text_utf8 t e = both_right (bytes t) _ (both_right (ltb (length t) bits32) _ e)

atom_put : (from : ℕ) (begun : List ℕ) (m : Making) (p : Put) → Labels begun m → AtomDone from m p → PutDone from begun m p
atom_put from begun m p ls a =
    record { done = a.done; labels = labels_kept begun m p.making a.done.grows.used a.labels ls }

atom_done : (from : ℕ) (a : Atom) (m : Making) (begun : List ℕ) (rest : List Node) → Good m.heap → Labels begun m → node_fits (Node.atom a) ≡ true → node_within (Node.atom a) ≡ true → refers_early begun (Node.atom a ∷ rest) ≡ false → PutDone from begun m (put_atom a m)
unfolding put_atom datum_rules nodes_rules sound_rules
atom_done from (Atom.plain s) m begun rest g ls f w e =
    record {
      done = record { good = g; grows = grows_refl from m.heap; value = record { allowed = scalar_may s f; named = refl } };
      labels = ls;
    }
atom_done from (Atom.string t) m begun rest g ls f w e =
    atom_put from begun m (put_string t m) ls (put_string_done from m t g (text_utf8 t f) (leb-true (length t) most_string w))
atom_done from (Atom.symbol t) m begun rest g ls f w e =
    atom_put from begun m (put_symbol t 0 m) ls
    (put_symbol_done from m g t 0 (text_utf8 t f) (leb-true (length t) most_name w) (omega arith))
atom_done from (Atom.ident s t) m begun rest g ls f w e =
    atom_put from begun m (put_symbol t s m) ls
    (put_symbol_done from m g t s (text_utf8 t (both_right (ltb s bits32) _ f)) (leb-true (length t) most_name w)
    (ltb-true s bits32 (both_left (ltb s bits32) _ f)))
atom_done from (Atom.ref l) m begun rest g ls f w e =
    record {
      done =
          record {
            good = g;
            grows = grows_refl from m.heap;
            value = record { allowed = refl; named = ls l (not-false (member l begun) (either_left_false (not (member l begun)) _ e)) };
          };
      labels = ls;
    }

-- a pair's cell, after its two parts
pair_done : (from : ℕ) (begun middle : List ℕ) (m : Making) (x y : Put) → from ≤ length x.making.heap.elements → SlotPut from middle m x → SlotPut (length x.making.heap.elements) begun x.making y → PutDone from begun m (new_cell (Cell.pair (slot_in x) (slot_in y)) y.making)
unfolding sound_rules
pair_done from begun middle m x y low a b =
    let h = y.making.heap in
    let c = Cell.pair (slot_in x) (slot_in y) in
    let n =
    new_cell_done y.making c b.here.good (grows_trans a.here.grows b.here.grows low)
    (pair_fits h (slot_in x) (slot_in y) (b.here.grows.used (slot_in x) a.here.used) b.here.used)
    (clear_empty (length m.heap.elements) h c refl)
    in
    record {
      done = new_done n;
      labels =
          labels_kept begun y.making (new_cell c y.making).making (new_cell_used y.making c b.here.good)
          (new_cell_labels y.making c) b.labels;
    }

-- a vector's block, with nothing in it yet
module _ (m : Making) (g : Good m.heap) (n : ℕ) where
  abbrev vector_room : Block
  vector_room = block_after m.heap.elements n

  with_block_good : Good (with_block n m).heap
  unfolding sound_rules
  with_block_good =
      with_elements_good m.heap (replicate n (scalar undefined)) g (every_same value_allowed n (scalar undefined) refl)

  with_block_grows : Grows (length m.heap.elements) m.heap (with_block n m).heap
  with_block_grows =
      grows_elements (length m.heap.elements) m.heap (replicate n (scalar undefined)) (omega arith)

  with_block_length : length (with_block n m).heap.elements ≡ length m.heap.elements + n
  with_block_length =
      omega (arith, length-append m.heap.elements (replicate n (scalar undefined)), length-replicate n (scalar undefined))

  at_behind : Behind (length m.heap.elements) vector_room
  at_behind = behind m.heap.elements n

  lies_there : lies_in (length (with_block n m).heap.elements) vector_room ≡ true
  lies_there =
      behind_lies (length m.heap.elements) (length (with_block n m).heap.elements) vector_room at_behind
      (omega (arith, with_block_length))

  clear_there : Clear vector_room (with_block n m).heap
  clear_there t =
      behind_apart (length m.heap.elements) vector_room (vector_block (cell_at m.heap t)) at_behind
      (lies_below (length m.heap.elements) (vector_block (cell_at m.heap t)) (g.cells t).vector_in)

  nothing_there : (k : ℕ) → vector_room.place ≤ k → k < vector_room.place + n → element_at (with_block n m).heap k ≡ scalar undefined
  nothing_there k low high = by at_behind
    where
      by : Behind (length m.heap.elements) vector_room → element_at (with_block n m).heap k ≡ scalar undefined
      by (nothing e z) = absurd (omega arith)
      by (after p e) =
          with_elements_new m.heap (replicate n (scalar undefined)) k (omega arith)
          ∙ get_or-replicate n (k - length m.heap.elements) (scalar undefined) (scalar undefined) (omega arith)

  place_low : 0 < n → length m.heap.elements ≤ vector_room.place
  place_low l = by at_behind
    where
      by : Behind (length m.heap.elements) vector_room → length m.heap.elements ≤ vector_room.place
      by (nothing e z) = absurd (omega arith)
      by (after p e) = omega arith

  vector_done : (begun : List ℕ) (m' : Making) → n ≤ most_vector → AllDone (length m.heap.elements) begun (with_block n m) m' → PutDone (length m.heap.elements) begun m (new_cell (Cell.vector vector_room) m')
  unfolding sound_rules call_rules
  vector_done begun m' small a =
      let h = m'.heap in
      let c = Cell.vector vector_room in
      let fits : CellFits h c = record {
        good =
            record {
              allowed = le-leb n most_vector small;
              linked = refl;
              held =
                  λ k low high.
                  a.grows.held k (omega (arith, lies_below (length (with_block n m).heap.elements) vector_room lies_there))
                  (ap (value_named (with_block n m).heap) (nothing_there k low high));
              text_in = lies_none (length h.bytes);
              vector_in = lies_more (length (with_block n m).heap.elements) (length h.elements) vector_room a.grows.room lies_there;
            };
        texts = λ t. apart_empty (block 0 0) (text_block (cell_at h t)) refl;
        vectors = a.grows.clear vector_room (lies_below (length (with_block n m).heap.elements) vector_room lies_there) clear_there;
      }
      in
      let w =
      new_cell_done m' c a.good (grows_trans with_block_grows a.grows (omega arith)) fits
      (λ b l x. apart_sym vector_room b (behind_apart (length m.heap.elements) vector_room b at_behind l))
      in
      record {
        done = new_done w;
        labels = labels_kept begun m' (new_cell c m').making (new_cell_used m' c a.good) (new_cell_labels m' c) a.labels;
      }

-- a label's slot, with the cell of what was put in it
module _ (l : ℕ) (m : Making) (g : Good m.heap) where
  abbrev first : Given
  first = alloc m.heap

  first_took : Took m.heap first
  first_took = took m.heap g

  pub first_labels : (begun : List ℕ) → Labels begun m → Labels (l ∷ begun) (labelled l (alloc m.heap) m)
  unfolding labelled basics
  first_labels begun ls k e =
      elim (ℕ_discrete k l) [
        | yes q ↦
            ap (λ (x : ℕ). in_use first.heap (slot_of x (with_label l first.slot m.labels))) q
            ∙ ap (in_use first.heap) (labelled_same l first.slot m.labels) ∙ first_took.taken
        | no d ↦
            ap (in_use first.heap) (labelled_other l first.slot k m.labels d)
            ∙ first_took.used (slot_of k m.labels) (ls k (either_by (eqb k l) (ne_eqb k l d) e))
      ]

  def_done : (begun : List ℕ) (p : Put) → PutDone (length first.heap.elements) begun (labelled l first m) p → PutDone (length m.heap.elements) begun m (end_label first.slot p)
  unfolding labelled end_label sound_rules
  def_done begun p d =
      let h = p.making.heap in
      let k = first_took in
      let s = first.slot in
      let c = shown h p.value in
      let gr = d.done.grows in
      let used = gr.used s k.taken in
      let f = shown_fits h d.done.good p.value d.done.value in
      let all = grows_trans (grows_took (length m.heap.elements) m.heap first k) gr (omega (arith, ap length k.elements)) in
      record {
        done =
            record {
              good =
                  with_cell_good h s c d.done.good used (unlisted_kept gr s k.taken (took_unlisted m.heap first g k)) f.good
                  f.texts
                  f.vectors;
              grows = grows_cell all s c k.fresh used (shown_clear (length m.heap.elements) h p.value);
              value = record { allowed = refl; named = with_cell_used h s c s ∙ used };
            };
        labels = λ x e. with_cell_used h s c (slot_of x p.making.labels) ∙ d.labels x e;
      }

-- ---- the induction

mutual
  unfolding begun_by begun_all put_rules datum_rules basics

  pub put_done : (d : Datum) (m : Making) (begun : List ℕ) (rest : List Node) → Good m.heap → Labels begun m → every node_fits (nodes d) ≡ true → every node_within (nodes d) ≡ true → refers_early begun (nodes d ++ rest) ≡ false → PutDone (length m.heap.elements) (begun_by d begun) m (put d m)
  put_done (Datum.atom a) m begun rest g ls f w e =
      atom_done (length m.heap.elements) a m begun rest g ls (both_left (node_fits (Node.atom a)) _ f) (both_left (node_within (Node.atom a)) _ w) e
  put_done (Datum.pair a d) m begun rest g ls f w e =
      let early = ap (refers_early begun) (sym (append_assoc (nodes a) (nodes d) rest)) ∙ e in
      let middle = begun_by a begun in
      let x = in_slot (put a m) in
      let fa = every_front node_fits (nodes a) (nodes d) f in
      let fd = every_back node_fits (nodes a) (nodes d) f in
      let wa = every_front node_within (nodes a) (nodes d) w in
      let wd = every_back node_within (nodes a) (nodes d) w in
      let car = in_slot_put (length m.heap.elements) middle m (put a m) (put_done a m begun (nodes d ++ rest) g ls fa wa early) in
      let cdr =
      in_slot_put (length x.making.heap.elements) (begun_by d middle) x.making (put d x.making)
      (put_done d x.making middle rest car.here.good car.labels fd wd (later a begun (nodes d ++ rest) early))
      in
      pair_done (length m.heap.elements) (begun_by d middle) middle m x (in_slot (put d x.making)) car.here.grows.room car cdr
  put_done (Datum.vector ds) m begun rest g ls f w e =
      let n = how_many ds in
      let small = leb-true n most_vector (both_left (leb n most_vector) _ w) in
      let fs = both_right (node_fits (Node.vector n)) _ f in
      let ws = both_right (leb n most_vector) _ w in
      vector_done m g n (begun_all ds begun) (put_all ds (block_after m.heap.elements n).place (with_block n m)) small
      (put_all_done ds (block_after m.heap.elements n).place (with_block n m) begun rest (length m.heap.elements)
      (omega (arith, with_block_length m g n)) (place_low m g n) (with_block_good m g n) ls fs ws e)
  put_done (Datum.def l d) m begun rest g ls f w e =
      let fs = both_right (node_fits (Node.def l)) _ f in
      let ws = both_right (node_within (Node.def l)) _ w in
      def_done l m g (begun_by d (l ∷ begun)) (put d (labelled l (alloc m.heap) m))
      (put_done d (labelled l (alloc m.heap) m) (l ∷ begun) rest (took m.heap g).good (first_labels l m g begun ls) fs ws e)

  pub put_all_done : (ds : Data) (k : ℕ) (m : Making) (begun : List ℕ) (rest : List Node) (from : ℕ) → from ≤ length m.heap.elements → (0 < how_many ds → from ≤ k) → Good m.heap → Labels begun m → every node_fits (all_nodes ds) ≡ true → every node_within (all_nodes ds) ≡ true → refers_early begun (all_nodes ds ++ rest) ≡ false → AllDone from (begun_all ds begun) m (put_all ds k m)
  put_all_done end k m begun rest from low at g ls f w e =
      record { good = g; grows = grows_refl from m.heap; labels = ls }
  put_all_done (more d ds) k m begun rest from low at g ls f w e =
      let early = ap (refers_early begun) (sym (append_assoc (nodes d) (all_nodes ds) rest)) ∙ e in
      let p = put d m in
      let h = p.making.heap in
      let one =
      put_done d m begun (all_nodes ds ++ rest) g ls (every_front node_fits (nodes d) (all_nodes ds) f)
      (every_front node_within (nodes d) (all_nodes ds) w) early
      in
      let here : from ≤ k = at (omega arith) in
      let gr =
      grows_trans (grows_less low one.done.grows) (grows_element from h k p.value here one.done.value.named) (omega arith)
      in
      let others =
      put_all_done ds (suc k) (store_at k p) (begun_by d begun) rest from (omega (arith, gr.room)) (λ z. omega arith)
      (with_element_good h k p.value one.done.good one.done.value.allowed one.done.value.named) one.labels
      (every_back node_fits (nodes d) (all_nodes ds) f)
      (every_back node_within (nodes d) (all_nodes ds) w)
      (later d begun (all_nodes ds ++ rest) early)
      in
      record { good = others.good; grows = grows_trans gr others.grows (omega arith); labels = others.labels }

-- ---- a whole put

pub no_labels : (h : Heap) → Labels [] (making h [])
unfolding basics
no_labels h l e = absurd (true≢false (sym e))

-- the put of a datum that fits, is within the limits and refers to no label early, in a good heap
pub put_datum_done : (d : Datum) (h : Heap) → Good h → datum_fits d ≡ true → every node_within (nodes d) ≡ true → early_reference d ≡ false → InSlot (length h.elements) h (put_datum d h)
unfolding put_rules datum_rules
put_datum_done d h g f w e =
    (in_slot_put (length h.elements) (begun_by d []) (making h []) (put d (making h []))
    (put_done d (making h []) [] [] g (no_labels h) f w (ap (refers_early []) (append-nil (nodes d)) ∙ e))
    ).here

-- ---- what a put leaves, in the paper's words

-- a part of a list is the same where the elements are
part_same : {A : Type 0} (d : A) (l l' : List A) (b : Block) → b.place + b.size ≤ length l → length l ≤ length l' → ((k : ℕ) → k < length l → get_or l' k d ≡ get_or l k d) → part_of l' b ≡ part_of l b
part_same d l l' b low longer same =
    let here = length_part l b.place b.size low in
    let there = length_part l' b.place b.size (omega arith) in
    ext_get_or d (part_of l' b) (part_of l b) (there ∙ sym here)
    (λ i k.
    get_d_part l' b.place b.size i d (omega arith) ∙ same (b.place + i) (omega arith)
    ∙ sym (get_d_part l b.place b.size i d (omega arith)))

-- "every cell, element and block that was there before is as it was", and the slots taken were not in use
pub record Kept (h : Heap) (p : Put) : Type 0 where
  pub good : Good p.making.heap
  pub is : p.value ≡ slot (slot_in p)
  pub answer : in_use p.making.heap (slot_in p) ≡ true
  pub used : (s : ℕ) → in_use h s ≡ true → in_use p.making.heap s ≡ true
  pub cells : (s : ℕ) → in_use h s ≡ true → cell_at p.making.heap s ≡ cell_at h s
  pub names : (s : ℕ) → in_use h s ≡ true → name_at p.making.heap s ≡ name_at h s
  pub texts : (s : ℕ) → text_of p.making.heap (text_block (cell_at h s)) ≡ text_of h (text_block (cell_at h s))
  pub vectors : (s : ℕ) → elements_of p.making.heap (vector_block (cell_at h s)) ≡ elements_of h (vector_block (cell_at h s))
  pub elements : (k : ℕ) → k < length h.elements → element_at p.making.heap k ≡ element_at h k
  pub text : List ℕ
  pub bytes : p.making.heap.bytes ≡ h.bytes ++ text
  pub entries : List Entry
  pub table : p.making.heap.table ≡ h.table ++ entries
  -- a slot that was taken was Free, below the capacity or past it
  pub taken : (s : ℕ) → in_use p.making.heap s ≡ true → in_use h s ≡ false → state_of h.map s ≡ Free
  -- and a new entry leads to one
  pub new : every (λ (e : Entry). not (in_use h e.slot)) entries ≡ true

pub put_kept : (d : Datum) (h : Heap) → Good h → datum_fits d ≡ true → every node_within (nodes d) ≡ true → early_reference d ≡ false → Kept h (put_datum d h)
put_kept d h g f w e =
    let k = put_datum_done d h g f w e in
    let after : Heap = (put_datum d h).making.heap in
    let gr = k.grows in
    record {
      good = k.good;
      is = k.is;
      answer = k.used;
      used = gr.used;
      cells = gr.cells;
      names = λ s u. name_kept h after (grows_wider gr) s (g.cells s) (gr.cells s u);
      texts = λ s. text_kept h after (grows_wider gr) (text_block (cell_at h s)) (g.cells s).text_in;
      vectors =
          λ s.
          part_same (scalar undefined) h.elements after.elements (vector_block (cell_at h s))
          (lies_below (length h.elements) (vector_block (cell_at h s)) (g.cells s).vector_in) gr.room gr.elements;
      elements = gr.elements;
      text = gr.text;
      bytes = gr.bytes;
      entries = gr.entries;
      table = gr.table;
      taken = λ s u n. not_used h g s n;
      new = gr.new;
    }
