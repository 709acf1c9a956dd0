-- The labels of a put, each once: they are the distinct labels of the datum, so there are 64 at most. Document 01:
-- "64 distinct labels". Assumes nothing.
use mathlib.Core.Path.{◌≡◌, refl, sym, ap, ◌∙◌, subst}
use mathlib.Core.Bool.{Bool, true, false, not}
use mathlib.Core.List.{List, [], ◌∷◌, ◌++◌, append_assoc, append-nil}
use mathlib.Core.Option.{Option, none, some}
use Prim.Native.Nat.{ℕ, suc, ◌≤◌}
use native.Mathlib.Omega.{arith}
use borrow.Author.Tests.{eqb-true, leb-true, not-false, eq-eqb}
use lib.Dec.{eqb, leb}
use lib.ListN.{length}
use Rattle.laws.specs.Basics.{choose, either, join, member, distinct, basics}
use Rattle.laws.proofs.Tests.{both_left, both_right, either_right, join_append, either_left_false}
use Rattle.laws.proofs.Members.{eqb_sym, member_end, member_of, add, adds, add_known, add_new, adds_distinct}
use Rattle.rules.specs.Numbers.{most_labels, most_nodes}
use Rattle.rules.specs.Cells.{Value}
use Rattle.rules.specs.Nodes.{Atom, Node}
use Rattle.rules.specs.Datum.{Datum, Data, end, more, how_many, nodes, all_nodes, label_of, within_limits, refers_early, early_reference, datum_rules}
use Rattle.rules.specs.Heap.{Heap, Entry, found, block_after}
use Rattle.rules.specs.Put.{Put, Making, Label, making, in_slot, with_label, make_symbol, put_symbol, begin_label, labelled, with_block, store_at, put_atom, put, put_all, put_datum, put_rules}
use Rattle.rules.proofs.PutGood.{begun_by, begun_all, later}

-- ---- the labels' names

unfoldable pub names : List Label → List ℕ
names [] = []
names (x ∷ xs) = x.label ∷ names xs

length-names : (ls : List Label) → length (names ls) ≡ length ls
unfolding names
length-names [] = refl
length-names (x ∷ xs) = ap suc (length-names xs)

add_behind : (y l : ℕ) (ns : List ℕ) → eqb l y ≡ false → y ∷ add ns l ≡ add (y ∷ ns) l
unfolding basics
add_behind y l ns e = by (member l ns) refl
  where
    by : (b : Bool) → member l ns ≡ b → y ∷ add ns l ≡ add (y ∷ ns) l
    by true h =
        ap (λ (xs : List ℕ). y ∷ xs) (add_known ns l h)
        ∙ sym (add_known (y ∷ ns) l (ap (λ (b : Bool). either b (member l ns)) e ∙ h))
    by false h =
        ap (λ (xs : List ℕ). y ∷ xs) (add_new ns l h)
        ∙ sym (add_new (y ∷ ns) l (ap (λ (b : Bool). either b (member l ns)) e ∙ h))

with_label_names : (l s : ℕ) (ls : List Label) → names (with_label l s ls) ≡ add (names ls) l
unfolding names with_label add basics
with_label_names l s [] = refl
with_label_names l s (x ∷ xs) = by (with_label_names l s xs) (eqb x.label l) refl
  where
    new : Label
    new = record { label = l; slot = s }

    by : names (with_label l s xs) ≡ add (names xs) l → (b : Bool) → eqb x.label l ≡ b → names (choose (eqb x.label l) (new ∷ xs) (x ∷ with_label l s xs)) ≡ add (x.label ∷ names xs) l
    by again true e =
        ap (λ (b : Bool). names (choose b (new ∷ xs) (x ∷ with_label l s xs))) e
        ∙ ap (λ (n : ℕ). n ∷ names xs) (sym (eqb-true x.label l e))
        ∙ sym (add_known (x.label ∷ names xs) l (ap (λ (b : Bool). either b (member l (names xs))) (eqb_sym l x.label ∙ e)))
    by again false e =
        ap (λ (b : Bool). names (choose b (new ∷ xs) (x ∷ with_label l s xs))) e
        ∙ ap (λ (ns : List ℕ). x.label ∷ ns) again ∙ add_behind x.label l (names xs) (eqb_sym l x.label ∙ e)

-- ---- adding

member_add : (k l : ℕ) (seen : List ℕ) → member k seen ≡ true → member k (add seen l) ≡ true
member_add k l seen h = by (member l seen) refl
  where
    by : (b : Bool) → member l seen ≡ b → member k (add seen l) ≡ true
    by true e = ap (member k) (add_known seen l e) ∙ h
    by false e = ap (member k) (add_new seen l e) ∙ member_end k seen l ∙ either_right (eqb k l) h

member_added : (l : ℕ) (seen : List ℕ) → member l (add seen l) ≡ true
member_added l seen = by (member l seen) refl
  where
    by : (b : Bool) → member l seen ≡ b → member l (add seen l) ≡ true
    by true e = ap (member l) (add_known seen l e) ∙ e
    by false e =
        ap (member l) (add_new seen l e) ∙ member_end l seen l
        ∙ ap (λ (b : Bool). either b (member l seen)) (eq-eqb l l refl)

adds_append : (seen xs ys : List ℕ) → adds seen (xs ++ ys) ≡ adds (adds seen xs) ys
unfolding adds
adds_append seen [] ys = refl
adds_append seen (x ∷ xs) ys = adds_append (add seen x) xs ys

-- what was begun is seen
abbrev Known : List ℕ → List ℕ → Type 0
Known begun seen = (k : ℕ) → member k begun ≡ true → member k seen ≡ true

known_more : (l : ℕ) (begun seen : List ℕ) → Known begun seen → Known (l ∷ begun) (add seen l)
unfolding basics
known_more l begun seen h k e = by (eqb k l) refl e
  where
    by : (b : Bool) → eqb k l ≡ b → either b (member k begun) ≡ true → member k (add seen l) ≡ true
    by true q u = member_of k l (add seen l) (member_added l seen) q
    by false q u = member_add k l seen (h k u)

-- ---- the put

-- the labels after it: those before, and those of the nodes
record Named (of begun before after : List ℕ) : Type 0 where
  is : after ≡ adds before of
  known : Known begun after

in_slot_labels : (p : Put) → (in_slot p).making.labels ≡ p.making.labels
unfolding put_rules
in_slot_labels p = by p.value refl
  where
    by : (v : Value) → p.value ≡ v → (in_slot (record { value = v; making = p.making })).making.labels ≡ p.making.labels
    by (Value.slot s) e = refl
    by (Value.scalar s) e = refl

symbol_labels : (t : List ℕ) (s : ℕ) (m : Making) → (put_symbol t s m).making.labels ≡ m.labels
unfolding put_rules
symbol_labels t s m = by (found m.heap t s) refl
  where
    by : (o : Option Entry) → found m.heap t s ≡ o → (put_symbol t s m).making.labels ≡ m.labels
    by none e =
        ap (λ (o : Option Entry). (elim o as (λ o. Put) [ none ↦ make_symbol t s m | some e ↦ record { value = Value.slot e.slot; making = m } ]).making.labels) e
    by (some x) e =
        ap (λ (o : Option Entry). (elim o as (λ o. Put) [ none ↦ make_symbol t s m | some e ↦ record { value = Value.slot e.slot; making = m } ]).making.labels) e

atom_names : (a : Atom) (m : Making) (begun : List ℕ) (rest : List Node) → refers_early begun (Node.atom a ∷ rest) ≡ false → Known begun (names m.labels) → Named (label_of (Node.atom a)) begun (names m.labels) (names (put_atom a m).making.labels)
unfolding put_rules datum_rules adds
atom_names (Atom.plain s) m begun rest e k = record { is = refl; known = k }
atom_names (Atom.string t) m begun rest e k = record { is = refl; known = k }
atom_names (Atom.symbol t) m begun rest e k =
    let same = ap names (symbol_labels t 0 m) in
    record { is = same; known = subst (Known begun) (sym same) k }
atom_names (Atom.ident s t) m begun rest e k =
    let same = ap names (symbol_labels t s m) in
    record { is = same; known = subst (Known begun) (sym same) k }
atom_names (Atom.ref l) m begun rest e k =
    record {
      is = sym (add_known (names m.labels) l (k l (not-false (member l begun) (either_left_false (not (member l begun)) _ e))));
      known = k;
    }

slot_names : (p : Put) (of begun before : List ℕ) → Named of begun before (names p.making.labels) → Named of begun before (names (in_slot p).making.labels)
slot_names p of begun before n =
    subst (λ (ls : List Label). Named of begun before (names ls)) (sym (in_slot_labels p)) n

mutual
  unfolding put_rules datum_rules begun_by begun_all adds basics

  put_names : (d : Datum) (m : Making) (begun : List ℕ) (rest : List Node) → refers_early begun (nodes d ++ rest) ≡ false → Known begun (names m.labels) → Named (join label_of (nodes d)) (begun_by d begun) (names m.labels) (names (put d m).making.labels)
  put_names (Datum.atom a) m begun rest e k =
      let n = atom_names a m begun rest e k in
      record { is = n.is ∙ ap (adds (names m.labels)) (sym (append-nil (label_of (Node.atom a)))); known = n.known }
  put_names (Datum.pair a d) m begun rest e k =
      let early = ap (refers_early begun) (sym (append_assoc (nodes a) (nodes d) rest)) ∙ e in
      let x = slot_names (put a m) (join label_of (nodes a)) (begun_by a begun) (names m.labels) (put_names a m begun (nodes d ++ rest) early k) in
      let m' = (in_slot (put a m)).making in
      let y = slot_names (put d m') (join label_of (nodes d)) (begun_by d (begun_by a begun)) (names m'.labels) (put_names d m' (begun_by a begun) rest (later a begun (nodes d ++ rest) early) x.known) in
      record {
        is =
            y.is ∙ ap (λ (l : List ℕ). adds l (join label_of (nodes d))) x.is
            ∙ sym (adds_append (names m.labels) (join label_of (nodes a)) (join label_of (nodes d)))
            ∙ ap (adds (names m.labels)) (sym (join_append label_of (nodes a) (nodes d)));
        known = y.known;
      }
  put_names (Datum.vector ds) m begun rest e k =
      all_names ds (block_after m.heap.elements (how_many ds)).place (with_block (how_many ds) m) begun rest e k
  put_names (Datum.def l d) m begun rest e k =
      let g = begin_label l m in
      let same = with_label_names l g.slot m.labels in
      let n = put_names d (labelled l g m) (l ∷ begun) rest e
      (subst (Known (l ∷ begun)) (sym same) (known_more l begun (names m.labels) k)) in
      record { is = n.is ∙ ap (λ (x : List ℕ). adds x (join label_of (nodes d))) same; known = n.known }

  all_names : (ds : Data) (at : ℕ) (m : Making) (begun : List ℕ) (rest : List Node) → refers_early begun (all_nodes ds ++ rest) ≡ false → Known begun (names m.labels) → Named (join label_of (all_nodes ds)) (begun_all ds begun) (names m.labels) (names (put_all ds at m).labels)
  all_names end at m begun rest e k = record { is = refl; known = k }
  all_names (more d ds) at m begun rest e k =
      let early = ap (refers_early begun) (sym (append_assoc (nodes d) (all_nodes ds) rest)) ∙ e in
      let x = put_names d m begun (all_nodes ds ++ rest) early k in
      let y = all_names ds (suc at) (store_at at (put d m)) (begun_by d begun) rest (later d begun (all_nodes ds ++ rest) early) x.known in
      record {
        is =
            y.is ∙ ap (λ (l : List ℕ). adds l (join label_of (all_nodes ds))) x.is
            ∙ sym (adds_append (names m.labels) (join label_of (nodes d)) (join label_of (all_nodes ds)))
            ∙ ap (adds (names m.labels)) (sym (join_append label_of (nodes d) (all_nodes ds)));
        known = y.known;
      }

-- a put has 64 labels at most
pub put_labels : (d : Datum) (h : Heap) → within_limits d ≡ true → early_reference d ≡ false → length (put_datum d h).making.labels ≤ 64
unfolding put_rules datum_rules names
put_labels d h w e =
    let n = slot_names (put d (making h [])) (join label_of (nodes d)) (begun_by d []) [] (put_names d (making h []) [] [] (ap (refers_early []) (append-nil (nodes d)) ∙ e) (λ k h. h)) in
    let few = leb-true (length (distinct (join label_of (nodes d)))) most_labels (both_left (leb (length (distinct (join label_of (nodes d)))) most_labels) _ (both_right (leb (length (nodes d)) most_nodes) _ w)) in
    omega (arith, sym (length-names (in_slot (put d (making h []))).making.labels), ap length n.is, ap length (adds_distinct (join label_of (nodes d))), few)
