-- What each part of a put hands to the next, and what comes of it. Assumes nothing.
use mathlib.Core.Path.{◌≡◌, refl, sym, ap, ◌∙◌, subst}
use mathlib.Core.Bool.{Bool, true}
use mathlib.Core.List.{List, [], ◌∷◌, ◌++◌, append_assoc, append-nil}
use mathlib.Core.Option.{Option, none, some}
use Prim.Native.Nat.{ℕ, zero, suc, ◌+◌, ◌-◌, ◌*◌, ◌≤◌, ◌<◌}
use native.Mathlib.Omega.{arith}
use lib.ListN.{length, take, drop, set, replicate, length-append, length-drop, length-set, length-replicate}
use lib.Seq.{drop_at, drop-drop}
use Rattle.laws.specs.Basics.{every, join, basics}
use Rattle.laws.proofs.Tests.{both_left, both_right, every_front, every_back, join_append}
use Rattle.laws.proofs.Writing.{to_end}
use Rattle.rules.specs.Cells.{Value, slot, scalar, undefined, Cell, plain, pair, symbol, string, vector, block}
use Rattle.rules.specs.Nodes.{Atom, Node, read_node, write_node, node_fits}
use Rattle.rules.specs.Datum.{Datum, Data, end, more, how_many, nodes, all_nodes, encode, datum_fits, datum_rules}
use Rattle.rules.specs.Datum as tree
use Rattle.rules.specs.Heap.{Heap, Entry, Given, capacity, used_count, alloc, found, shown, with_cell, with_bytes, with_elements, with_element, block_after}
use Rattle.rules.specs.Layout.{Rooms, words_of, map_bytes, filled, value_words}
use Rattle.rules.specs.Put.{Making, Put, making, put_as, new_cell, in_slot, slot_in, make_symbol, put_symbol, with_label, begin_label, labelled, with_block, store_at, put_atom, put, put_all, put_rules}
use Rattle.rules.proofs.LentLaws.{words_length, filled_length, elements_length}
use Rattle.leaf_cells.specs.Elements.{value_of, ElementStored}
use Rattle.leaf_rooms.specs.Rooms.{Reserved}
use Rattle.leaf_cells.specs.declared.Value as code_value
use Rattle.leaf_cells.specs.declared.Value.TheVariants as value
use Rattle.leaf_cells.specs.declared.ElementChange as code_change
use Rattle.leaf_cells.proofs.CallLaws.{reserve_words, reserve_place, reserve_elems, store_element_on}
use Rattle.leaf_free.specs.FreeList.{ready, CanAlloc, Popped}
use Rattle.leaf_free.proofs.Allocating.{GivenBy}
use Rattle.heap_labels.specs.Labels.{labels_in, Defined}
use Rattle.heap_steps.specs.Steps.{Open, CellMade}
use Rattle.heap_steps.specs.Places.{shape_of, at, new, SlotOpen, SlotMade, CopyOpen}
use Rattle.heap_steps.proofs.Sizes.{Sized, Larger, alloc_taken, new_cell_larger, larger_block, larger_element, in_slot_larger, labelled_larger, end_label_larger, put_larger, put_all_larger}
use Rattle.heap_steps.proofs.CellSteps.{can_alloc_on, given_on}
use Rattle.heap_atoms.specs.Makings.{Stands, Able, Within, an_atom, a_pair, a_vector, a_label, head_of_node, head_of}
use Rattle.heap_atoms.specs.Tasks.{Task, Done, AtomTask, AtomDone, SlotTask, SlotDone, ElementTask, ElementDone, encode_all, AllTask, AllDone}
use Rattle.heap_atoms.proofs.Keeping.{within_before, some_available, able_sized, Below, Kept, taken, new_cell_used, in_slot_kept, labelled_kept, labelled_used, put_kept, put_all_kept, able_block, able_element}
use Rattle.heap_atoms.proofs.Trees.{first, read_first, IsPair, IsVector, IsLabel, is_atom, is_pair, is_vector, is_label}

-- ---- which tree begins with the node that was seen

module _ (t : Datum) (rest datum : List ℕ) (is : datum ≡ encode t ++ rest) (fits : datum_fits t ≡ true) where
  head_seen : head_of (read_node datum) ≡ head_of_node (first t)
  head_seen = ap head_of (read_first t rest datum is fits)

  pub record AnAtom : Type 0 where
    pub leaf : Atom
    pub is_leaf : t ≡ tree.atom leaf

  pub seen_atom : an_atom ≡ head_of (read_node datum) → AnAtom
  seen_atom e = go (first t) refl (e ∙ head_seen)
    where
      go : (n : Node) → first t ≡ n → an_atom ≡ head_of_node n → AnAtom
      go (Node.atom a) q p = record { leaf = a; is_leaf = is_atom t a q }
      go Node.pair q p = let z : ◌≡◌ {A = ℕ} 0 1 = cc in absurd (omega arith)
      go (Node.vector n) q p = let z : ◌≡◌ {A = ℕ} 0 1 = cc in absurd (omega arith)
      go (Node.def l) q p = let z : ◌≡◌ {A = ℕ} 0 1 = cc in absurd (omega arith)

  pub seen_pair : a_pair ≡ head_of (read_node datum) → IsPair t
  seen_pair e = go (first t) refl (e ∙ head_seen)
    where
      go : (n : Node) → first t ≡ n → a_pair ≡ head_of_node n → IsPair t
      go (Node.atom a) q p = let z : ◌≡◌ {A = ℕ} 0 1 = cc in absurd (omega arith)
      go Node.pair q p = is_pair t q
      go (Node.vector n) q p = let z : ◌≡◌ {A = ℕ} 0 1 = cc in absurd (omega arith)
      go (Node.def l) q p = let z : ◌≡◌ {A = ℕ} 0 1 = cc in absurd (omega arith)

  pub seen_vector : (n : ℕ) → a_vector n ≡ head_of (read_node datum) → IsVector t n
  seen_vector n e = go (first t) refl (e ∙ head_seen)
    where
      go : (x : Node) → first t ≡ x → a_vector n ≡ head_of_node x → IsVector t n
      go (Node.atom a) q p = let z : ◌≡◌ {A = ℕ} 0 1 = cc in absurd (omega arith)
      go Node.pair q p = let z : ◌≡◌ {A = ℕ} 0 1 = cc in absurd (omega arith)
      go (Node.vector k) q p = let same : n ≡ k = cc in is_vector t n (q ∙ ap Node.vector (sym same))
      go (Node.def l) q p = let z : ◌≡◌ {A = ℕ} 0 1 = cc in absurd (omega arith)

  pub seen_label : (l : ℕ) → a_label l ≡ head_of (read_node datum) → IsLabel t l
  seen_label l e = go (first t) refl (e ∙ head_seen)
    where
      go : (x : Node) → first t ≡ x → a_label l ≡ head_of_node x → IsLabel t l
      go (Node.atom a) q p = let z : ◌≡◌ {A = ℕ} 0 1 = cc in absurd (omega arith)
      go Node.pair q p = let z : ◌≡◌ {A = ℕ} 0 1 = cc in absurd (omega arith)
      go (Node.vector n) q p = let z : ◌≡◌ {A = ℕ} 0 1 = cc in absurd (omega arith)
      go (Node.def k) q p = let same : l ≡ k = cc in is_label t l (q ∙ ap Node.def (sym same))

-- the same task, the tree's form known
pub task_as : {r : Rooms} {f : ℕ} {m : Making} {t u : Datum} {rest : List ℕ} {count : ℕ} {datum words map bytes elems labels : List ℕ} → t ≡ u → Task r f m t rest count datum words map bytes elems labels → Task r f m u rest count datum words map bytes elems labels
task_as {r} {f} {m} {t} {u} {rest} {count} {datum} {words} {map} {bytes} {elems} {labels} e k =
    subst (λ (x : Datum). Task r f m x rest count datum words map bytes elems labels) e k

pub done_as : {r : Rooms} {m : Making} {t u : Datum} {v : code_value.Value} {size count : ℕ} {words map bytes elems labels : List ℕ} → t ≡ u → Done r m u v size count words map bytes elems labels → Done r m t v size count words map bytes elems labels
done_as {r} {m} {t} {u} {v} {size} {count} {words} {map} {bytes} {elems} {labels} e d =
    subst (λ (x : Datum). Done r m x v size count words map bytes elems labels) (sym e) d

-- ---- a leaf

-- a leaf's put leaves elements and labels as they are
symbol_aside : (t : List ℕ) (n : ℕ) (m : Making) → Sized m.heap → ((put_symbol t n m).making.heap.elements ≡ m.heap.elements) × ((put_symbol t n m).making.labels ≡ m.labels)
unfolding put_rules
symbol_aside t n m z = go (found m.heap t n)
  where
    go : (o : Option Entry) → ((elim o as (λ o. Put) [ none ↦ make_symbol t n m | some e ↦ put_as (slot e.slot) m ]).making.heap.elements ≡ m.heap.elements) × ((elim o as (λ o. Put) [ none ↦ make_symbol t n m | some e ↦ put_as (slot e.slot) m ]).making.labels ≡ m.labels)
    go none = ((alloc_taken (with_bytes m.heap t) (record { positive = z.positive; whole = z.whole; some = z.some; free_size = z.free_size })).elements, refl)
    go (some e) = (refl, refl)

atom_aside : (a : Atom) (m : Making) → Sized m.heap → ((put_atom a m).making.heap.elements ≡ m.heap.elements) × ((put_atom a m).making.labels ≡ m.labels)
unfolding put_rules
atom_aside (Atom.plain s) m z = (refl, refl)
atom_aside (Atom.string t) m z =
    ((alloc_taken (with_bytes m.heap t) (record { positive = z.positive; whole = z.whole; some = z.some; free_size = z.free_size })).elements, refl)
atom_aside (Atom.symbol t) m z = symbol_aside t 0 m z
atom_aside (Atom.ident s t) m z = symbol_aside t s m z
atom_aside (Atom.ref l) m z = (refl, refl)

module _ {r : Rooms} {f : ℕ} {m : Making} {a : Atom} {rest : List ℕ} {count : ℕ} {datum words map bytes elems labels : List ℕ} (k : Task r f m (tree.atom a) rest count datum words map bytes elems labels) where
  count_small : count ≤ 64
  count_small =
      omega (
        arith,
        (within_before (put_larger (tree.atom a) m (able_sized r f m k.able)) k.within).labels,
        sym (Rattle.heap_labels.proofs.LabelLaws.labels_length labels count) ∙ ap length k.stands.labels_are,
      )

  pub leaf_task : AtomTask r f m a rest count datum words map bytes labels
  unfolding put_rules datum_rules basics
  leaf_task =
      record {
        words_are = k.stands.words_are;
        map_is = k.stands.map_is;
        bytes_are = k.stands.bytes_are;
        labels_are = k.stands.labels_are;
        labels_room = omega (arith, count_small, k.stands.labels_room);
        able = k.able;
        within = k.within;
        datum_is = k.datum_is ∙ ap (λ (l : List ℕ). l ++ rest) (append-nil (write_node (Node.atom a)));
        fits = both_left (node_fits (Node.atom a)) _ k.fits;
      }

  pub leaf_done : {v : code_value.Value} {size count' : ℕ} {ws mp bs : List ℕ} → AtomDone r m a count v size count' ws mp bs → Done r m (tree.atom a) v size count' ws mp bs elems labels
  unfolding put_rules datum_rules basics
  leaf_done {v} {size} {count'} {ws} {mp} {bs} d =
      let s = atom_aside a m (able_sized r f m k.able) in
      record {
        stands =
            record {
              words_are = d.words_are;
              map_is = d.map_is;
              bytes_are = d.bytes_are;
              elems_are = k.stands.elems_are ∙ ap (λ (l : List Value). filled (3 * r.elements) (join value_words l)) (sym s.0);
              labels_are = ap (labels_in labels) d.count_is ∙ k.stands.labels_are ∙ sym s.1;
              labels_room = k.stands.labels_room;
            };
        value_is = d.value_is;
        size_is = d.size_is ∙ ap length (sym (append-nil (write_node (Node.atom a))));
      }

-- ---- in a slot

module _ {r : Rooms} {f : ℕ} {m : Making} {t : Datum} {rest : List ℕ} {count : ℕ} {datum words map bytes elems labels : List ℕ} (k : SlotTask r f m t rest count datum words map bytes elems labels) where
  slot_larger : Larger m (put t m).making
  slot_larger = put_larger t m (able_sized r f m k.able)

  slot_within : Within r f (put t m).making
  slot_within = within_before (in_slot_larger (put t m) slot_larger.sized) k.within

  pub slot_inner : Task r f m t rest count datum words map bytes elems labels
  slot_inner =
      record { stands = k.stands; able = k.able; within = slot_within; datum_is = k.datum_is; fits = k.fits }

  slot_kept : Kept r f (put t m)
  slot_kept = put_kept r f t m k.able slot_within

  module _ {v : code_value.Value} {size count' : ℕ} {ws mp bs es ls : List ℕ} (d : Done r m t v size count' ws mp bs es ls) where
    -- a scalar's slot can be given
    scalar_used : (x : Value) → (put t m).value ≡ x → (c : Cell) → shape_of x ≡ new c → used_count (put t m).making.heap < f
    unfolding put_rules
    scalar_used (slot s) e c q = let z : ◌≡◌ {A = ℕ} 0 1 = cc in absurd (omega arith)
    scalar_used (scalar x) e c q =
        new_cell_used r f (put t m).making (plain x) slot_kept.able
        (subst (λ (y : Value). Within r f (elim y as (λ y. Put) [ slot s ↦ put_as (slot s) (put t m).making | scalar s ↦ new_cell (plain s) (put t m).making ]).making) e k.within)

    pub slot_open : SlotOpen r.slots (put t m).making.heap (value_of v) ws mp
    slot_open =
        record {
          words_are = d.stands.words_are;
          map_is = d.stands.map_is;
          room = λ c e.
              record {
                growing = slot_kept.able.growing;
                some =
                    some_available r f (put t m).making slot_kept.able
                    (scalar_used (value_of v) (sym d.value_is) c e);
                words_are = d.stands.words_are;
                map_is = d.stands.map_is;
              };
        }

    -- the slot's put does not look at the labels
    in_slot_aside : (x : Value) (k : Making) → Sized k.heap → ((in_slot (put_as x k)).making.heap ≡ (in_slot (put_as x (making k.heap []))).making.heap) × ((in_slot (put_as x k)).making.labels ≡ k.labels) × ((in_slot (put_as x k)).making.heap.bytes ≡ k.heap.bytes) × ((in_slot (put_as x k)).making.heap.elements ≡ k.heap.elements) × (slot_in (in_slot (put_as x k)) ≡ slot_in (in_slot (put_as x (making k.heap []))))
    unfolding put_rules
    in_slot_aside (slot s) k z = (refl, refl, refl, refl, refl)
    in_slot_aside (scalar x) k z = (refl, refl, (alloc_taken k.heap z).bytes, (alloc_taken k.heap z).elements, refl)

    pub slot_done : {s : ℕ} {ws' mp' : List ℕ} → SlotMade r.slots (put t m).making.heap (value_of v) s ws' mp' → SlotDone r m t s size count' ws' mp' bs es ls
    slot_done {s} {ws'} {mp'} q =
        let aside = in_slot_aside (put t m).value (put t m).making slot_larger.sized in
        let here : in_slot (put_as (value_of v) (making (put t m).making.heap [])) ≡ in_slot (put_as (put t m).value (making (put t m).making.heap [])) = ap (λ (x : Value). in_slot (put_as x (making (put t m).making.heap []))) d.value_is in
        record {
          stands =
              record {
                words_are = q.words_are ∙ ap (λ (p : Put). words_of r.slots p.making.heap) here ∙ ap (words_of r.slots) (sym aside.0);
                map_is =
                    q.map_is ∙ ap (λ (p : Put). filled (map_bytes r.slots) p.making.heap.map) here
                    ∙ ap (λ (h : Heap). filled (map_bytes r.slots) h.map) (sym aside.0);
                bytes_are = d.stands.bytes_are ∙ ap (filled r.bytes) (sym aside.2);
                elems_are = d.stands.elems_are ∙ ap (λ (l : List Value). filled (3 * r.elements) (join value_words l)) (sym aside.3);
                labels_are = d.stands.labels_are ∙ sym aside.1;
                labels_room = d.stands.labels_room;
              };
          slot_is = q.slot_is ∙ ap slot_in here ∙ sym aside.4;
          size_is = d.size_is;
        }

-- ---- a pair

-- a tree's fields fit: those of its parts do
pair_fits_car : (a d : Datum) → datum_fits (tree.pair a d) ≡ true → datum_fits a ≡ true
unfolding datum_rules basics
pair_fits_car a d h = every_front node_fits (nodes a) (nodes d) h

pair_fits_cdr : (a d : Datum) → datum_fits (tree.pair a d) ≡ true → datum_fits d ≡ true
unfolding datum_rules basics
pair_fits_cdr a d h = every_back node_fits (nodes a) (nodes d) h

encode_pair : (a d : Datum) (rest : List ℕ) → encode (tree.pair a d) ++ rest ≡ 9 ∷ (encode a ++ (encode d ++ rest))
unfolding datum_rules basics Rattle.rules.specs.Nodes.nodes_rules
encode_pair a d rest =
    ap (λ (l : List ℕ). 9 ∷ (l ++ rest)) (join_append write_node (nodes a) (nodes d))
    ∙ ap (λ (l : List ℕ). 9 ∷ l) (append_assoc (encode a) (encode d) rest)

pair_length : (a d : Datum) → length (encode (tree.pair a d)) ≡ 1 + length (encode a) + length (encode d)
unfolding datum_rules basics Rattle.rules.specs.Nodes.nodes_rules
pair_length a d = omega (arith, ap length (join_append write_node (nodes a) (nodes d)) ∙ length-append (encode a) (encode d))

module _ {r : Rooms} {f : ℕ} {m : Making} {a d : Datum} {rest : List ℕ} {count : ℕ} {datum words map bytes elems labels : List ℕ} (k : Task r f m (tree.pair a d) rest count datum words map bytes elems labels) where
  abbrev car : Put
  car = in_slot (put a m)

  abbrev cdr : Put
  cdr = in_slot (put d car.making)

  x_larger : Larger m (put a m).making
  x_larger = put_larger a m (able_sized r f m k.able)

  xs_larger : Larger (put a m).making car.making
  xs_larger = in_slot_larger (put a m) x_larger.sized

  y_larger : Larger car.making (put d car.making).making
  y_larger = put_larger d car.making xs_larger.sized

  ys_larger : Larger (put d car.making).making cdr.making
  ys_larger = in_slot_larger (put d car.making) y_larger.sized

  pair_within : Within r f cdr.making
  unfolding put_rules
  pair_within = within_before (new_cell_larger cdr.making ys_larger.sized (pair (slot_in car) (slot_in cdr))) k.within

  car_within : Within r f car.making
  car_within = within_before y_larger (within_before ys_larger pair_within)

  car_kept : Kept r f car
  car_kept = in_slot_kept r f (put a m) (put_kept r f a m k.able (within_before xs_larger car_within)) car_within

  cdr_kept : Kept r f cdr
  cdr_kept =
      in_slot_kept r f (put d car.making) (put_kept r f d car.making car_kept.able (within_before ys_larger pair_within)) pair_within

  datum_pair : datum ≡ 9 ∷ (encode a ++ (encode d ++ rest))
  datum_pair = k.datum_is ∙ encode_pair a d rest

  pub pair_some : 1 ≤ length datum
  pair_some = omega (arith, ap length datum_pair)

  after_kind : drop 1 datum ≡ encode a ++ (encode d ++ rest)
  after_kind = ap (drop 1) datum_pair

  pub car_task : SlotTask r f m a (encode d ++ rest) count (drop 1 datum) words map bytes elems labels
  car_task =
      record {
        stands = k.stands;
        able = k.able;
        within = car_within;
        datum_is = after_kind;
        fits = pair_fits_car a d k.fits;
      }

  module _ {s1 size1 count1 : ℕ} {ws mp bs es ls : List ℕ} (p : SlotDone r m a s1 size1 count1 ws mp bs es ls) where
    pub cdr_place : 1 + size1 ≤ length datum
    cdr_place = omega (arith, ap length datum_pair, length-append (encode a) (encode d ++ rest), p.size_is)

    after_car : drop (1 + size1) datum ≡ encode d ++ rest
    after_car =
        ap (λ (l : List ℕ). drop (1 + size1) l) datum_pair
        ∙ ap (λ (n : ℕ). drop n (9 ∷ (encode a ++ (encode d ++ rest)))) one_more
        ∙ drop_at (encode a) (encode d ++ rest) size1 (sym p.size_is)
      where
        one_more : 1 + size1 ≡ suc size1
        one_more = omega arith

    pub cdr_task : SlotTask r f car.making d rest count1 (drop (1 + size1) datum) ws mp bs es ls
    cdr_task =
        record {
          stands = p.stands;
          able = car_kept.able;
          within = pair_within;
          datum_is = after_car;
          fits = pair_fits_cdr a d k.fits;
        }

    module _ {s2 size2 count2 : ℕ} {ws' mp' bs' es' ls' : List ℕ} (q : SlotDone r car.making d s2 size2 count2 ws' mp' bs' es' ls') where
      pub pair_open : Open r.slots cdr.making.heap ws' mp'
      unfolding put_rules
      pair_open =
          record {
            growing = cdr_kept.able.growing;
            some =
                some_available r f cdr.making cdr_kept.able
                (new_cell_used r f cdr.making (pair (slot_in car) (slot_in cdr)) cdr_kept.able k.within);
            words_are = q.stands.words_are;
            map_is = q.stands.map_is;
          }

      pub pair_sizes : 1 + size1 + size2 ≤ length datum
      pair_sizes =
          omega (
            arith,
            ap length datum_pair,
            length-append (encode a) (encode d ++ rest),
            length-append (encode d) rest,
            p.size_is,
            q.size_is,
          )

      pub pair_done : {s : ℕ} {ws'' mp'' : List ℕ} → CellMade r.slots cdr.making.heap (pair s1 s2) s ws'' mp'' → Done r m (tree.pair a d) (value.Slot s) (1 + size1 + size2) count2 ws'' mp'' bs' es' ls'
      unfolding put_rules
      pair_done {s} {ws''} {mp''} c =
          let t = alloc_taken cdr.making.heap ys_larger.sized in
          record {
            stands =
                record {
                  words_are =
                      c.words_are
                      ∙ (λ i. words_of r.slots (with_cell (alloc cdr.making.heap).heap (alloc cdr.making.heap).slot (pair (p.slot_is i) (q.slot_is i))));
                  map_is = c.map_is;
                  bytes_are = q.stands.bytes_are ∙ ap (filled r.bytes) (sym t.bytes);
                  elems_are = q.stands.elems_are ∙ ap (λ (l : List Value). filled (3 * r.elements) (join value_words l)) (sym t.elements);
                  labels_are = q.stands.labels_are;
                  labels_room = q.stands.labels_room;
                };
            value_is = ap slot c.slot_is;
            size_is = omega (arith, pair_length a d, p.size_is, q.size_is);
          }

-- ---- a vector

encode_vector : (ds : Data) (rest : List ℕ) → drop 5 (encode (tree.vector ds) ++ rest) ≡ encode_all ds ++ rest
unfolding datum_rules basics Rattle.rules.specs.Nodes.nodes_rules
encode_vector ds rest = refl

vector_length : (ds : Data) → length (encode (tree.vector ds)) ≡ 5 + length (encode_all ds)
unfolding datum_rules basics Rattle.rules.specs.Nodes.nodes_rules
vector_length ds = omega arith

vector_fits : (ds : Data) → datum_fits (tree.vector ds) ≡ true → every node_fits (all_nodes ds) ≡ true
unfolding datum_rules basics
vector_fits ds h = both_right (node_fits (Node.vector (how_many ds))) _ h

-- a place after a block of n at the end of the room
block_place : (h : Heap) (n : ℕ) → (block_after h.elements n).place + n ≤ length (h.elements ++ replicate n (scalar undefined))
block_place h zero = omega arith
block_place h (suc n) =
    omega (
      arith,
      length-append h.elements (replicate (suc n) (scalar undefined)),
      length-replicate (suc n) (scalar undefined),
      ap (λ (b : Bool). Rattle.laws.specs.Basics.choose b 0 (length h.elements)) (borrow.Author.Tests.ne_eqb (suc n) 0 (λ e. omega arith)),
    )

module _ {r : Rooms} {f : ℕ} {m : Making} {ds : Data} {rest : List ℕ} {n : ℕ} (e : n ≡ how_many ds) {count : ℕ} {datum words map bytes elems labels : List ℕ} (k : Task r f m (tree.vector ds) rest count datum words map bytes elems labels) where
  abbrev blk : Rattle.rules.specs.Cells.Block
  blk = block_after m.heap.elements (how_many ds)

  abbrev start : Making
  start = with_block (how_many ds) m

  b_larger : Larger m start
  b_larger = larger_block m (how_many ds) (able_sized r f m k.able)

  e_larger : Larger start (put_all ds blk.place start)
  e_larger = put_all_larger ds blk.place start b_larger.sized

  all_within : Within r f (put_all ds blk.place start)
  unfolding put_rules
  all_within = within_before (new_cell_larger (put_all ds blk.place start) e_larger.sized (vector blk)) k.within

  start_able : Able r f start
  start_able = able_block r f m (how_many ds) k.able

  all_able : Able r f (put_all ds blk.place start)
  all_able = put_all_kept r f ds blk.place start start_able all_within

  -- the room that the block takes
  block_room : length m.heap.elements + n ≤ r.elements
  block_room =
      omega (
        arith,
        e,
        (within_before e_larger all_within).elements,
        length-append m.heap.elements (replicate (how_many ds) (scalar undefined)),
        length-replicate (how_many ds) (scalar undefined),
      )

  pub vector_header : 8 ≤ length words
  vector_header = omega (arith, ap length k.stands.words_are ∙ words_length r.slots m.heap)

  elems_size : length elems ≡ 3 * r.elements
  elems_size =
      ap length k.stands.elems_are
      ∙ filled_length (3 * r.elements) (join value_words m.heap.elements) (omega (arith, elements_length m.heap.elements, block_room))

  used_elements : lib.ListN.get_or words 5 0 ≡ length m.heap.elements
  unfolding Rattle.rules.specs.Layout.layout_rules
  used_elements = ap (λ (l : List ℕ). lib.ListN.get_or l 5 0) k.stands.words_are

  pub vector_room : lib.ListN.get_or words 5 0 + n ≤ length elems
  vector_room = omega (arith, used_elements, block_room, elems_size)

  pub vector_some : 5 ≤ length datum
  vector_some =
      omega (arith, ap length k.datum_is ∙ length-append (encode (tree.vector ds)) rest, vector_length ds)

  module _ {ws : List ℕ} {place : ℕ} (v : Reserved words ws 5 n place) where
    place_is : place ≡ blk.place
    place_is = reserve_place r.slots m.heap words k.stands.words_are n ws place v ∙ ap (λ (x : ℕ). (block_after m.heap.elements x).place) e

    words_start : ws ≡ words_of r.slots start.heap
    words_start =
        reserve_words r.slots m.heap words k.stands.words_are n ws place v
        ∙ ap (λ (x : ℕ). words_of r.slots (with_elements m.heap (replicate x (scalar undefined)))) e

    pub all_task : AllTask r f start ds rest place n count (drop 5 datum) ws map bytes elems labels
    all_task =
        record {
          stands =
              record {
                words_are = words_start;
                map_is = k.stands.map_is;
                bytes_are = k.stands.bytes_are;
                elems_are =
                    k.stands.elems_are ∙ reserve_elems r.elements m.heap (how_many ds) (omega (arith, e, block_room));
                labels_are = k.stands.labels_are;
                labels_room = k.stands.labels_room;
              };
          able = start_able;
          within = subst (λ (x : ℕ). Within r f (put_all ds x start)) (sym place_is) all_within;
          datum_is = ap (drop 5) k.datum_is ∙ encode_vector ds rest;
          fits = vector_fits ds k.fits;
          many = e;
          room = omega (arith, place_is, e, block_place m.heap (how_many ds));
        }

    module _ {size count' : ℕ} {ws' mp bs es ls : List ℕ} (d : AllDone r start ds place size count' ws' mp bs es ls) where
      stands_all : Stands r (put_all ds blk.place start) count' ws' mp bs es ls
      stands_all = subst (λ (x : ℕ). Stands r (put_all ds x start) count' ws' mp bs es ls) place_is d.stands

      pub vector_open : Open r.slots (put_all ds blk.place start).heap ws' mp
      unfolding put_rules
      vector_open =
          record {
            growing = all_able.growing;
            some =
                some_available r f (put_all ds blk.place start) all_able
                (new_cell_used r f (put_all ds blk.place start) (vector blk) all_able k.within);
            words_are = stands_all.words_are;
            map_is = stands_all.map_is;
          }

      pub vector_sizes : 5 + size ≤ length datum
      vector_sizes =
          omega (arith, ap length k.datum_is ∙ length-append (encode (tree.vector ds)) rest, vector_length ds, d.size_is)

      pub vector_done : {s : ℕ} {ws'' mp'' : List ℕ} → CellMade r.slots (put_all ds blk.place start).heap (vector (block place n)) s ws'' mp'' → Done r m (tree.vector ds) (value.Slot s) (5 + size) count' ws'' mp'' bs es ls
      unfolding put_rules
      vector_done {s} {ws''} {mp''} c =
          let t = alloc_taken (put_all ds blk.place start).heap e_larger.sized in
          let h = (put_all ds blk.place start).heap in
          record {
            stands =
                record {
                  words_are = c.words_are ∙ (λ i. words_of r.slots (with_cell (alloc h).heap (alloc h).slot (vector (block (place_is i) (e i)))));
                  map_is = c.map_is;
                  bytes_are = stands_all.bytes_are ∙ ap (filled r.bytes) (sym t.bytes);
                  elems_are = stands_all.elems_are ∙ ap (λ (l : List Value). filled (3 * r.elements) (join value_words l)) (sym t.elements);
                  labels_are = stands_all.labels_are;
                  labels_room = stands_all.labels_room;
                };
            value_is = ap slot c.slot_is;
            size_is = omega (arith, vector_length ds, d.size_is);
          }

-- ---- an element

-- another element changes no word: only the number of elements stands there
element_words : (n : ℕ) (h : Heap) (k : ℕ) (y : Value) → words_of n (with_element h k y) ≡ words_of n h
unfolding Rattle.rules.specs.Layout.layout_rules
element_words n h k y =
    ap (λ (x : ℕ). (h.chunk ∷ capacity h ∷ length h.free ∷ length h.table ∷ length h.bytes ∷ x ∷ 1 ∷ 0 ∷ []) ++ join (Rattle.rules.specs.Layout.row_words h) (Rattle.laws.specs.Basics.rising 0 n)) (length-set h.elements k y)

module _ {r : Rooms} {f : ℕ} {m : Making} {t : Datum} {rest : List ℕ} {place count : ℕ} {datum words map bytes elems labels : List ℕ} (k : ElementTask r f m t rest place count datum words map bytes elems labels) {v : code_value.Value} {size count' : ℕ} {ws mp bs es ls : List ℕ} (d : Done r m t v size count' ws mp bs es ls) where
  element_larger : Larger m (put t m).making
  element_larger = put_larger t m (able_sized r f m k.task.able)

  element_place : place < length (put t m).making.heap.elements
  element_place = omega (arith, k.room, element_larger.elements)

  pub element_row : 3 * place + 3 ≤ length es
  element_row =
      omega (
        arith,
        element_place,
        k.task.within.elements,
        elements_length (put t m).making.heap.elements,
        ap length d.stands.elems_are
            ∙ filled_length (3 * r.elements) (join value_words (put t m).making.heap.elements) (omega (arith, elements_length (put t m).making.heap.elements, k.task.within.elements)),
      )

  pub element_done : {es' : List ℕ} {x : code_change.ElementChange} → ElementStored es es' place v x → ElementDone r m t place size count' ws mp bs es' ls
  element_done {es'} {x} q =
      record {
        stands =
            record {
              words_are = d.stands.words_are ∙ sym (words_element r.slots (put t m).making.heap place (put t m).value);
              map_is = d.stands.map_is;
              bytes_are = d.stands.bytes_are;
              elems_are =
                  store_element_on r.elements (put t m).making.heap es d.stands.elems_are place element_place v es' x q
                  ∙ ap (λ (y : Value). filled (3 * r.elements) (join value_words (set (put t m).making.heap.elements place y))) d.value_is;
              labels_are = d.stands.labels_are;
              labels_room = d.stands.labels_room;
            };
        size_is = d.size_is;
      }
    where
      words_element : (n : ℕ) (h : Heap) (k : ℕ) (y : Value) → words_of n (with_element h k y) ≡ words_of n h
      words_element n h k y = element_words n h k y

-- ---- the elements of a vector, one after the other

-- how far it has come: the data left, put into the heap as it is now, end where all of them from the start do
pub record Going (r : Rooms) (f : ℕ) (m : Making) (ds : Data) (rest : List ℕ) (place n : ℕ) (datum : List ℕ) (at known i : ℕ) (words map bytes elems labels : List ℕ) : Type 0 where
  pub left : Data
  pub made : Making
  pub stands : Stands r made known words map bytes elems labels
  pub able : Able r f made
  pub whole : put_all left (place + i) made ≡ put_all ds place m
  pub datum_is : drop at datum ≡ encode_all left ++ rest
  pub fits : every node_fits (all_nodes left) ≡ true
  pub many : i + how_many left ≡ n
  pub sizes : at + length (encode_all left) ≡ length (encode_all ds)
  pub room : place + n ≤ length made.heap.elements
  pub inside : at ≤ length datum

module _ {r : Rooms} {f : ℕ} {m : Making} {ds : Data} {rest : List ℕ} {place n count : ℕ} {datum words₀ map₀ bytes₀ elems₀ labels₀ : List ℕ} (k : AllTask r f m ds rest place n count datum words₀ map₀ bytes₀ elems₀ labels₀) where
  pub going_start : Going r f m ds rest place n datum 0 count 0 words₀ map₀ bytes₀ elems₀ labels₀
  going_start =
      record {
        left = ds;
        made = m;
        stands = k.stands;
        able = k.able;
        whole = ap (λ (x : ℕ). put_all ds x m) (native.Mathlib.Nat.add-zero place);
        datum_is = k.datum_is;
        fits = k.fits;
        many = native.Mathlib.Nat.zero-add (how_many ds) ∙ sym k.many;
        sizes = native.Mathlib.Nat.zero-add (length (encode_all ds));
        room = k.room;
        inside = omega arith;
      }

  module _ {at known i : ℕ} {words map bytes elems labels : List ℕ} (g : Going r f m ds rest place n datum at known i words map bytes elems labels) where
    -- the next datum, and those after it
    pub record Next : Type 0 where
      pub head : Datum
      pub tail : Data
      pub is : g.left ≡ more head tail

    pub next : i < n → Next
    unfolding datum_rules
    next h = go g.left refl
      where
        go : (l : Data) → g.left ≡ l → Next
        go end e = absurd (omega (arith, g.many, ap how_many e))
        go (more d l) e = record { head = d; tail = l; is = e }

    module _ (h : i < n) where
      abbrev d : Datum
      d = (next h).head

      abbrev l : Data
      l = (next h).tail

      abbrev here : ℕ
      here = place + i

      abbrev after : Making
      after = store_at here (put d g.made)

      one_larger : Larger g.made (put d g.made).making
      one_larger = put_larger d g.made (able_sized r f g.made g.able)

      stored_larger : Larger (put d g.made).making after
      stored_larger = larger_element here (put d g.made) one_larger.sized

      ends_same : put_all l (suc here) after ≡ put_all ds place m
      unfolding put_rules
      ends_same = ap (λ (x : Data). put_all x here g.made) (sym (next h).is) ∙ g.whole

      after_within : Within r f after
      after_within =
          within_before (put_all_larger l (suc here) after stored_larger.sized)
          (subst (λ (x : Making). Within r f x) (sym ends_same) k.within)

      encoded : encode_all (more d l) ≡ encode d ++ encode_all l
      unfolding datum_rules
      encoded = join_append write_node (nodes d) (all_nodes l)

      datum_here : drop at datum ≡ encode d ++ (encode_all l ++ rest)
      datum_here =
          g.datum_is ∙ ap (λ (x : Data). encode_all x ++ rest) (next h).is ∙ ap (λ (x : List ℕ). x ++ rest) encoded
          ∙ append_assoc (encode d) (encode_all l) rest

      fits_both : every node_fits (nodes d ++ all_nodes l) ≡ true
      unfolding datum_rules
      fits_both = ap (λ (x : Data). every node_fits (all_nodes x)) (sym (next h).is) ∙ g.fits

      pub element_task : ElementTask r f g.made d (encode_all l ++ rest) here known (drop at datum) words map bytes elems labels
      unfolding datum_rules
      element_task =
          record {
            task =
                record {
                  stands = g.stands;
                  able = g.able;
                  within = within_before stored_larger after_within;
                  datum_is = datum_here;
                  fits = every_front node_fits (nodes d) (all_nodes l) fits_both;
                };
            room = omega (arith, g.room);
          }

      after_able : Able r f after
      after_able =
          able_element r f here (put d g.made) (put_kept r f d g.made g.able (within_before stored_larger after_within)).able

      module _ {size known' : ℕ} {ws mp bs es ls : List ℕ} (q : ElementDone r g.made d here size known' ws mp bs es ls) where
        size_fits : at + size ≤ length datum
        size_fits =
            omega (
              arith,
              q.size_is,
              ap length datum_here ∙ length-append (encode d) (encode_all l ++ rest),
              length-drop at datum,
              g.inside,
            )

        pub size_room : at + size ≤ length datum
        size_room = size_fits

        pub going_on : Going r f m ds rest place n datum (at + size) known' (i + 1) ws mp bs es ls
        unfolding datum_rules
        going_on =
            record {
              left = l;
              made = after;
              stands = q.stands;
              able = after_able;
              whole = ap (λ (x : ℕ). put_all l x after) one_on ∙ ends_same;
              datum_is =
                  sym (drop-drop size at datum) ∙ ap (drop size) datum_here ∙ drop_at (encode d) (encode_all l ++ rest) size (sym q.size_is);
              fits = every_back node_fits (nodes d) (all_nodes l) fits_both;
              many = omega (arith, g.many, ap how_many (next h).is);
              sizes =
                  omega (
                    arith,
                    g.sizes,
                    ap (λ (x : Data). length (encode_all x)) (next h).is,
                    ap length encoded ∙ length-append (encode d) (encode_all l),
                    q.size_is,
                  );
              room = omega (arith, g.room, one_larger.elements, stored_larger.elements);
              inside = size_fits;
            }
          where
            one_on : place + (i + 1) ≡ suc (place + i)
            one_on = omega arith

    pub going_ends : n ≤ i → AllDone r m ds place at known words map bytes elems labels
    unfolding datum_rules put_rules
    going_ends h = go g.left refl
      where
        go : (x : Data) → g.left ≡ x → AllDone r m ds place at known words map bytes elems labels
        go end e =
            record {
              stands =
                  subst (λ (y : Making). Stands r y known words map bytes elems labels)
                  (ap (λ (y : Data). put_all y (place + i) g.made) (sym e) ∙ g.whole) g.stands;
              size_is = omega (arith, g.sizes, ap (λ (y : Data). length (encode_all y)) e);
            }
        go (more d l) e = absurd (omega (arith, g.many, ap how_many e))

-- ---- a label

encode_label : (l : ℕ) (d : Datum) (rest : List ℕ) → drop 5 (encode (tree.def l d) ++ rest) ≡ encode d ++ rest
unfolding datum_rules basics Rattle.rules.specs.Nodes.nodes_rules
encode_label l d rest = refl

label_length : (l : ℕ) (d : Datum) → length (encode (tree.def l d)) ≡ 5 + length (encode d)
unfolding datum_rules basics Rattle.rules.specs.Nodes.nodes_rules
label_length l d = omega arith

label_fits : (l : ℕ) (d : Datum) → datum_fits (tree.def l d) ≡ true → datum_fits d ≡ true
unfolding datum_rules basics
label_fits l d h = both_right (node_fits (Node.def l)) _ h

module _ {r : Rooms} {f : ℕ} {m : Making} {l : ℕ} {d : Datum} {rest : List ℕ} {count : ℕ} {datum words map bytes elems labels : List ℕ} (k : Task r f m (tree.def l d) rest count datum words map bytes elems labels) where
  abbrev g : Given
  g = begin_label l m

  abbrev begun : Making
  begun = labelled l g m

  l_larger : Larger m begun
  l_larger = labelled_larger l m (able_sized r f m k.able)

  i_larger : Larger begun (put d begun).making
  i_larger = put_larger d begun l_larger.sized

  inner_within : Within r f (put d begun).making
  unfolding put_rules
  inner_within = within_before (end_label_larger g.slot (put d begun) i_larger.sized) k.within

  label_used : used_count m.heap < f
  label_used = labelled_used r f l m k.able (within_before i_larger inner_within)

  begun_able : Able r f begun
  begun_able = labelled_kept r f l m k.able label_used

  inner_kept : Kept r f (put d begun)
  inner_kept = put_kept r f d begun begun_able inner_within

  label_open : Open r.slots m.heap words map
  label_open =
      record {
        growing = k.able.growing;
        some = some_available r f m k.able label_used;
        words_are = k.stands.words_are;
        map_is = k.stands.map_is;
      }

  pub label_alloc : CanAlloc words map
  label_alloc = can_alloc_on r.slots m.heap words map label_open

  pub label_some : 5 ≤ length datum
  label_some =
      omega (arith, ap length k.datum_is ∙ length-append (encode (tree.def l d)) rest, label_length l d)

  pub label_room : 2 * count + 2 ≤ length labels
  label_room =
      omega (
        arith,
        (within_before l_larger (within_before i_larger inner_within)).labels,
        sym (Rattle.heap_labels.proofs.LabelLaws.labels_length labels count) ∙ ap length k.stands.labels_are,
        k.stands.labels_room,
      )

  module _ {s : ℕ} {ws mp : List ℕ} (p : Popped (ready words) map s ws mp) {count' : ℕ} {ls : List ℕ} (q : Defined labels count l s ls count') where
    given : GivenBy r.slots (alloc m.heap) s ws mp
    given = given_on r.slots m.heap words map label_open s ws mp p

    pub label_task : Task r f begun d rest count' (drop 5 datum) ws mp bytes elems ls
    unfolding put_rules
    label_task =
        let t = alloc_taken m.heap (able_sized r f m k.able) in
        record {
          stands =
              record {
                words_are = given.words_given;
                map_is = given.map-given;
                bytes_are = k.stands.bytes_are ∙ ap (filled r.bytes) (sym t.bytes);
                elems_are = k.stands.elems_are ∙ ap (λ (x : List Value). filled (3 * r.elements) (join value_words x)) (sym t.elements);
                labels_are = q.labels ∙ (λ i. with_label l (given.slot_given i) (k.stands.labels_are i));
                labels_room = omega (arith, q.size, k.stands.labels_room);
              };
          able = begun_able;
          within = inner_within;
          datum_is = ap (drop 5) k.datum_is ∙ encode_label l d rest;
          fits = label_fits l d k.fits;
        }

    module _ {v : code_value.Value} {size count'' : ℕ} {ws' mp' bs es ls' : List ℕ} (o : Done r begun d v size count'' ws' mp' bs es ls') where
      slot_small : s < capacity (put d begun).making.heap
      unfolding put_rules
      slot_small = omega (arith, given.slot_given, (taken r f m k.able label_used).slot_below, i_larger.capacity_grows)

      pub label_copy : CopyOpen r.slots (put d begun).making.heap s (value_of v) ws'
      label_copy =
          record {
            words_are = o.stands.words_are;
            within = omega (arith, inner_kept.able.growing.within);
            slot_below = slot_small;
            value_below = λ u e. below (put d begun).value inner_kept.below u (sym (ap shape_of o.value_is) ∙ e);
          }
        where
          below : (x : Value) → Below (put d begun).making.heap x → (u : ℕ) → shape_of x ≡ at u → u < r.slots
          below (slot y) b u e = let same : y ≡ u = cc in omega (arith, inner_kept.able.growing.within)
          below (scalar y) b u e = let z : ◌≡◌ {A = ℕ} 0 1 = cc in absurd (omega arith)

      pub label_sizes : 5 + size ≤ length datum
      label_sizes =
          omega (arith, ap length k.datum_is ∙ length-append (encode (tree.def l d)) rest, label_length l d, o.size_is)

      pub label_done : {ws'' : List ℕ} → ws'' ≡ words_of r.slots (with_cell (put d begun).making.heap s (shown (put d begun).making.heap (value_of v))) → Done r m (tree.def l d) (value.Slot s) (5 + size) count'' ws'' mp' bs es ls'
      unfolding put_rules
      label_done {ws''} e =
          let h = (put d begun).making.heap in
          record {
            stands =
                record {
                  words_are = e ∙ (λ i. words_of r.slots (with_cell h (given.slot_given i) (shown h (o.value_is i))));
                  map_is = o.stands.map_is;
                  bytes_are = o.stands.bytes_are;
                  elems_are = o.stands.elems_are;
                  labels_are = o.stands.labels_are;
                  labels_room = o.stands.labels_room;
                };
            value_is = ap slot given.slot_given;
            size_is = omega (arith, label_length l d, o.size_is);
          }

-- ---- parts of the datum, as the code hands them on

pub tail_length : (l : List ℕ) (k : ℕ) → length (take (length l - k) (drop k l)) ≡ length l - k
tail_length l k = ap length (to_end l k) ∙ length-drop k l

pub task_part : {r : Rooms} {f : ℕ} {m : Making} {t : Datum} {rest : List ℕ} {count : ℕ} (l : List ℕ) (k : ℕ) {words map bytes elems labels : List ℕ} → Task r f m t rest count (drop k l) words map bytes elems labels → Task r f m t rest count (take (length l - k) (drop k l)) words map bytes elems labels
task_part {r} {f} {m} {t} {rest} {count} l k {words} {map} {bytes} {elems} {labels} h =
    subst (λ (x : List ℕ). Task r f m t rest count x words map bytes elems labels) (sym (to_end l k)) h

pub slot_part : {r : Rooms} {f : ℕ} {m : Making} {t : Datum} {rest : List ℕ} {count : ℕ} (l : List ℕ) (k : ℕ) {words map bytes elems labels : List ℕ} → SlotTask r f m t rest count (drop k l) words map bytes elems labels → SlotTask r f m t rest count (take (length l - k) (drop k l)) words map bytes elems labels
slot_part {r} {f} {m} {t} {rest} {count} l k {words} {map} {bytes} {elems} {labels} h =
    subst (λ (x : List ℕ). SlotTask r f m t rest count x words map bytes elems labels) (sym (to_end l k)) h

pub element_part : {r : Rooms} {f : ℕ} {m : Making} {t : Datum} {rest : List ℕ} {place count : ℕ} (l : List ℕ) (k : ℕ) {words map bytes elems labels : List ℕ} → ElementTask r f m t rest place count (drop k l) words map bytes elems labels → ElementTask r f m t rest place count (take (length l - k) (drop k l)) words map bytes elems labels
element_part {r} {f} {m} {t} {rest} {place} {count} l k {words} {map} {bytes} {elems} {labels} h =
    subst (λ (x : List ℕ). ElementTask r f m t rest place count x words map bytes elems labels) (sym (to_end l k)) h

pub all_part : {r : Rooms} {f : ℕ} {m : Making} {ds : Data} {rest : List ℕ} {place n count : ℕ} (l : List ℕ) (k : ℕ) {words map bytes elems labels : List ℕ} → AllTask r f m ds rest place n count (drop k l) words map bytes elems labels → AllTask r f m ds rest place n count (take (length l - k) (drop k l)) words map bytes elems labels
all_part {r} {f} {m} {ds} {rest} {place} {n} {count} l k {words} {map} {bytes} {elems} {labels} h =
    subst (λ (x : List ℕ). AllTask r f m ds rest place n count x words map bytes elems labels) (sym (to_end l k)) h

-- the places of a vector's elements are small numbers: the lent list is longer
pub all_places : {r : Rooms} {f : ℕ} {m : Making} {ds : Data} {rest : List ℕ} {place n count : ℕ} {datum words map bytes elems labels : List ℕ} → AllTask r f m ds rest place n count datum words map bytes elems labels → place + n ≤ length elems
unfolding Rattle.rules.specs.Layout.layout_rules
all_places {r} {f} {m} {ds} {rest} {place} {n} {count} {datum} {words} {map} {bytes} {elems} {labels} k =
    let l = join value_words m.heap.elements in
    omega (
      arith,
      k.room,
      elements_length m.heap.elements,
      ap length k.stands.elems_are ∙ length-append l (Rattle.laws.specs.Basics.zeros (3 * r.elements - length l)),
    )
