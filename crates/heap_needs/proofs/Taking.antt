-- A put takes what its datum needs: slots, bytes and elements, by induction over the tree. Which names the table holds on the
-- way is known from the start and the names met so far. Document 01, 16 and 17. Assumes nothing.
use mathlib.Core.Path.{◌≡◌, refl, sym, ap, ◌∙◌, subst}
use mathlib.Core.Bool.{Bool, true, false}
use mathlib.Core.List.{List, [], ◌∷◌, ◌++◌, append_assoc, append-nil}
use mathlib.Core.Option.{Option, none, some}
use Prim.Native.Nat.{ℕ, suc, ◌+◌, ◌-◌}
use native.Mathlib.Omega.{arith}
use lib.Dec.{eqb, ltb}
use lib.ListN.{length, replicate}
use Rattle.laws.specs.Basics.{choose, both, either, every, same, basics}
use Rattle.laws.proofs.Tests.{both_right, every_front, every_back, true≢false, either_false}
use Rattle.laws.proofs.Pointwise.{every_same}
use Rattle.rules.specs.Cells.{undefined, slot, scalar, Cell, plain, symbol}
use Rattle.rules.specs.Nodes.{Atom, Node, node_fits}
use Rattle.rules.specs.Datum.{Datum, Data, end, more, how_many, nodes, all_nodes, node_within, refers_early, early_reference, datum_fits, datum_rules}
use Rattle.rules.specs.Heap.{Heap, Entry, capacity, used_count, free_count, fitting, most_growths, block_after, alloc, found, heap_rules}
use Rattle.rules.specs.Sound.{value_allowed, sound_rules}
use Rattle.rules.specs.Put.{Making, Put, making, put_as, new_cell, in_slot, slot_in, put_string, make_symbol, put_symbol, labelled, end_label, with_block, store_at, put_atom, put, put_all, put_datum, slots_short, room_short, put_rules}
use Rattle.rules.proofs.Good.{Good}
use Rattle.rules.proofs.Keeping.{with_elements_good, with_element_good}
use Rattle.rules.proofs.Allocate.{took}
use Rattle.rules.proofs.Grows.{unlisted_kept}
use Rattle.rules.proofs.PutCells.{took_unlisted}
use Rattle.rules.proofs.PutGood.{begun_by, begun_all, PutDone, put_done, put_all_done, no_labels, later}
use Rattle.heap_needs.specs.Needs.{Name, Needs, no_needs, in_table, met, a_slot, a_text, a_block, a_name, symbol_needs, node_needs, need, need_all, needs_of, needs_rules}
use Rattle.heap_needs.proofs.Standing.{any_append, either_assoc, Adds, took_adds, cell_adds, elements_adds, element_adds, new_cell_adds, text_adds, make_symbol_names}
use Rattle.heap_needs.proofs.Along.{Going, slot_going, label_going}

-- the table holds what it held at the start and the names met since
abbrev pub Names : (List ℕ → ℕ → Bool) → List Name → Heap → Type 0
Names known ns h = (text : List ℕ) (scope : ℕ) → in_table h text scope ≡ either (known text scope) (met ns text scope)

-- from one heap to the next as much was taken as was added to the needs
pub record Takes (known : List ℕ → ℕ → Bool) (t t' : Needs) (h h' : Heap) : Type 0 where
  pub slots : t'.slots + used_count h ≡ t.slots + used_count h'
  pub bytes : t'.bytes + length h.bytes ≡ t.bytes + length h'.bytes
  pub elements : t'.elements + length h.elements ≡ t.elements + length h'.elements
  pub names : Names known t'.names h'

module _ (known : List ℕ → ℕ → Bool) where
  takes_same : (t : Needs) (h : Heap) → Names known t.names h → Takes known t t h h
  takes_same t h n = record { slots = refl; bytes = refl; elements = refl; names = n }

  names_on : {s b e : ℕ} {h h' : Heap} (ns : List Name) → Adds s b e h h' → Names known ns h → Names known ns h'
  names_on ns a n text scope = a.names text scope ∙ n text scope

  -- what a step adds is told before the part, after it, or both
  around : {s b e s' b' e' : ℕ} {h h₁ h₂ h₃ : Heap} (t t' u : Needs) → Adds s b e h h₁ → Takes known u t' h₁ h₂ → Adds s' b' e' h₂ h₃
      → u.slots ≡ t.slots + (s + s')
      → u.bytes ≡ t.bytes + (b + b')
      → u.elements ≡ t.elements + (e + e')
      → Takes known t t' h h₃
  around t t' u p k q x y z =
      record {
        slots = omega (arith, p.used, k.slots, q.used);
        bytes = omega (arith, p.texts, k.bytes, q.texts);
        elements = omega (arith, p.room, k.elements, q.room);
        names = names_on t'.names q k.names;
      }

-- ---- where a slot is wanted

unfoldable pub landed : Bool → Put → Heap
unfolding in_slot
landed true p = (in_slot p).making.heap
landed false p = p.making.heap

-- what came to a slot is in one
landed_slot : (w : Bool) (s : ℕ) (m : Making) → landed w (put_as (slot s) m) ≡ m.heap
unfolding landed put_rules
landed_slot true s m = refl
landed_slot false s m = refl

module _ (known : List ℕ → ℕ → Bool) where
  in_slot_takes : {t t' : Needs} {h : Heap} (w : Bool) (s : ℕ) (m : Making) → Takes known t t' h m.heap → Takes known t t' h (landed w (put_as (slot s) m))
  in_slot_takes {t} {t'} {h} w s m k = subst (λ (x : Heap). Takes known t t' h x) (sym (landed_slot w s m)) k

  -- ---- atoms

  plain_takes : (t : Needs) (m : Making) (w : Bool) (s : _) → Good m.heap → Names known t.names m.heap → Takes known t (choose w (a_slot t) t) m.heap (landed w (put_as (scalar s) m))
  unfolding landed put_rules
  plain_takes t m true s g n =
      let a = new_cell_adds m (plain s) g in
      record {
        slots = omega (arith, a.used);
        bytes = omega (arith, a.texts);
        elements = omega (arith, a.room);
        names = names_on known t.names a n;
      }
  plain_takes t m false s g n = takes_same known t m.heap n

  string_takes : (t : Needs) (m : Making) (b : List ℕ) → Good m.heap → Names known t.names m.heap → Takes known t (a_text (length b) t) m.heap (put_string b m).making.heap
  unfolding put_rules
  string_takes t m b g n =
      let a = text_adds m b (Cell.string (block_after m.heap.bytes (length b))) g in
      record {
        slots = omega (arith, a.used);
        bytes = omega (arith, a.texts);
        elements = omega (arith, a.room);
        names = names_on known t.names a n;
      }

  made_takes : (t : Needs) (m : Making) (b : List ℕ) (s : ℕ) → Good m.heap → Names known t.names m.heap → Takes known t (a_name b s t) m.heap (make_symbol b s m).making.heap
  unfolding put_rules needs_rules basics
  made_takes t m b s g n =
      let a = text_adds m b (symbol (block_after m.heap.bytes (length b))) g in
      record {
        slots = omega (arith, a.used);
        bytes = omega (arith, a.texts);
        elements = omega (arith, a.room);
        names =
            λ text scope.
            make_symbol_names m g b s text scope
            ∙ ap (λ (x : Bool). either x (both (eqb s scope) (same b text))) (n text scope)
            ∙ either_assoc (known text scope) (met t.names text scope) (both (eqb s scope) (same b text))
            ∙ ap (either (known text scope))
            (sym (any_append (λ (x : Name). both (eqb x.scope scope) (same x.text text)) t.names (record { text = b; scope = s } ∷ [])
            ∙ ap (either (met t.names text scope)) (either_false (both (eqb s scope) (same b text)))));
      }

  symbol_takes : (t : Needs) (m : Making) (w : Bool) (b : List ℕ) (s : ℕ) → Good m.heap → Names known t.names m.heap → Takes known t (symbol_needs known b s t) m.heap (landed w (put_symbol b s m))
  unfolding put_rules needs_rules heap_rules
  symbol_takes t m w b s g n = by (found m.heap b s) (either (known b s) (met t.names b s)) (n b s)
    where
      by : (o : Option Entry) (e : Bool) → elim o as (λ o. Bool) [ none ↦ false | some x ↦ true ] ≡ e → Takes known t (choose e t (a_name b s t)) m.heap (landed w (elim o as (λ o. Put) [ none ↦ make_symbol b s m | some x ↦ put_as (slot x.slot) m ]))
      by none true q = absurd (true≢false (sym q))
      by none false q = in_slot_takes w _ (make_symbol b s m).making (made_takes t m b s g n)
      by (some x) true q = in_slot_takes w x.slot m (takes_same known t m.heap n)
      by (some x) false q = absurd (true≢false q)

  atom_takes : (t : Needs) (m : Making) (w : Bool) (a : Atom) → Good m.heap → Names known t.names m.heap → Takes known t (node_needs known w (Node.atom a) t) m.heap (landed w (put_atom a m))
  unfolding put_rules needs_rules
  atom_takes t m w (Atom.plain s) g n = plain_takes t m w s g n
  atom_takes t m w (Atom.string b) g n = in_slot_takes w _ (put_string b m).making (string_takes t m b g n)
  atom_takes t m w (Atom.symbol b) g n = symbol_takes t m w b 0 g n
  atom_takes t m w (Atom.ident s b) g n = symbol_takes t m w b s g n
  atom_takes t m w (Atom.ref l) g n = in_slot_takes w _ m (takes_same known t m.heap n)

  -- ---- the induction

  every_undefined : (n : ℕ) → every value_allowed (replicate n (scalar undefined)) ≡ true
  unfolding sound_rules
  every_undefined n = every_same value_allowed n (scalar undefined) refl

  vector_takes : (t t' : Needs) (m : Making) (w : Bool) (n : ℕ) (m' : Making) → Good m'.heap → Takes known (a_block n t) t' (with_block n m).heap m'.heap → Takes known t t' m.heap (landed w (new_cell (Cell.vector (block_after m.heap.elements n)) m'))
  unfolding put_rules
  vector_takes t t' m w n m' g k =
      in_slot_takes w _ (new_cell (Cell.vector (block_after m.heap.elements n)) m').making
      (around known t t' (a_block n t) (elements_adds m.heap n) k (new_cell_adds m' (Cell.vector (block_after m.heap.elements n)) g)
      (omega arith)
      (omega arith)
      (omega arith))

  def_takes : (t t' : Needs) (m : Making) (w : Bool) (l : ℕ) (p : Put) {from : ℕ} {begun : List ℕ} → Good m.heap → PutDone from begun (labelled l (alloc m.heap) m) p → Takes known (a_slot t) t' (alloc m.heap).heap p.making.heap → Takes known t t' m.heap (landed w (end_label (alloc m.heap).slot p))
  unfolding put_rules
  def_takes t t' m w l p g d k =
      let h = p.making.heap in
      let first = alloc m.heap in
      let a = took m.heap g in
      let free = unlisted_kept d.done.grows first.slot a.taken (took_unlisted m.heap first g a) in
      in_slot_takes w first.slot (end_label first.slot p).making
      (around known t t' (a_slot t) (took_adds m.heap first g a) k (cell_adds h first.slot _ d.done.good free) (omega arith)
      (omega arith)
      (omega arith))

  mutual
    unfolding begun_by begun_all put_rules datum_rules needs_rules basics landed

    pub put_takes : (d : Datum) (w : Bool) (m : Making) (begun : List ℕ) (rest : List Node) (t : Needs) → Going begun m → every node_fits (nodes d) ≡ true → every node_within (nodes d) ≡ true → refers_early begun (nodes d ++ rest) ≡ false → Names known t.names m.heap → Takes known t (need known w d t) m.heap (landed w (put d m))
    put_takes (Datum.atom a) w m begun rest t go f l e n = atom_takes t m w a go.good n
    put_takes (Datum.pair a d) w m begun rest t go f l e n =
        let early = ap (refers_early begun) (sym (append_assoc (nodes a) (nodes d) rest)) ∙ e in
        let middle = begun_by a begun in
        let x = in_slot (put a m) in
        let y = in_slot (put d x.making) in
        let fa = every_front node_fits (nodes a) (nodes d) f in
        let fd = every_back node_fits (nodes a) (nodes d) f in
        let la = every_front node_within (nodes a) (nodes d) l in
        let ld = every_back node_within (nodes a) (nodes d) l in
        let go_x = slot_going (put a m) (put_done a m begun (nodes d ++ rest) go.good go.labels fa la early) in
        let early_d = later a begun (nodes d ++ rest) early in
        let go_y = slot_going (put d x.making) (put_done d x.making middle rest go_x.good go_x.labels fd ld early_d) in
        let car = put_takes a true m begun (nodes d ++ rest) (a_slot t) go fa la early n in
        let cdr = put_takes d true x.making middle rest (need known true a (a_slot t)) go_x fd ld early_d car.names in
        let c = Cell.pair (slot_in x) (slot_in y) in
        let own = new_cell_adds y.making c go_y.good in
        in_slot_takes w _ (new_cell c y.making).making
        (record {
          slots = omega (arith, car.slots, cdr.slots, own.used);
          bytes = omega (arith, car.bytes, cdr.bytes, own.texts);
          elements = omega (arith, car.elements, cdr.elements, own.room);
          names = names_on known (need known true d (need known true a (a_slot t))).names own cdr.names;
        })
    put_takes (Datum.vector ds) w m begun rest t go f l e n =
        let many = how_many ds in
        let b = with_block many m in
        let good_b = with_elements_good m.heap (replicate many (scalar undefined)) go.good (every_undefined many) in
        let at = (block_after m.heap.elements many).place in
        let fs = both_right (node_fits (Node.vector many)) _ f in
        let ls = both_right (node_within (Node.vector many)) _ l in
        let done = put_all_done ds at b begun rest 0 (omega arith) (λ z. omega arith) good_b go.labels fs ls e in
        vector_takes t (need_all known ds (a_block many t)) m w many (put_all ds at b) done.good
        (put_all_takes ds at b begun rest (a_block many t) (record { good = good_b; labels = go.labels }) fs ls e
        (names_on known t.names (elements_adds m.heap many) n))
    put_takes (Datum.def l d) w m begun rest t go f k e n =
        let fs = both_right (node_fits (Node.def l)) _ f in
        let ls = both_right (node_within (Node.def l)) _ k in
        let first = alloc m.heap in
        let inner = labelled l first m in
        let go_in = label_going l begun m go in
        let done = put_done d inner (l ∷ begun) rest go_in.good go_in.labels fs ls e in
        def_takes t (need known false d (a_slot t)) m w l (put d inner) go.good done
        (put_takes d false inner (l ∷ begun) rest (a_slot t) go_in fs ls e
        (names_on known t.names (took_adds m.heap first go.good (took m.heap go.good)) n))

    put_all_takes : (ds : Data) (k : ℕ) (m : Making) (begun : List ℕ) (rest : List Node) (t : Needs) → Going begun m → every node_fits (all_nodes ds) ≡ true → every node_within (all_nodes ds) ≡ true → refers_early begun (all_nodes ds ++ rest) ≡ false → Names known t.names m.heap → Takes known t (need_all known ds t) m.heap (put_all ds k m).heap
    put_all_takes end k m begun rest t go f l e n = takes_same known t m.heap n
    put_all_takes (more d ds) k m begun rest t go f l e n =
        let early = ap (refers_early begun) (sym (append_assoc (nodes d) (all_nodes ds) rest)) ∙ e in
        let p = put d m in
        let h = p.making.heap in
        let fd = every_front node_fits (nodes d) (all_nodes ds) f in
        let ld = every_front node_within (nodes d) (all_nodes ds) l in
        let one = put_done d m begun (all_nodes ds ++ rest) go.good go.labels fd ld early in
        let here = put_takes d false m begun (all_nodes ds ++ rest) t go fd ld early n in
        let stored = element_adds h k p.value in
        let others = put_all_takes ds (suc k) (store_at k p) (begun_by d begun) rest (need known false d t)
        (record {
          good = with_element_good h k p.value one.done.good one.done.value.allowed one.done.value.named;
          labels = one.labels;
        })
        (every_back node_fits (nodes d) (all_nodes ds) f)
        (every_back node_within (nodes d) (all_nodes ds) l)
        (later d begun (all_nodes ds ++ rest) early)
        (names_on known (need known false d t).names stored here.names)
        in
        record {
          slots = omega (arith, here.slots, stored.used, others.slots);
          bytes = omega (arith, here.bytes, stored.texts, others.bytes);
          elements = omega (arith, here.elements, stored.room, others.elements);
          names = others.names;
        }

-- ---- a whole put

no_names : (h : Heap) → Names (in_table h) [] h
unfolding needs_rules basics
no_names h text scope = sym (either_false (in_table h text scope))

-- the slots and rooms after a put: those before, and what the datum needs
pub record Needed (h h' : Heap) (t : Needs) : Type 0 where
  pub slots : used_count h' ≡ used_count h + t.slots
  pub bytes : length h'.bytes ≡ length h.bytes + t.bytes
  pub elements : length h'.elements ≡ length h.elements + t.elements

pub put_needs : (d : Datum) (h : Heap) → Good h → datum_fits d ≡ true → every node_within (nodes d) ≡ true → early_reference d ≡ false → Needed h (put_datum d h).making.heap (needs_of h d)
unfolding put_rules datum_rules needs_rules landed
put_needs d h g f l e =
    let k = put_takes (in_table h) d true (making h []) [] [] no_needs (record { good = g; labels = no_labels h }) f l
    (ap (refers_early []) (append-nil (nodes d)) ∙ e)
    (no_names h)
    in
    record {
      slots = omega (arith, k.slots);
      bytes = omega (arith, k.bytes);
      elements = omega (arith, k.elements);
    }

-- ---- 16 and 17, told before the put

pub slots_told : (lent : ℕ) (h h' : Heap) (t : Needs) → Needed h h' t → slots_short lent h h' ≡ ltb (free_count h + (fitting most_growths h.chunk lent (capacity h) - capacity h)) t.slots
unfolding put_rules
slots_told lent h h' t n =
    let e : used_count h' - used_count h ≡ t.slots = omega (arith, n.slots) in
    ap (ltb (free_count h + (fitting most_growths h.chunk lent (capacity h) - capacity h))) e

pub bytes_told : (lent : ℕ) (h h' : Heap) (t : Needs) → Needed h h' t → room_short lent h'.bytes ≡ ltb lent (length h.bytes + t.bytes)
unfolding put_rules
bytes_told lent h h' t n = ap (ltb lent) n.bytes

pub elements_told : (lent : ℕ) (h h' : Heap) (t : Needs) → Needed h h' t → room_short lent h'.elements ≡ ltb lent (length h.elements + t.elements)
unfolding put_rules
elements_told lent h h' t n = ap (ltb lent) n.elements
