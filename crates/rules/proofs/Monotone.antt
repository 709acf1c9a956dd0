-- Along a put the capacity, the used count, the rooms in use and the table only grow, in any heap at all: what fits in the
-- end fitted at every step. Document 01, "Slots and growth", and Nos. 16 and 17. Assumes nothing.
use mathlib.Core.Path.{◌≡◌, refl, sym, ap, ◌∙◌}
use mathlib.Core.List.{List, [], ◌∷◌, ◌++◌, reverse, append-nil, append_assoc}
use mathlib.Core.Option.{Option, none, some}
use Prim.Native.Nat.{ℕ, suc, ◌+◌, ◌-◌, ◌≤◌}
use native.Mathlib.Omega.{arith}
use lib.ListN.{length, replicate, length-append, length-set, length-replicate, length-reverse}
use Rattle.laws.specs.Basics.{rising}
use Rattle.laws.proofs.Lists.{length-rising}
use Rattle.rules.specs.Cells.{undefined, Value, slot, scalar, Cell, plain}
use Rattle.rules.specs.Nodes.{Atom}
use Rattle.rules.specs.Datum.{Datum, Data, end, more, how_many}
use Rattle.rules.specs.Heap.{Heap, Entry, capacity, used_count, block_after, with_cell, with_element, with_bytes, with_elements, with_entry, grown, grow, pop, alloc, found}
use Rattle.rules.proofs.Allocate.{taken, pop_by, prepared_by}
use Rattle.rules.specs.Put.{Put, Making, making, put_as, new_cell, in_slot, slot_in, put_string, make_symbol, put_symbol, put_atom, put, put_all, put_datum, labelled, with_block, store_at, put_rules}

pub record More (h h' : Heap) : Type 0 where
  pub chunk : h'.chunk ≡ h.chunk
  pub capacities : capacity h ≤ capacity h'
  pub used : used_count h ≤ used_count h'
  pub text : List ℕ
  pub bytes : h'.bytes ≡ h.bytes ++ text
  pub entries : List Entry
  pub table : h'.table ≡ h.table ++ entries
  pub elements : length h.elements ≤ length h'.elements

-- the same rooms and table
more_same : (h h' : Heap) → h'.chunk ≡ h.chunk → capacity h ≤ capacity h' → used_count h ≤ used_count h' → h'.bytes ≡ h.bytes → h'.table ≡ h.table → length h.elements ≤ length h'.elements → More h h'
more_same h h' c k u b t e =
    record {
      chunk = c;
      capacities = k;
      used = u;
      text = [];
      bytes = b ∙ sym (append-nil h.bytes);
      entries = [];
      table = t ∙ sym (append-nil h.table);
      elements = e;
    }

pub more_refl : (h : Heap) → More h h
more_refl h = more_same h h refl (omega arith) (omega arith) refl refl (omega arith)

pub more_trans : {h h' h'' : Heap} → More h h' → More h' h'' → More h h''
more_trans {h} a b =
    record {
      chunk = b.chunk ∙ a.chunk;
      capacities = omega (arith, a.capacities, b.capacities);
      used = omega (arith, a.used, b.used);
      text = a.text ++ b.text;
      bytes = b.bytes ∙ ap (λ (x : List ℕ). x ++ b.text) a.bytes ∙ append_assoc h.bytes a.text b.text;
      entries = a.entries ++ b.entries;
      table = b.table ∙ ap (λ (x : List Entry). x ++ b.entries) a.table ∙ append_assoc h.table a.entries b.entries;
      elements = omega (arith, a.elements, b.elements);
    }

pub more_bytes : {h h' : Heap} → More h h' → length h.bytes ≤ length h'.bytes
more_bytes {h} m = omega (arith, ap length m.bytes ∙ length-append h.bytes m.text)

-- ---- the steps

grow_more : (h : Heap) → More h (grow h)
unfolding grow
grow_more h =
    let new = grown h.chunk (capacity h) - capacity h in
    let size : capacity (grow h) ≡ capacity h + new = omega (arith, length-append h.cells (replicate new (plain undefined)), length-replicate new (plain undefined)) in
    let list : length (grow h).free ≡ new + length h.free = omega (
      arith,
      length-append (reverse (rising (capacity h) new)) h.free,
      length-reverse (rising (capacity h) new),
      length-rising (capacity h) new,
    )
    in
    more_same h (grow h) refl (omega arith) (omega arith) refl refl (omega arith)

pop_more : (h : Heap) → More h (pop h).heap
unfolding pop
pop_more h = by h.free refl
  where
    by : (l : List ℕ) → h.free ≡ l → More h (pop_by h l).heap
    by [] e = more_refl h
    by (s ∷ rest) e = more_same h (taken h s rest) refl (omega arith) (omega (arith, ap length e)) refl refl (omega arith)

pub alloc_more : (h : Heap) → More h (alloc h).heap
unfolding alloc
alloc_more h = by h.free
  where
    by : (l : List ℕ) → More h (pop (prepared_by h l)).heap
    by [] = more_trans (grow_more h) (pop_more (grow h))
    by (s ∷ rest) = pop_more h

pub cell_more : (h : Heap) (s : ℕ) (c : Cell) → More h (with_cell h s c)
cell_more h s c =
    let size = length-set h.cells s c in more_same h (with_cell h s c) refl (omega arith) (omega arith) refl refl (omega arith)

element_more : (h : Heap) (k : ℕ) (v : Value) → More h (with_element h k v)
element_more h k v =
    more_same h (with_element h k v) refl (omega arith) (omega arith) refl refl (omega (arith, length-set h.elements k v))

elements_more : (h : Heap) (vs : List Value) → More h (with_elements h vs)
elements_more h vs =
    more_same h (with_elements h vs) refl (omega arith) (omega arith) refl refl (omega (arith, length-append h.elements vs))

text_more : (h : Heap) (t : List ℕ) → More h (with_bytes h t)
text_more h t =
    record {
      chunk = refl;
      capacities = omega arith;
      used = omega arith;
      text = t;
      bytes = refl;
      entries = [];
      table = sym (append-nil h.table);
      elements = omega arith;
    }

entry_more : (h : Heap) (e : Entry) → More h (with_entry h e)
entry_more h e =
    record {
      chunk = refl;
      capacities = omega arith;
      used = omega arith;
      text = [];
      bytes = sym (append-nil h.bytes);
      entries = e ∷ [];
      table = refl;
      elements = omega arith;
    }

-- ---- the parts of a put

abbrev heap_after : Put → Heap
heap_after p = p.making.heap

pub new_cell_more : (c : Cell) (m : Making) → More m.heap (heap_after (new_cell c m))
unfolding new_cell
new_cell_more c m =
    more_trans (alloc_more m.heap) (cell_more (alloc m.heap).heap (alloc m.heap).slot c)

slot_more : (v : Value) (m : Making) → More m.heap (heap_after (in_slot (put_as v m)))
unfolding in_slot
slot_more (slot s) m = more_refl m.heap
slot_more (scalar s) m = new_cell_more (plain s) m

pub in_slot_more : (p : Put) → More (heap_after p) (heap_after (in_slot p))
unfolding in_slot
in_slot_more p = slot_more p.value p.making

string_more : (t : List ℕ) (m : Making) → More m.heap (heap_after (put_string t m))
unfolding put_string
string_more t m = more_trans (text_more m.heap t) (new_cell_more _ (making (with_bytes m.heap t) m.labels))

made_more : (name : List ℕ) (scope : ℕ) (m : Making) → More m.heap (heap_after (make_symbol name scope m))
unfolding make_symbol
made_more name scope m =
    more_trans (text_more m.heap name)
    (more_trans (new_cell_more _ (making (with_bytes m.heap name) m.labels)) (entry_more _ _))

symbol_more : (name : List ℕ) (scope : ℕ) (m : Making) → More m.heap (heap_after (put_symbol name scope m))
unfolding put_symbol
symbol_more name scope m = by (found m.heap name scope)
  where
    by : (o : Option Entry) → More m.heap (heap_after (elim o [ none ↦ make_symbol name scope m | some e ↦ put_as (slot e.slot) m ]))
    by none = made_more name scope m
    by (some e) = more_refl m.heap

pub atom_more : (a : Atom) (m : Making) → More m.heap (heap_after (put_atom a m))
unfolding put_atom
atom_more (Atom.plain s) m = more_refl m.heap
atom_more (Atom.string t) m = string_more t m
atom_more (Atom.symbol t) m = symbol_more t 0 m
atom_more (Atom.ident s t) m = symbol_more t s m
atom_more (Atom.ref l) m = more_refl m.heap

-- ---- a datum

mutual
  unfolding put_rules

  pub put_more : (d : Datum) (m : Making) → More m.heap (heap_after (put d m))
  put_more (Datum.atom a) m = atom_more a m
  put_more (Datum.pair a d) m =
      let x = in_slot (put a m) in
      let y = in_slot (put d x.making) in
      more_trans (more_trans (put_more a m) (in_slot_more (put a m)))
      (more_trans (more_trans (put_more d x.making) (in_slot_more (put d x.making)))
      (new_cell_more (Cell.pair (slot_in x) (slot_in y)) y.making))
  put_more (Datum.vector ds) m =
      let n = how_many ds in
      let b = block_after m.heap.elements n in
      more_trans (elements_more m.heap (replicate n (scalar undefined)))
      (more_trans (put_all_more ds b.place (with_block n m)) (new_cell_more (Cell.vector b) (put_all ds b.place (with_block n m))))
  put_more (Datum.def l d) m =
      more_trans (alloc_more m.heap) (more_trans (put_more d (labelled l (alloc m.heap) m)) (cell_more _ _ _))

  pub put_all_more : (ds : Data) (k : ℕ) (m : Making) → More m.heap (put_all ds k m).heap
  put_all_more end k m = more_refl m.heap
  put_all_more (more d ds) k m =
      more_trans (put_more d m)
      (more_trans (element_more (heap_after (put d m)) k (put d m).value) (put_all_more ds (suc k) (store_at k (put d m))))

pub put_datum_more : (d : Datum) (h : Heap) → More h (heap_after (put_datum d h))
unfolding put_rules
put_datum_more d h = more_trans (put_more d (making h [])) (in_slot_more (put d (making h [])))
