-- The slots that the written rule tells along a datum's tree are those that its put takes: by induction over the tree, in any heap
-- at all; and, in a good heap, what that comes to. Document 01, "Slots and growth". Assumes nothing.
use mathlib.Core.Path.{◌≡◌, refl}
use mathlib.Core.List.{List, [], ◌∷◌}
use mathlib.Core.Option.{Option, none, some}
use Prim.Native.Nat.{ℕ, suc}
use lib.ListN.{length-set}
use Rattle.rules.specs.Cells.{Value, slot, scalar, Cell, plain}
use Rattle.rules.specs.Nodes.{Atom}
use Rattle.rules.specs.Datum.{Datum, Data, end, more, how_many}
use Rattle.rules.specs.Heap.{Heap, Entry, shown, block_after, with_cell, with_bytes, alloc, found}
use Rattle.rules.specs.Put.{Put, Making, making, put_as, new_cell, in_slot, put_string, make_symbol, put_symbol, begin_label, labelled, with_block, store_at, put_atom, put, put_all, put_datum, put_rules}
use Rattle.history_laws.specs.Taken.{next_slot, taken_in_slot, taken_symbol, taken_atom, taken, taken_all, datum_taken, taken_rules}
use Rattle.history_laws.proofs.Supplies.{supply_of, Takes, takes_none, takes_next, takes_on, takes_to}

abbrev heap_after : Put → Heap
heap_after p = p.making.heap

-- a cell in its place changes nothing that allocation looks at
cell_supply : (h : Heap) (s : ℕ) (c : Cell) → supply_of (with_cell h s c) ≡ supply_of h
cell_supply h s c = λ i. record { chunk = h.chunk; size = length-set h.cells s c i; map = h.map; free = h.free }

-- a new cell, in a heap that is alike
new_cell_takes : (h : Heap) (c : Cell) (m : Making) → supply_of m.heap ≡ supply_of h → Takes h ((alloc h).slot ∷ []) (heap_after (new_cell c m))
unfolding new_cell
new_cell_takes h c m p = takes_next h m.heap p (cell_supply (alloc m.heap).heap (alloc m.heap).slot c)

slot_takes : (v : Value) (m : Making) → Takes m.heap (taken_in_slot (put_as v m)) (heap_after (in_slot (put_as v m)))
unfolding in_slot taken_in_slot
slot_takes (slot s) m = takes_none refl
slot_takes (scalar s) m = new_cell_takes m.heap (plain s) m refl

in_slot_takes : (p : Put) → Takes (heap_after p) (taken_in_slot p) (heap_after (in_slot p))
unfolding in_slot taken_in_slot
in_slot_takes p = slot_takes p.value p.making

string_takes : (t : List ℕ) (m : Making) → Takes m.heap (next_slot m) (heap_after (put_string t m))
unfolding put_string
string_takes t m = new_cell_takes m.heap _ (making (with_bytes m.heap t) m.labels) refl

made_takes : (name : List ℕ) (scope : ℕ) (m : Making) → Takes m.heap (next_slot m) (heap_after (make_symbol name scope m))
unfolding make_symbol
made_takes name scope m =
    takes_to (new_cell_takes m.heap _ (making (with_bytes m.heap name) m.labels) refl) refl

symbol_takes : (name : List ℕ) (scope : ℕ) (m : Making) → Takes m.heap (taken_symbol name scope m) (heap_after (put_symbol name scope m))
unfolding put_symbol taken_symbol
symbol_takes name scope m = by (found m.heap name scope)
  where
    by : (o : Option Entry) → Takes m.heap (elim o [ none ↦ next_slot m | some e ↦ [] ]) (heap_after (elim o [ none ↦ make_symbol name scope m | some e ↦ put_as (slot e.slot) m ]))
    by none = made_takes name scope m
    by (some e) = takes_none refl

atom_takes : (a : Atom) (m : Making) → Takes m.heap (taken_atom a m) (heap_after (put_atom a m))
unfolding put_atom taken_atom
atom_takes (Atom.plain s) m = takes_none refl
atom_takes (Atom.string t) m = string_takes t m
atom_takes (Atom.symbol t) m = symbol_takes t 0 m
atom_takes (Atom.ident s t) m = symbol_takes t s m
atom_takes (Atom.ref l) m = takes_none refl

mutual
  unfolding put_rules taken_rules

  put_takes : (d : Datum) (m : Making) → Takes m.heap (taken d m) (heap_after (put d m))
  put_takes (Datum.atom a) m = atom_takes a m
  put_takes (Datum.pair a d) m =
      let x = put a m in
      let y = put d (in_slot x).making in
      takes_on (takes_on (put_takes a m) (in_slot_takes x))
      (takes_on (takes_on (put_takes d (in_slot x).making) (in_slot_takes y))
      (new_cell_takes (heap_after (in_slot y)) _ (in_slot y).making refl))
  put_takes (Datum.vector ds) m =
      let k = (block_after m.heap.elements (how_many ds)).place in
      let room = with_block (how_many ds) m in
      takes_on (takes_on (takes_none refl) (put_all_takes ds k room)) (new_cell_takes (put_all ds k room).heap _ (put_all ds k room) refl)
  put_takes (Datum.def l d) m =
      let p = put d (labelled l (begin_label l m) m) in
      takes_on (takes_next m.heap m.heap refl refl)
      (takes_to (put_takes d (labelled l (begin_label l m) m))
      (cell_supply (heap_after p) (begin_label l m).slot (shown (heap_after p) p.value)))

  put_all_takes : (ds : Data) (k : ℕ) (m : Making) → Takes m.heap (taken_all ds k m) (put_all ds k m).heap
  put_all_takes end k m = takes_none refl
  put_all_takes (more d ds) k m =
      takes_on (takes_to (put_takes d m) refl) (put_all_takes ds (suc k) (store_at k (put d m)))

-- a put takes just the slots that the rule tells
pub datum_takes : (d : Datum) (h : Heap) → Takes h (datum_taken d h) (put_datum d h).making.heap
unfolding put_datum datum_taken
datum_takes d h = takes_on (put_takes d (making h [])) (in_slot_takes (put d (making h [])))
