-- Putting a datum, by its tree. Document 01, "Slots and growth". There are no limits here: 16 and 17 look at what a put
-- would come to. Assumes nothing.
use Rattle.std.specs.Prelude.{Bool, List, [], ◌∷◌, ℕ, suc, ◌+◌, ◌-◌, eqb, ltb, length, replicate}
use Rattle.std.proofs.Math.Option.{none, some}
use Rattle.laws.specs.Basics.{choose, find, basics}
use Rattle.rules.specs.Cells.{undefined, Value, scalar, Cell, plain, pair, symbol, string, vector}
use Rattle.rules.specs.Nodes.{Atom}
use Rattle.rules.specs.Datum.{Datum, Data, end, more, how_many}
use Rattle.rules.specs.Heap.{Heap, Given, capacity, shown, with_cell, with_element, with_bytes, with_elements, with_entry, block_after, alloc, found, fitting, most_growths, used_count, free_count, heap_rules}

-- a label, and the slot that its latest definition took
pub record Label : Type 0 where
  pub label : ℕ
  pub slot : ℕ

-- the heap in the middle of a put, with the labels begun so far, each once
pub record Making : Type 0 where
  pub heap : Heap
  pub labels : List Label

-- the value that a datum was put as, and what it was made in
pub record Put : Type 0 where
  pub value : Value
  pub making : Making

abbrev pub making : Heap → List Label → Making
making h ls = record { heap = h; labels = ls }

abbrev pub put_as : Value → Making → Put
put_as v m = record { value = v; making = m }

-- ---- slots and blocks

-- a new slot with this cell in it
unfoldable pub new_cell : Cell → Making → Put
unfolding heap_rules
new_cell c m =
    let g = alloc m.heap in
    put_as (Value.slot g.slot) (making (with_cell g.heap g.slot c) m.labels)

-- a value where a slot is wanted: "every car and cdr in a slot", "the outer answer is always a slot"
unfoldable pub in_slot : Put → Put
unfolding new_cell
in_slot p = elim p.value [ Value.slot s ↦ put_as (Value.slot s) p.making | Value.scalar s ↦ new_cell (plain s) p.making ]

-- the slot that a put ended in
unfoldable pub slot_in : Put → ℕ
slot_in p = elim p.value [ Value.slot s ↦ s | Value.scalar s ↦ 0 ]

unfoldable pub put_string : List ℕ → Making → Put
unfolding new_cell
put_string t m =
    new_cell (string (block_after m.heap.bytes (length t))) (making (with_bytes m.heap t) m.labels)

-- "a name only for a new symbol"; "Table entries stand in order of making"
unfoldable pub make_symbol : List ℕ → ℕ → Making → Put
unfolding new_cell slot_in
make_symbol name scope m =
    let p = new_cell (symbol (block_after m.heap.bytes (length name))) (making (with_bytes m.heap name) m.labels) in
    put_as p.value
    (making (with_entry p.making.heap (record { slot = slot_in p; scope = scope })) p.making.labels)

unfoldable pub put_symbol : List ℕ → ℕ → Making → Put
unfolding make_symbol heap_rules
put_symbol name scope m =
    elim (found m.heap name scope) [ none ↦ make_symbol name scope m | some e ↦ put_as (Value.slot e.slot) m ]

-- ---- labels

-- a definition of a label: from here on it counts, in place of an earlier one
unfoldable pub with_label : ℕ → ℕ → List Label → List Label
with_label l s [] = record { label = l; slot = s } ∷ []
with_label l s (x ∷ xs) =
    let r = x ∷ with_label l s xs in choose (eqb x.label l) (record { label = l; slot = s } ∷ xs) r

-- "the latest definition of a label counts"; 13 sees to it that there is one
unfoldable pub slot_of : ℕ → List Label → ℕ
unfolding basics
slot_of l ls = elim (find (λ (x : Label). eqb x.label l) ls) [ none ↦ 0 | some x ↦ x.slot ]

-- "A label definition takes a slot first"
unfoldable pub begin_label : ℕ → Making → Given
unfolding heap_rules
begin_label l m = alloc m.heap

unfoldable pub labelled : ℕ → Given → Making → Making
unfolding with_label
labelled l g m = making g.heap (with_label l g.slot m.labels)

-- "and copies the resulting cell into that slot"
unfoldable pub end_label : ℕ → Put → Put
end_label s p =
    put_as (Value.slot s) (making (with_cell p.making.heap s (shown p.making.heap p.value)) p.making.labels)

-- ---- vectors: the block first, the elements in order, then the slot

abbrev pub with_block : ℕ → Making → Making
with_block n m = making (with_elements m.heap (replicate n (scalar undefined))) m.labels

abbrev pub store_at : ℕ → Put → Making
store_at k p = making (with_element p.making.heap k p.value) p.making.labels

-- ---- the datum

unfoldable pub put_atom : Atom → Making → Put
unfolding put_string put_symbol slot_of
put_atom (Atom.plain s) m = put_as (scalar s) m
put_atom (Atom.string t) m = put_string t m
put_atom (Atom.symbol t) m = put_symbol t 0 m
put_atom (Atom.ident s t) m = put_symbol t s m
put_atom (Atom.ref l) m = put_as (Value.slot (slot_of l m.labels)) m

unfoldable mutual
  unfolding put_atom in_slot slot_in new_cell begin_label end_label how_many

  pub put : Datum → Making → Put
  put (Datum.atom a) m = put_atom a m
  put (Datum.pair a d) m =
      let x = in_slot (put a m) in
      let y = in_slot (put d x.making) in
      new_cell (pair (slot_in x) (slot_in y)) y.making
  put (Datum.vector ds) m =
      let b = block_after m.heap.elements (how_many ds) in
      new_cell (vector b) (put_all ds b.place (with_block (how_many ds) m))
  put (Datum.def l d) m =
      let g = begin_label l m in
      end_label g.slot (put d (labelled l g m))

  -- elements from place k on
  pub put_all : Data → ℕ → Making → Making
  put_all end k m = m
  put_all (more d ds) k m = put_all ds (suc k) (store_at k (put d m))

-- one put: its labels begin and end with it, "Within one put the latest definition of a label counts"
unfoldable pub put_datum : Datum → Heap → Put
unfolding put put_all in_slot
put_datum d h = in_slot (put d (making h []))

-- ---- 16 and 17

-- "the slots needed exceed the free ones plus all growth that fits"
unfoldable pub slots_short : ℕ → Heap → Heap → Bool
unfolding heap_rules
slots_short lent before after =
    ltb (free_count before + (fitting most_growths before.chunk lent (capacity before) - capacity before))
    (used_count after - used_count before)

-- "an arena has less room than needed"
unfoldable pub room_short : {A : Type 0} → ℕ → List A → Bool
room_short lent room = ltb lent (length room)

unfoldable pub put_rules : Unit {0}
unfolding new_cell in_slot slot_in put_string make_symbol put_symbol with_label slot_of begin_label labelled end_label put_atom put put_all put_datum
    slots_short room_short
put_rules = tt
