-- The slots that a put takes, told along the datum's tree by the written rule: which nodes take one, in which order, and that each
-- is the one that allocation gives at that moment. Document 01: "a scalar becomes one cell; a pair puts car, then cdr, then
-- itself, every car and cdr in a slot. Vector elements that are scalars stay in the vector; others take slots, in order, before
-- the vector does", "A label definition takes a slot first". Assumes nothing.
use Rattle.std.specs.Prelude.{List, [], ◌∷◌, ◌++◌, ℕ, zero, suc}
use Rattle.std.proofs.Math.Option.{none, some}
use Rattle.rules.specs.Cells.{slot, scalar}
use Rattle.rules.specs.Nodes.{Atom}
use Rattle.rules.specs.Datum.{Datum, Data, end, more, how_many, good, bad, parse, datum_rules}
use Rattle.rules.specs.Heap.{Heap, block_after, alloc, found, heap_rules}
use Rattle.rules.specs.Put.{Put, Making, making, in_slot, begin_label, labelled, with_block, store_at, put, put_all, put_rules}

-- the next slots, n of them, one allocation after the other
unfoldable pub slots_given : ℕ → Heap → List ℕ
unfolding heap_rules
slots_given zero h = []
slots_given (suc n) h = (alloc h).slot ∷ slots_given n (alloc h).heap

-- ---- along the tree

-- a new cell takes the next slot
abbrev pub next_slot : Making → List ℕ
next_slot m = (alloc m.heap).slot ∷ []

-- "every car and cdr in a slot": a scalar takes one there, what is in a slot takes no other
unfoldable pub taken_in_slot : Put → List ℕ
unfolding heap_rules
taken_in_slot p = elim p.value [ slot s ↦ [] | scalar s ↦ next_slot p.making ]

-- "A symbol is found or made": one that is found takes none
unfoldable pub taken_symbol : List ℕ → ℕ → Making → List ℕ
unfolding heap_rules
taken_symbol name scope m = elim (found m.heap name scope) [ none ↦ next_slot m | some e ↦ [] ]

unfoldable pub taken_atom : Atom → Making → List ℕ
unfolding taken_symbol heap_rules
taken_atom (Atom.plain s) m = []
taken_atom (Atom.string t) m = next_slot m
taken_atom (Atom.symbol t) m = taken_symbol t 0 m
taken_atom (Atom.ident s t) m = taken_symbol t s m
taken_atom (Atom.ref l) m = []

unfoldable mutual
  unfolding taken_atom taken_in_slot put_rules

  pub taken : Datum → Making → List ℕ
  taken (Datum.atom a) m = taken_atom a m
  taken (Datum.pair a d) m =
      let x = put a m in
      let y = put d (in_slot x).making in
      (taken a m ++ taken_in_slot x) ++ ((taken d (in_slot x).making ++ taken_in_slot y) ++ next_slot (in_slot y).making)
  taken (Datum.vector ds) m =
      let k = (block_after m.heap.elements (how_many ds)).place in
      let room = with_block (how_many ds) m in
      taken_all ds k room ++ next_slot (put_all ds k room)
  taken (Datum.def l d) m = next_slot m ++ taken d (labelled l (begin_label l m) m)

  pub taken_all : Data → ℕ → Making → List ℕ
  taken_all end k m = []
  taken_all (more d ds) k m = taken d m ++ taken_all ds (suc k) (store_at k (put d m))

-- "The outer answer is always a slot."
unfoldable pub datum_taken : Datum → Heap → List ℕ
unfolding taken taken_all taken_in_slot put_rules
datum_taken d h = taken d (making h []) ++ taken_in_slot (put d (making h []))

-- those of a lent datum; bytes that are no datum take none
unfoldable pub slots_taken : List ℕ → Heap → List ℕ
unfolding datum_taken datum_rules
slots_taken bytes h = elim (parse bytes) [ good d ↦ datum_taken d h | bad f n ↦ [] ]

unfoldable pub taken_rules : Unit {0}
unfolding slots_given taken_in_slot taken_symbol taken_atom taken taken_all datum_taken slots_taken
taken_rules = tt
