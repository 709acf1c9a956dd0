-- Document 01, "Readings to prove (marked) and to run": the fourteen, as one list of what the definitions give. What they
-- must give is in proofs/Readings.antt. Assumes nothing.
use Rattle.std.specs.Prelude.{Bool, List, [], ◌∷◌, ℕ, zero, suc}
use Rattle.std.proofs.Math.Option.{Option}
use Rattle.laws.specs.Basics.{ascii, zeros, basics}
use Rattle.rules.specs.Refusals.{Answer}
use Rattle.rules.specs.Map.{Allocated, Used, Free, byte_of, map_rules}
use Rattle.rules.specs.Cells.{nil, void, number, slot, scalar, Cell}
use Rattle.rules.specs.Nodes.{Atom}
use Rattle.rules.specs.Datum.{Datum, end, more, encode, datum_rules}
use Rattle.rules.specs.Heap.{Heap, capacity, cell_at, fresh, heap_rules}
use Rattle.rules.specs.Put.{put_datum, slot_in, put_rules}
use Rattle.rules.specs.Read.{reading, read_rules}
use Rattle.rules.specs.Equal.{eqv, equal_by, equal_rules}
use Rattle.rules.specs.Collect.{collect, collect_rules}
use Rattle.rules.specs.Layout.{Lent, heap_of, layout_rules}
use Rattle.rules.specs.Calls.{setup, put_call, call_rules}
use Rattle.rules.specs.Listing.{blank, printed, listing_rules}

-- ---- data by short names

abbrev pub num : ℕ → Datum
num n = Datum.atom (Atom.plain (number n))

abbrev pub empty : Datum
empty = Datum.atom (Atom.plain nil)

abbrev pub foo : Datum
unfolding basics
foo = Datum.atom (Atom.symbol (ascii "foo"))

-- ---- what is done

-- a fresh heap of chunk 4, lent so many slots
unfoldable pub lent_fresh : ℕ → Lent
unfolding call_rules listing_rules
lent_fresh slots = (setup 4 (blank (record { slots = slots; bytes = 8; elements = 4 }))).lent

-- the empty list put so many times: the answers, and the capacity after each
unfoldable pub put_times : ℕ → Lent → List (Answer ℕ)
unfolding call_rules datum_rules basics
put_times zero l = []
put_times (suc n) l = let p = put_call l (zeros 400) (encode empty) in p.answer ∷ put_times n p.lent

unfoldable pub sizes_after : ℕ → Lent → List ℕ
unfolding call_rules datum_rules layout_rules basics
sizes_after zero l = []
sizes_after (suc n) l =
    let p = put_call l (zeros 400) (encode empty) in capacity (heap_of p.lent) ∷ sizes_after n p.lent

-- a datum in a fresh heap of chunk 4; a datum in that heap once more
unfoldable pub after : Datum → Heap
unfolding put_rules heap_rules
after d = (put_datum d (fresh 4)).making.heap

unfoldable pub root : Datum → ℕ
unfolding put_rules heap_rules
root d = slot_in (put_datum d (fresh 4))

unfoldable pub after_both : Datum → Heap
unfolding put_rules after
after_both d = (put_datum d (after d)).making.heap

unfoldable pub second_root : Datum → ℕ
unfolding put_rules after
second_root d = slot_in (put_datum d (after d))

-- #0=(1 . #0#)
abbrev pub ring : Datum
ring = Datum.def 0 (Datum.pair (num 1) (Datum.atom (Atom.ref 0)))

-- ---- the list

pub data Result : Type 0 where
  answers : List (Answer ℕ) → Result
  sizes : List ℕ → Answer ℕ → Result
  taken : ℕ → Cell → List ℕ → Result
  free_list : List ℕ → Result
  text : List ℕ → Result
  read_back : Option Datum → Result
  byte : ℕ → Result
  equals : Option Bool → Result
  same_object : Bool → Result

-- where a datum was put in a fresh heap, the cell there, and the free list afterwards
unfoldable pub put_fresh : Datum → Result
unfolding after root
put_fresh d = taken (root d) (cell_at (after d) (root d)) (after d).free

-- the answer that came last
unfoldable pub last : Answer ℕ → List (Answer ℕ) → Answer ℕ
last a [] = a
last a (b ∷ bs) = last b bs

unfoldable pub readings : List Result
unfolding lent_fresh put_times sizes_after put_fresh after_both second_root last map_rules read_rules equal_rules collect_rules
    listing_rules basics
readings =
    answers (put_times 5 (lent_fresh 8))
    ∷ answers (put_times 5 (lent_fresh 7))
    ∷ sizes (sizes_after 20 (lent_fresh 24)) (last (Answer.accepted 0) (put_times 21 (lent_fresh 24)))
    ∷ put_fresh (Datum.pair (num 1) (num 2))
    ∷ put_fresh (Datum.vector (more (num 1) (more (num 2) end)))
    ∷ put_fresh (Datum.def 0 (Datum.atom (Atom.ref 0)))
    ∷ text (printed (ascii "chunk=4\nslots=4\ndef=0\npair=\nnum=1\nref=0\nend=\n"))
    ∷ free_list (collect (0 ∷ []) (after ring)).free
    ∷ read_back (reading (after ring) (slot 2))
    ∷ byte (byte_of Allocated Used Free Allocated)
    ∷ equals (equal_by 100 (after_both (Datum.pair (num 1) foo)) (slot (root (Datum.pair (num 1) foo))) (slot (second_root (Datum.pair (num 1) foo))))
    ∷ equals
    (equal_by 100 (after_both (Datum.pair (num 1) (Datum.pair (num 2) empty)))
    (slot (root (Datum.pair (num 1) (Datum.pair (num 2) empty))))
    (slot (second_root (Datum.pair (num 1) (Datum.pair (num 2) empty)))))
    ∷ same_object
    (eqv (after_both (Datum.atom (Atom.string (ascii "ab")))) (slot (root (Datum.atom (Atom.string (ascii "ab")))))
    (slot (second_root (Datum.atom (Atom.string (ascii "ab"))))))
    ∷ same_object (eqv (fresh 4) (scalar void) (scalar void))
    ∷ []

unfoldable pub readings_rules : Unit {0}
unfolding readings
readings_rules = tt
