-- Document 01, "Sheets": what the program `sheet` prints, and its order of refusals. Assumes nothing.
use Rattle.std.specs.Prelude.{true, false, ℕ, ◌+◌, ◌*◌, ltb, length}
use mathlib.Core.List.{List, [], ◌∷◌, ◌++◌}
use Rattle.std.proofs.Math.Option.{none, some}
use Rattle.laws.specs.Basics.{ascii, join, rising, zeros, basics}
use Rattle.rules.specs.Numbers.{scratch_words}
use Rattle.rules.specs.Refusals.{accepted, refused, number_of, refusals}
use Rattle.rules.specs.Cells.{Scalar, undefined, nil, eof, void, bool, char, number, Value, slot, scalar, Cell, plain, pair, symbol, string, vector, bit}
use Rattle.rules.specs.Map.{map_rules}
use Rattle.rules.specs.Heap.{Heap, capacity, cell_at, in_use, text_of, elements_of, free_count}
use Rattle.rules.specs.Layout.{Lent, Rooms, heap_of, map_bytes, layout_rules}
use Rattle.rules.specs.Calls.{setup, put_call, call_rules}
use Rattle.rules.specs.Text.{decimal, signed, hex, text_rules}
use Rattle.rules.specs.Sheet.{Sheet, sheet, data_of, sheet_rules}

-- ---- the listing

-- "key=value lines ending in LF"
unfoldable pub print_line : List ℕ → List ℕ → List ℕ
print_line key value = key ++ (61 ∷ value ++ (10 ∷ []))

-- with commas between
unfoldable pub commas : List (List ℕ) → List ℕ
commas [] = []
commas (t ∷ ts) = elim ts [ [] ↦ t | u ∷ us ↦ t ++ (44 ∷ commas ts) ]

-- "Cells print as `kind:` and the sheet's text, nil, eof, undef and void bare"
unfoldable pub print_scalar : Scalar → List ℕ
unfolding text_rules basics
print_scalar undefined = ascii "undef"
print_scalar nil = ascii "nil"
print_scalar eof = ascii "eof"
print_scalar void = ascii "void"
print_scalar (bool b) = ascii "bool:" ++ decimal (bit b)
print_scalar (char n) = ascii "char:" ++ decimal n
print_scalar (number n) = ascii "num:" ++ signed n

-- "a slot as `@N`"
unfoldable pub print_value : Value → List ℕ
unfolding print_scalar text_rules
print_value (slot s) = 64 ∷ decimal s
print_value (scalar s) = print_scalar s

unfoldable pub print_cell : Heap → Cell → List ℕ
unfolding print_scalar print_value commas text_rules basics
print_cell h (plain s) = print_scalar s
print_cell h (pair a d) = ascii "pair:" ++ decimal a ++ (44 ∷ decimal d)
print_cell h (symbol b) = ascii "sym:" ++ hex (text_of h b)
print_cell h (string b) = ascii "str:" ++ hex (text_of h b)
print_cell h (vector b) = ascii "vec:" ++ commas (mathlib.Core.List.map print_value (elements_of h b))

unfoldable pub print_slot : Heap → ℕ → List ℕ
unfolding print_line print_cell map_rules text_rules basics
print_slot h s = print_line (ascii "slot" ++ decimal s) (elim (in_use h s) [ true ↦ print_cell h (cell_at h s) | false ↦ ascii "free" ])

-- "One `root` a datum; `free` counts the list; `freelist` has commas, next slot first, empty if none."
unfoldable pub listing : List ℕ → Heap → List ℕ
unfolding print_line print_slot commas text_rules basics
listing roots h =
    join (λ r. print_line (ascii "root") (decimal r)) roots
    ++ print_line (ascii "capacity") (decimal (capacity h))
    ++ print_line (ascii "free") (decimal (free_count h))
    ++ print_line (ascii "freelist") (commas (mathlib.Core.List.map decimal h.free))
    ++ join (print_slot h) (rising 0 (capacity h))

-- "On a refusal it prints only `refused=N`."
unfoldable pub refusal_line : ℕ → List ℕ
unfolding print_line text_rules basics
refusal_line n = print_line (ascii "refused") (decimal n)

-- ---- the program

-- "32 KiB, 192 slots, 8,192 bytes, 2,048 elements lent"
abbrev pub most_text : ℕ
most_text = 32768

abbrev pub sheet_slots : ℕ
sheet_slots = 192

abbrev pub sheet_rooms : ℕ → Rooms
sheet_rooms slots = record { slots = slots; bytes = 8192; elements = 2048 }

-- lent memory, all zero
unfoldable pub blank : Rooms → Lent
unfolding layout_rules basics
blank r =
    record {
      words = zeros (8 + 8 * r.slots);
      map = zeros (map_bytes r.slots);
      bytes = zeros r.bytes;
      elems = zeros (3 * r.elements);
    }

-- "puts each datum and prints": the roots so far, the heap, the data to come
unfoldable pub put_each : List ℕ → Lent → List (List ℕ) → List ℕ
unfolding listing refusal_line call_rules layout_rules refusals basics
put_each roots l [] = listing roots (heap_of l)
put_each roots l (d ∷ ds) =
    let p = put_call l (zeros (scratch_words sheet_slots)) d in
    elim p.answer [ accepted s ↦ put_each (roots ++ (s ∷ [])) p.lent ds | refused r ↦ refusal_line (number_of r) ]

unfoldable pub run_sheet : Sheet → List ℕ
unfolding put_each blank call_rules sheet_rules refusals
run_sheet s =
    let u = setup s.chunk (blank (sheet_rooms s.slots)) in
    elim u.answer [ accepted x ↦ put_each [] u.lent (data_of s) | refused r ↦ refusal_line (number_of r) ]

-- "Its order: over 32 KiB is 12, bad text 11, more than 192 slots 10, then the calls."
unfoldable pub printed : List ℕ → List ℕ
unfolding run_sheet refusal_line sheet_rules
printed text =
    elim (ltb most_text (length text)) [
      | true ↦ refusal_line 12
      | false ↦
          elim (sheet text) [
            | none ↦ refusal_line 11
            | some s ↦ elim (ltb sheet_slots s.slots) [ true ↦ refusal_line 10 | false ↦ run_sheet s ]
          ]
    ]

unfoldable pub listing_rules : Unit {0}
unfolding print_line commas print_scalar print_value print_cell print_slot listing refusal_line blank put_each run_sheet printed
listing_rules = tt
