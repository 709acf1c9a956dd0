-- What running a sheet is given and comes to, in the rules' words. Document 01, "Sheets". Assumes nothing.
use Rattle.std.specs.Prelude.{◌≡◌, true, List, [], ℕ, ◌+◌, ◌*◌, ◌≤◌, ◌<◌, length, get_or, take, Result, Ok, Err}
use Rattle.laws.specs.Basics.{zeros}
use Rattle.rules.specs.Numbers.{scratch_words}
use Rattle.rules.specs.Refusals.{accepted, refused, number_of}
use Rattle.rules.specs.Layout.{Lent, rooms_of, heap_of, map_bytes}
use Rattle.rules.specs.Sound.{sound}
use Rattle.rules.specs.Calls.{setup}
use Rattle.rules.specs.Listing.{sheet_slots, listing, refusal_line, put_each, printed}
use Rattle.heap_sound_rows.specs.Rows.{lists}
use Rattle.sheet_parse.specs.Parsed.{Within, part_of}
use Rattle.refusals.specs.declared.Refusal.{Refusal}
use Rattle.refusals.specs.Told.{refusal_of}
use Rattle.sheet_run.specs.declared.Refused.{Refused}
use Rattle.sheet_run.specs.declared.Refused.TheVariants as refused_as
use Rattle.sheet_run.specs.declared.Listed.{Listed}

-- "over 32 KiB is 12, bad text 11, more than 192 slots 10, then the calls"
abbrev pub refused_number : Refused → ℕ
refused_number refused_as.TooLong = 12
refused_number refused_as.BadText = 11
refused_number refused_as.TooManySlots = 10
refused_number (refused_as.ByCall r) = number_of (refusal_of r)

-- the data stand in the bytes, one behind the other
pub record DataAt (nodes ends : List ℕ) (count : ℕ) (ds : List (List ℕ)) : Type 0 where
  pub many : count ≡ length ds
  pub there : (i : ℕ) → i < count → Within nodes ends i
  pub is : (i : ℕ) → i < count → part_of nodes ends i ≡ get_or ds i []

-- a sound heap of no more slots than are lent, and the scratch of that capacity, clear
pub record Begun (l : Lent) (scratch : List ℕ) : Type 0 where
  pub whole : sound l ≡ true
  pub slots : (rooms_of l).slots ≤ sheet_slots
  pub clear : scratch ≡ zeros (scratch_words sheet_slots)

-- all were put, and the listing is to be printed; or a refusal
unfoldable pub each_put : List ℕ → Lent → ℕ → List ℕ → Result (Unit {0}) Refusal → Type 0
each_put text l count roots (Ok u) = (text ≡ listing (take count roots) (heap_of l)) × (sound l ≡ true)
each_put text l count roots (Err r) = text ≡ refusal_line (number_of (refusal_of r))

pub record EachPut (l : Lent) (ds : List (List ℕ)) (after : Lent) (count : ℕ) (roots : List ℕ) (r : Result (Unit {0}) Refusal) : Type 0 where
  pub ends : each_put (put_each [] l ds) after count roots r

-- lent room of a sheet's sizes, and the scratch, clear
pub record Lends (l : Lent) (scratch : List ℕ) : Type 0 where
  pub words : length l.words ≡ 8 + 8 * (rooms_of l).slots
  pub map : length l.map ≡ map_bytes (rooms_of l).slots
  pub bytes : length l.bytes ≡ 8192
  pub elems : length l.elems ≡ 6144
  pub slots : (rooms_of l).slots ≤ sheet_slots
  pub clear : scratch ≡ zeros (scratch_words sheet_slots)

-- what the calls print: setup's refusal, or what the puts come to
unfoldable pub called : ℕ → Lent → List (List ℕ) → List ℕ
called chunk l ds =
    let u = setup chunk l in
    elim u.answer [ accepted x ↦ put_each [] u.lent ds | refused r ↦ refusal_line (number_of r) ]

pub record FilledIn (chunk : ℕ) (l : Lent) (ds : List (List ℕ)) (after : Lent) (count : ℕ) (roots : List ℕ) (r : Result (Unit {0}) Refusal) : Type 0 where
  pub ends : each_put (called chunk l ds) after count roots r

-- the room that the program lends: 192 slots, 8,192 bytes, 2,048 elements, and what a text of 32 KiB takes
pub record RoomsLent (words map bytes elems scratch nodes ends roots : List ℕ) : Type 0 where
  pub rows : length words ≡ 1544
  pub states : length map ≡ 48
  pub texts : length bytes ≡ 8192
  pub values : length elems ≡ 6144
  pub clear : scratch ≡ zeros (scratch_words sheet_slots)
  pub written : 65545 ≤ length nodes
  pub places : length ends ≡ 6554
  pub kept : length roots ≡ 6554

-- the heap of so many slots at the start of the lent room
abbrev pub heap_lent : ℕ → List ℕ → List ℕ → List ℕ → List ℕ → Lent
heap_lent slots words map bytes elems = lists (take (8 + 8 * slots) words) (take (map_bytes slots) map) bytes elems

-- what the program is to print
unfoldable pub ran_so : List ℕ → List ℕ → List ℕ → List ℕ → List ℕ → List ℕ → Result Listed Refused → Type 0
ran_so text words map bytes elems roots (Err r) = printed text ≡ refusal_line (refused_number r)
ran_so text words map bytes elems roots (Ok l) =
    (printed text ≡ listing (take l.count roots) (heap_of (heap_lent l.slots words map bytes elems)))
    × (sound (heap_lent l.slots words map bytes elems) ≡ true)
    × (l.slots ≤ sheet_slots)
    × (l.count ≤ length roots)

pub record RanSo (text words map bytes elems roots : List ℕ) (r : Result Listed Refused) : Type 0 where
  pub is : ran_so text words map bytes elems roots r

unfoldable pub running_words : Unit {0}
unfolding each_put called ran_so
running_words = tt
