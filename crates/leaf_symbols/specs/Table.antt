-- The symbol table in the lent words: the number of its entries in word 3, entry i's slot and scope in columns 5 and 6 of
-- row i; places past the count are zero. An entry's name is that of its slot's symbol. Document 01, "Slots and growth".
-- Assumes nothing.
use Rattle.std.specs.Prelude.{◌≡◌, Bool, List, [], ◌∷◌, map, ◌⊎◌, ℕ, suc, ◌+◌, ◌-◌, ◌*◌, ◌<◌, ◌≤◌, eqb, length, get_or, set, take, replicate}
use Rattle.std.proofs.Math.Option.{Option, none, some}
use Rattle.laws.specs.Basics.{both, find, keep, same, rising, basics}
use Rattle.rules.specs.Map.{is_allocated}
use Rattle.rules.specs.Cells.{Cell, plain, pair, symbol, string, vector}
use Rattle.rules.specs.Heap.{Entry, part_of}
use Rattle.leaf_cells.specs.Cells.{loaded}

-- the words of the header that are read here
abbrev pub count_of : List ℕ → ℕ
count_of ws = get_or ws 3 0

abbrev pub bytes_used : List ℕ → ℕ
bytes_used ws = get_or ws 4 0

-- the smaller of two
pub record Least (a b r : ℕ) : Type 0 where
  pub low : r ≤ a
  pub high : r ≤ b
  pub one : (r ≡ a) ⊎ (r ≡ b)

-- ---- names

-- the name of a cell whose text is among these bytes: empty where the cell is no symbol
unfoldable pub cell_name : List ℕ → Cell → List ℕ
cell_name bytes c =
    elim c [ plain x ↦ [] | pair a d ↦ [] | symbol b ↦ part_of bytes b | string b ↦ [] | vector b ↦ [] ]

-- the name that a slot's symbol has among the bytes in use
unfoldable pub name_of : List ℕ → List ℕ → ℕ → List ℕ
unfolding cell_name
name_of ws bytes s = cell_name (take (bytes_used ws) bytes) (loaded ws s)

-- ---- entries

abbrev pub entry : ℕ → ℕ → Entry
entry slot scope = record { slot = slot; scope = scope }

abbrev pub entry_in : List ℕ → ℕ → Entry
entry_in ws i = entry (get_or ws (8 + 8 * i + 5) 0) (get_or ws (8 + 8 * i + 6) 0)

-- n entries from place i on
unfoldable pub entries_from : List ℕ → ℕ → ℕ → List Entry
unfolding basics
entries_from ws i n = map (entry_in ws) (rising i n)

unfoldable pub entries : List ℕ → List Entry
unfolding entries_from
entries ws = entries_from ws 0 (count_of ws)

-- the table lies within the rows, and so do its entries' slots
pub record Tabled (ws : List ℕ) : Type 0 where
  pub header : 8 ≤ length ws
  pub rows : 8 * count_of ws + 8 ≤ length ws
  pub slots : (i : ℕ) → i < count_of ws → 8 * (entry_in ws i).slot + 16 ≤ length ws

-- ---- finding

-- the entry has this scope and name
unfoldable pub is_entry : List ℕ → List ℕ → List ℕ → ℕ → Entry → Bool
unfolding name_of basics
is_entry ws bytes name scope e = both (eqb e.scope scope) (same (name_of ws bytes e.slot) name)

abbrev pub slot_of : Option Entry → Option ℕ
slot_of none = none
slot_of (some e) = some e.slot

-- the slot of the first such entry
unfoldable pub found_in : List ℕ → List ℕ → List ℕ → ℕ → Option ℕ
unfolding is_entry entries basics
found_in ws bytes name scope = slot_of (find (is_entry ws bytes name scope) (entries ws))

-- ---- changing the table

unfoldable pub stored_entry : List ℕ → ℕ → Entry → List ℕ
stored_entry ws i e = set (set ws (8 + 8 * i + 5) e.slot) (8 + 8 * i + 6) e.scope

-- entries from place i on
unfoldable pub stored_entries : List ℕ → ℕ → List Entry → List ℕ
unfolding stored_entry
stored_entries ws i [] = ws
stored_entries ws i (e ∷ es) = stored_entries (stored_entry ws i e) (suc i) es

-- one entry more
unfoldable pub added : List ℕ → Entry → List ℕ
unfolding stored_entry
added ws e = set (stored_entry ws (count_of ws) e) 3 (count_of ws + 1)

-- the entries whose slot the map has as Allocated, in their order
unfoldable pub kept_entries : List ℕ → List ℕ → List Entry
unfolding entries basics
kept_entries ws map = keep (λ (e : Entry). is_allocated map e.slot) (entries ws)

-- they stand at the table's start
pub record ClosedUp (before after map : List ℕ) (r : ℕ) : Type 0 where
  pub words : after ≡ stored_entries before 0 (kept_entries before map)
  pub many : r ≡ length (kept_entries before map)

-- empty places
unfoldable pub cleared : List ℕ → ℕ → ℕ → List ℕ
unfolding stored_entries
cleared ws from to = stored_entries ws from (replicate (to - from) (entry 0 0))

-- those entries at the table's start, empty places after them up to the old count, and their number as the count
unfoldable pub dropped : List ℕ → List ℕ → List ℕ
unfolding kept_entries cleared stored_entries
dropped ws map =
    set
    (cleared (stored_entries ws 0 (kept_entries ws map)) (length (kept_entries ws map)) (count_of ws))
    3
    (length (kept_entries ws map))

unfoldable pub table_rules : Unit {0}
unfolding cell_name name_of entries_from entries is_entry found_in stored_entry stored_entries added kept_entries cleared dropped
table_rules = tt
