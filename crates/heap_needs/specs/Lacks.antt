-- Whether what a put needs is there: 16, "the slots needed exceed the free ones plus all growth that fits", then 17, "an
-- arena has less room than needed", from the lent words and the arenas' lengths. Assumes nothing.
use Rattle.std.specs.Prelude.{Bool, List, ℕ, Result, Ok, Err, ◌+◌, ◌-◌, ◌/◌, ◌≤◌, ◌<◌, ltb, length, get_or}
use Rattle.laws.specs.Basics.{choose}
use Rattle.rules.specs.Heap.{fitting, most_growths}
use Rattle.leaf_free.specs.FreeList.{chunk_of, capacity_of, count_of}
use Rattle.leaf_symbols.specs.Table.{bytes_used}
use Rattle.heap_needs.specs.declared.Needed.{Needed}
use Rattle.refusals.specs.declared.Refusal.{Refusal}
use Rattle.refusals.specs.declared.Refusal.TheVariants.{NoSlots, NoRoom}

-- the slots that the lent words have rows for
abbrev pub lent_slots : List ℕ → ℕ
lent_slots ws = (length ws - 8) / 8

abbrev pub elements_used : List ℕ → ℕ
elements_used ws = get_or ws 5 0

-- the size at which growth within the lent slots ends
abbrev pub most_slots : List ℕ → ℕ
most_slots ws = fitting most_growths (chunk_of ws) (lent_slots ws) (capacity_of ws)

-- the first test that holds, in the table's order
abbrev pub first_short : Bool → Bool → Bool → Result (Unit {0}) Refusal
first_short slots bytes elements =
    choose slots (Err NoSlots) (choose bytes (Err NoRoom) (choose elements (Err NoRoom) (Ok tt)))

unfoldable pub short_of : List ℕ → Needed → ℕ → ℕ → Result (Unit {0}) Refusal
short_of ws n bytes elements =
    first_short (ltb (count_of ws + (most_slots ws - capacity_of ws)) n.slots) (ltb bytes (bytes_used ws + n.bytes))
    (ltb elements (elements_used ws + n.elements))

-- the numbers of the words are those of a heap within the arenas
pub record Measured (ws : List ℕ) (bytes elements : ℕ) : Type 0 where
  pub header : 8 ≤ length ws
  pub chunk_positive : 0 < chunk_of ws
  pub chunk_small : chunk_of ws ≤ 4096
  pub slots_small : lent_slots ws ≤ 4096
  pub capacity_small : capacity_of ws ≤ lent_slots ws
  pub rises : capacity_of ws ≤ most_slots ws
  pub free_small : count_of ws ≤ 4096
  pub texts : bytes_used ws ≤ bytes
  pub room : elements_used ws ≤ elements
