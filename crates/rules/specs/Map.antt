-- Document 01, "Slots and growth": "The state map has two bits a slot, four slots a byte, lowest bits first: Free 0,
-- Allocated 1, Used 2." Assumes nothing.
use Rattle.std.specs.Prelude.{Bool, List, map, ℕ, ◌+◌, ◌*◌, ◌/◌, ◌%◌, ◌^◌, eqb, get_or, set}
use Rattle.laws.specs.Basics.{sum, basics}

abbrev pub Free : ℕ
Free = 0

abbrev pub Allocated : ℕ
Allocated = 1

abbrev pub Used : ℕ
Used = 2

-- the two bits at one of a byte's four places
unfoldable pub state_in : ℕ → ℕ → ℕ
state_in byte place = byte / 4 ^ place % 4

-- the byte with these two bits at that place, and the others as they were
unfoldable pub with_state : ℕ → ℕ → ℕ → ℕ
with_state byte place state = byte % 4 ^ place + 4 ^ place * (state + 4 * (byte / 4 ^ (place + 1)))

-- a slot's state
unfoldable pub state_of : List ℕ → ℕ → ℕ
unfolding state_in
state_of bytes slot = state_in (get_or bytes (slot / 4) 0) (slot % 4)

-- the map with a slot's state changed
unfoldable pub set_state : List ℕ → ℕ → ℕ → List ℕ
unfolding with_state
set_state bytes slot state = set bytes (slot / 4) (with_state (get_or bytes (slot / 4) 0) (slot % 4) state)

unfoldable pub is_allocated : List ℕ → ℕ → Bool
unfolding state_of
is_allocated bytes slot = eqb (state_of bytes slot) Allocated

-- "it is also counted from the map's set low bits": those of a byte, and of the map
unfoldable pub low_bits : ℕ → ℕ
low_bits byte = byte % 2 + byte / 4 % 2 + byte / 16 % 2 + byte / 64 % 2

unfoldable pub set_low_bits : List ℕ → ℕ
unfolding low_bits basics
set_low_bits bytes = sum (map low_bits bytes)

-- four states as the byte that holds them
unfoldable pub byte_of : ℕ → ℕ → ℕ → ℕ → ℕ
unfolding with_state
byte_of a b c d = with_state (with_state (with_state (with_state 0 0 a) 1 b) 2 c) 3 d

unfoldable pub map_rules : Unit {0}
unfolding state_in with_state state_of set_state is_allocated low_bits set_low_bits byte_of
map_rules = tt
