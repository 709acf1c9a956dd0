-- The heap: its cells, state map, free list, symbol table and rooms in use; looking things up; allocating and growing.
-- Document 01, "Slots and growth", and "What a caller is told" on the arenas. Assumes nothing.
use Rattle.std.specs.Prelude.{Bool, true, false, List, [], ◌∷◌, ◌++◌, reverse, ℕ, zero, suc, ◌+◌, ◌-◌, ◌*◌, ◌/◌, eqb, leb, ltb, length, get_or, set, take, drop, replicate}
use Rattle.std.proofs.Math.Option.{Option}
use Rattle.laws.specs.Basics.{choose, both, either, find, same, rising, zeros, basics}
use Rattle.rules.specs.Map.{is_allocated, set_state, set_low_bits, Allocated, map_rules}
use Rattle.rules.specs.Cells.{undefined, Value, Block, block, Cell, plain, pair, symbol, string, vector}

-- an entry of the symbol table: the slot it leads to, which holds the name, and the scope
pub record Entry : Type 0 where
  pub slot : ℕ
  pub scope : ℕ

-- `cells` has a cell for each slot below the capacity, `map` a byte for four of them; `free` is the free list, next slot
-- first; `table` is in order of making; `bytes` and `elements` are the rooms in use
pub record Heap : Type 0 where
  pub chunk : ℕ
  pub cells : List Cell
  pub map : List ℕ
  pub free : List ℕ
  pub table : List Entry
  pub bytes : List ℕ
  pub elements : List Value

-- ---- looking things up

abbrev pub capacity : Heap → ℕ
capacity h = length h.cells

abbrev pub cell_at : Heap → ℕ → Cell
cell_at h s = get_or h.cells s (plain undefined)

-- the slot is below the capacity and Allocated; in a sound heap the others are Free
abbrev pub in_use : Heap → ℕ → Bool
in_use h s = both (ltb s (capacity h)) (is_allocated h.map s)

-- what a value shows: a slot's cell, or the scalar itself
abbrev pub shown : Heap → Value → Cell
shown h (Value.slot s) = cell_at h s
shown h (Value.scalar s) = plain s

-- a part of a list
abbrev pub part_of : {A : Type 0} → List A → Block → List A
part_of l b = take b.size (drop b.place l)

-- "A string or name is read as the part of the byte arena that holds it"
abbrev pub text_of : Heap → Block → List ℕ
text_of h b = part_of h.bytes b

abbrev pub elements_of : Heap → Block → List Value
elements_of h b = part_of h.elements b

-- the name that a slot's symbol has
unfoldable pub name_at : Heap → ℕ → List ℕ
name_at h s =
    elim (cell_at h s) [ plain x ↦ [] | pair a d ↦ [] | symbol b ↦ text_of h b | string b ↦ [] | vector b ↦ [] ]

-- ---- changing a part

abbrev pub with_cell : Heap → ℕ → Cell → Heap
with_cell h s c =
    record {
      chunk = h.chunk;
      cells = set h.cells s c;
      map = h.map;
      free = h.free;
      table = h.table;
      bytes = h.bytes;
      elements = h.elements;
    }

abbrev pub with_element : Heap → ℕ → Value → Heap
with_element h k v =
    record {
      chunk = h.chunk;
      cells = h.cells;
      map = h.map;
      free = h.free;
      table = h.table;
      bytes = h.bytes;
      elements = set h.elements k v;
    }

-- "New blocks go at the end of the room in use"; "an empty one at place 0"
abbrev pub block_after : {A : Type 0} → List A → ℕ → Block
block_after room n = block (choose (eqb n 0) 0 (length room)) n

abbrev pub with_bytes : Heap → List ℕ → Heap
with_bytes h t =
    record {
      chunk = h.chunk;
      cells = h.cells;
      map = h.map;
      free = h.free;
      table = h.table;
      bytes = h.bytes ++ t;
      elements = h.elements;
    }

abbrev pub with_elements : Heap → List Value → Heap
with_elements h vs =
    record {
      chunk = h.chunk;
      cells = h.cells;
      map = h.map;
      free = h.free;
      table = h.table;
      bytes = h.bytes;
      elements = h.elements ++ vs;
    }

abbrev pub with_entry : Heap → Entry → Heap
with_entry h e =
    record {
      chunk = h.chunk;
      cells = h.cells;
      map = h.map;
      free = h.free;
      table = h.table ++ (e ∷ []);
      bytes = h.bytes;
      elements = h.elements;
    }

-- ---- growth

-- "n chunks grow to n × 3/2 rounded up"
unfoldable pub grown : ℕ → ℕ → ℕ
grown chunk size = (3 * (size / chunk) + 1) / 2 * chunk

-- the steps that growth can take: from one chunk of 4 slots the sixteenth passes 4,096
abbrev pub most_growths : ℕ
most_growths = 32

-- "If the grown size exceeds the lent slots it does not grow": the size that growth from this one ends at
unfoldable pub fitting : ℕ → ℕ → ℕ → ℕ → ℕ
unfolding grown
fitting zero chunk lent size = size
fitting (suc n) chunk lent size =
    elim (leb (grown chunk size) lent) [ true ↦ fitting n chunk lent (grown chunk size) | false ↦ size ]

-- "growth reaches the capacity": growing from this size comes to it
unfoldable pub reaches : ℕ → ℕ → ℕ → ℕ → Bool
unfolding grown
reaches zero chunk goal size = eqb size goal
reaches (suc n) chunk goal size = either (eqb size goal) (reaches n chunk goal (grown chunk size))

-- the heap with its grown size: "the new slots join in rising order, so the highest is given first"
unfoldable pub grow : Heap → Heap
unfolding grown basics
grow h =
    let size = capacity h in
    let new = grown h.chunk size - size in
    record {
      chunk = h.chunk;
      cells = h.cells ++ replicate new (plain undefined);
      map = h.map ++ zeros (new / 4);
      free = reverse (rising size new) ++ h.free;
      table = h.table;
      bytes = h.bytes;
      elements = h.elements;
    }

-- ---- allocating

-- a slot, and the heap after it was given
pub record Given : Type 0 where
  pub slot : ℕ
  pub heap : Heap

-- the top of the free list, taken off it and Allocated
unfoldable pub pop : Heap → Given
unfolding map_rules
pop h =
    elim h.free [
      | [] ↦ record { slot = 0; heap = h }
      | s ∷ rest ↦
          record {
            slot = s;
            heap =
                record {
                  chunk = h.chunk;
                  cells = h.cells;
                  map = set_state h.map s Allocated;
                  free = rest;
                  table = h.table;
                  bytes = h.bytes;
                  elements = h.elements;
                };
          }
    ]

-- "When the list is empty", the heap grows first. Whether the lent slots allow that is asked before a put (No. 16).
unfoldable pub alloc : Heap → Given
unfolding pop grow
alloc h = pop (elim h.free [ [] ↦ grow h | s ∷ rest ↦ h ])

-- ---- symbols

-- "A symbol is found or made under (name, 0), an identifier under (name, scope)."
unfoldable pub found : Heap → List ℕ → ℕ → Option Entry
unfolding name_at basics
found h name scope = find (λ (e : Entry). both (eqb e.scope scope) (same (name_at h e.slot) name)) h.table

-- ---- the counts

-- "The used count is capacity less the free list"
abbrev pub free_count : Heap → ℕ
free_count h = length h.free

abbrev pub used_count : Heap → ℕ
used_count h = capacity h - length h.free

-- "it is also counted from the map's set low bits"
abbrev pub used_by_map : Heap → ℕ
used_by_map h = set_low_bits h.map

-- ---- a fresh heap: "the first slot given is 0, then 1"

unfoldable pub fresh : ℕ → Heap
unfolding basics
fresh chunk =
    record {
      chunk = chunk;
      cells = replicate chunk (plain undefined);
      map = zeros (chunk / 4);
      free = rising 0 chunk;
      table = [];
      bytes = [];
      elements = [];
    }

unfoldable pub heap_rules : Unit {0}
unfolding name_at grown fitting reaches grow pop alloc found fresh
heap_rules = tt
