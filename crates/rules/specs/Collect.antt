-- Document 01, "Slots and growth": reach, and the collection as one call: mark, sweep in rising order, the table, the
-- packing of both arenas. Assumes nothing.
use Rattle.std.specs.Prelude.{true, false, not, ℕ, zero, suc, eqb}
use mathlib.Core.List.{List, [], ◌∷◌, ◌++◌, Memᴰ}
use Rattle.std.proofs.Math.Option.{Option, none, some}
use lib.ListN.{length}
use Rattle.laws.specs.Basics.{choose, both, keep, find, join, member, rising, basics}
use Rattle.rules.specs.Map.{is_allocated, set_state, Free, map_rules}
use Rattle.rules.specs.Cells.{undefined, Value, slot, scalar, Block, block, Cell, plain, pair, symbol, string, vector, same_block}
use Rattle.rules.specs.Heap.{Heap, Entry, capacity, cell_at, elements_of, part_of}

-- ---- reach

unfoldable pub slots_among : List Value → List ℕ
slots_among [] = []
slots_among (slot s ∷ vs) = s ∷ slots_among vs
slots_among (scalar x ∷ vs) = slots_among vs

-- "a pair leads to car and cdr, a vector to each element that is a slot"
unfoldable pub leads_to : Heap → Cell → List ℕ
unfolding slots_among
leads_to h (plain s) = []
leads_to h (pair a d) = a ∷ d ∷ []
leads_to h (symbol b) = []
leads_to h (string b) = []
leads_to h (vector b) = slots_among (elements_of h b)

-- what the roots reach
pub data Reached (h : Heap) (roots : List ℕ) : ℕ → Type 0 where
  root : {s : ℕ} → Memᴰ s roots → Reached h roots s
  next : {s t : ℕ} → Reached h roots s → Memᴰ t (leads_to h (cell_at h s)) → Reached h roots t

-- ---- mark: the same, computed

-- with these slots too, each once
unfoldable pub mark_all : List ℕ → List ℕ → List ℕ
unfolding basics
mark_all [] marked = marked
mark_all (s ∷ ss) marked = mark_all ss (choose (member s marked) marked (s ∷ marked))

-- with what the marked ones lead to
unfoldable pub mark_round : Heap → List ℕ → List ℕ
unfolding mark_all leads_to basics
mark_round h marked = mark_all (join (λ s. leads_to h (cell_at h s)) marked) marked

unfoldable pub mark_rounds : ℕ → Heap → List ℕ → List ℕ
unfolding mark_round
mark_rounds zero h marked = marked
mark_rounds (suc n) h marked = mark_rounds n h (mark_round h marked)

-- a round for each slot is enough: one that marks nothing new is the last
unfoldable pub marked : Heap → List ℕ → List ℕ
unfolding mark_rounds mark_all
marked h roots = mark_rounds (capacity h) h (mark_all roots [])

-- ---- sweep

-- "frees, in rising order, what is not reached, writes Undefined there, and puts each on top of the list"
unfoldable pub free_slot : ℕ → Heap → Heap
unfolding map_rules
free_slot s h =
    record {
      chunk = h.chunk;
      cells = lib.ListN.set h.cells s (plain undefined);
      map = set_state h.map s Free;
      free = s ∷ h.free;
      table = h.table;
      bytes = h.bytes;
      elements = h.elements;
    }

unfoldable pub sweep : List ℕ → List ℕ → Heap → Heap
unfolding free_slot map_rules basics
sweep marked [] h = h
sweep marked (s ∷ ss) h =
    sweep marked ss (elim (both (is_allocated h.map s) (not (member s marked))) [ true ↦ free_slot s h | false ↦ h ])

-- "A swept symbol leaves the table."
unfoldable pub drop_entries : Heap → Heap
unfolding map_rules basics
drop_entries h =
    record {
      chunk = h.chunk;
      cells = h.cells;
      map = h.map;
      free = h.free;
      table = keep (λ (e : Entry). is_allocated h.map e.slot) h.table;
      bytes = h.bytes;
      elements = h.elements;
    }

-- ---- packing: "keeps each block that a surviving slot shows, once, packed by lowest such slot; sharing stays"

-- a block that was moved, and where it begins now
pub record Moved : Type 0 where
  pub from : Block
  pub place : ℕ

-- the new room so far, and what was moved into it
pub record Packing (A : Type 0) : Type 0 where
  pub room : List A
  pub moved : List Moved

-- where a block stands after packing; an empty one at place 0
unfoldable pub place_of : Block → List Moved → Option ℕ
unfolding basics
place_of b ms = elim (find (λ (m : Moved). same_block m.from b) ms) [ none ↦ none | some m ↦ some m.place ]

unfoldable pub pack_block : {A : Type 0} → List A → Block → Packing A → Packing A
unfolding place_of
pack_block old b p =
    elim (eqb b.size 0) [
      | true ↦ p
      | false ↦
          elim (place_of b p.moved) [
            | some k ↦ p
            | none ↦
                record
                { room = p.room ++ part_of old b; moved = p.moved ++ (record { from = b; place = length p.room } ∷ []) }
          ]
    ]

unfoldable pub moved_block : Block → List Moved → Block
unfolding place_of
moved_block b ms = elim (place_of b ms) [ none ↦ block 0 b.size | some k ↦ block k b.size ]

pub record Packed : Type 0 where
  pub texts : Packing ℕ
  pub vectors : Packing Value

unfoldable pub pack_cell : Heap → Cell → Packed → Packed
unfolding pack_block
pack_cell h (plain s) p = p
pack_cell h (pair a d) p = p
pack_cell h (symbol b) p = record { texts = pack_block h.bytes b p.texts; vectors = p.vectors }
pack_cell h (string b) p = record { texts = pack_block h.bytes b p.texts; vectors = p.vectors }
pack_cell h (vector b) p = record { texts = p.texts; vectors = pack_block h.elements b p.vectors }

-- the cells in slot order
unfoldable pub pack_cells : Heap → List Cell → Packed → Packed
unfolding pack_cell
pack_cells h [] p = p
pack_cells h (c ∷ cs) p = pack_cells h cs (pack_cell h c p)

unfoldable pub packed_cell : Packed → Cell → Cell
unfolding moved_block
packed_cell p (plain s) = plain s
packed_cell p (pair a d) = pair a d
packed_cell p (symbol b) = symbol (moved_block b p.texts.moved)
packed_cell p (string b) = string (moved_block b p.texts.moved)
packed_cell p (vector b) = vector (moved_block b p.vectors.moved)

unfoldable pub pack : Heap → Heap
unfolding pack_cells packed_cell
pack h =
    let p : Packed =
    pack_cells h h.cells (record { texts = record { room = []; moved = [] }; vectors = record { room = []; moved = [] } })
    in
    record {
      chunk = h.chunk;
      cells = mathlib.Core.List.map (packed_cell p) h.cells;
      map = h.map;
      free = h.free;
      table = h.table;
      bytes = p.texts.room;
      elements = p.vectors.room;
    }

-- ---- the collection

unfoldable pub collect : List ℕ → Heap → Heap
unfolding marked sweep drop_entries pack basics
collect roots h = pack (drop_entries (sweep (marked h roots) (rising 0 (capacity h)) h))

unfoldable pub collect_rules : Unit {0}
unfolding slots_among leads_to mark_all mark_round mark_rounds marked free_slot sweep drop_entries place_of pack_block moved_block
    pack_cell pack_cells packed_cell pack collect
collect_rules = tt
