-- What a collection does to a heap, in the paper's words: the record that is proved of the rules' `collect`. Document 01, "Slots and
-- growth" and "What a caller is told", on collection. Assumes nothing.
use Rattle.std.specs.Prelude.{◌≡◌, Bool, true, not, List, ◌++◌, reverse, ◌↔◌, ℕ, ◌+◌, ◌≤◌, ◌<◌, length}
use Rattle.laws.specs.Basics.{both, count, keep, rising}
use Rattle.rules.specs.Cells.{undefined, Value, Block, Cell, plain}
use Rattle.rules.specs.Heap.{Heap, Entry, capacity, cell_at, in_use}
use Rattle.rules.specs.Collect.{Reached}
use Rattle.rules.specs.Sound.{text_block, vector_block}
use Rattle.rules.specs.Read.{reading}
use Rattle.rules.specs.Equal.{eqv, Equal}
use Rattle.collect_laws.specs.Kept.{AsBefore, ReachedValue, ShownOver, Lowest}

-- one arena, by the block that a cell shows there and the room's length afterwards: "A collection keeps each block that a surviving
-- slot shows, once, packed by lowest such slot; sharing stays."
pub record PackedRoom (h : Heap) (roots : List ℕ) (k : Heap) (shows : Cell → Block) (used : ℕ) : Type 0 where
  -- two kept slots show one block afterwards exactly when they showed one before
  pub shared : (s t : ℕ) → Reached h roots s → Reached h roots t → 0 < (shows (cell_at h s)).size → 0 < (shows (cell_at h t)).size → (shows (cell_at k s) ≡ shows (cell_at k t)) ↔ (shows (cell_at h s) ≡ shows (cell_at h t))
  -- nothing is in the room but what a kept slot shows
  pub shown : (j : ℕ) → j < used → ShownOver h roots k shows j
  -- a block stands before that of each higher slot that is the lowest to show it
  pub in_order : (s t : ℕ) → s < t → Reached h roots s → Lowest h roots shows t → 0 < (shows (cell_at h s)).size → 0 < (shows (cell_at h t)).size → (shows (cell_at k s)).place + (shows (cell_at k s)).size ≤ (shows (cell_at k t)).place

pub record Collects (h : Heap) (roots : List ℕ) (k : Heap) : Type 0 where
  pub same_capacity : capacity k ≡ capacity h
  pub same_chunk : k.chunk ≡ h.chunk
  -- just what the roots reach stays in use, and shows what it showed but for the place of its block
  pub exactly : (s : ℕ) → (in_use k s ≡ true) ↔ Reached h roots s
  pub kept : (s : ℕ) → Reached h roots s → AsBefore h k (cell_at h s) (cell_at k s)
  -- "frees, in rising order, what is not reached, writes Undefined there, and puts each on top of the list"
  pub freed : (s : ℕ) → (Reached h roots s → ⊥) → cell_at k s ≡ plain undefined
  pub freed_list : k.free ≡ reverse (keep (λ s. both (in_use h s) (not (in_use k s))) (rising 0 (capacity h))) ++ h.free
  pub free_rest : (s : ℕ) → s < capacity h → (Reached h roots s → ⊥) → count s k.free ≡ 1
  pub not_free : (s : ℕ) → Reached h roots s → count s k.free ≡ 0
  pub none_past : (s : ℕ) → capacity h ≤ s → count s k.free ≡ 0
  -- "A swept symbol leaves the table."
  pub kept_table : k.table ≡ keep (λ (e : Entry). in_use k e.slot) h.table
  pub texts : PackedRoom h roots k text_block (length k.bytes)
  pub vectors : PackedRoom h roots k vector_block (length k.elements)
  -- what is kept reads and compares as before
  pub reads : (v : Value) → ReachedValue h roots v → reading k v ≡ reading h v
  pub compares : (v w : Value) → ReachedValue h roots v → ReachedValue h roots w → eqv k v w ≡ eqv h v w
  pub equals : (v w : Value) → ReachedValue h roots v → ReachedValue h roots w → (answer : Bool) → Equal k v w answer ↔ Equal h v w answer
