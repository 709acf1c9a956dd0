-- The line that the heap keeps, at one moment of a history: the slots in use are the set worked out from the history, every other
-- slot stands once on the free list, and what each next call may do to them. Document 01, "How tight the promises are", demands 2
-- and 3: a put takes the slots that the rule gives, and what is kept is read as before; "A refusal answers its number only, and leaves
-- heap and output as they stood". Assumes nothing.
use Rattle.std.specs.Prelude.{◌≡◌, Bool, true, List, ◌↔◌, ℕ, ◌+◌, ◌≤◌, ◌<◌, length, get_or}
use Rattle.std.proofs.Math.Option.{some}
use Rattle.laws.specs.Basics.{count, member}
use Rattle.rules.specs.Numbers.{scratch_words}
use Rattle.rules.specs.Refusals.{accepted}
use Rattle.rules.specs.Nodes.{bytes}
use Rattle.rules.specs.Cells.{Scalar, undefined, Value, slot, scalar, Cell}
use Rattle.rules.specs.Heap.{Heap, capacity, cell_at, in_use, used_count}
use Rattle.rules.specs.Layout.{Lent, heap_of}
use Rattle.rules.specs.Read.{reading}
use Rattle.rules.specs.Equal.{eqv, Equal}
use Rattle.rules.specs.Sound.{sound}
use Rattle.rules.specs.Calls as Calls
use Rattle.rules.specs.Calls.{put_call, collect_call, read_call, eqv_call, EqualLeft, EqualCall, text_part, text_told, given_cell, given_value, element_place}
use Rattle.collect_laws.specs.Kept.{AsBefore}
use Rattle.collect_laws.specs.Collects.{Collects}
use Rattle.history_laws.specs.Taken.{slots_given, slots_taken}
use Rattle.history_laws.specs.Histories.{Call, put, collect, cell_store, element_store, Slots, Moment, after, Refuses}

abbrev pub heap_at : Moment → Heap
heap_at m = heap_of m.lent

-- scratch that is long enough for these lists
abbrev pub Enough : Lent → List ℕ → Type 0
Enough l scratch = scratch_words (capacity (heap_of l)) ≤ length scratch

-- a scalar, or a slot of the set
pub data Held (set : Slots) : Value → Type 0 where
  no_slot : {x : Scalar} → Held set (scalar x)
  at_slot : {s : ℕ} → set s → Held set (slot s)

-- what is in the set shows, reads and compares in one heap as it did in the other; only where a block stands may differ
pub record SameValues (set : Slots) (h k : Heap) : Type 0 where
  pub shows : (s : ℕ) → set s → AsBefore h k (cell_at h s) (cell_at k s)
  pub reads : (v : Value) → Held set v → reading k v ≡ reading h v
  pub compares : (v w : Value) → Held set v → Held set w → eqv k v w ≡ eqv h v w
  pub equals : (v w : Value) → Held set v → Held set w → (truth : Bool) → Equal k v w truth ↔ Equal h v w truth

-- and a caller who asks after it is told the same: by read, given scratch that is enough afterwards, by the two equalities, and by text
pub record SameAnswers (set : Slots) (l l' : Lent) : Type 0 where
  pub reads : (scratch out : List ℕ) (kind a : ℕ) (v : Value) → given_value kind a ≡ accepted v → Held set v → Enough l' scratch
      → read_call l' scratch out kind a ≡ read_call l scratch out kind a
  pub eqvs : (kind a kind' a' : ℕ) (v w : Value) → given_value kind a ≡ accepted v → given_value kind' a' ≡ accepted w → Held set v → Held set w
      → eqv_call l' kind a kind' a' ≡ eqv_call l kind a kind' a'
  pub equals : (scratch : List ℕ) (kind a kind' a' : ℕ) (v w : Value) → given_value kind a ≡ accepted v → given_value kind' a' ≡ accepted w → Held set v → Held set w → Enough l' scratch
      → (r : EqualLeft) → EqualCall l' scratch kind a kind' a' r ↔ EqualCall l scratch kind a kind' a' r
  pub texts : (s : ℕ) → set s → text_part l' s ≡ text_part l s
  pub told : (s : ℕ) → set s → text_told l' s ≡ text_told l s

-- ---- an accepted put

-- `new` are the slots that the written rule gives to its new cells
pub record PutLine (m n : Moment) (new : List ℕ) (answer : ℕ) : Type 0 where
  -- no new cell gets a slot of the set, or one that another new cell has
  pub fresh : (s : ℕ) → member s new ≡ true → m.set s → ⊥
  pub once : (s : ℕ) → count s new ≤ 1
  -- they are the next ones that allocation gives, as many as the used count rises by
  pub next : new ≡ slots_given (length new) (heap_at m)
  pub counted : used_count (heap_at n) ≡ used_count (heap_at m) + length new
  pub in_set : n.set answer
  -- no slot of the set gets another cell, and each is read as before
  pub cells : (s : ℕ) → m.set s → cell_at (heap_at n) s ≡ cell_at (heap_at m) s
  pub same : SameValues m.set (heap_at m) (heap_at n)
  pub answers : SameAnswers m.set m.lent n.lent

-- ---- an accepted collection

pub record CollectLine (m n : Moment) (roots : List ℕ) : Type 0 where
  pub collected : Collects (heap_at m) roots (heap_at n)
  -- what is kept is read as before
  pub same : SameValues n.set (heap_at m) (heap_at n)
  pub answers : SameAnswers n.set m.lent n.lent

-- ---- an accepted store: one cell, or one element, and nothing else

-- all but the cells and the elements
pub record RestSame (h k : Heap) : Type 0 where
  pub chunk : k.chunk ≡ h.chunk
  pub map : k.map ≡ h.map
  pub free : k.free ≡ h.free
  pub table : k.table ≡ h.table
  pub bytes : k.bytes ≡ h.bytes

pub record CellLine (h k : Heap) (s kind a b : ℕ) : Type 0 where
  pub cell : Cell
  pub given : given_cell kind a b ≡ accepted cell
  pub here : cell_at k s ≡ cell
  pub others : (t : ℕ) → (t ≡ s → ⊥) → cell_at k t ≡ cell_at h t
  pub size : capacity k ≡ capacity h
  pub elements : k.elements ≡ h.elements
  pub rest : RestSame h k

pub record ElementLine (h k : Heap) (s i kind a : ℕ) : Type 0 where
  pub value : Value
  pub given : given_value kind a ≡ accepted value
  pub place : ℕ
  pub at : element_place (cell_at h s) i ≡ some place
  pub here : get_or k.elements place (scalar undefined) ≡ value
  pub others : (j : ℕ) → (j ≡ place → ⊥) → get_or k.elements j (scalar undefined) ≡ get_or h.elements j (scalar undefined)
  pub size : length k.elements ≡ length h.elements
  pub cells : k.cells ≡ h.cells
  pub rest : RestSame h k

-- ---- the line

-- the record that is proved of every moment after an accepted setup
pub record Line (m : Moment) : Type 1 where
  pub lists_sound : sound m.lent ≡ true
  -- the slots in use are the set, and every other slot below the capacity stands once on the free list
  pub used : (s : ℕ) → (in_use (heap_at m) s ≡ true) ↔ m.set s
  pub free_once : (s : ℕ) → s < capacity (heap_at m) → (m.set s → ⊥) → count s (heap_at m).free ≡ 1
  pub not_free : (s : ℕ) → m.set s → count s (heap_at m).free ≡ 0
  pub none_past : (s : ℕ) → capacity (heap_at m) ≤ s → count s (heap_at m).free ≡ 0
  -- what the next call does
  pub puts : (scratch datum : List ℕ) (b : bytes datum ≡ true) (answer : ℕ) → (put_call m.lent scratch datum).answer ≡ accepted answer
      → PutLine m (after (put scratch datum b) m) (slots_taken datum (heap_at m)) answer
  pub collects : (scratch roots : List ℕ) → (collect_call m.lent scratch roots).answer ≡ accepted tt
      → CollectLine m (after (collect scratch roots) m) roots
  pub cell_stores : (s kind a b : ℕ) → (Calls.cell_store m.lent s kind a b).answer ≡ accepted tt
      → CellLine (heap_at m) (heap_at (after (cell_store s kind a b) m)) s kind a b
  pub element_stores : (s i kind a : ℕ) → (Calls.element_store m.lent s i kind a).answer ≡ accepted tt
      → ElementLine (heap_at m) (heap_at (after (element_store s i kind a) m)) s i kind a
  pub refusals : (c : Call) → Refuses m.lent c → after c m ≡ m
