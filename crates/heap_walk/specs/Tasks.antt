-- What each part of the walk is given and must leave: the scratch afterwards has the marks of the rules' walk. Assumes
-- nothing.
use Rattle.std.specs.Prelude.{◌≡◌, true, List, [], ℕ, ◌+◌, ◌*◌, ◌≤◌, ◌<◌, ltb, length, get_or}
use Rattle.laws.specs.Basics.{every, join, member, count}
use Rattle.rules.specs.Cells.{Value, slot, block}
use Rattle.rules.specs.Heap.{Heap, capacity, cell_at, in_use, elements_of}
use Rattle.rules.specs.Layout.{Rooms, words_of, filled, value_words}
use Rattle.rules.specs.Sound.{value_named}
use Rattle.rules.specs.Read.{Walk, in_order, walk, labels_for}
use Rattle.rules.proofs.Good.{Good, element_at}
use Rattle.heap_walk.specs.Walks.{walk_parts, whole_walk}
use Rattle.heap_walk.specs.Marks.{Marked, mark}

-- a good heap stands in the lent lists, of which the walk reads two
pub record Stands (r : Rooms) (h : Heap) (words elems : List ℕ) : Type 0 where
  pub good : Good h
  pub slots : capacity h ≤ r.slots
  pub most : r.slots ≤ 4096
  pub elements : length h.elements ≤ r.elements
  pub words_are : words ≡ words_of r.slots h
  pub elems_are : elems ≡ filled (3 * r.elements) (join value_words h.elements)

-- a walk on its way: the heap, the slots on the path, and what was met and labelled
pub record Job : Type 0 where
  pub rooms : Rooms
  pub heap : Heap
  pub path : List ℕ
  pub so_far : Walk

-- what a walk keeps: what is on the path or labelled was met, and each slot has one label at most
pub record Kept (h : Heap) (path : List ℕ) (w : Walk) : Type 0 where
  pub path_met : (s : ℕ) → member s path ≡ true → member s w.met ≡ true
  pub labels_met : (s : ℕ) → member s w.labels ≡ true → member s w.met ≡ true
  pub below : every (λ s. ltb s (capacity h)) w.labels ≡ true
  pub once : (s : ℕ) → count s w.labels ≤ 1

-- the lists that a part of the walk finds
pub record Ready (j : Job) (known : ℕ) (words elems marks : List ℕ) : Type 0 where
  pub stands : Stands j.rooms j.heap words elems
  pub kept : Kept j.heap j.path j.so_far
  pub marked : Marked j.path j.so_far known marks
  pub room : capacity j.heap ≤ length marks

-- a slot
pub record Task (j : Job) (s left known : ℕ) (words elems marks : List ℕ) : Type 0 where
  pub ready : Ready j known words elems marks
  pub used : in_use j.heap s ≡ true

pub record Done (j : Job) (s left known : ℕ) (marks : List ℕ) : Type 0 where
  pub marked : Marked j.path (walk left j.heap j.path (slot s) j.so_far) known marks

-- what a slot's cell holds
pub record PartsTask (j : Job) (s left known : ℕ) (words elems marks : List ℕ) : Type 0 where
  pub ready : Ready j known words elems marks
  pub used : in_use j.heap s ≡ true

pub record PartsDone (j : Job) (s left known : ℕ) (marks : List ℕ) : Type 0 where
  pub marked : Marked j.path (walk_parts left j.heap j.path (cell_at j.heap s) j.so_far) known marks

-- a vector's elements
pub record ElementsTask (j : Job) (place n left known : ℕ) (words elems marks : List ℕ) : Type 0 where
  pub ready : Ready j known words elems marks
  pub inside : place + n ≤ length j.heap.elements
  pub named : every (value_named j.heap) (elements_of j.heap (block place n)) ≡ true

pub record ElementsDone (j : Job) (place n left known : ℕ) (marks : List ℕ) : Type 0 where
  pub marked : Marked j.path (in_order (λ v w. walk left j.heap j.path v w) (elements_of j.heap (block place n)) j.so_far) known marks

-- one of them
pub record ElementTask (j : Job) (place left known : ℕ) (words elems marks : List ℕ) : Type 0 where
  pub ready : Ready j known words elems marks
  pub inside : place < length j.heap.elements
  pub named : value_named j.heap (element_at j.heap place) ≡ true

pub record ElementDone (j : Job) (place left known : ℕ) (marks : List ℕ) : Type 0 where
  pub marked : Marked j.path (walk left j.heap j.path (element_at j.heap place) j.so_far) known marks

-- ---- the whole

pub record LabelTask (r : Rooms) (h : Heap) (v : Value) (words elems marks : List ℕ) : Type 0 where
  pub stands : Stands r h words elems
  pub named : value_named h v ≡ true
  pub blank : (s : ℕ) → get_or marks s 0 ≡ 0
  pub room : capacity h ≤ length marks

-- as many labels as the reading has, each slot with its own
pub record LabelDone (h : Heap) (v : Value) (known : ℕ) (marks : List ℕ) : Type 0 where
  pub count_is : known ≡ length (labels_for h v)
  pub marks_are : (s : ℕ) → get_or marks s 0 ≡ mark [] (whole_walk h v) s
