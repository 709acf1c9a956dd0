-- What each part of the build is given and must leave: the output and the scratch afterwards are those of the draft. Assumes
-- nothing.
use Rattle.std.specs.Prelude.{◌≡◌, true, false, List, ℕ, suc, ◌+◌, ◌*◌, ◌/◌, ◌%◌, ◌≤◌, ◌<◌, eqb, length, get_or}
use Rattle.std.specs.Prelude as code
use Rattle.std.specs.Prelude.{Some, None}
use Rattle.std.proofs.Math.Option.{Option, none, some}
use Rattle.laws.specs.Basics.{every, member}
use Rattle.rules.specs.Cells.{Value, slot, block}
use Rattle.rules.specs.Heap.{Heap, capacity, cell_at, in_use, elements_of}
use Rattle.rules.specs.Layout.{Rooms, filled}
use Rattle.rules.specs.Sound.{value_named}
use Rattle.rules.proofs.Good.{element_at}
use Rattle.leaf_rooms.specs.Rooms.{stored}
use Rattle.leaf_write.specs.declared.Page.{Page}
use Rattle.heap_walk.specs.Marks.{label_word}
use Rattle.heap_walk.specs.Tasks.{Stands}
use Rattle.heap_build.specs.Drafts.{Draft, draft_all, draft_pair, draft_vector, draft_cell, draft}

-- the scratch has each slot's label, counted from 1, and tells whose definition has begun
pub record Marks (labels begun marks : List ℕ) : Type 0 where
  pub labels_are : (s : ℕ) → get_or marks s 0 / 4 ≡ label_word labels s
  pub begun_are : (s : ℕ) → eqb (get_or marks s 0 % 4) 2 ≡ member s begun

-- a draft stands in the lists; `start` is the output as it was, and a node has 4,101 bytes at most
pub record Shows (labels start : List ℕ) (d : Draft) (p : Page) (marks out : List ℕ) : Type 0 where
  pub left_is : p.left ≡ d.left
  pub at_is : p.at ≡ length d.text
  pub out_is : out ≡ stored start 0 d.text
  pub marks_are : Marks labels d.begun marks
  pub small : length d.text + 4101 * d.left ≤ 16797696

pub record Made (labels start : List ℕ) (bound : ℕ) (d : Draft) (p : Page) (marks out : List ℕ) : Type 0 where
  pub shows : Shows labels start d p marks out
  pub below : p.left < bound

-- the draft that a part leaves, with fewer nodes left than the bound, and its page; or neither
unfoldable pub LeftBy : List ℕ → List ℕ → ℕ → Option Draft → code.Option Page → List ℕ → List ℕ → Type 0
LeftBy labels start bound none None marks out = Unit {0}
LeftBy labels start bound none (Some p) marks out = ⊥
LeftBy labels start bound (some d) None marks out = ⊥
LeftBy labels start bound (some d) (Some p) marks out = Made labels start bound d p marks out

-- a build on its way: the heap and its labels, how deep it may go, the draft so far, and the output as it was
pub record Job : Type 0 where
  pub rooms : Rooms
  pub heap : Heap
  pub labels : List ℕ
  pub depth : ℕ
  pub draft : Draft
  pub start : List ℕ

-- a value's draft, for the job's depth
unfoldable pub inside : Job → Value → Draft → Option Draft
inside j v d = draft j.depth j.heap j.labels v d

-- the lists that a part of the build finds, with no more nodes left than may be
pub record Ready (j : Job) (enough : ℕ) (p : Page) (words bytes elems marks out : List ℕ) : Type 0 where
  pub stands : Stands j.rooms j.heap words elems
  pub bytes_are : bytes ≡ filled j.rooms.bytes j.heap.bytes
  pub shows : Shows j.labels j.start j.draft p marks out
  pub few : j.draft.left ≤ enough
  pub room : capacity j.heap ≤ length marks

-- a slot
pub record Task (j : Job) (s : ℕ) (p : Page) (words bytes elems marks out : List ℕ) : Type 0 where
  pub ready : Ready j j.depth p words bytes elems marks out
  pub used : in_use j.heap s ≡ true

pub record Done (j : Job) (s : ℕ) (r : code.Option Page) (marks out : List ℕ) : Type 0 where
  pub left : LeftBy j.labels j.start j.draft.left (inside j (slot s) j.draft) r marks out

-- its cell: what the cell holds goes as deep as the job says
pub record CellTask (j : Job) (s : ℕ) (p : Page) (words bytes elems marks out : List ℕ) : Type 0 where
  pub ready : Ready j (suc j.depth) p words bytes elems marks out
  pub used : in_use j.heap s ≡ true

pub record CellDone (j : Job) (s : ℕ) (r : code.Option Page) (marks out : List ℕ) : Type 0 where
  pub left : LeftBy j.labels j.start j.draft.left (draft_cell (inside j) j.heap (cell_at j.heap s) j.draft) r marks out

pub record PairTask (j : Job) (a d : ℕ) (p : Page) (words bytes elems marks out : List ℕ) : Type 0 where
  pub ready : Ready j (suc j.depth) p words bytes elems marks out
  pub car_used : in_use j.heap a ≡ true
  pub cdr_used : in_use j.heap d ≡ true

pub record PairDone (j : Job) (a d : ℕ) (r : code.Option Page) (marks out : List ℕ) : Type 0 where
  pub left : LeftBy j.labels j.start j.draft.left (draft_pair (inside j) a d j.draft) r marks out

pub record VectorTask (j : Job) (place n : ℕ) (p : Page) (words bytes elems marks out : List ℕ) : Type 0 where
  pub ready : Ready j (suc j.depth) p words bytes elems marks out
  pub within : place + n ≤ length j.heap.elements
  pub named : every (value_named j.heap) (elements_of j.heap (block place n)) ≡ true

pub record VectorDone (j : Job) (place n : ℕ) (r : code.Option Page) (marks out : List ℕ) : Type 0 where
  pub left : LeftBy j.labels j.start j.draft.left (draft_vector (inside j) (elements_of j.heap (block place n)) j.draft) r marks out

-- a vector's elements
pub record ElementsTask (j : Job) (place n : ℕ) (p : Page) (words bytes elems marks out : List ℕ) : Type 0 where
  pub ready : Ready j j.depth p words bytes elems marks out
  pub within : place + n ≤ length j.heap.elements
  pub named : every (value_named j.heap) (elements_of j.heap (block place n)) ≡ true

pub record ElementsDone (j : Job) (place n : ℕ) (r : code.Option Page) (marks out : List ℕ) : Type 0 where
  pub left : LeftBy j.labels j.start (suc j.draft.left) (draft_all (inside j) (elements_of j.heap (block place n)) j.draft) r marks out

-- one of them
pub record ElementTask (j : Job) (place : ℕ) (p : Page) (words bytes elems marks out : List ℕ) : Type 0 where
  pub ready : Ready j j.depth p words bytes elems marks out
  pub within : place < length j.heap.elements
  pub named : value_named j.heap (element_at j.heap place) ≡ true

pub record ElementDone (j : Job) (place : ℕ) (r : code.Option Page) (marks out : List ℕ) : Type 0 where
  pub left : LeftBy j.labels j.start j.draft.left (inside j (element_at j.heap place) j.draft) r marks out
