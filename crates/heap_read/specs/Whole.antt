-- What a read behind the door's tests is given, answers and leaves. Document 01, "What a caller is told", rows 12 and 18. Assumes
-- nothing.
use Rattle.std.specs.Prelude as code
use Rattle.std.specs.Prelude.{◌≡◌, Result, Ok, Err, true, List, [], ◌++◌, ℕ, ◌≤◌, ◌<◌, length, get_or, drop}
use Rattle.std.proofs.Math.Option.{Option, none, some}
use Rattle.rules.specs.Numbers.{most_nodes}
use Rattle.rules.specs.Cells.{Value}
use Rattle.rules.specs.Datum.{Datum, encode}
use Rattle.rules.specs.Heap.{Heap, capacity}
use Rattle.rules.specs.Layout.{Rooms, filled}
use Rattle.rules.specs.Sound.{value_named}
use Rattle.rules.specs.Calls.{ReadLeft}
use Rattle.rules.specs.Read.{labels_for, reading}
use Rattle.leaf_write.specs.declared.Page.{Page}
use Rattle.heap_walk.specs.Tasks.{Stands}
use Rattle.heap_build.specs.Drafts.{Draft, draft}
use Rattle.heap_build.specs.Tasks.{Marks, LeftBy}
use Rattle.refusals.specs.declared.Refusal.{Refusal}
use Rattle.refusals.specs.declared.Refusal.TheVariants.{OverLimit, ShortOutput}
use Rattle.refusals.specs.Told.{answer_of}

abbrev pub read_left : Result ℕ Refusal → List ℕ → List ℕ → ReadLeft
read_left a scratch out = record { answer = answer_of a; scratch = scratch; out = out }

-- a good heap stands in the lists, the value names a slot in use, and there is a word of scratch for each slot
pub record Held (r : Rooms) (h : Heap) (v : Value) (scratch : ℕ) (words bytes elems : List ℕ) : Type 0 where
  pub stands : Stands r h words elems
  pub bytes_are : bytes ≡ filled r.bytes h.bytes
  pub named : value_named h v ≡ true
  pub room : capacity h ≤ scratch

-- scratch that is zero
pub record BlankTask (r : Rooms) (h : Heap) (v : Value) (words bytes elems scratch : List ℕ) : Type 0 where
  pub held : Held r h v (length scratch) words bytes elems
  pub blank : (s : ℕ) → get_or scratch s 0 ≡ 0

-- the labels of the reading are marked, no more than there may be, and no definition has begun
pub record MarkedTask (r : Rooms) (h : Heap) (v : Value) (words bytes elems marks : List ℕ) : Type 0 where
  pub held : Held r h v (length marks) words bytes elems
  pub marked : Marks (labels_for h v) [] marks
  pub few : length (labels_for h v) ≤ 64

-- nothing is written yet
abbrev pub blank_draft : Draft
blank_draft = record { left = most_nodes; begun = []; text = [] }

pub record ValueTask (r : Rooms) (h : Heap) (labels : List ℕ) (v : Value) (words bytes elems marks : List ℕ) : Type 0 where
  pub held : Held r h v (length marks) words bytes elems
  pub marked : Marks labels [] marks

-- what the build of a value leaves
pub record ValueDone (h : Heap) (labels : List ℕ) (v : Value) (start : List ℕ) (r : code.Option Page) (marks out : List ℕ) : Type 0 where
  pub left : LeftBy labels start most_nodes (draft most_nodes h labels v blank_draft) r marks out

-- the answer and the output, by the rules' reading
unfoldable pub told : Option Datum → List ℕ → Result ℕ Refusal → List ℕ → Type 0
told none before a after = (a ≡ Err OverLimit) × (after ≡ before)
told (some d) before (Ok n) after =
    (n ≡ length (encode d)) × (length (encode d) ≤ length before) × (after ≡ encode d ++ drop (length (encode d)) before)
told (some d) before (Err r) after = (r ≡ ShortOutput) × (length before < length (encode d)) × (after ≡ before)

pub record Answered (h : Heap) (v : Value) (before : List ℕ) (a : Result ℕ Refusal) (after : List ℕ) : Type 0 where
  pub by_reading : told (reading h v) before a after
