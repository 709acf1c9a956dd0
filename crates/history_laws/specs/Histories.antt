-- Histories: the calls with what a caller gives them, the lent lists after each by the rules' own definition of the call, and,
-- beside them, the set of slots worked out from the history, call by call; no state map is asked for it. Document 01, "How tight the
-- promises are": "a collection that does nothing (demand 3's set), one that collects properly once and then keeps everything (demand
-- 3 at every moment)". Assumes nothing.
use Rattle.std.specs.Prelude.{◌≡◌, true, List, [], ◌∷◌, ◌⊎◌, ℕ}
use Rattle.laws.specs.Basics.{member}
use Rattle.rules.specs.Refusals.{Refusal, refused}
use Rattle.rules.specs.Nodes.{bytes}
use Rattle.rules.specs.Collect.{Reached}
use Rattle.rules.specs.Heap.{Heap}
use Rattle.rules.specs.Layout.{Lent, heap_of}
use Rattle.rules.specs.Calls as Calls
use Rattle.rules.specs.Calls.{of_answer, put_call, collect_call}
use Rattle.history_laws.specs.Taken.{slots_taken}

-- ---- the calls

-- a call, with what the caller gives beside the heap's lists: scratch and output where it is lent them, a datum as bytes, a value
-- or a cell by its kind's number and its fields
pub data Call : Type 0 where
  setup : (chunk : ℕ) → Call
  put : (scratch datum : List ℕ) → bytes datum ≡ true → Call
  collect : (scratch roots : List ℕ) → Call
  cell_store : (s kind a b : ℕ) → Call
  element_store : (s i kind a : ℕ) → Call
  read : (scratch out : List ℕ) (kind a : ℕ) → Call
  eqv : (kind a kind' a' : ℕ) → Call
  equal : (scratch : List ℕ) (kind a kind' a' : ℕ) → Call
  text : (s : ℕ) → Call
  capacity free_count used_count : Call

-- the heap's lists after a call; those that only look are lent them to read
unfoldable pub lists_after : Call → Lent → Lent
lists_after (setup chunk) l = (Calls.setup chunk l).lent
lists_after (put scratch datum b) l = (put_call l scratch datum).lent
lists_after (collect scratch roots) l = (collect_call l scratch roots).lent
lists_after (cell_store s kind a b) l = (Calls.cell_store l s kind a b).lent
lists_after (element_store s i kind a) l = (Calls.element_store l s i kind a).lent
lists_after (read scratch out kind a) l = l
lists_after (eqv kind a kind' a') l = l
lists_after (equal scratch kind a kind' a') l = l
lists_after (text s) l = l
lists_after capacity l = l
lists_after free_count l = l
lists_after used_count l = l

-- ---- the set of slots worked out from the history

abbrev pub Slots : Type 1
Slots = ℕ → Type 0

-- no slot
abbrev pub no_slots : Slots
no_slots s = ⊥

-- with these slots too
abbrev pub with_slots : Slots → List ℕ → Slots
with_slots set new s = set s ⊎ (member s new ≡ true)

-- those of them that the roots reach
abbrev pub reached_of : Slots → Heap → List ℕ → Slots
reached_of set h roots s = set s × Reached h roots s

-- accepted, a setup empties the set, a put adds what the written rule gives, and a collection keeps exactly what its roots reach
-- in the heap before; a refused call and every other call leave it
unfoldable pub set_after : Call → Lent → Slots → Slots
unfolding of_answer
set_after (setup chunk) l set = of_answer (Calls.setup chunk l).answer (λ a. no_slots) (λ r. set)
set_after (put scratch datum b) l set =
    of_answer (put_call l scratch datum).answer (λ a. with_slots set (slots_taken datum (heap_of l))) (λ r. set)
set_after (collect scratch roots) l set =
    of_answer (collect_call l scratch roots).answer (λ a. reached_of set (heap_of l) roots) (λ r. set)
set_after (cell_store s kind a b) l set = set
set_after (element_store s i kind a) l set = set
set_after (read scratch out kind a) l set = set
set_after (eqv kind a kind' a') l set = set
set_after (equal scratch kind a kind' a') l set = set
set_after (text s) l set = set
set_after capacity l set = set
set_after free_count l set = set
set_after used_count l set = set

-- ---- moments

-- the lent lists, and the set that the calls so far give
pub record Moment : Type 1 where
  pub lent : Lent
  pub set : Slots

abbrev pub moment : Lent → Slots → Moment
moment l set = record { lent = l; set = set }

unfoldable pub after : Call → Moment → Moment
unfolding lists_after set_after
after c m = moment (lists_after c m.lent) (set_after c m.lent m.set)

-- the calls of a history, the first first
unfoldable pub after_all : List Call → Moment → Moment
unfolding after
after_all [] m = m
after_all (c ∷ cs) m = after_all cs (after c m)

-- ---- refusals

-- the call is refused
pub data Refuses (l : Lent) : Call → Type 0 where
  setup_refused : {chunk : ℕ} (r : Refusal) → (Calls.setup chunk l).answer ≡ refused r → Refuses l (setup chunk)
  put_refused : {scratch datum : List ℕ} {b : bytes datum ≡ true} (r : Refusal) → (put_call l scratch datum).answer ≡ refused r → Refuses l (put scratch datum b)
  collect_refused : {scratch roots : List ℕ} (r : Refusal) → (collect_call l scratch roots).answer ≡ refused r → Refuses l (collect scratch roots)
  cell_store_refused : {s kind a b : ℕ} (r : Refusal) → (Calls.cell_store l s kind a b).answer ≡ refused r → Refuses l (cell_store s kind a b)
  element_store_refused : {s i kind a : ℕ} (r : Refusal) → (Calls.element_store l s i kind a).answer ≡ refused r → Refuses l (element_store s i kind a)

unfoldable pub history_rules : Unit {0}
unfolding lists_after set_after after after_all
history_rules = tt
