-- Document 01, "What a caller is told": the refusals, their numbers, and "where several apply the first in table order
-- is given". Assumes nothing.
use Rattle.std.specs.Prelude.{Bool, true, false, List, [], ◌∷◌, ℕ}

-- what is wrong with a malformed datum or a given scalar: 11's cases, in the paper's order
pub data Fault : Type 0 where
  unknown_kind cut_short left_over bad_bool bad_char bad_utf8 : Fault

-- the table's rows, in its order; a malformed datum also says which node, counted from 0 in prefix order
pub data Refusal : Type 0 where
  bad_setup unsound short_scratch : Refusal
  malformed : Fault → ℕ → Refusal
  over_limit early_label no_such_slot wrong_cell no_slots no_room short_output : Refusal

-- the paper's number of a refusal
unfoldable pub number_of : Refusal → ℕ
number_of bad_setup = 10
number_of unsound = 20
number_of short_scratch = 19
number_of (malformed f n) = 11
number_of over_limit = 12
number_of early_label = 13
number_of no_such_slot = 14
number_of wrong_cell = 15
number_of no_slots = 16
number_of no_room = 17
number_of short_output = 18

-- an answer: what was asked for, or a refusal
pub data Answer (A : Type 0) : Type 0 where
  accepted : A → Answer A
  refused : Refusal → Answer A

-- what a caller is told of an answer by number: 0, or the refusal's
unfoldable pub told : {A : Type 0} → Answer A → ℕ
unfolding number_of
told (accepted a) = 0
told (refused r) = number_of r

-- a test, and the refusal that it asks for where it holds
infix 40 ◌⇒◌
pub data Test : Type 0 where
  ◌⇒◌ : Bool → Refusal → Test

-- "Where several apply the first in table order is given": the tests in that order, and what is answered if none holds
unfoldable pub unless {ℓ} : {A : Type ℓ} → List Test → A → (Refusal → A) → A
unless [] a refuse = a
unless ((true ⇒ r) ∷ ts) a refuse = refuse r
unless ((false ⇒ r) ∷ ts) a refuse = unless ts a refuse

unfoldable pub refusals : Unit {0}
unfolding number_of told unless
refusals = tt
