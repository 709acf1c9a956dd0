-- What the doors answer, in the rules' words, where that is more than `answer_of` of refusals' Told says. Assumes nothing.
use Rattle.std.specs.Prelude.{◌≡◌, ℕ, Result}
use Rattle.rules.specs.Refusals.{Answer}
use Rattle.rules.specs.Cells.{Block, block}
use Rattle.rules.specs.Heap.{used_by_map}
use Rattle.rules.specs.Layout.{Lent}
use Rattle.rules.specs.Calls.{SetUp, count_call, used_call}
use Rattle.refusals.specs.declared.Refusal.{Refusal}
use Rattle.refusals.specs.Told.{answer_by, answer_of}
use Rattle.doors.specs.declared.TextBlock.{TextBlock}

-- setup's answer, with the lists that it leaves
abbrev pub set_up : Answer (Unit {0}) → Lent → SetUp
set_up a l = record { answer = a; lent = l }

-- "The used count is capacity less the free list"; "it is also counted from the map's set low bits, and the two are equal"
pub record Used (l : Lent) (r : Result ℕ Refusal) : Type 0 where
  pub by_list : answer_of r ≡ used_call l
  pub by_map : answer_of r ≡ count_call used_by_map l

-- the block of a string or a name
abbrev pub block_of : TextBlock → Block
block_of b = block b.place b.size

abbrev pub block_answer : Result TextBlock Refusal → Answer Block
block_answer r = answer_by block_of r
