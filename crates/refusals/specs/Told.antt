-- A refusal and an answer of the code in the rules' words. A caller is told an answer by number: 0, or the refusal's of
-- document 01's table, which is `told` of rules' Refusals. Assumes nothing.
use Rattle.std.specs.Prelude.{Result, Ok, Err}
use Rattle.rules.specs.Refusals as rules
use Rattle.leaf_nodes.specs.Reads.{fault_of}
use Rattle.refusals.specs.declared.Refusal.{Refusal}
use Rattle.refusals.specs.declared.Refusal.TheVariants.{BadSetup, Unsound, ShortScratch, Malformed, OverLimit, EarlyLabel, NoSuchSlot, WrongCell, NoSlots, NoRoom, ShortOutput}

-- the rules' refusal of each case
abbrev pub refusal_of : Refusal → rules.Refusal
refusal_of BadSetup = rules.bad_setup
refusal_of Unsound = rules.unsound
refusal_of ShortScratch = rules.short_scratch
refusal_of (Malformed f n) = rules.malformed (fault_of f) n
refusal_of OverLimit = rules.over_limit
refusal_of EarlyLabel = rules.early_label
refusal_of NoSuchSlot = rules.no_such_slot
refusal_of WrongCell = rules.wrong_cell
refusal_of NoSlots = rules.no_slots
refusal_of NoRoom = rules.no_room
refusal_of ShortOutput = rules.short_output

-- the rules' answer of a result, where what was asked for is read by f
abbrev pub answer_by : {A B : Type 0} → (A → B) → Result A Refusal → rules.Answer B
answer_by f (Ok a) = rules.accepted (f a)
answer_by f (Err r) = rules.refused (refusal_of r)

-- the same where it is taken as it stands
abbrev pub answer_of : {A : Type 0} → Result A Refusal → rules.Answer A
answer_of r = answer_by (λ a. a) r
