-- Answers of the code that the rules have as one answer are one, so that an answer that a promise tells is determined; and what is
-- told where the lists are not sound. Assumes nothing.
use mathlib.Core.Path.{◌≡◌, refl, sym, ap, ◌∙◌}
use Rattle.std.specs.Prelude.{Result, Ok, Err}
use Rattle.std.specs.Result.{IsErrAnd}
use Rattle.std.proofs.lemmas.Result.{err_from_is_err_and}
use Rattle.rules.specs.Refusals as rules
use Rattle.refusals.specs.declared.Refusal.{Refusal}
use Rattle.refusals.specs.declared.Refusal.TheVariants.{BadSetup, Unsound, ShortScratch, Malformed, OverLimit, EarlyLabel, NoSuchSlot, WrongCell, NoSlots, NoRoom, ShortOutput}
use Rattle.refusals.specs.Told.{refusal_of, answer_by, answer_of}
use Rattle.leaf_nodes.specs.declared.Fault as code
use Rattle.heap_given.proofs.FaultLaws.{from_fault, fault_back}

unfoldable from_refusal : rules.Refusal → Refusal
from_refusal rules.bad_setup = BadSetup
from_refusal rules.unsound = Unsound
from_refusal rules.short_scratch = ShortScratch
from_refusal (rules.malformed f n) = Malformed (from_fault f) n
from_refusal rules.over_limit = OverLimit
from_refusal rules.early_label = EarlyLabel
from_refusal rules.no_such_slot = NoSuchSlot
from_refusal rules.wrong_cell = WrongCell
from_refusal rules.no_slots = NoSlots
from_refusal rules.no_room = NoRoom
from_refusal rules.short_output = ShortOutput

refusal_back : (r : Refusal) → from_refusal (refusal_of r) ≡ r
unfolding from_refusal
refusal_back BadSetup = refl
refusal_back Unsound = refl
refusal_back ShortScratch = refl
refusal_back (Malformed f n) = ap (λ (x : code.Fault). Malformed x n) (fault_back f)
refusal_back OverLimit = refl
refusal_back EarlyLabel = refl
refusal_back NoSuchSlot = refl
refusal_back WrongCell = refl
refusal_back NoSlots = refl
refusal_back NoRoom = refl
refusal_back ShortOutput = refl

module _ {A B : Type 0} (f : A → B) (g : B → A) (back : (a : A) → g (f a) ≡ a) where
  from_answer : rules.Answer B → Result A Refusal
  unfolding from_refusal
  from_answer (rules.accepted b) = Ok (g b)
  from_answer (rules.refused r) = Err (from_refusal r)

  answer_back : (r : Result A Refusal) → from_answer (answer_by f r) ≡ r
  unfolding from_answer
  answer_back (Ok a) = ap Ok (back a)
  answer_back (Err r) = ap Err (refusal_back r)

  pub one_answer_by : (r r' : Result A Refusal) → answer_by f r ≡ answer_by f r' → r ≡ r'
  one_answer_by r r' e = sym (answer_back r) ∙ ap from_answer e ∙ answer_back r'

pub one_answer : {A : Type 0} (r r' : Result A Refusal) → answer_of r ≡ answer_of r' → r ≡ r'
one_answer r r' e = one_answer_by (λ a. a) (λ a. a) (λ a. refl) r r' e

-- the exit of a `?` tells the refusal that came
pub passed_on : {A B : Type 0} (f : A → B) (r : Result A Refusal) (x y : Refusal) → IsErrAnd r (λ e. e ≡ x) → x ≡ y → answer_by f r ≡ rules.refused (refusal_of y)
passed_on f r x y h e =
    let p = err_from_is_err_and r h in
    ap (answer_by f) p.1 ∙ ap (λ (z : Refusal). rules.refused (refusal_of z)) (p.2 ∙ e)
