-- Each store's promise determines what it does: two outcomes that both meet it on the same lists and numbers at entry are the same
-- answer and the same lent lists at exit, refusals too. Document 01, "Each public call's promise determines the answer and every
-- lent byte afterwards". Assumes nothing.
use mathlib.Core.Path.{◌≡◌, sym, ap, ◌∙◌}
use Prim.Native.Nat.{ℕ}
use Rattle.std.specs.Prelude.{Result}
use Rattle.rules.specs.Layout.{Lent}
use Rattle.rules.specs.Calls.{Stored, stored, cell_store, element_store}
use Rattle.refusals.specs.declared.Refusal.{Refusal}
use Rattle.refusals.specs.Told.{answer_of}
use Rattle.heap_given.proofs.AnswerLaws.{one_answer}

-- the lists lent only to read are among those at exit, as they were
module _ (call : Stored) (r r' : Result (Unit {0}) Refusal) (after after' : Lent) (one : stored (answer_of r) after ≡ call) (two : stored (answer_of r') after' ≡ call) where
  stored_determined : (r ≡ r') × (after ≡ after')
  stored_determined =
      (one_answer r r' (ap (λ (x : Stored). x.answer) (one ∙ sym two)), ap (λ (x : Stored). x.lent) (one ∙ sym two))

pub cell_store_determined : (l : Lent) (s kind a b : ℕ) (r r' : Result (Unit {0}) Refusal) (after after' : Lent) → stored (answer_of r) after ≡ cell_store l s kind a b → stored (answer_of r') after' ≡ cell_store l s kind a b → (r ≡ r') × (after ≡ after')
cell_store_determined l s kind a b = stored_determined (cell_store l s kind a b)

pub element_store_determined : (l : Lent) (s k kind a : ℕ) (r r' : Result (Unit {0}) Refusal) (after after' : Lent) → stored (answer_of r) after ≡ element_store l s k kind a → stored (answer_of r') after' ≡ element_store l s k kind a → (r ≡ r') × (after ≡ after')
element_store_determined l s k kind a = stored_determined (element_store l s k kind a)
