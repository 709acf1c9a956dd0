-- The door's promise determines what it does: two outcomes that both meet it on the same lists and numbers at entry are the same
-- answer and the same lent lists at exit, refusals too. Document 01, "Each public call's promise determines the answer and every
-- lent byte afterwards". Assumes nothing.
use mathlib.Core.Path.{◌≡◌, sym, ap, ◌∙◌}
use mathlib.Core.List.{List}
use Prim.Native.Nat.{ℕ}
use Rattle.std.specs.Prelude.{Result}
use Rattle.rules.specs.Layout.{Lent}
use Rattle.rules.specs.Calls.{Left, left, collect_call}
use Rattle.refusals.specs.declared.Refusal.{Refusal}
use Rattle.refusals.specs.Told.{answer_of}
use Rattle.heap_given.proofs.AnswerLaws.{one_answer}

module _ (l : Lent) (scratch roots : List ℕ) (r r' : Result (Unit {0}) Refusal) (after after' : Lent) (end end' : List ℕ) (one : left (answer_of r) after end ≡ collect_call l scratch roots) (two : left (answer_of r') after' end' ≡ collect_call l scratch roots) where
  same_collected : left (answer_of r) after end ≡ left (answer_of r') after' end'
  same_collected = one ∙ sym two

  pub collect_determined : (r ≡ r') × (after ≡ after') × (end ≡ end')
  collect_determined =
      (one_answer r r' (ap (λ (x : Left (Unit {0})). x.answer) same_collected), ap (λ (x : Left (Unit {0})). x.lent) same_collected, ap (λ (x : Left (Unit {0})). x.scratch) same_collected)
