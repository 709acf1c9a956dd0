-- The door's promise determines what it does: two outcomes that both meet it on the same lists and numbers at entry are the same
-- answer, the same scratch and the same output. The heap's lists are lent only to read. Document 01, "Each public call's promise
-- determines the answer and every lent byte afterwards". Assumes nothing.
use mathlib.Core.Path.{◌≡◌, sym, ap, ◌∙◌}
use mathlib.Core.List.{List}
use Prim.Native.Nat.{ℕ}
use Rattle.std.specs.Prelude.{Result}
use Rattle.rules.specs.Layout.{Lent}
use Rattle.rules.specs.Calls.{ReadLeft, read_call}
use Rattle.refusals.specs.declared.Refusal.{Refusal}
use Rattle.refusals.specs.Told.{answer_of}
use Rattle.heap_given.proofs.AnswerLaws.{one_answer}
use Rattle.doors_read.specs.Answers.{read_left}

module _ (l : Lent) (scratch out : List ℕ) (kind a : ℕ) (r r' : Result ℕ Refusal) (end end' after after' : List ℕ) (one : read_left (answer_of r) end after ≡ read_call l scratch out kind a) (two : read_left (answer_of r') end' after' ≡ read_call l scratch out kind a) where
  same : read_left (answer_of r) end after ≡ read_left (answer_of r') end' after'
  same = one ∙ sym two

  pub read_determined : (r ≡ r') × (end ≡ end') × (after ≡ after')
  read_determined =
      (one_answer r r' (ap (λ (x : ReadLeft). x.answer) same), ap (λ (x : ReadLeft). x.scratch) same, ap (λ (x : ReadLeft). x.out) same)
