-- Each promise determines what the door does: two outcomes that both meet it on the same lists and numbers at entry are the same
-- answer and the same scratch, refusals too; `equal` has one answer. The heap's lists are lent only to read. Document 01, "Each
-- public call's promise determines the answer and every lent byte afterwards". Assumes nothing.
use mathlib.Core.Path.{◌≡◌, sym, ap, ◌∙◌}
use mathlib.Core.Bool.{Bool, true, false, not}
use mathlib.Core.List.{List, [], ◌∷◌}
use Prim.Native.Nat.{ℕ}
use lib.Dec.{ltb}
use lib.ListN.{length}
use Rattle.laws.specs.Basics.{both}
use Rattle.rules.specs.Numbers.{scratch_words}
use Rattle.rules.specs.Refusals.{Refusal, unsound, short_scratch, no_such_slot, Answer, accepted, refused, Test, ◌⇒◌, unless, refusals}
use Rattle.rules.specs.Cells.{Value}
use Rattle.rules.specs.Heap.{Heap, capacity}
use Rattle.rules.specs.Layout.{Lent, heap_of}
use Rattle.rules.specs.Sound.{sound}
use Rattle.rules.specs.Equal.{Equal}
use Rattle.rules.specs.Calls.{eqv_call, EqualLeft, EqualValues, EqualCall, cleared, given_value, of_answer, value_in_use}
use Rattle.equal_laws.proofs.Levels.{equal_one}
use Rattle.std.specs.Prelude.{Result}
use Rattle.refusals.specs.declared.Refusal as code
use Rattle.refusals.specs.Told.{answer_of}
use Rattle.heap_given.proofs.AnswerLaws.{one_answer}
use Rattle.doors_equal.specs.Answers.{equal_left}
use Rattle.doors_equal.specs.Behind.{EqualSecond}

-- ---- eqv

pub eqv_determined : (l : Lent) (kind a kind' a' : ℕ) (r r' : Result Bool code.Refusal) → answer_of r ≡ eqv_call l kind a kind' a' → answer_of r' ≡ eqv_call l kind a kind' a' → r ≡ r'
eqv_determined l kind a kind' a' r r' one two = one_answer r r' (one ∙ sym two)

-- ---- the rules' call has one outcome

abbrev stopped : Refusal → List ℕ → EqualLeft
stopped n scratch = record { answer = refused n; scratch = scratch }

module _ (r r' : EqualLeft) where
  -- whatever refusal or decision a list of tests comes to, if each has one outcome so have the tests
  one_unless : (ts : List Test) (P P' : Type 0) (Q Q' : Refusal → Type 0) → (P → P' → r ≡ r') → ((n : Refusal) → Q n → Q' n → r ≡ r') → unless ts P Q → unless ts P' Q' → r ≡ r'
  unfolding refusals
  one_unless [] P P' Q Q' p q x y = p x y
  one_unless ((true ⇒ n) ∷ ts) P P' Q Q' p q x y = q n x y
  one_unless ((false ⇒ n) ∷ ts) P P' Q Q' p q x y = one_unless ts P P' Q Q' p q x y

  one_of : (x : Answer Value) (P P' : Value → Type 0) (Q Q' : Refusal → Type 0) → ((v : Value) → P v → P' v → r ≡ r') → ((n : Refusal) → Q n → Q' n → r ≡ r') → of_answer x P Q → of_answer x P' Q' → r ≡ r'
  unfolding of_answer
  one_of (accepted v) P P' Q Q' p q x y = p v x y
  one_of (refused n) P P' Q Q' p q x y = q n x y

  -- what is left where two values may be compared
  abbrev compared : Heap → List ℕ → Value → Value → EqualLeft → Type 0
  compared h scratch v w x =
      (truth : Bool) × Equal h v w truth × (x ≡ record { answer = accepted truth; scratch = cleared scratch })

  one_compared : (h : Heap) (scratch : List ℕ) (v w : Value) → compared h scratch v w r → compared h scratch v w r' → r ≡ r'
  one_compared h scratch v w x y =
      x.2
      ∙ ap (λ (b : Bool). record { answer = accepted b; scratch = cleared scratch }) (equal_one h v w x.0 y.0 x.1 y.1)
      ∙ sym y.2

  one_values : (h : Heap) (scratch : List ℕ) (v w : Value) → EqualValues h scratch v w r → EqualValues h scratch v w r' → r ≡ r'
  unfolding EqualValues
  one_values h scratch v w =
      one_unless ((not (both (value_in_use h v) (value_in_use h w)) ⇒ no_such_slot) ∷ []) (compared h scratch v w r) (compared h scratch v w r') (λ n. r ≡ stopped n (cleared scratch))
      (λ n. r' ≡ stopped n (cleared scratch)) (one_compared h scratch v w)
      (λ n x y. x ∙ sym y)

  one_second : (h : Heap) (scratch : List ℕ) (kind a : ℕ) (v : Value) → EqualSecond h scratch v kind a r → EqualSecond h scratch v kind a r' → r ≡ r'
  unfolding EqualSecond
  one_second h scratch kind a v =
      one_of (given_value kind a) (λ w. EqualValues h scratch v w r) (λ w. EqualValues h scratch v w r')
      (λ n. r ≡ stopped n (cleared scratch)) (λ n. r' ≡ stopped n (cleared scratch)) (one_values h scratch v)
      (λ n x y. x ∙ sym y)

  pub one_call : (l : Lent) (scratch : List ℕ) (kind a kind' a' : ℕ) → EqualCall l scratch kind a kind' a' r → EqualCall l scratch kind a kind' a' r' → r ≡ r'
  unfolding EqualCall EqualSecond
  one_call l scratch kind a kind' a' =
      let given : EqualLeft → Type 0 = λ x. of_answer (given_value kind a) (λ v. EqualSecond (heap_of l) scratch v kind' a' x) (λ n. x ≡ stopped n (cleared scratch)) in
      one_unless
      ((not (sound l) ⇒ unsound) ∷ (ltb (length scratch) (scratch_words (capacity (heap_of l))) ⇒ short_scratch) ∷ [])
      (given r) (given r') (λ n. r ≡ stopped n scratch) (λ n. r' ≡ stopped n scratch)
      (one_of (given_value kind a) (λ v. EqualSecond (heap_of l) scratch v kind' a' r)
      (λ v. EqualSecond (heap_of l) scratch v kind' a' r') (λ n. r ≡ stopped n (cleared scratch))
      (λ n. r' ≡ stopped n (cleared scratch)) (λ v. one_second (heap_of l) scratch kind' a' v)
      (λ n x y. x ∙ sym y))
      (λ n x y. x ∙ sym y)

module _ (l : Lent) (scratch : List ℕ) (kind a kind' a' : ℕ) (r r' : Result Bool code.Refusal) (end end' : List ℕ) where
  pub equal_determined : EqualCall l scratch kind a kind' a' (equal_left (answer_of r) end) → EqualCall l scratch kind a kind' a' (equal_left (answer_of r') end') → (r ≡ r') × (end ≡ end')
  equal_determined one two =
      let same = one_call (equal_left (answer_of r) end) (equal_left (answer_of r') end') l scratch kind a kind' a' one two in
      (one_answer r r' (ap (λ (x : EqualLeft). x.answer) same), ap (λ (x : EqualLeft). x.scratch) same)
