-- Each door's promise determines what the door does: two outcomes that both meet it on the same lists and numbers at entry are
-- the same answer and the same lent lists at exit, refusals too. A list lent only to read stays as it is. Document 01, "Each
-- public call's promise determines the answer and every lent byte afterwards". Assumes nothing.
use mathlib.Core.Path.{◌≡◌, refl, sym, ap, ◌∙◌}
use mathlib.Core.Bool.{Bool, true, false}
use mathlib.Core.List.{List}
use Prim.Native.Nat.{ℕ}
use native.Mathlib.Omega.{arith}
use lib.Dec.{eqb}
use Rattle.laws.specs.Basics.{either}
use Rattle.std.specs.Prelude.{Result, Ok, Err}
use Rattle.rules.specs.Refusals.{told, refusals}
use Rattle.rules.specs.Cells.{Block, Cell, plain, pair, symbol, string, vector}
use Rattle.rules.specs.Heap.{cell_at, in_use}
use Rattle.rules.specs.Layout.{Lent, heap_of}
use Rattle.rules.specs.Sound.{sound}
use Rattle.rules.specs.Calls.{Left, left, put_call, SetUp, setup, text_in, text_call, text_part, text_told, capacity_call, free_call}
use Rattle.refusals.specs.declared.Refusal.{Refusal}
use Rattle.refusals.specs.declared.Refusal.TheVariants.{BadSetup, Unsound, ShortScratch, Malformed, OverLimit, EarlyLabel, NoSuchSlot, WrongCell, NoSlots, NoRoom, ShortOutput}
use Rattle.refusals.specs.Told.{answer_of}
use Rattle.heap_given.proofs.AnswerLaws.{one_answer, one_answer_by}
use Rattle.doors.specs.declared.TextBlock.{TextBlock}
use Rattle.doors.specs.Answers.{set_up, Used, block_of, block_answer}

-- ---- setup

module _ (chunk : ℕ) (l : Lent) (r r' : Result (Unit {0}) Refusal) (after after' : Lent) (one : set_up (answer_of r) after ≡ setup chunk l) (two : set_up (answer_of r') after' ≡ setup chunk l) where
  same : set_up (answer_of r) after ≡ set_up (answer_of r') after'
  same = one ∙ sym two

  pub setup_determined : (r ≡ r') × (after ≡ after')
  setup_determined = (one_answer r r' (ap (λ (x : SetUp). x.answer) same), ap (λ (x : SetUp). x.lent) same)

-- ---- put

module _ (l : Lent) (scratch datum : List ℕ) (r r' : Result ℕ Refusal) (after after' : Lent) (end end' : List ℕ) (one : left (answer_of r) after end ≡ put_call l scratch datum) (two : left (answer_of r') after' end' ≡ put_call l scratch datum) where
  same_left : left (answer_of r) after end ≡ left (answer_of r') after' end'
  same_left = one ∙ sym two

  pub put_determined : (r ≡ r') × (after ≡ after') × (end ≡ end')
  put_determined =
      (one_answer r r' (ap (λ (x : Left ℕ). x.answer) same_left), ap (λ (x : Left ℕ). x.lent) same_left, ap (λ (x : Left ℕ). x.scratch) same_left)

-- ---- the counts

module _ (l : Lent) (r r' : Result ℕ Refusal) where
  pub capacity_determined : answer_of r ≡ capacity_call l → answer_of r' ≡ capacity_call l → r ≡ r'
  capacity_determined one two = one_answer r r' (one ∙ sym two)

  pub free_determined : answer_of r ≡ free_call l → answer_of r' ≡ free_call l → r ≡ r'
  free_determined one two = one_answer r r' (one ∙ sym two)

  pub used_determined : Used l r → Used l r' → r ≡ r'
  used_determined one two = one_answer r r' (one.by_list ∙ sym two.by_list)

-- ---- texts

pub text_determined : (l : Lent) (s : ℕ) (t t' : List ℕ) → t ≡ text_part l s → t' ≡ text_part l s → t ≡ t'
text_determined l s t t' one two = one ∙ sym two

-- a text is refused by 20, 14 and 15 alone, whose numbers are told of no other answer
unfoldable from_number : ℕ → Result (Unit {0}) Refusal
from_number n = elim (eqb n 0) [ true ↦ Ok tt | false ↦ elim (eqb n 20) [ true ↦ Err Unsound | false ↦ elim (eqb n 14) [ true ↦ Err NoSuchSlot | false ↦ Err WrongCell ] ] ]

-- one of those numbers
unfoldable of_text : ℕ → Bool
of_text n = either (eqb n 0) (either (eqb n 20) (either (eqb n 14) (eqb n 15)))

number_back : (r : Result (Unit {0}) Refusal) → of_text (told (answer_of r)) ≡ true → from_number (told (answer_of r)) ≡ r
unfolding from_number of_text refusals
number_back (Ok u) e = refl
number_back (Err BadSetup) e = absurd (let z : ◌≡◌ {A = ℕ} 0 1 = cc in omega arith)
number_back (Err Unsound) e = refl
number_back (Err ShortScratch) e = absurd (let z : ◌≡◌ {A = ℕ} 0 1 = cc in omega arith)
number_back (Err (Malformed f n)) e = absurd (let z : ◌≡◌ {A = ℕ} 0 1 = cc in omega arith)
number_back (Err OverLimit) e = absurd (let z : ◌≡◌ {A = ℕ} 0 1 = cc in omega arith)
number_back (Err EarlyLabel) e = absurd (let z : ◌≡◌ {A = ℕ} 0 1 = cc in omega arith)
number_back (Err NoSuchSlot) e = refl
number_back (Err WrongCell) e = refl
number_back (Err NoSlots) e = absurd (let z : ◌≡◌ {A = ℕ} 0 1 = cc in omega arith)
number_back (Err NoRoom) e = absurd (let z : ◌≡◌ {A = ℕ} 0 1 = cc in omega arith)
number_back (Err ShortOutput) e = absurd (let z : ◌≡◌ {A = ℕ} 0 1 = cc in omega arith)

told_in : (c : Cell) → of_text (told (text_in c)) ≡ true
unfolding of_text text_in refusals
told_in (plain s) = refl
told_in (pair a d) = refl
told_in (symbol b) = refl
told_in (string b) = refl
told_in (vector b) = refl

told_text : (l : Lent) (s : ℕ) → of_text (text_told l s) ≡ true
unfolding text_told text_call refusals of_text
told_text l s = go (sound l) refl (in_use (heap_of l) s) refl
  where
    go : (x : Bool) → sound l ≡ x → (y : Bool) → in_use (heap_of l) s ≡ y → of_text (text_told l s) ≡ true
    go false p y q = rw p refl
    go true p false q = rw (p, q) refl
    go true p true q = rw (p, q) (told_in (cell_at (heap_of l) s))

pub text_told_determined : (l : Lent) (s : ℕ) (r r' : Result (Unit {0}) Refusal) → told (answer_of r) ≡ text_told l s → told (answer_of r') ≡ text_told l s → r ≡ r'
text_told_determined l s r r' one two =
    sym (number_back r (ap of_text one ∙ told_text l s)) ∙ ap from_number (one ∙ sym two) ∙ number_back r' (ap of_text two ∙ told_text l s)

-- a block by its place and length
unfoldable from_block : Block → TextBlock
from_block b = record { place = b.place; size = b.size }

pub text_block_determined : (l : Lent) (s : ℕ) (r r' : Result TextBlock Refusal) → block_answer r ≡ text_call l s → block_answer r' ≡ text_call l s → r ≡ r'
unfolding from_block
text_block_determined l s r r' one two = one_answer_by block_of from_block (λ b. refl) r r' (one ∙ sym two)
