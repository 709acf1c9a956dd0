-- The two tests before a call that takes scratch: 20, then 19, each of which leaves everything as it was; else the call goes on
-- with the heap that the lists hold. Assumes nothing.
use mathlib.Core.Path.{◌≡◌, sym, ap, ◌∙◌}
use mathlib.Core.Bool.{Bool, true, false}
use mathlib.Core.List.{List}
use Prim.Native.Nat.{ℕ}
use lib.Dec.{ltb}
use lib.ListN.{length, get_or}
use Rattle.rules.specs.Numbers.{scratch_words}
use Rattle.rules.specs.Refusals.{refused, unsound, short_scratch, refusals}
use Rattle.rules.specs.Heap.{Heap}
use Rattle.rules.specs.Layout.{Lent, heap_of}
use Rattle.rules.specs.Sound.{sound}
use Rattle.rules.specs.Calls.{Left, left, checked}
use Rattle.heap_given.proofs.HeaderLaws.{short_by_header}

module _ {A : Type 0} (l : Lent) (scratch : List ℕ) (go : Heap → Left A) where
  -- 20
  pub checked_unsound : sound l ≡ false → left (refused unsound) l scratch ≡ checked l scratch go
  unfolding checked refusals
  checked_unsound e = rw e

  -- 19
  pub checked_short : sound l ≡ true → ltb (length scratch) (scratch_words (get_or l.words 1 0)) ≡ true → left (refused short_scratch) l scratch ≡ checked l scratch go
  unfolding checked refusals
  checked_short e short = rw (e, short_by_header l scratch true short)

  -- neither
  pub checked_on : sound l ≡ true → ltb (length scratch) (scratch_words (get_or l.words 1 0)) ≡ false → go (heap_of l) ≡ checked l scratch go
  unfolding checked refusals
  checked_on e long = rw (e, short_by_header l scratch false long)

-- lists lent to be changed, as they stand, are sound or not as what is looked at is; and scratch is short for them or not
pub sound_for : (l l' : Lent) (b : Bool) → l ≡ l' → sound l ≡ b → sound l' ≡ b
sound_for l l' b e s = sym (ap sound e) ∙ s

pub short_for : (l l' : Lent) (n : ℕ) (b b' : Bool) → l ≡ l' → b ≡ ltb n (scratch_words (get_or l.words 1 0)) → b ≡ b' → ltb n (scratch_words (get_or l'.words 1 0)) ≡ b'
short_for l l' n b b' e s t = sym (ap (λ (x : Lent). ltb n (scratch_words (get_or x.words 1 0))) e) ∙ sym s ∙ t
