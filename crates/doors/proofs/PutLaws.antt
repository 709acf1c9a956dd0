-- The door of put: 20, then 19, then the put behind them. Assumes nothing.
use mathlib.Core.Path.{◌≡◌}
use mathlib.Core.Bool.{true, false}
use mathlib.Core.List.{List}
use Prim.Native.Nat.{ℕ}
use native.Mathlib.Omega.{arith}
use borrow.Author.Tests.{ltb-false}
use lib.Dec.{ltb}
use lib.ListN.{length, get_or}
use Rattle.rules.specs.Numbers.{scratch_words}
use Rattle.rules.specs.Refusals.{refused, unsound, short_scratch, malformed}
use Rattle.rules.specs.Datum.{good, bad, parse}
use Rattle.rules.specs.Heap.{Heap}
use Rattle.rules.specs.Layout.{Lent, header}
use Rattle.rules.specs.Sound.{sound}
use Rattle.rules.specs.Calls.{Left, left, cleared, put_tree, put_call}
use Rattle.rules.proofs.SoundLaws.{capacity_lent}
use Rattle.heap_put_whole.specs.Whole.{put_behind, Ready}
use Rattle.heap_given.proofs.CheckedLaws.{checked_unsound, checked_short, checked_on}

module _ (l : Lent) (scratch datum : List ℕ) where
  abbrev behind : Heap → Left ℕ
  behind h =
      elim (parse datum) [ good d ↦ put_tree l scratch h d | bad f n ↦ left (refused (malformed f n)) l (cleared scratch) ]

  pub put_unsound : sound l ≡ false → left (refused unsound) l scratch ≡ put_call l scratch datum
  unfolding put_call
  put_unsound e = checked_unsound l scratch behind e

  pub put_short : sound l ≡ true → ltb (length scratch) (scratch_words (get_or l.words 1 0)) ≡ true → left (refused short_scratch) l scratch ≡ put_call l scratch datum
  unfolding put_call
  put_short e s = checked_short l scratch behind e s

  pub put_passed : sound l ≡ true → ltb (length scratch) (scratch_words (get_or l.words 1 0)) ≡ false → put_behind l scratch datum ≡ put_call l scratch datum
  unfolding put_call put_behind
  put_passed e s = checked_on l scratch behind e s

pub ready : (l : Lent) (scratch : List ℕ) → sound l ≡ true → ltb (length scratch) (scratch_words (get_or l.words 1 0)) ≡ false → Ready l scratch
unfolding header
ready l scratch e s = record { lists_sound = e; room = omega (arith, ltb-false (length scratch) (scratch_words (get_or l.words 1 0)) s, capacity_lent l) }
