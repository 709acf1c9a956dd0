-- What a put behind the door's tests answers and leaves. Document 01, "What a caller is told", rows 11 to 17. Assumes
-- nothing.
use Rattle.std.specs.Prelude.{◌≡◌, true, List, ℕ, ◌≤◌, length, Result}
use Rattle.rules.specs.Numbers.{scratch_words}
use Rattle.rules.specs.Refusals.{refused, malformed}
use Rattle.rules.specs.Datum.{good, bad, parse}
use Rattle.rules.specs.Heap.{capacity}
use Rattle.rules.specs.Layout.{Lent, heap_of}
use Rattle.rules.specs.Sound.{sound}
use Rattle.rules.specs.Calls.{Left, left, cleared, put_tree}
use Rattle.refusals.specs.declared.Refusal.{Refusal}
use Rattle.refusals.specs.Told.{answer_of}

-- the rules' put call past 20 and 19
unfoldable pub put_behind : Lent → List ℕ → List ℕ → Left ℕ
put_behind l scratch datum =
    elim (parse datum) [ good d ↦ put_tree l scratch (heap_of l) d | bad f n ↦ left (refused (malformed f n)) l (cleared scratch) ]

-- 20 and 19 do not apply
pub record Ready (l : Lent) (scratch : List ℕ) : Type 0 where
  pub lists_sound : sound l ≡ true
  pub room : scratch_words (capacity (heap_of l)) ≤ length scratch

-- the answer and the lists that the put leaves, before the scratch is cleared
pub record Outcome (l : Lent) (scratch datum : List ℕ) (r : Result ℕ Refusal) (after : Lent) : Type 0 where
  pub is : left (answer_of r) after (cleared scratch) ≡ put_behind l scratch datum
