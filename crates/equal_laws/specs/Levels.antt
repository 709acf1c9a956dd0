-- Document 01, "Equality": "The answer is false exactly when a finite chain of such steps fails", by the length of the chain.
-- Assumes nothing.
use Rattle.std.specs.Prelude.{Bool, true, false, ℕ, zero, suc}
use Rattle.laws.specs.Basics.{every, basics}
use Rattle.rules.specs.Heap.{Heap}
use Rattle.rules.specs.Equal.{Goal, fails, needs, step, equal_rules}

-- no chain of at most n steps fails
unfoldable pub holds : ℕ → Heap → Goal → Bool
unfolding basics equal_rules
holds zero h g = true
holds (suc n) h g = elim (step h g) [ fails ↦ false | needs gs ↦ every (holds n h) gs ]
