-- `unhex`: the pairs so far are written.
use Rattle.std.proofs.Common.{◌≡◌, ℕ, ◌+◌, ◌*◌, ◌<◌, Some, slice_index}
use Rattle.stored_cases.specs.Digits.{pair_of}
use Rattle.stored_cases.proofs.unhex.Given as goal

abbrev pub invariant-loop-n : goal.invariant-loop-n
invariant-loop-n l =
    (k : ℕ) → k < l.n → pair_of (slice_index l.text (2 * k)) (slice_index l.text (2 * k + 1)) ≡ Some (slice_index l.bytes k)
