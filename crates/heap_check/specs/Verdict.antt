-- What the check of a datum answers, by the rules' parse. Document 01, "What a caller is told", rows 11, 12 and 13, of
-- which "the first in table order is given". Assumes nothing.
use Rattle.std.specs.Prelude.{List, ℕ, Result, Ok, Err}
use Rattle.std.proofs.Math.Option.{Option, none, some}
use Rattle.rules.specs.Refusals.{malformed}
use Rattle.rules.specs.Refusals as rules
use Rattle.rules.specs.Datum.{good, bad, parse, within_limits, early_reference}
use Rattle.heap_tally.specs.Pass.{limits}
use Rattle.refusals.specs.declared.Refusal.{Refusal}
use Rattle.refusals.specs.Told.{refusal_of}

unfoldable pub verdict : List ℕ → Option rules.Refusal
unfolding limits
verdict bs = elim (parse bs) [ good d ↦ limits (within_limits d) (early_reference d) | bad f n ↦ some (malformed f n) ]

-- the rules' refusal of an answer, none where the datum is good
abbrev pub checked_of : Result (Unit {0}) Refusal → Option rules.Refusal
checked_of (Ok u) = none
checked_of (Err r) = some (refusal_of r)
