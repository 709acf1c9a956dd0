-- What a reading wrote, as put takes it: bytes that are a datum, within the datum's numbers, with no label before its definition. So
-- put refuses it by none of 11, 12 and 13. Assumes nothing.
use Rattle.std.specs.Prelude.{◌≡◌, true, false, List, ℕ}
use Rattle.rules.specs.Datum.{Datum, good, parse, within_limits, early_reference}

pub record Puttable (bytes : List ℕ) : Type 0 where
  pub datum : Datum
  pub parses : parse bytes ≡ good datum
  pub within : within_limits datum ≡ true
  pub not_early : early_reference datum ≡ false
