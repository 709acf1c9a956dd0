-- What a search of the table answers, in the rules' words. Assumes nothing.
use Rattle.std.proofs.Math.Option.{Option, none, some}
use Rattle.std.specs.Prelude.{ℕ, Some, None}
use Rattle.std.specs.Prelude as code

abbrev pub shown_found : code.Option ℕ → Option ℕ
shown_found (Some s) = some s
shown_found None = none
