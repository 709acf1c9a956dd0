-- `text_numbers::is_hex`: what was to look at is what is left to look at. Assumes nothing.
use Rattle.text_numbers.specs.Answers.{is_hex}
use lib.ListN.{drop}
use Prim.Native.Nat.{◌*◌}
use mathlib.Core.Path.{◌≡◌}
use Rattle.text_numbers.proofs.is_hex.Given as goal

abbrev pub invariant-loop-i : goal.invariant-loop-i
invariant-loop-i l = is_hex l.t ≡ is_hex (drop (2 * l.i) l.t)
