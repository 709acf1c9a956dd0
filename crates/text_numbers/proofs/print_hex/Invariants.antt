-- `text_numbers::print_hex`: what was to write is what is left to write. Assumes nothing.
use lib.ListN.{drop}
use Prim.Native.Nat.{◌+◌, ◌*◌}
use Rattle.text_numbers.specs.Answers.{written}
use Rattle.rules.specs.Text.{hex}
use mathlib.Core.Path.{◌≡◌}
use Rattle.text_numbers.proofs.print_hex.Given as goal

abbrev pub invariant-loop-i : goal.invariant-loop-i
invariant-loop-i l = written l.out (l.at + 2 * l.i) (hex (drop l.i l.t)) ≡ written l.initial.out l.at (hex l.t)
