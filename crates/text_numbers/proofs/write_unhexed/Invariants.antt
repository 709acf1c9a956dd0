-- `text_numbers::write_unhexed`: what was to write is what is left to write. Assumes nothing.
use Prim.Native.Nat.{◌+◌, ◌*◌}
use Rattle.text_numbers.specs.Answers.{is_hex, unhexed, written}
use lib.ListN.{drop}
use mathlib.Core.Path.{◌≡◌}
use mathlib.Core.Bool.{true}
use Rattle.text_numbers.proofs.write_unhexed.Given as goal

abbrev pub invariant-loop-i : goal.invariant-loop-i
invariant-loop-i l = (is_hex (drop (2 * l.i) l.t) ≡ true) × (written l.out (l.at + l.i) (unhexed (drop (2 * l.i) l.t)) ≡ written l.initial.out l.at (unhexed l.t))
