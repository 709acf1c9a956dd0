-- `leaf_symbols::clear`: what is cleared and what is left to clear make the whole. Assumes nothing.
use mathlib.Core.Path.{◌≡◌}
use lib.ListN.{length}
use Rattle.leaf_symbols.specs.Table.{cleared}
use Rattle.leaf_symbols.proofs.clear.Given as goal

abbrev pub invariant-loop-i : goal.invariant-loop-i
invariant-loop-i l = (length l.words ≡ length l.initial.words) × (cleared l.words l.i l.to ≡ cleared l.initial.words l.from l.to)
