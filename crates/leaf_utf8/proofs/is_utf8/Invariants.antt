-- `leaf_utf8::is_utf8`: what was to do is what is left to do. Assumes nothing.
use mathlib.Core.Path.{◌≡◌}
use lib.ListN.{drop}
use Rattle.rules.specs.Utf8.{utf8, utf8_after}
use Rattle.leaf_utf8.specs.Awaiting.{ranges}
use Rattle.leaf_utf8.proofs.is_utf8.Given as goal

abbrev pub invariant-loop-byte : goal.invariant-loop-byte
invariant-loop-byte l = utf8 l.s ≡ utf8_after (ranges l.a) (drop l.byte-index l.s)
