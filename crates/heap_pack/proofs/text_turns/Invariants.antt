-- `heap_pack::text_turns`: each turn takes the pass one slot on. Assumes nothing.
use mathlib.Core.Path.{◌≡◌}
use lib.ListN.{get_or}
use Rattle.heap_pack.proofs.TextLaws.{SoFar}
use Rattle.heap_pack.proofs.text_turns.Given as goal

abbrev pub invariant-loop-s : goal.invariant-loop-s
invariant-loop-s l = (l.capacity ≡ get_or l.initial.words 1 0) × SoFar l.initial.words l.initial.bytes l.old l.initial.table l.words l.bytes l.table l.at l.s
