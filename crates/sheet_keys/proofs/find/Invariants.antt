-- `sheet_keys::find`: what was to look at is what is left to look at. Assumes nothing.
use Rattle.sheet_keys.proofs.KeyLaws.{Looked}
use Rattle.sheet_keys.proofs.find.Given as goal

abbrev pub invariant-loop-i : goal.invariant-loop-i
invariant-loop-i l = Looked l.byte l.text l.from l.i
