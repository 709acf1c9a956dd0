-- `leaf_symbols::close_up`: what is stored and what is left to store make the whole. Assumes nothing.
use Rattle.leaf_symbols.proofs.Turns.{Closing}
use Rattle.leaf_symbols.proofs.close_up.Given as goal

abbrev pub invariant-loop-i : goal.invariant-loop-i
invariant-loop-i l = Closing l.initial.words l.map l.count l.words l.kept l.i
