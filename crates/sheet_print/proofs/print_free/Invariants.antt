-- `sheet_print::print_free`: one slot more, with its comma. Assumes nothing.
use Rattle.sheet_print.specs.Printing.{Within, listed, free_text}
use Prim.Native.Nat.{◌*◌}
use Rattle.sheet_print.proofs.print_free.Given as goal

abbrev pub invariant-loop-i : goal.invariant-loop-i
invariant-loop-i l = Within (5 * l.i) l.initial.out l.at (listed (free_text l.words) l.i) l.out l.end
