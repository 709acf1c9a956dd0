-- `sheet_listing::print_elements`: one element more, with its comma. Assumes nothing.
use Rattle.sheet_print.specs.Printing.{Within, listed, element_text}
use Prim.Native.Nat.{◌*◌}
use Rattle.sheet_listing.proofs.print_elements.Given as goal

abbrev pub invariant-loop-i : goal.invariant-loop-i
invariant-loop-i l = Within (26 * l.i) l.initial.out l.at (listed (element_text l.elems l.place) l.i) l.out l.end
