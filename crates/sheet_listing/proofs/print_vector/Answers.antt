-- `sheet_listing::print_vector`: the key, then the elements. Assumes nothing.
use Prim.Native.Nat.{◌*◌}
use Rattle.laws.specs.Basics.{basics}
use Rattle.sheet_print.specs.Printing.{listed, element_text}
use Rattle.sheet_values.proofs.CellLaws.{vector_printed}
use Rattle.sheet_listing.proofs.print_vector.Goals as goal

pub returns : goal.returns
unfolding basics
returns c = vector_printed (listed (element_text c.args.elems.now c.args.place) c.args.size) (26 * c.args.size) c.print_text-end.ensures c.print_elements.ensures
