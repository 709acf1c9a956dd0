-- `sheet_listing::print_elements`: one element more, with its comma. Assumes nothing.
use Rattle.sheet_values.proofs.CellLaws.{element_printed, all_printed}
use native.Mathlib.Omega.{arith}
use Rattle.sheet_print.proofs.ListLaws.{listed_none, listed_on}
use Rattle.sheet_print.specs.Printing.{element_text}
use Rattle.sheet_listing.proofs.print_elements.Goals as goal

pub loop-i-init : goal.loop-i-init
loop-i-init c = listed_none (element_text c.args.elems.now c.args.place) c.args.out.now c.args.at

pub print_comma-next-requires : goal.print_comma-next-requires
print_comma-next-requires c = omega (arith, c.loop-i.invariant.short)

pub print_value-end-requires : goal.print_value-end-requires
print_value-end-requires c = omega (arith, c.loop-i.invariant.short, c.print_comma-next.ensures.short, c.print_comma-next.auto.out, c.requires.size_in_bounds_2)

pub loop-i-preserved : goal.loop-i-preserved
loop-i-preserved c = listed_on (element_text c.args.elems.now c.args.place) c.args.out.now c.args.at c.loop-i.i 25 c.loop-i.invariant c.print_comma-next.ensures (element_printed c.args.elems.now c.args.place c.loop-i.i c.load_element.result c.load_element.ensures c.print_value-end.ensures)

pub returns : goal.returns
returns c = all_printed (element_text c.args.elems.now c.args.place) c.loop-i.i c.args.size (omega arith) c.loop-i-test.false c.loop-i.invariant
