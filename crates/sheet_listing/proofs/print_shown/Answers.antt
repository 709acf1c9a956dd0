-- `sheet_listing::print_shown`: the cell of a slot in use, or `free`. Assumes nothing.
use Rattle.laws.specs.Basics.{basics}
use Rattle.leaf_lists.specs.Lists.{lent_of}
use Rattle.sheet_listing.proofs.ShownLaws.{look_up_room, found_cell, not_found, cell_room, shown_printed, free_printed}
use Rattle.sheet_listing.proofs.print_shown.Goals as goal

pub look_up-requires : goal.look_up-requires
look_up-requires c = look_up_room (lent_of c.args.heap.lists) c.args.heap.sound

pub print_cell-requires : goal.print_cell-requires
print_cell-requires c = record { shown_in = cell_room (lent_of c.args.heap.lists) c.args.heap.sound c.args.slot c.in-Some.c (found_cell (lent_of c.args.heap.lists) c.args.heap.sound c.args.slot c.look_up.result c.look_up.ensures c.in-Some.c c.in-Some.is).1; most_cell_in_bounds = c.requires }

pub returns-in-Some : goal.returns-in-Some
returns-in-Some c = let f = found_cell (lent_of c.args.heap.lists) c.args.heap.sound c.args.slot c.look_up.result c.look_up.ensures c.in-Some.c c.in-Some.is in shown_printed (lent_of c.args.heap.lists) c.args.heap.sound c.args.slot c.in-Some.c f.0 f.1 c.print_cell.ensures

pub returns-in-None : goal.returns-in-None
unfolding basics
returns-in-None c = free_printed (lent_of c.args.heap.lists) c.args.heap.sound c.args.slot (not_found (lent_of c.args.heap.lists) c.args.heap.sound c.args.slot c.look_up.result c.look_up.ensures c.in-None.is) c.print_text.ensures
