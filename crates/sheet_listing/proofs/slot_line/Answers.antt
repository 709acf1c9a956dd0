-- `sheet_listing::slot_line`: the key, what the slot shows, the line end. Assumes nothing.
use Rattle.laws.specs.Basics.{basics}
use Rattle.rules.specs.Layout.{heap_of}
use Rattle.leaf_lists.specs.Lists.{lent_of}
use Rattle.sheet_listing.proofs.ShownLaws.{slot_line_is}
use mathlib.Core.Path.{◌∙◌}
use lib.ListN.{length-set}
use native.Mathlib.Omega.{arith}
use Rattle.sheet_listing.proofs.slot_line.Goals as goal

pub bounds-out-key : goal.bounds-out-key
bounds-out-key c = omega (arith, c.print_keyed-key.ensures.short, c.print_keyed-key.auto.out, c.requires)

pub print_shown-end-requires : goal.print_shown-end-requires
print_shown-end-requires c = simp length-set (omega (arith, c.print_keyed-key.ensures.short, c.print_keyed-key.auto.out, c.requires))

pub bounds-out-end : goal.bounds-out-end
bounds-out-end c = omega (arith, c.print_shown-end.ensures.short, c.print_keyed-key.ensures.short, simp length-set at c.print_shown-end.auto.out, c.print_keyed-key.auto.out, c.requires)

pub overflow_add-result : goal.overflow_add-result
overflow_add-result c = omega (arith, c.print_shown-end.ensures.short, c.print_keyed-key.ensures.short)

pub shape_of-out : goal.shape_of-out
shape_of-out c = simp length-set (c.print_shown-end.auto.out ∙ simp length-set c.print_keyed-key.auto.out)

pub returns : goal.returns
unfolding basics
returns c = slot_line_is (heap_of (lent_of c.args.heap.lists)) c.args.slot c.print_keyed-key.ensures c.print_shown-end.ensures
