-- `doors_equal::eqv_values`: 14 of either value, then the comparison. Assumes nothing.
use mathlib.Core.Path.{sym, ◌∙◌}
use native.Mathlib.Omega.{arith}
use Rattle.leaf_cells.specs.Elements.{value_of}
use Rattle.leaf_lists.specs.Lists.{lent_of}
use Rattle.heap_given.proofs.HeaderLaws.{header_there}
use Rattle.doors_equal.proofs.EqvLaws.{first_free, second_free, comparable, compared}
use Rattle.doors_equal.proofs.eqv_values.Goals as goal

pub bounds-heap-1 : goal.bounds-heap-1
bounds-heap-1 c = omega (arith, header_there (lent_of c.args.heap.lists) c.args.heap.sound)

pub returns-then-not-value_in_use : goal.returns-then-not-value_in_use
returns-then-not-value_in_use c = first_free (lent_of c.args.heap.lists) c.args.heap.sound (value_of c.args.v) (value_of c.args.w) (sym c.value_in_use.ensures ∙ c.if-not-value_in_use.true)

pub returns-then-not-value_in_use-2 : goal.returns-then-not-value_in_use-2
returns-then-not-value_in_use-2 c = second_free (lent_of c.args.heap.lists) c.args.heap.sound (value_of c.args.v) (value_of c.args.w) (sym c.value_in_use.ensures ∙ c.if-not-value_in_use.false) (sym c.value_in_use-2.ensures ∙ c.if-not-value_in_use-2.true)

pub eqv-requires : goal.eqv-requires
eqv-requires c = comparable (lent_of c.args.heap.lists) c.args.heap.sound (value_of c.args.v) (value_of c.args.w) (sym c.value_in_use.ensures ∙ c.if-not-value_in_use.false) (sym c.value_in_use-2.ensures ∙ c.if-not-value_in_use-2.false)

pub returns : goal.returns
returns c = compared (lent_of c.args.heap.lists) c.args.heap.sound (value_of c.args.v) (value_of c.args.w) (sym c.value_in_use.ensures ∙ c.if-not-value_in_use.false) (sym c.value_in_use-2.ensures ∙ c.if-not-value_in_use-2.false) _ c.eqv.ensures
