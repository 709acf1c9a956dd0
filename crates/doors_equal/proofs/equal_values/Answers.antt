-- `doors_equal::equal_values`: 14 of either value, then the comparison. Assumes nothing.
use mathlib.Core.Path.{sym, ◌∙◌}
use native.Mathlib.Omega.{arith}
use Rattle.leaf_cells.specs.Elements.{value_of}
use Rattle.leaf_lists.specs.Lists.{lent_of}
use Rattle.heap_given.proofs.HeaderLaws.{header_there}
use Rattle.doors_equal.proofs.EqualLaws.{first_free, second_free, comparable, compared, roomy}
use Rattle.doors_equal.proofs.equal_values.Goals as goal

pub bounds-heap-1 : goal.bounds-heap-1
bounds-heap-1 c = omega (arith, header_there (lent_of c.args.heap.lists) c.args.heap.sound)

pub returns-then-not-value_in_use : goal.returns-then-not-value_in_use
returns-then-not-value_in_use c = first_free (lent_of c.args.heap.lists) c.args.heap.sound c.args.scratch.now (value_of c.args.v) (value_of c.args.w) (sym c.value_in_use.ensures ∙ c.if-not-value_in_use.true) _ c.clear_words.ensures

pub returns-then-not-value_in_use-2 : goal.returns-then-not-value_in_use-2
returns-then-not-value_in_use-2 c = second_free (lent_of c.args.heap.lists) c.args.heap.sound c.args.scratch.now (value_of c.args.v) (value_of c.args.w) (sym c.value_in_use.ensures ∙ c.if-not-value_in_use.false) (sym c.value_in_use-2.ensures ∙ c.if-not-value_in_use-2.true) _ c.clear_words-then-not-value_in_use-2.ensures

pub equal-requires : goal.equal-requires
equal-requires c = record { comparable = comparable (lent_of c.args.heap.lists) c.args.heap.sound c.args.scratch.now (value_of c.args.v) (value_of c.args.w) (sym c.value_in_use.ensures ∙ c.if-not-value_in_use.false) (sym c.value_in_use-2.ensures ∙ c.if-not-value_in_use-2.false); room = roomy (lent_of c.args.heap.lists) c.args.scratch.now c.requires }

pub returns : goal.returns
returns c = compared (lent_of c.args.heap.lists) c.args.heap.sound c.args.scratch.now (value_of c.args.v) (value_of c.args.w) (sym c.value_in_use.ensures ∙ c.if-not-value_in_use.false) (sym c.value_in_use-2.ensures ∙ c.if-not-value_in_use-2.false) _ _ c.equal.ensures
