-- `heap_eqv::eqv_cells`: by the kinds, then by the words of that kind. Assumes nothing.
use mathlib.Core.Path.{sym, ◌∙◌}
use borrow.Author.Tests.{ne_eqb}
use Rattle.leaf_cells.specs.Cells.{cell_of}
use Rattle.heap_eqv.proofs.WordLaws.{told_by_words, kinds_differ, never, by_content, cars_differ, cars_alike, by_value, text_fits}
use Rattle.heap_eqv.proofs.eqv_cells.Goals as goal

pub returns-then-kind-y : goal.returns-then-kind-y
returns-then-kind-y c = told_by_words c.args.bytes.now (cell_of c.args.c) (cell_of c.args.d) c.cell_words-x.result c.cell_words-y.result _ c.cell_words-x.ensures c.cell_words-y.ensures (kinds_differ c.args.bytes.now c.cell_words-x.result c.cell_words-y.result c.if-kind-y.true)

pub same_text-requires : goal.same_text-requires
same_text-requires c = (text_fits _ c.cell_words-x.result c.in-7.is (cell_of c.args.c) c.cell_words-x.ensures c.requires.within, text_fits _ c.cell_words-y.result (sym c.if-kind-y.false ∙ c.in-7.is) (cell_of c.args.d) c.cell_words-y.ensures c.requires.within_2)

pub returns-in-0 : goal.returns-in-0
returns-in-0 c = told_by_words c.args.bytes.now (cell_of c.args.c) (cell_of c.args.d) c.cell_words-x.result c.cell_words-y.result _ c.cell_words-x.ensures c.cell_words-y.ensures (never c.args.bytes.now c.cell_words-x.result c.cell_words-y.result c.if-kind-y.false c.in-0.is)

pub returns-in-7 : goal.returns-in-7
returns-in-7 c = told_by_words c.args.bytes.now (cell_of c.args.c) (cell_of c.args.d) c.cell_words-x.result c.cell_words-y.result _ c.cell_words-x.ensures c.cell_words-y.ensures (c.same_text.ensures ∙ by_content c.args.bytes.now c.cell_words-x.result c.cell_words-y.result c.if-kind-y.false c.in-7.is)

pub returns-then-x-y : goal.returns-then-x-y
returns-then-x-y c = told_by_words c.args.bytes.now (cell_of c.args.c) (cell_of c.args.d) c.cell_words-x.result c.cell_words-y.result _ c.cell_words-x.ensures c.cell_words-y.ensures (cars_alike c.args.bytes.now c.cell_words-x.result c.cell_words-y.result c.if-kind-y.false c.in-9.is c.if-x-y.true)

pub returns-else-x-y : goal.returns-else-x-y
returns-else-x-y c = told_by_words c.args.bytes.now (cell_of c.args.c) (cell_of c.args.d) c.cell_words-x.result c.cell_words-y.result _ c.cell_words-x.ensures c.cell_words-y.ensures (ne_eqb _ _ c.if-x-y.false ∙ cars_differ c.args.bytes.now c.cell_words-x.result c.cell_words-y.result c.if-kind-y.false c.in-9.is c.if-x-y.false)

pub returns-in_default : goal.returns-in_default
returns-in_default c = told_by_words c.args.bytes.now (cell_of c.args.c) (cell_of c.args.d) c.cell_words-x.result c.cell_words-y.result _ c.cell_words-x.ensures c.cell_words-y.ensures (by_value c.args.bytes.now c.cell_words-x.result c.cell_words-y.result c.if-kind-y.false c.in_default.in_default-own.rest.0.0.1 c.in_default.in_default-own.rest.0.1 c.in_default.in_default-own.rest.1)
