-- `sheet_run::run`: the tests in their order, then the calls. Assumes nothing.
use mathlib.Core.Path.{sym, ◌∙◌}
use native.Mathlib.Omega.{arith}
use Rattle.std.proofs.lemmas.Result.{err_from_is_err_and}
use Rattle.sheet_run.proofs.CallLaws.{prints_12, prints_11, prints_10, data_there, few_roots, rows_long, states_long, lends, prints_refusal, prints_listing, parts_again}
use Rattle.sheet_run.proofs.run.Goals as goal

pub returns-then-text-gt32768 : goal.returns-then-text-gt32768
returns-then-text-gt32768 c = prints_12 c.args.text.now _ _ _ _ _ c.if-text-gt32768.true

pub returns-in_default : goal.returns-in_default
returns-in_default c = prints_11 c.args.text.now c.if-text-gt32768.false c.parse.ensures _ _ _ _ _ c.in_default.is

pub returns-then-sheet-gt192 : goal.returns-then-sheet-gt192
returns-then-sheet-gt192 c = prints_10 c.args.text.now c.if-text-gt32768.false c.parse.ensures _ _ _ c.in-Some.is _ _ _ _ _ c.if-sheet-gt192.true

pub slice_bounds-fill-end-2 : goal.slice_bounds-fill-end-2
slice_bounds-fill-end-2 c = sym (rows_long c.args.text.now c.if-text-gt32768.false c.parse.ensures _ _ _ c.in-Some.is c.if-sheet-gt192.false c.args.words.now c.args.map.now c.args.bytes.now c.args.elems.now c.args.scratch.now c.args.nodes.now c.args.roots.now c.requires)

pub slice_bounds-fill-end-4 : goal.slice_bounds-fill-end-4
slice_bounds-fill-end-4 c = sym (states_long c.args.text.now c.if-text-gt32768.false c.parse.ensures _ _ _ c.in-Some.is c.if-sheet-gt192.false c.args.words.now c.args.map.now c.args.bytes.now c.args.elems.now c.args.scratch.now c.args.nodes.now c.args.roots.now c.requires)

pub fill-requires : goal.fill-requires
fill-requires c = record { lends = lends c.args.text.now c.if-text-gt32768.false c.parse.ensures _ _ _ c.in-Some.is c.if-sheet-gt192.false c.args.words.now c.args.map.now c.args.bytes.now c.args.elems.now c.args.scratch.now c.args.nodes.now c.args.roots.now c.requires; by_index = (_, data_there c.args.text.now c.if-text-gt32768.false c.parse.ensures _ _ _ c.in-Some.is); count_in_bounds = omega (arith, few_roots c.args.text.now c.if-text-gt32768.false c.parse.ensures _ _ _ c.in-Some.is c.requires.places, c.requires.kept) }

pub returns-in_err-fill : goal.returns-in_err-fill
returns-in_err-fill c =
    let p = err_from_is_err_and c.from_residual.result c.from_residual.ensures.1 in
    rw (p.1, p.2)
    (prints_refusal c.args.text.now c.if-text-gt32768.false c.parse.ensures _ _ _ c.in-Some.is c.if-sheet-gt192.false c.args.words.now c.args.map.now c.args.bytes.now c.args.elems.now c.args.scratch.now c.args.nodes.now c.args.roots.now c.requires _ _ _ (c.fill.ensures _ (data_there c.args.text.now c.if-text-gt32768.false c.parse.ensures _ _ _ c.in-Some.is)) _ _ _ _ _ c.in_err-fill.was)

pub returns : goal.returns
returns c = prints_listing c.args.text.now c.if-text-gt32768.false c.parse.ensures _ _ _ c.in-Some.is c.if-sheet-gt192.false c.args.words.now c.args.map.now c.args.bytes.now c.args.elems.now c.args.scratch.now c.args.nodes.now c.args.roots.now c.requires _ _ _ (c.fill.ensures _ (data_there c.args.text.now c.if-text-gt32768.false c.parse.ensures _ _ _ c.in-Some.is)) _ _ _ _ c.in_ok-fill.was (parts_again _ _ _ _ _ _ _ (c.fill.auto.words ∙ rows_long c.args.text.now c.if-text-gt32768.false c.parse.ensures _ _ _ c.in-Some.is c.if-sheet-gt192.false c.args.words.now c.args.map.now c.args.bytes.now c.args.elems.now c.args.scratch.now c.args.nodes.now c.args.roots.now c.requires) (c.fill.auto.map ∙ states_long c.args.text.now c.if-text-gt32768.false c.parse.ensures _ _ _ c.in-Some.is c.if-sheet-gt192.false c.args.words.now c.args.map.now c.args.bytes.now c.args.elems.now c.args.scratch.now c.args.nodes.now c.args.roots.now c.requires)) (omega (arith, few_roots c.args.text.now c.if-text-gt32768.false c.parse.ensures _ _ _ c.in-Some.is c.requires.places, c.requires.kept, c.fill.auto.roots))
