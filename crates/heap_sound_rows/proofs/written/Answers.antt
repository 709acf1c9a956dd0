-- `heap_sound_rows::written`: list by list, as the layout writes them. Assumes nothing.
use Rattle.heap_sound_rows.proofs.WrittenLaws.{spare_is, written_kept, kept_written}
use Rattle.heap_sound_rows.proofs.NumberLaws.{numbers_told, counts_told}
use Rattle.laws.proofs.Checks.{refuted, agreeing}
use Rattle.laws.proofs.Tests.{true≢false}
use mathlib.Core.Path.{sym, ◌∙◌}
use native.Mathlib.Omega.{arith}
use Rattle.heap_sound_rows.proofs.written.Goals as goal

pub returns-then-heap-ne1 : goal.returns-then-heap-ne1
returns-then-heap-ne1 c = let n = numbers_told _ _ c.requires.elems_value in let k = counts_told _ c.requires.elems_value_2 in refuted _ (λ f. c.if-heap-ne1.true (written_kept _ _ n k f).growth)

pub returns-then-heap-ne0 : goal.returns-then-heap-ne0
returns-then-heap-ne0 c = let n = numbers_told _ _ c.requires.elems_value in let k = counts_told _ c.requires.elems_value_2 in refuted _ (λ f. c.if-heap-ne0.true (written_kept _ _ n k f).last)

pub slice_bounds-all_are-count : goal.slice_bounds-all_are-count
slice_bounds-all_are-count c = let n = numbers_told _ _ c.requires.elems_value in let k = counts_told _ c.requires.elems_value_2 in omega (arith, n.map, k.capacity)

pub slice_bounds-all_are-start : goal.slice_bounds-all_are-start
slice_bounds-all_are-start c = let n = numbers_told _ _ c.requires.elems_value in let k = counts_told _ c.requires.elems_value_2 in omega (arith, n.map, k.capacity)

pub returns-then-not-all_are : goal.returns-then-not-all_are
returns-then-not-all_are c = let n = numbers_told _ _ c.requires.elems_value in let k = counts_told _ c.requires.elems_value_2 in refuted _ (λ f. true≢false (sym (written_kept _ _ n k f).map ∙ sym (c.all_are.ensures ∙ spare_is _ _) ∙ c.if-not-all_are.true))

pub slice_bounds-all_are-count-2 : goal.slice_bounds-all_are-count-2
slice_bounds-all_are-count-2 c = let n = numbers_told _ _ c.requires.elems_value in let k = counts_told _ c.requires.elems_value_2 in omega (arith, k.bytes)

pub slice_bounds-all_are-start-2 : goal.slice_bounds-all_are-start-2
slice_bounds-all_are-start-2 c = let n = numbers_told _ _ c.requires.elems_value in let k = counts_told _ c.requires.elems_value_2 in omega (arith, k.bytes)

pub returns-then-not-all_are-2 : goal.returns-then-not-all_are-2
returns-then-not-all_are-2 c = let n = numbers_told _ _ c.requires.elems_value in let k = counts_told _ c.requires.elems_value_2 in refuted _ (λ f. true≢false (sym (written_kept _ _ n k f).bytes ∙ sym (c.all_are-2.ensures ∙ spare_is _ _) ∙ c.if-not-all_are-2.true))

pub elements_kept-requires : goal.elements_kept-requires
elements_kept-requires c = let n = numbers_told _ _ c.requires.elems_value in let k = counts_told _ c.requires.elems_value_2 in omega (arith, k.elements)

pub returns-then-not-elements_kept : goal.returns-then-not-elements_kept
returns-then-not-elements_kept c = let n = numbers_told _ _ c.requires.elems_value in let k = counts_told _ c.requires.elems_value_2 in refuted _ (λ f. true≢false (sym (written_kept _ _ n k f).elements ∙ sym c.elements_kept.ensures ∙ c.if-not-elements_kept.true))

pub overflow_mul-values : goal.overflow_mul-values
overflow_mul-values c = let n = numbers_told _ _ c.requires.elems_value in let k = counts_told _ c.requires.elems_value_2 in omega (arith, n.elements, k.elements)

pub offset_bounds-heap-values : goal.offset_bounds-heap-values
offset_bounds-heap-values c = let n = numbers_told _ _ c.requires.elems_value in let k = counts_told _ c.requires.elems_value_2 in omega (arith, n.elements, k.elements)

pub slice_bounds-all_are-count-3 : goal.slice_bounds-all_are-count-3
slice_bounds-all_are-count-3 c = let n = numbers_told _ _ c.requires.elems_value in let k = counts_told _ c.requires.elems_value_2 in omega (arith, k.elements)

pub slice_bounds-all_are-start-3 : goal.slice_bounds-all_are-start-3
slice_bounds-all_are-start-3 c = let n = numbers_told _ _ c.requires.elems_value in let k = counts_told _ c.requires.elems_value_2 in omega (arith, k.elements)

pub returns-then-not-all_are-3 : goal.returns-then-not-all_are-3
returns-then-not-all_are-3 c = let n = numbers_told _ _ c.requires.elems_value in let k = counts_told _ c.requires.elems_value_2 in refuted _ (λ f. true≢false (sym (written_kept _ _ n k f).rest ∙ sym (c.all_are-3.ensures ∙ spare_is _ _) ∙ c.if-not-all_are-3.true))

pub returns : goal.returns
returns c =
    let n = numbers_told _ _ c.requires.elems_value in
    let k = counts_told _ c.requires.elems_value_2 in
    agreeing _ _
    (λ e. kept_written _ _ n k (record {
      growth = c.if-heap-ne1.false;
      last = c.if-heap-ne0.false;
      rows = sym c.rows_kept.ensures ∙ e;
      map = sym (c.all_are.ensures ∙ spare_is _ _) ∙ c.if-not-all_are.false;
      bytes = sym (c.all_are-2.ensures ∙ spare_is _ _) ∙ c.if-not-all_are-2.false;
      elements = sym c.elements_kept.ensures ∙ c.if-not-elements_kept.false;
      rest = sym (c.all_are-3.ensures ∙ spare_is _ _) ∙ c.if-not-all_are-3.false;
    }))
    (λ f. c.rows_kept.ensures ∙ (written_kept _ _ n k f).rows)
