-- `heap_sound::outline`: clause by clause. Assumes nothing.
use Rattle.heap_sound.proofs.OutlineLaws.{ground, growth_is, no_outline, outline_unsettled, outline_decided}
use Rattle.heap_sound_rows.proofs.NumberLaws.{numbers_told, counts_told}
use Rattle.leaf_lists.specs.Lists.{lent_of}
use Rattle.laws.proofs.Tests.{true≢false}
use lib.Seq.{length-take-le}
use lib.ListN.{get_or}
use Prim.Native.Nat.{◌/◌}
use mathlib.Core.Path.{sym, ◌∙◌}
use native.Mathlib.Omega.{arith}
use Rattle.heap_sound.proofs.outline.Goals as goal

pub returns-then-heap-lt8 : goal.returns-then-heap-lt8
returns-then-heap-lt8 c = no_outline (lent_of c.args.heap) (λ o. let n = numbers_told _ (lent_of c.args.heap) o.numbers in omega (arith, n.words, n.least))

pub returns-then-not-numbers : goal.returns-then-not-numbers
returns-then-not-numbers c = no_outline (lent_of c.args.heap) (λ o. true≢false (sym o.numbers ∙ sym c.numbers.ensures ∙ c.if-not-numbers.true))

pub returns-then-not-counts : goal.returns-then-not-counts
returns-then-not-counts c = no_outline (lent_of c.args.heap) (λ o. true≢false (sym o.counts ∙ sym c.counts.ensures ∙ c.if-not-counts.true))

pub reaches-requires : goal.reaches-requires
reaches-requires c = let n = numbers_told _ (lent_of c.args.heap) (sym c.numbers.ensures ∙ c.if-not-numbers.false) in let k = counts_told (lent_of c.args.heap) (sym c.counts.ensures ∙ c.if-not-counts.false) in record { chunk_nonzero = omega (arith, n.chunk_least); chunk_bound = omega (arith, n.chunk_most); goal_bound = omega (arith, n.most, k.capacity) }

pub returns-then-not-reaches : goal.returns-then-not-reaches
returns-then-not-reaches c = no_outline (lent_of c.args.heap) (λ o. true≢false (sym o.growth ∙ sym (growth_is (lent_of c.args.heap)) ∙ sym c.reaches.ensures ∙ c.if-not-reaches.true))

pub written-requires : goal.written-requires
written-requires c = record { elems_value = (sym c.numbers.ensures ∙ c.if-not-numbers.false); elems_value_2 = (sym c.counts.ensures ∙ c.if-not-counts.false) }

pub returns-then-not-written : goal.returns-then-not-written
returns-then-not-written c = no_outline (lent_of c.args.heap) (λ o. true≢false (sym o.spare ∙ sym c.written.ensures ∙ c.if-not-written.true))

pub slice_bounds-settled-end : goal.slice_bounds-settled-end
slice_bounds-settled-end c = let n = numbers_told _ (lent_of c.args.heap) (sym c.numbers.ensures ∙ c.if-not-numbers.false) in let k = counts_told (lent_of c.args.heap) (sym c.counts.ensures ∙ c.if-not-counts.false) in sym (length-take-le (get_or c.args.heap.words.now 1 0 / 4) c.args.heap.map.now (omega (arith, n.map, k.capacity)))

pub returns-then-not-settled : goal.returns-then-not-settled
returns-then-not-settled c = outline_unsettled (lent_of c.args.heap) (sym c.numbers.ensures ∙ c.if-not-numbers.false) (sym c.counts.ensures ∙ c.if-not-counts.false) (sym c.reaches.ensures ∙ c.if-not-reaches.false) (sym c.settled.ensures ∙ c.if-not-settled.true)

pub free_sound-requires : goal.free_sound-requires
free_sound-requires c = let o = ground (lent_of c.args.heap) (sym c.numbers.ensures ∙ c.if-not-numbers.false) (sym c.counts.ensures ∙ c.if-not-counts.false) (sym c.reaches.ensures ∙ c.if-not-reaches.false) in let n = numbers_told _ (lent_of c.args.heap) (sym c.numbers.ensures ∙ c.if-not-numbers.false) in let k = counts_told (lent_of c.args.heap) (sym c.counts.ensures ∙ c.if-not-counts.false) in record { in_bounds = (omega (arith, n.words), omega (arith, n.words, k.capacity)); words_bound = k.free; words_value = (o.fours, omega (arith, n.map, k.capacity)); words_bound_2 = omega (arith, n.most, k.capacity) }

pub returns : goal.returns
returns c = outline_decided (lent_of c.args.heap) (sym c.numbers.ensures ∙ c.if-not-numbers.false) (sym c.counts.ensures ∙ c.if-not-counts.false) (sym c.reaches.ensures ∙ c.if-not-reaches.false) (sym c.written.ensures ∙ c.if-not-written.false) (sym c.settled.ensures ∙ c.if-not-settled.false) _ c.free_sound.ensures
