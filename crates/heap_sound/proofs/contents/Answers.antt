-- `heap_sound::contents`: clause by clause. Assumes nothing.
use Rattle.heap_sound.proofs.WholeLaws.{grounded, bytes_are, plain_bad, values_bad, texts_bad, vectors_bad, contents_decided}
use Rattle.heap_sound_rows.proofs.NumberLaws.{numbers_told, counts_told}
use Rattle.leaf_lists.specs.Lists.{lent_of}
use lib.Seq.{length-take-le}
use lib.ListN.{get_or, take}
use borrow.Author.Rules.{rules}
use mathlib.Core.Path.{sym, ◌∙◌}
use native.Mathlib.Omega.{arith}
use Rattle.heap_sound.proofs.contents.Goals as goal

pub bounds-heap-1 : goal.bounds-heap-1
bounds-heap-1 c = let n = numbers_told (get_or c.args.heap.words.now 0 0) (lent_of c.args.heap) c.requires.numbers in let k = counts_told (lent_of c.args.heap) c.requires.counts in search rules

pub bounds-heap-4 : goal.bounds-heap-4
bounds-heap-4 c = let n = numbers_told (get_or c.args.heap.words.now 0 0) (lent_of c.args.heap) c.requires.numbers in let k = counts_told (lent_of c.args.heap) c.requires.counts in search rules

pub bounds-heap-5 : goal.bounds-heap-5
bounds-heap-5 c = let n = numbers_told (get_or c.args.heap.words.now 0 0) (lent_of c.args.heap) c.requires.numbers in let k = counts_told (lent_of c.args.heap) c.requires.counts in search rules

pub plain_cells-requires : goal.plain_cells-requires
plain_cells-requires c = let n = numbers_told (get_or c.args.heap.words.now 0 0) (lent_of c.args.heap) c.requires.numbers in let k = counts_told (lent_of c.args.heap) c.requires.counts in omega (arith, n.words, k.capacity)

pub returns-then-not-plain_cells : goal.returns-then-not-plain_cells
returns-then-not-plain_cells c = plain_bad (lent_of c.args.heap) (grounded (lent_of c.args.heap) c.requires) (sym c.plain_cells.ensures ∙ c.if-not-plain_cells.true)

pub values_allowed-requires : goal.values_allowed-requires
values_allowed-requires c = let n = numbers_told (get_or c.args.heap.words.now 0 0) (lent_of c.args.heap) c.requires.numbers in let k = counts_told (lent_of c.args.heap) c.requires.counts in omega (arith, k.elements)

pub returns-then-not-values_allowed : goal.returns-then-not-values_allowed
returns-then-not-values_allowed c = values_bad (lent_of c.args.heap) (grounded (lent_of c.args.heap) c.requires) (sym c.values_allowed.ensures ∙ c.if-not-values_allowed.true)

pub slice_bounds-texts_sound-end : goal.slice_bounds-texts_sound-end
slice_bounds-texts_sound-end c = let n = numbers_told (get_or c.args.heap.words.now 0 0) (lent_of c.args.heap) c.requires.numbers in let k = counts_told (lent_of c.args.heap) c.requires.counts in sym (length-take-le (get_or c.args.heap.words.now 4 0) c.args.heap.bytes.now k.bytes)

pub texts_sound-requires : goal.texts_sound-requires
texts_sound-requires c = let n = numbers_told (get_or c.args.heap.words.now 0 0) (lent_of c.args.heap) c.requires.numbers in let k = counts_told (lent_of c.args.heap) c.requires.counts in record { capacity_in_bounds = omega (arith, n.words, k.capacity); capacity_bound = omega (arith, n.most, k.capacity); bytes_len_bound = omega (arith, length-take-le (get_or c.args.heap.words.now 4 0) c.args.heap.bytes.now k.bytes, k.bytes, n.bytes) }

pub returns-then-not-texts_sound : goal.returns-then-not-texts_sound
returns-then-not-texts_sound c = texts_bad (lent_of c.args.heap) (grounded (lent_of c.args.heap) c.requires) (take (get_or c.args.heap.words.now 4 0) c.args.heap.bytes.now) (bytes_are (lent_of c.args.heap) (grounded (lent_of c.args.heap) c.requires)) c.texts_sound.ensures (c.if-not-texts_sound.true)

pub vectors_sound-requires : goal.vectors_sound-requires
vectors_sound-requires c = let n = numbers_told (get_or c.args.heap.words.now 0 0) (lent_of c.args.heap) c.requires.numbers in let k = counts_told (lent_of c.args.heap) c.requires.counts in record { capacity_in_bounds = omega (arith, n.words, k.capacity); capacity_bound = omega (arith, n.most, k.capacity); used_in_bounds = omega (arith, k.elements); used_bound = omega (arith, n.elements, k.elements) }

pub returns-then-not-vectors_sound : goal.returns-then-not-vectors_sound
returns-then-not-vectors_sound c = vectors_bad (lent_of c.args.heap) (grounded (lent_of c.args.heap) c.requires) c.vectors_sound.ensures (c.if-not-vectors_sound.true)

pub slice_bounds-table_sound-end : goal.slice_bounds-table_sound-end
slice_bounds-table_sound-end c = let n = numbers_told (get_or c.args.heap.words.now 0 0) (lent_of c.args.heap) c.requires.numbers in let k = counts_told (lent_of c.args.heap) c.requires.counts in sym (length-take-le (get_or c.args.heap.words.now 4 0) c.args.heap.bytes.now k.bytes)

pub bounds-heap-3 : goal.bounds-heap-3
bounds-heap-3 c = let n = numbers_told (get_or c.args.heap.words.now 0 0) (lent_of c.args.heap) c.requires.numbers in let k = counts_told (lent_of c.args.heap) c.requires.counts in search rules

pub table_sound-requires : goal.table_sound-requires
table_sound-requires c = let n = numbers_told (get_or c.args.heap.words.now 0 0) (lent_of c.args.heap) c.requires.numbers in let k = counts_told (lent_of c.args.heap) c.requires.counts in record { capacity_in_bounds = (omega (arith, n.words, k.capacity), k.table, omega (arith, n.most, k.capacity)); apart = c.texts_sound.ensures.sound (c.if-not-texts_sound.false) }

pub returns : goal.returns
returns c = contents_decided (lent_of c.args.heap) (grounded (lent_of c.args.heap) c.requires) (take (get_or c.args.heap.words.now 4 0) c.args.heap.bytes.now) (bytes_are (lent_of c.args.heap) (grounded (lent_of c.args.heap) c.requires)) (sym c.plain_cells.ensures ∙ c.if-not-plain_cells.false) (sym c.values_allowed.ensures ∙ c.if-not-values_allowed.false) c.texts_sound.ensures (c.if-not-texts_sound.false) c.vectors_sound.ensures (c.if-not-vectors_sound.false) _ c.table_sound.ensures
