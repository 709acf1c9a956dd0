-- `heap_pack::pack_elements_in`: the arena aside, the turns, the rest cleared. Assumes nothing.
use mathlib.Core.Path.{sym, ap}
use lib.ListN.{length}
use native.Mathlib.Omega.{arith}
use lib.Seq.{length-take-le}
use Rattle.heap_pack.proofs.ElementEnds.{header_there, count_is, used_is, elems_long, in_use_is, begins, end_small, elems_end, packs}
use Rattle.heap_pack.proofs.pack_elements_in.Goals as goal

pub bounds-words-5 : goal.bounds-words-5
bounds-words-5 c = omega (arith, header_there c.requires.0 c.requires.1 c.requires.2 c.args.words.now c.args.elems.now c.args.old.now c.args.table.now c.requires.3)

pub overflow_mul-used : goal.overflow_mul-used
overflow_mul-used c = omega (arith, count_is c.requires.0 c.requires.1 c.requires.2 c.args.words.now c.args.elems.now c.args.old.now c.args.table.now c.requires.3, c.requires.3.within, c.requires.3.most)

pub slice_bounds-write-end : goal.slice_bounds-write-end
slice_bounds-write-end c = (omega (arith, count_is c.requires.0 c.requires.1 c.requires.2 c.args.words.now c.args.elems.now c.args.old.now c.args.table.now c.requires.3, elems_long c.requires.0 c.requires.1 c.requires.2 c.args.words.now c.args.elems.now c.args.old.now c.args.table.now c.requires.3, c.requires.3.within))

pub slice_bounds-write-end-2 : goal.slice_bounds-write-end-2
slice_bounds-write-end-2 c = sym (length-take-le _ c.args.elems.now (omega (arith, count_is c.requires.0 c.requires.1 c.requires.2 c.args.words.now c.args.elems.now c.args.old.now c.args.table.now c.requires.3, elems_long c.requires.0 c.requires.1 c.requires.2 c.args.words.now c.args.elems.now c.args.old.now c.args.table.now c.requires.3, c.requires.3.within)))

pub write-requires : goal.write-requires
write-requires c = omega (arith, ap length (in_use_is c.requires.0 c.requires.1 c.requires.2 c.args.words.now c.args.elems.now c.args.old.now c.args.table.now c.requires.3), used_is c.requires.0 c.requires.1 c.requires.2 c.args.words.now c.args.elems.now c.args.old.now c.args.table.now c.requires.3, count_is c.requires.0 c.requires.1 c.requires.2 c.args.words.now c.args.elems.now c.args.old.now c.args.table.now c.requires.3, c.requires.3.within, c.requires.3.most, c.requires.3.old_long)

pub element_turns-end-requires : goal.element_turns-end-requires
element_turns-end-requires c = (_, _, _, begins c.requires.0 c.requires.1 c.requires.2 c.args.words.now c.args.elems.now c.args.old.now c.args.table.now c.requires.3 _ c.write.ensures)

pub overflow_mul-from : goal.overflow_mul-from
overflow_mul-from c = omega (arith, end_small c.requires.0 c.requires.1 c.requires.2 c.args.words.now c.args.elems.now c.args.old.now c.args.table.now c.requires.3 _ _ c.element_turns-end.result (c.element_turns-end.ensures _ _ _ (begins c.requires.0 c.requires.1 c.requires.2 c.args.words.now c.args.elems.now c.args.old.now c.args.table.now c.requires.3 _ c.write.ensures)), count_is c.requires.0 c.requires.1 c.requires.2 c.args.words.now c.args.elems.now c.args.old.now c.args.table.now c.requires.3, c.requires.3.within, c.requires.3.most)

pub offset_bounds-elems-from : goal.offset_bounds-elems-from
offset_bounds-elems-from c = omega (arith, end_small c.requires.0 c.requires.1 c.requires.2 c.args.words.now c.args.elems.now c.args.old.now c.args.table.now c.requires.3 _ _ c.element_turns-end.result (c.element_turns-end.ensures _ _ _ (begins c.requires.0 c.requires.1 c.requires.2 c.args.words.now c.args.elems.now c.args.old.now c.args.table.now c.requires.3 _ c.write.ensures)), count_is c.requires.0 c.requires.1 c.requires.2 c.args.words.now c.args.elems.now c.args.old.now c.args.table.now c.requires.3, c.requires.3.within, c.requires.3.most)

pub slice_bounds-clear_words-count : goal.slice_bounds-clear_words-count
slice_bounds-clear_words-count c = end_small c.requires.0 c.requires.1 c.requires.2 c.args.words.now c.args.elems.now c.args.old.now c.args.table.now c.requires.3 _ _ c.element_turns-end.result (c.element_turns-end.ensures _ _ _ (begins c.requires.0 c.requires.1 c.requires.2 c.args.words.now c.args.elems.now c.args.old.now c.args.table.now c.requires.3 _ c.write.ensures))

pub slice_bounds-clear_words-start : goal.slice_bounds-clear_words-start
slice_bounds-clear_words-start c = end_small c.requires.0 c.requires.1 c.requires.2 c.args.words.now c.args.elems.now c.args.old.now c.args.table.now c.requires.3 _ _ c.element_turns-end.result (c.element_turns-end.ensures _ _ _ (begins c.requires.0 c.requires.1 c.requires.2 c.args.words.now c.args.elems.now c.args.old.now c.args.table.now c.requires.3 _ c.write.ensures))

pub slice_bounds-clear_words-end : goal.slice_bounds-clear_words-end
slice_bounds-clear_words-end c = elems_end c.requires.0 c.requires.1 c.requires.2 c.args.words.now c.args.elems.now c.args.old.now c.args.table.now c.requires.3 _ _ c.element_turns-end.result (c.element_turns-end.ensures _ _ _ (begins c.requires.0 c.requires.1 c.requires.2 c.args.words.now c.args.elems.now c.args.old.now c.args.table.now c.requires.3 _ c.write.ensures))

pub bounds-words-5-2 : goal.bounds-words-5-2
bounds-words-5-2 c = omega (arith, header_there c.requires.0 c.requires.1 c.requires.2 c.args.words.now c.args.elems.now c.args.old.now c.args.table.now c.requires.3, c.element_turns-end.auto.words)

pub returns : goal.returns
returns c = λ n h room l. packs n h room c.args.words.now c.args.elems.now c.args.old.now c.args.table.now l _ _ c.element_turns-end.result (c.element_turns-end.ensures n h room (begins n h room c.args.words.now c.args.elems.now c.args.old.now c.args.table.now l _ c.write.ensures)) _ c.clear_words.ensures
