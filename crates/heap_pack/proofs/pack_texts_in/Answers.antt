-- `heap_pack::pack_texts_in`: the arena aside, the turns, the rest cleared. Assumes nothing.
use mathlib.Core.Path.{sym, ap}
use lib.ListN.{length}
use native.Mathlib.Omega.{arith}
use lib.Seq.{length-take-le}
use Rattle.heap_pack.proofs.TextEnds.{header_there, used_is, bytes_long, in_use_is, begins, end_small, bytes_end, packs}
use Rattle.heap_pack.proofs.pack_texts_in.Goals as goal

pub bounds-words-4 : goal.bounds-words-4
bounds-words-4 c = omega (arith, header_there c.requires.0 c.requires.1 c.requires.2 c.args.words.now c.args.bytes.now c.args.old.now c.args.table.now c.requires.3)

pub slice_bounds-write-end : goal.slice_bounds-write-end
slice_bounds-write-end c = (omega (arith, used_is c.requires.0 c.requires.1 c.requires.2 c.args.words.now c.args.bytes.now c.args.old.now c.args.table.now c.requires.3, bytes_long c.requires.0 c.requires.1 c.requires.2 c.args.words.now c.args.bytes.now c.args.old.now c.args.table.now c.requires.3, c.requires.3.within))

pub slice_bounds-write-end-2 : goal.slice_bounds-write-end-2
slice_bounds-write-end-2 c = sym (length-take-le _ c.args.bytes.now (omega (arith, used_is c.requires.0 c.requires.1 c.requires.2 c.args.words.now c.args.bytes.now c.args.old.now c.args.table.now c.requires.3, bytes_long c.requires.0 c.requires.1 c.requires.2 c.args.words.now c.args.bytes.now c.args.old.now c.args.table.now c.requires.3, c.requires.3.within)))

pub write-requires : goal.write-requires
write-requires c = omega (arith, ap length (in_use_is c.requires.0 c.requires.1 c.requires.2 c.args.words.now c.args.bytes.now c.args.old.now c.args.table.now c.requires.3), c.requires.3.within, c.requires.3.most, c.requires.3.old_long)

pub text_turns-end-requires : goal.text_turns-end-requires
text_turns-end-requires c = (_, _, _, begins c.requires.0 c.requires.1 c.requires.2 c.args.words.now c.args.bytes.now c.args.old.now c.args.table.now c.requires.3 _ c.write.ensures)

pub slice_bounds-clear_bytes-count : goal.slice_bounds-clear_bytes-count
slice_bounds-clear_bytes-count c = end_small c.requires.0 c.requires.1 c.requires.2 c.args.words.now c.args.bytes.now c.args.old.now c.args.table.now c.requires.3 _ _ c.text_turns-end.result (c.text_turns-end.ensures _ _ _ (begins c.requires.0 c.requires.1 c.requires.2 c.args.words.now c.args.bytes.now c.args.old.now c.args.table.now c.requires.3 _ c.write.ensures))

pub slice_bounds-clear_bytes-start : goal.slice_bounds-clear_bytes-start
slice_bounds-clear_bytes-start c = end_small c.requires.0 c.requires.1 c.requires.2 c.args.words.now c.args.bytes.now c.args.old.now c.args.table.now c.requires.3 _ _ c.text_turns-end.result (c.text_turns-end.ensures _ _ _ (begins c.requires.0 c.requires.1 c.requires.2 c.args.words.now c.args.bytes.now c.args.old.now c.args.table.now c.requires.3 _ c.write.ensures))

pub slice_bounds-clear_bytes-end : goal.slice_bounds-clear_bytes-end
slice_bounds-clear_bytes-end c = bytes_end c.requires.0 c.requires.1 c.requires.2 c.args.words.now c.args.bytes.now c.args.old.now c.args.table.now c.requires.3 _ _ c.text_turns-end.result (c.text_turns-end.ensures _ _ _ (begins c.requires.0 c.requires.1 c.requires.2 c.args.words.now c.args.bytes.now c.args.old.now c.args.table.now c.requires.3 _ c.write.ensures))

pub bounds-words-4-2 : goal.bounds-words-4-2
bounds-words-4-2 c = omega (arith, header_there c.requires.0 c.requires.1 c.requires.2 c.args.words.now c.args.bytes.now c.args.old.now c.args.table.now c.requires.3, c.text_turns-end.auto.words)

pub returns : goal.returns
returns c = λ n h room l. packs n h room c.args.words.now c.args.bytes.now c.args.old.now c.args.table.now l _ _ c.text_turns-end.result (c.text_turns-end.ensures n h room (begins n h room c.args.words.now c.args.bytes.now c.args.old.now c.args.table.now l _ c.write.ensures)) _ c.clear_bytes.ensures
