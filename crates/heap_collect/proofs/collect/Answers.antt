-- `heap_collect::collect`: mark and sweep, pack, clear. Assumes nothing.
use mathlib.Core.Path.{refl, ◌∙◌}
use Rattle.heap_sound_rows.specs.Rows.{lists}
use Rattle.heap_collect.proofs.CollectLaws.{can_marks, can_sweep, pack_given, collects, clears}
use Rattle.heap_collect.proofs.collect.Goals as goal

pub mark_and_sweep-requires-clause-marks : goal.mark_and_sweep-requires-clause-marks
mark_and_sweep-requires-clause-marks c = can_marks c.args.heap.now.words.now c.args.heap.now.map.now c.args.heap.now.bytes.now c.args.heap.now.elems.now c.args.scratch.now c.args.roots.now c.requires

pub mark_and_sweep-requires-clause-sweeps : goal.mark_and_sweep-requires-clause-sweeps
mark_and_sweep-requires-clause-sweeps c = λ small. can_sweep c.args.heap.now.words.now c.args.heap.now.map.now c.args.heap.now.bytes.now c.args.heap.now.elems.now c.args.scratch.now c.args.roots.now c.requires small _ refl

pub pack-requires : goal.pack-requires
pack-requires c = (_, _, _, (pack_given c.args.heap.now.words.now c.args.heap.now.map.now c.args.heap.now.bytes.now c.args.heap.now.elems.now c.args.scratch.now c.args.roots.now c.requires c.mark_and_sweep.ensures.bytes _ _ _ _ refl c.mark_and_sweep.ensures.swept c.mark_and_sweep.ensures.elems_stay))

pub returns-clause-elems_after : goal.returns-clause-elems_after
returns-clause-elems_after c = (λ i. lists c.pack.new.heap.words.now (c.pack.ensures.map_stays i) c.pack.new.heap.bytes.now c.pack.new.heap.elems.now) ∙ collects c.args.heap.now.words.now c.args.heap.now.map.now c.args.heap.now.bytes.now c.args.heap.now.elems.now c.args.scratch.now c.args.roots.now c.requires c.mark_and_sweep.ensures.bytes _ _ _ _ _ _ refl c.mark_and_sweep.ensures.swept (c.pack.ensures.packed _ _ _ (pack_given c.args.heap.now.words.now c.args.heap.now.map.now c.args.heap.now.bytes.now c.args.heap.now.elems.now c.args.scratch.now c.args.roots.now c.requires c.mark_and_sweep.ensures.bytes _ _ _ _ refl c.mark_and_sweep.ensures.swept c.mark_and_sweep.ensures.elems_stay))

pub returns-clause-scratch_after : goal.returns-clause-scratch_after
returns-clause-scratch_after c = clears c.args.scratch.now c.mark_and_sweep.new.scratch _ c.mark_and_sweep.auto.scratch c.clear_words.ensures
