-- `heap_sound_cells::vector_named`: empty, painted by another slot, or looked at. Assumes nothing.
use Rattle.heap_sound_cells.proofs.FirstLaws.{read_bound, read_words, vector_is, first_empty, first_other, first_here}
use Rattle.heap_sound_cells.specs.Looked.{vector_good}
use Rattle.heap_sound_blocks.specs.Blocks.{shown}
use Rattle.rules.specs.Cells.{block}
use lib.ListN.{length}
use mathlib.Core.Path.{◌∙◌}
use native.Mathlib.Omega.{arith}
use borrow.Author.Rules.{rules}
use Rattle.heap_sound_cells.proofs.vector_named.Goals as goal

-- src/lib.rt:187:9
pub returns-then-b-eq0 : goal.returns-then-b-eq0
returns-then-b-eq0 c = first_empty (vector_good c.args.elems.now c.args.map.now c.args.capacity) (shown c.args.words.now 10 10 c.args.slot) c.args.paint.now c.args.slot c.shown-b.result.place c.shown-b.result.size c.shown-b.ensures c.if-b-eq0.true

-- src/lib.rt:191:8
pub offset_bounds-paint-place : goal.offset_bounds-paint-place
offset_bounds-paint-place c = let q = read_bound (shown c.args.words.now 10 10 c.args.slot) c.shown-b.result.place c.shown-b.result.size (length c.args.paint.now) c.shown-b.ensures c.requires.slot_in_bounds_3 in search rules

-- src/lib.rt:191:8
pub bounds-paint-place : goal.bounds-paint-place
bounds-paint-place c = let q = read_bound (shown c.args.words.now 10 10 c.args.slot) c.shown-b.result.place c.shown-b.result.size (length c.args.paint.now) c.shown-b.ensures c.requires.slot_in_bounds_3 in search rules

-- src/lib.rt:191:8
pub overflow_cast-paint : goal.overflow_cast-paint
overflow_cast-paint c = record { fits = omega (arith, c.type_inv.paint c.shown-b.result.place) }

-- src/lib.rt:192:9
pub returns-then-paint-place : goal.returns-then-paint-place
returns-then-paint-place c = first_other (vector_good c.args.elems.now c.args.map.now c.args.capacity) (shown c.args.words.now 10 10 c.args.slot) c.args.paint.now c.args.slot c.shown-b.result.place c.shown-b.result.size c.shown-b.ensures c.if-paint-place.true

-- src/lib.rt:194:5
pub block_named-requires : goal.block_named-requires
block_named-requires c = let q = read_words (shown c.args.words.now 10 10 c.args.slot) c.shown-b.result.place c.shown-b.result.size (length c.args.elems.now) c.shown-b.ensures c.requires.slot_in_bounds_2 in omega arith

-- src/lib.rt:179:1
pub returns : goal.returns
returns c = c.block_named.ensures ∙ vector_is c.args.elems.now c.args.map.now c.args.capacity (block c.shown-b.result.place c.shown-b.result.size) ∙ first_here (vector_good c.args.elems.now c.args.map.now c.args.capacity) (shown c.args.words.now 10 10 c.args.slot) c.args.paint.now c.args.slot c.shown-b.result.place c.shown-b.result.size c.shown-b.ensures c.if-b-eq0.false c.if-paint-place.false
