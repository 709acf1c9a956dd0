-- `heap_sound_cells::text_utf8`: empty, painted by another slot, or looked at. Assumes nothing.
use Rattle.heap_sound_cells.proofs.FirstLaws.{read_bound, text_is, first_empty, first_other, first_here}
use Rattle.heap_sound_cells.specs.Looked.{text_good}
use Rattle.heap_sound_blocks.specs.Blocks.{shown}
use Rattle.rules.specs.Cells.{block}
use Rattle.rules.specs.Utf8.{utf8}
use lib.ListN.{length}
use mathlib.Core.Path.{ap, ◌∙◌}
use native.Mathlib.Omega.{arith}
use borrow.Author.Rules.{rules}
use Rattle.heap_sound_cells.proofs.text_utf8.Goals as goal

-- src/lib.rt:127:9
pub returns-then-b-eq0 : goal.returns-then-b-eq0
returns-then-b-eq0 c = first_empty (text_good c.args.bytes.now) (shown c.args.words.now 7 8 c.args.slot) c.args.paint.now c.args.slot c.shown-b.result.place c.shown-b.result.size c.shown-b.ensures c.if-b-eq0.true

-- src/lib.rt:131:8
pub offset_bounds-paint-place : goal.offset_bounds-paint-place
offset_bounds-paint-place c = let q = read_bound (shown c.args.words.now 7 8 c.args.slot) c.shown-b.result.place c.shown-b.result.size (length c.args.bytes.now) c.shown-b.ensures c.requires.slot_in_bounds_2 in search rules

-- src/lib.rt:131:8
pub bounds-paint-place : goal.bounds-paint-place
bounds-paint-place c = let q = read_bound (shown c.args.words.now 7 8 c.args.slot) c.shown-b.result.place c.shown-b.result.size (length c.args.bytes.now) c.shown-b.ensures c.requires.slot_in_bounds_2 in search rules

-- src/lib.rt:131:8
pub overflow_cast-paint : goal.overflow_cast-paint
overflow_cast-paint c = record { fits = omega (arith, c.type_inv.paint c.shown-b.result.place) }

-- src/lib.rt:132:9
pub returns-then-paint-place : goal.returns-then-paint-place
returns-then-paint-place c = first_other (text_good c.args.bytes.now) (shown c.args.words.now 7 8 c.args.slot) c.args.paint.now c.args.slot c.shown-b.result.place c.shown-b.result.size c.shown-b.ensures c.if-paint-place.true

-- src/lib.rt:134:24
pub text-requires : goal.text-requires
text-requires c = let q = read_bound (shown c.args.words.now 7 8 c.args.slot) c.shown-b.result.place c.shown-b.result.size (length c.args.bytes.now) c.shown-b.ensures c.requires.slot_in_bounds_2 in omega arith

-- src/lib.rt:119:1
pub returns : goal.returns
returns c = c.is_utf8.ensures ∙ ap utf8 c.text.ensures ∙ text_is c.args.bytes.now (block c.shown-b.result.place c.shown-b.result.size) ∙ first_here (text_good c.args.bytes.now) (shown c.args.words.now 7 8 c.args.slot) c.args.paint.now c.args.slot c.shown-b.result.place c.shown-b.result.size c.shown-b.ensures c.if-b-eq0.false c.if-paint-place.false
