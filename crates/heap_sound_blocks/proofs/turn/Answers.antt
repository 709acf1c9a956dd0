-- `heap_sound_blocks::turn`: out of the room, empty, clear, or where another block begins. Assumes nothing.
use Rattle.heap_sound_blocks.proofs.PaintLaws.{lies_bound, read_out, read_empty, read_clear, read_by}
use Rattle.heap_sound_blocks.specs.Blocks.{shown}
use mathlib.Core.Path.{refl, sym, ◌∙◌}
use native.Mathlib.Omega.{arith}
use borrow.Author.Rules.{rules}
use Rattle.heap_sound_blocks.proofs.turn.Goals as goal

pub returns-then-not-lies_in : goal.returns-then-not-lies_in
returns-then-not-lies_in c = read_out (shown c.args.words.now c.args.kinds.low c.args.kinds.high) c.args.used c.args.slot c.shown-b.result.place c.shown-b.result.size c.shown-b.ensures _ (sym c.lies_in.ensures ∙ c.if-not-lies_in.true)

pub returns-then-b-eq0 : goal.returns-then-b-eq0
returns-then-b-eq0 c = read_empty (shown c.args.words.now c.args.kinds.low c.args.kinds.high) c.args.used c.args.slot c.shown-b.result.place c.shown-b.result.size c.shown-b.ensures c.args.paint.now c.requires.painted (sym c.lies_in.ensures ∙ c.if-not-lies_in.false) c.if-b-eq0.true

pub offset_bounds-paint-place : goal.offset_bounds-paint-place
offset_bounds-paint-place c = let b = lies_bound c.args.used c.shown-b.result.place c.shown-b.result.size (sym c.lies_in.ensures ∙ c.if-not-lies_in.false) in search rules

pub bounds-paint-place : goal.bounds-paint-place
bounds-paint-place c = let b = lies_bound c.args.used c.shown-b.result.place c.shown-b.result.size (sym c.lies_in.ensures ∙ c.if-not-lies_in.false) in omega arith

pub overflow_cast-by : goal.overflow_cast-by
overflow_cast-by c = record { fits = omega (arith, c.type_inv.paint c.shown-b.result.place) }

pub cover-requires : goal.cover-requires
cover-requires c = let b = lies_bound c.args.used c.shown-b.result.place c.shown-b.result.size (sym c.lies_in.ensures ∙ c.if-not-lies_in.false) in omega arith

pub returns-in-0 : goal.returns-in-0
returns-in-0 c = read_clear (shown c.args.words.now c.args.kinds.low c.args.kinds.high) c.args.used c.args.slot c.shown-b.result.place c.shown-b.result.size c.shown-b.ensures c.args.paint.now c.requires.painted (sym c.lies_in.ensures ∙ c.if-not-lies_in.false) _ _ c.if-b-eq0.false c.in-0.is c.cover.ensures

pub shown-requires : goal.shown-requires
shown-requires c = let o = c.requires.painted.owned c.shown-b.result.place (omega arith) in omega (arith, o.below)

pub returns-in_default : goal.returns-in_default
returns-in_default c = read_by (shown c.args.words.now c.args.kinds.low c.args.kinds.high) c.args.used c.args.slot c.shown-b.result.place c.shown-b.result.size c.shown-b.ensures c.args.paint.now c.requires.painted (sym c.lies_in.ensures ∙ c.if-not-lies_in.false) _ c.shown.result.place c.shown.result.size refl (λ z. omega (arith, z)) c.shown.ensures c.if-b-eq0.false _ c.eq.ensures
