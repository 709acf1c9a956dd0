-- `heap_sound_blocks::lay`: the blocks of the slots passed are painted, and so apart. Assumes nothing.
use Rattle.heap_sound_blocks.proofs.PaintLaws.{painted_none, lies_more, painted_apart}
use Rattle.heap_sound_blocks.specs.Blocks.{shown, Painted}
use Rattle.laws.proofs.Tests.{true≢false}
use Prim.Native.Nat.{ℕ}
use mathlib.Core.Path.{◌≡◌, sym, subst}
use native.Mathlib.Omega.{arith}
use Rattle.heap_sound_blocks.proofs.lay.Goals as goal

pub loop-slot-init : goal.loop-slot-init
loop-slot-init c = ((λ j h. absurd (omega arith)), painted_none (shown c.args.words.now c.args.kinds.low c.args.kinds.high) c.args.used c.args.paint.now c.requires.by_index)

pub turn-requires : goal.turn-requires
turn-requires c = record { slot_in_bounds = omega arith; slot_bound = omega arith; used_in_bounds = omega arith; painted = c.loop-slot.invariant.1 }

pub returns-then-not-turn : goal.returns-then-not-turn
returns-then-not-turn c = record { sound = λ e. absurd (true≢false (sym e)); painted = λ e. absurd (true≢false (sym e)); bad = λ _. c.turn.ensures.bad (c.if-not-turn.true) c.args.capacity (omega arith) }

pub loop-slot-preserved : goal.loop-slot-preserved
loop-slot-preserved c = (lies_more (shown c.args.words.now c.args.kinds.low c.args.kinds.high) c.args.used c.loop-slot.slot c.loop-slot.invariant.0 (c.turn.ensures.lies (c.if-not-turn.false)), c.turn.ensures.painted (c.if-not-turn.false))

pub returns : goal.returns
returns c = let e : c.loop-slot.slot ≡ c.args.capacity = omega arith in let p = subst (λ (n : ℕ). Painted (shown c.args.words.now c.args.kinds.low c.args.kinds.high) n c.loop-slot.paint) e c.loop-slot.invariant.1 in record { sound = λ _. painted_apart (shown c.args.words.now c.args.kinds.low c.args.kinds.high) c.args.used c.args.capacity c.loop-slot.paint p (λ j h. c.loop-slot.invariant.0 j (omega arith)); painted = λ _. p; bad = λ f. absurd (true≢false f) }
