-- `heap_sound_free::mark_column`: the marks are the numbers met, each once. Assumes nothing.
use Rattle.heap_sound_free.proofs.TallyLaws.{marked_none, new_past, new_met, new_here, marked_more, column_stops, column_on, column_ends}
use Rattle.heap_sound_free.specs.Marks.{tally, new_at, column_of}
use Rattle.laws.proofs.Tests.{true≢false}
use Prim.Native.Nat.{ℕ}
use mathlib.Core.Path.{◌≡◌, sym, ap, ◌∙◌}
use mathlib.Core.Bool.{false}
use native.Mathlib.Omega.{arith}
use Rattle.heap_sound_free.proofs.mark_column.Goals.{then-slot-capacity-via-then-slot-capacity, then-slot-capacity-via-else-slot-capacity+then-marks-slot-ne0}
use Rattle.heap_sound_free.proofs.mark_column.Goals as goal

pub loop-i-init : goal.loop-i-init
loop-i-init c = ((λ j h. absurd (omega arith)), marked_none (column_of c.args.words.now c.args.column) c.args.marks.now c.requires.by_index)

pub returns-then-slot-capacity : goal.returns-then-slot-capacity
returns-then-slot-capacity c =
    let f = column_of c.args.words.now c.args.column in
    let bad : new_at f c.args.capacity c.loop-i.i ≡ false = elim c.then-slot-capacity.branch [
      | then-slot-capacity-via-then-slot-capacity w ↦ new_past f c.args.capacity c.loop-i.i w.if-slot-capacity.true
      | then-slot-capacity-via-else-slot-capacity+then-marks-slot-ne0 w ↦ new_met f c.args.capacity c.loop-i.i c.loop-i.marks c.loop-i.invariant.1 w.if-marks-slot-ne0.true
    ] in
    record { once = column_stops f c.args.n c.args.capacity c.loop-i.i (omega arith) bad; marked = λ p. absurd (true≢false (sym p)) }

pub loop-i-preserved : goal.loop-i-preserved
loop-i-preserved c = (column_on (column_of c.args.words.now c.args.column) c.args.n c.args.capacity c.loop-i.i (omega arith) c.loop-i.invariant.0 (new_here (column_of c.args.words.now c.args.column) c.args.capacity c.loop-i.i c.loop-i.marks c.loop-i.invariant.1 c.if-slot-capacity.false c.if-marks-slot-ne0.false), marked_more (column_of c.args.words.now c.args.column) c.args.capacity c.loop-i.i c.loop-i.marks c.loop-i.invariant.1 (omega arith) c.if-marks-slot-ne0.false)

pub returns : goal.returns
returns c = record { once = column_ends (column_of c.args.words.now c.args.column) c.args.n c.args.capacity c.loop-i.i (omega arith) c.loop-i.invariant.0; marked = λ p s. let q : c.loop-i.i ≡ c.args.n = omega arith in c.loop-i.invariant.1 s ∙ ap (λ (k : ℕ). tally (column_of c.args.words.now c.args.column) k s) q }
