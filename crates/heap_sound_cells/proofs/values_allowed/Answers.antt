-- `heap_sound_cells::values_allowed`: those before were found good. Assumes nothing.
use Rattle.heap_sound_cells.specs.Looked.{value_at}
use Rattle.rules.specs.Sound.{value_allowed}
use Prim.Native.Nat.{ℕ}
use Rattle.heap_sound_rows.proofs.UpLaws.{up_starts, up_on, up_stops, up_ends}
use mathlib.Core.Path.{sym, ◌∙◌}
use native.Mathlib.Omega.{arith}
use Rattle.heap_sound_cells.proofs.values_allowed.Goals as goal

pub loop-i-init : goal.loop-i-init
loop-i-init c = up_starts _

pub returns-then-not-value_allowed : goal.returns-then-not-value_allowed
returns-then-not-value_allowed c = up_stops (λ (k : ℕ). value_allowed (value_at c.args.elems.now k)) _ c.loop-i.i (omega arith) (sym c.value_allowed.ensures ∙ c.if-not-value_allowed.true)

pub loop-i-preserved : goal.loop-i-preserved
loop-i-preserved c = up_on (λ (k : ℕ). value_allowed (value_at c.args.elems.now k)) c.loop-i.i c.loop-i.invariant (sym c.value_allowed.ensures ∙ c.if-not-value_allowed.false)

pub returns : goal.returns
returns c = up_ends (λ (k : ℕ). value_allowed (value_at c.args.elems.now k)) _ c.loop-i.i (omega arith) (omega arith) c.loop-i.invariant
