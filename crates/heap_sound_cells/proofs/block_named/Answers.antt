-- `heap_sound_cells::block_named`: those before were found good. Assumes nothing.
use Rattle.heap_sound_cells.specs.Looked.{value_at, named}
use Prim.Native.Nat.{ℕ, ◌+◌}
use Rattle.heap_sound_rows.proofs.UpLaws.{up_starts, up_on, up_stops, up_ends}
use mathlib.Core.Path.{sym, ◌∙◌}
use native.Mathlib.Omega.{arith}
use Rattle.heap_sound_cells.proofs.block_named.Goals as goal

pub loop-i-init : goal.loop-i-init
loop-i-init c = up_starts _

pub returns-then-not-named : goal.returns-then-not-named
returns-then-not-named c = up_stops (λ (k : ℕ). named c.args.capacity c.args.map.now (value_at c.args.elems.now (c.args.place + k))) _ c.loop-i.i (omega arith) (sym c.named.ensures ∙ c.if-not-named.true)

pub loop-i-preserved : goal.loop-i-preserved
loop-i-preserved c = up_on (λ (k : ℕ). named c.args.capacity c.args.map.now (value_at c.args.elems.now (c.args.place + k))) c.loop-i.i c.loop-i.invariant (sym c.named.ensures ∙ c.if-not-named.false)

pub returns : goal.returns
returns c = up_ends (λ (k : ℕ). named c.args.capacity c.args.map.now (value_at c.args.elems.now (c.args.place + k))) _ c.loop-i.i (omega arith) (omega arith) c.loop-i.invariant
