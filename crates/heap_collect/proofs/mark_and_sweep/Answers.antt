-- `heap_collect::mark_and_sweep`: what is marked can be swept, since the map is of bytes. Assumes nothing.
use mathlib.Core.List.{List}
use mathlib.Core.Path.{sym, ap, subst, ◌∙◌}
use native.Mathlib.Omega.{arith}
use Rattle.heap_sweep.specs.Sweeps.{swept, sweep_dropped, CanDrop}
use Prim.Native.Nat.{ℕ}
use Rattle.heap_collect.proofs.mark_and_sweep.Goals as goal

pub sweep-requires : goal.sweep-requires
sweep-requires c = subst (λ (m : List ℕ). CanDrop c.args.words.now m) (sym c.mark.ensures) (c.requires.sweeps (λ k. omega (arith, c.slice_known-2-1.given k)))

pub returns : goal.returns
returns c = record { bytes = λ k. omega (arith, c.slice_known-2-1.given k); swept = c.sweep.ensures ∙ ap (λ (m : List ℕ). sweep_dropped (swept c.args.words.now m)) c.mark.ensures; elems_stay = mathlib.Core.Path.refl }
