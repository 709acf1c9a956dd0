-- `heap_sweep::sweep_slot`: by the state of the slot. Assumes nothing.
use borrow.Author.Tests.{eq-eqb}
use native.Mathlib.Omega.{arith}
use mathlib.Core.List.{List}
use mathlib.Core.Logic.{◌⊎◌, inl, inr}
use mathlib.Core.Path.{◌≡◌, sym, ap, ◌∙◌}
use Rattle.leaf_cells.specs.Cells.{stored_cell}
use Rattle.rules.specs.Cells.{plain, undefined}
use Rattle.rules.specs.Map.{is_allocated}
use Rattle.leaf_map.specs.declared.State.{State}
use Rattle.leaf_map.specs.declared.State.TheVariants.{Free, Three}
use Rattle.leaf_map.specs.States.{number_of}
use Rattle.heap_sweep.specs.Sweeps.{swept, freed, kept}
use Rattle.heap_sweep.proofs.SlotLaws.{slot_used, slot_allocated, slot_free}
use Rattle.heap_sweep.proofs.sweep_slot.Goals as goal

pub returns-in-Used : goal.returns-in-Used
unfolding kept
returns-in-Used c = ap (swept c.args.words.now) c.set.ensures ∙ sym (slot_used (swept c.args.words.now c.args.map.now) c.args.slot (sym c.get.ensures ∙ ap number_of c.in-Used.is))

pub push-requires : goal.push-requires
unfolding is_allocated
push-requires c = c.requires.list (eq-eqb _ _ (sym c.get.ensures ∙ ap number_of c.in-Allocated.is))

pub returns-in-Allocated : goal.returns-in-Allocated
unfolding freed
returns-in-Allocated c = (λ i. swept ((c.store.ensures.words ∙ ap (λ (ws : List _). stored_cell ws c.args.slot (plain undefined)) c.push.ensures) i) (c.set-in-Allocated.ensures i)) ∙ sym (slot_allocated (swept c.args.words.now c.args.map.now) c.args.slot (sym c.get.ensures ∙ ap number_of c.in-Allocated.is))

-- free or three: neither is swept
resting : (s : State) → (s ≡ Free) ⊎ (s ≡ Three) → (number_of s ≡ 2 → ⊥) × (number_of s ≡ 1 → ⊥)
resting s (inl p) = (λ e. omega (arith, ap number_of p, e), λ e. omega (arith, ap number_of p, e))
resting s (inr p) = (λ e. omega (arith, ap number_of p, e), λ e. omega (arith, ap number_of p, e))

pub returns-in-Free : goal.returns-in-Free
returns-in-Free c =
    let r = resting c.get.result c.in-Free.is in
    sym (slot_free (swept c.args.words.now c.args.map.now) c.args.slot (λ e. r.0 (c.get.ensures ∙ e)) (λ e. r.1 (c.get.ensures ∙ e)))
