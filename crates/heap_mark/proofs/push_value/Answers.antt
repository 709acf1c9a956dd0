-- `heap_mark::push_value`: a slot is pushed, a scalar is not. Assumes nothing.
use Rattle.heap_mark.proofs.Pushes.{pushed_none}
use Rattle.leaf_cells.proofs.Variants.{other_value}
use native.Mathlib.Omega.{arith}
use Prim.Native.Nat.{ℕ}
use mathlib.Core.List.{List}
use mathlib.Core.Path.{sym, subst}
use Rattle.heap_mark.specs.Marks.{CanPush, Pushed}
use Rattle.heap_mark.proofs.Leads.{no_slot, one_slot}
use Rattle.heap_mark.proofs.push_value.Goals as goal

pub push-requires : goal.push-requires
push-requires c = subst (λ (ss : List ℕ). CanPush ss c.args.map.now c.args.scratch.now c.args.top) (one_slot c.args.v c.in-Slot.s c.in-Slot.is) c.requires

pub returns-in-Slot : goal.returns-in-Slot
returns-in-Slot c = subst (λ (ss : List ℕ). Pushed ss c.args.map.now c.args.scratch.now c.args.top c.push.new.map c.push.new.scratch c.push.result) (sym (one_slot c.args.v c.in-Slot.s c.in-Slot.is)) c.push.ensures

pub returns-in_default : goal.returns-in_default
returns-in_default c = subst (λ (ss : List ℕ). Pushed ss c.args.map.now c.args.scratch.now c.args.top c.args.map.now c.args.scratch.now c.args.top) (sym (no_slot _ (other_value c.args.v c.in_default.not-Slot))) (pushed_none c.args.map.now c.args.scratch.now c.args.top (omega (arith, c.requires.room)))
