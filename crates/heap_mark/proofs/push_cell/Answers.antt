-- `heap_mark::push_cell`: by the kind of the cell. Assumes nothing.
use native.Mathlib.Omega.{arith}
use Prim.Native.Nat.{ℕ}
use mathlib.Core.List.{List, [], ◌∷◌}
use mathlib.Core.Path.{sym, subst}
use Rattle.heap_mark.proofs.Pushes.{can_first, can_rest, pushed_on, pushed_none}
use Rattle.heap_mark.specs.Marks.{CanPush, Pushed}
use Rattle.heap_mark.proofs.Leads.{leads_pair, leads_vector, vector_fits, leads_nowhere}
use Rattle.heap_mark.proofs.push_cell.Goals as goal

pub push-height-requires : goal.push-height-requires
push-height-requires c =
    let pair = leads_pair _ _ _ c.requires.slot_bound _ c.load.ensures _ _ c.in-Pair.is in
    can_first (c.in-Pair.car ∷ []) (c.in-Pair.cdr ∷ []) _ _ _ (subst (λ (ss : List ℕ). CanPush ss c.args.map.now c.args.scratch.now c.args.top) pair c.requires.can_push)

pub push-requires : goal.push-requires
push-requires c =
    let pair = leads_pair _ _ _ c.requires.slot_bound _ c.load.ensures _ _ c.in-Pair.is in
    can_rest (c.in-Pair.car ∷ []) _ _ _ _ _ _ c.push-height.ensures (c.in-Pair.cdr ∷ []) (subst (λ (ss : List ℕ). CanPush ss c.args.map.now c.args.scratch.now c.args.top) pair c.requires.can_push) c.push-height.auto.scratch

pub push_elements-requires : goal.push_elements-requires
push_elements-requires c =
    let bound = c.requires.slot_bound in
    record {
      size_in_bounds = omega (arith, vector_fits _ _ _ bound _ c.load.ensures _ _ c.in-Vector.is c.requires.rowed, c.requires.rowed.elements);
      can_push = subst (λ (ss : List ℕ). CanPush ss c.args.map.now c.args.scratch.now c.args.top) (leads_vector _ _ _ bound _ c.load.ensures _ _ c.in-Vector.is c.requires.rowed) c.requires.can_push;
    }

pub returns-in-Pair : goal.returns-in-Pair
returns-in-Pair c =
    let pair = leads_pair _ _ _ c.requires.slot_bound _ c.load.ensures _ _ c.in-Pair.is in
    subst (λ (ss : List ℕ). Pushed ss c.args.map.now c.args.scratch.now c.args.top c.push.new.map c.push.new.scratch c.push.result) (sym pair)
    (pushed_on (c.in-Pair.car ∷ []) _ _ _ _ _ _ c.push-height.ensures (c.in-Pair.cdr ∷ []) _ _ _ c.push.ensures)

pub returns-in-Vector : goal.returns-in-Vector
returns-in-Vector c =
    subst (λ (ss : List ℕ). Pushed ss c.args.map.now c.args.scratch.now c.args.top c.push_elements.new.map c.push_elements.new.scratch c.push_elements.result)
    (sym (leads_vector _ _ _ c.requires.slot_bound _ c.load.ensures _ _ c.in-Vector.is c.requires.rowed)) c.push_elements.ensures

pub returns-in_default : goal.returns-in_default
returns-in_default c =
    subst (λ (ss : List ℕ). Pushed ss c.args.map.now c.args.scratch.now c.args.top c.args.map.now c.args.scratch.now c.args.top)
    (sym (leads_nowhere _ _ _ c.requires.slot_bound _ c.load.ensures c.in_default.not-Pair c.in_default.not-Vector))
    (pushed_none _ _ _ (omega (arith, c.requires.can_push.room)))
