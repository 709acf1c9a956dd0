-- `heap_mark::push_elements`: what was pushed and what is left to push make the elements. Assumes nothing.
use Rattle.laws.specs.Basics.{basics}
use native.Mathlib.Nat.{add-zero}
use native.Mathlib.Omega.{arith}
use mathlib.Core.List.{List, [], ◌∷◌, ◌++◌}
use mathlib.Core.Path.{◌≡◌, subst, sym, ap, ◌∙◌}
use Prim.Native.Nat.{ℕ, ◌-◌}
use Rattle.rules.specs.Cells as cells
use Rattle.rules.specs.Collect.{slots_among}
use Rattle.heap_mark.specs.Marks.{values}
use Rattle.heap_mark.proofs.Leads.{Along, along, along_next, along_on, slots_first, slots_last}
use Rattle.heap_mark.proofs.push_elements.Goals as goal

pub loop-j-init : goal.loop-j-init
unfolding values slots_among basics
loop-j-init c = (omega arith, subst (λ (l : List ℕ). Along [] l c.args.map.now c.args.scratch.now c.args.top c.args.map.now c.args.scratch.now c.args.top) (let z : c.args.size ≡ c.args.size - 0 = omega arith in (λ j. slots_among (values c.args.elems.now (sym (add-zero c.args.place) j) (z j)))) (along (slots_among (values c.args.elems.now c.args.place c.args.size)) c.args.map.now c.args.scratch.now c.args.top c.requires.can_push))

-- the element here, and those after it
first : (l : List ℕ) (e : cells.Value) (v : cells.Value) (later : List ℕ) → l ≡ slots_among (e ∷ []) ++ later → v ≡ e → l ≡ slots_among (v ∷ []) ++ later
first l e v later is same = is ∙ ap (λ (x : cells.Value). slots_among (x ∷ []) ++ later) (sym same)

last : (l front : List ℕ) (e v : cells.Value) → l ≡ front ++ slots_among (e ∷ []) → v ≡ e → l ≡ front ++ slots_among (v ∷ [])
last l front e v is same = is ∙ ap (λ (x : cells.Value). front ++ slots_among (x ∷ [])) (sym same)

pub push_value-height-requires : goal.push_value-height-requires
push_value-height-requires c = along_next _ _ _ _ _ _ _ _ c.loop-j.invariant.1 _ _ (first _ _ _ _ (slots_first c.args.elems.now c.args.place c.loop-j.j c.args.size c.loop-j-test.true) c.load_element-v.ensures)

pub loop-j-preserved : goal.loop-j-preserved
loop-j-preserved c = (
  omega arith,
  along_on _ _ _ _ _ _ _ _ c.loop-j.invariant.1 _ _ _ _ _ _
      (first _ _ _ _ (slots_first c.args.elems.now c.args.place c.loop-j.j c.args.size c.loop-j-test.true) c.load_element-v.ensures)
      (last _ _ _ _ (slots_last c.args.elems.now c.args.place c.loop-j.j) c.load_element-v.ensures)
      c.push_value-height.ensures c.push_value-height.auto.scratch,
)
