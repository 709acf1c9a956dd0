-- One step of `equal`, by what the two slots show: the test for `eqv` first, then the two cells. Document 01, "Equality".
-- Assumes nothing.
use mathlib.Core.Path.{◌≡◌, ap, ◌∙◌}
use mathlib.Core.Bool.{Bool, true, false}
use mathlib.Core.List.{List, []}
use Prim.Native.Nat.{ℕ}
use borrow.Author.Tests.{eq-eqb, ne_eqb}
use lib.Dec.{eqb}
use lib.ListN.{length}
use Rattle.rules.specs.Cells.{Value, slot, Cell}
use Rattle.rules.specs.Heap.{Heap, cell_at}
use Rattle.rules.specs.Equal.{eqv, alike, walks, Step, fails, needs, element_by_element, vectors_step, slots_step, unlike_step, walk_step, step, equal_rules}

-- "two vectors of one length, element by element"
module _ (vs ws : List Value) where
  by_length : (b : Bool) → eqb (length vs) (length ws) ≡ b → vectors_step vs ws ≡ elim b as (λ x. Step) [ true ↦ needs (element_by_element vs ws) | false ↦ fails ]
  unfolding equal_rules
  by_length b e = ap (λ (r : Bool). elim r as (λ x. Step) [ true ↦ needs (element_by_element vs ws) | false ↦ fails ]) e

  pub one_length : length vs ≡ length ws → vectors_step vs ws ≡ needs (element_by_element vs ws)
  one_length e = by_length true (eq-eqb (length vs) (length ws) e)

  pub two_lengths : (length vs ≡ length ws → ⊥) → vectors_step vs ws ≡ fails
  two_lengths e = by_length false (ne_eqb (length vs) (length ws) e)

module _ (h : Heap) where
  by_test : (v w : Value) (b : Bool) → eqv h v w ≡ b → step h (alike v w) ≡ elim b as (λ x. Step) [ true ↦ needs [] | false ↦ unlike_step h v w ]
  unfolding equal_rules
  by_test v w b e = ap (λ (r : Bool). elim r as (λ x. Step) [ true ↦ needs [] | false ↦ unlike_step h v w ]) e

  -- "true if `eqv`"
  pub step_eqv : (v w : Value) → eqv h v w ≡ true → step h (alike v w) ≡ needs []
  step_eqv v w e = by_test v w true e

  pub step_unlike : (v w : Value) → eqv h v w ≡ false → step h (alike v w) ≡ unlike_step h v w
  step_unlike v w e = by_test v w false e

  module _ (s t : ℕ) (c d : Cell) (p : cell_at h s ≡ c) (q : cell_at h t ≡ d) where
    pub unlike_slots : unlike_step h (slot s) (slot t) ≡ slots_step h s t c d
    unfolding equal_rules
    unlike_slots = λ i. slots_step h s t (p i) (q i)

    pub step_slots : eqv h (slot s) (slot t) ≡ false → step h (alike (slot s) (slot t)) ≡ slots_step h s t c d
    step_slots e = step_unlike (slot s) (slot t) e ∙ unlike_slots

    pub step_walks : step h (walks s t) ≡ walk_step h c d
    unfolding equal_rules
    step_walks = λ i. walk_step h (p i) (q i)
