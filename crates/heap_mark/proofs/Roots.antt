-- Roots in use, one after the other. Assumes nothing.
use mathlib.Core.Path.{◌≡◌, refl, sym, ap, ◌∙◌}
use mathlib.Core.Bool.{Bool, true, false, ◌&&◌}
use mathlib.Core.List.{List, [], ◌∷◌}
use Rattle.std.specs.List.{list_all}
use Prim.Native.Nat.{ℕ, ◌/◌, ◌%◌, ◌<◌}
use native.Mathlib.Omega.{arith}
use native.Mathlib.Decide.{dec_lt}
use borrow.Author.Tests.{le-ltb}
use lib.Dec.{ltb}
use lib.ListN.{get_or, take}
use lib.Seq.{get_or-take}
use Rattle.laws.specs.Basics.{both, every, basics}
use Rattle.rules.specs.Map.{state_in, is_allocated, Allocated, map_rules}
use Rattle.rules.specs.Heap.{in_use}
use Rattle.rules.specs.Layout.{heap_of, layout_rules}
use Rattle.heap_sound_rows.specs.Rows.{lists}
use Rattle.heap_sound_rows.proofs.HeapFacts.{cells_length}
use Rattle.heap_sound_cells.specs.Looked.{used_slot}

and_both : (a b : Bool) → (a && b) ≡ both a b
and_both true b = refl
and_both false b = refl

module _ (words m : List ℕ) (fours : get_or words 1 0 % 4 ≡ 0) where
  abbrev cap : ℕ
  cap = get_or words 1 0

  allocated_in : (s : ℕ) → s < cap → is_allocated m s ≡ is_allocated (take (cap / 4) m) s
  unfolding map_rules
  allocated_in s h =
      ap (λ (b : ℕ). lib.Dec.eqb (state_in b (s % 4)) Allocated) (sym (get_or-take (cap / 4) m (s / 4) 0 (omega arith)))

  -- the code's test is the heap's
  pub in_use_is : (s : ℕ) → used_slot cap m s ≡ in_use (heap_of (lists words m [] [])) s
  unfolding used_slot layout_rules
  in_use_is s =
      let size = sym (cells_length (lists words m [] [])) in
      elim (dec_lt s cap) [
        | yes h ↦ (λ i. both (ltb s (size i)) (allocated_in s h i))
        | no h ↦
            ap (λ (b : Bool). both b (is_allocated m s)) (le-ltb s cap (omega arith))
            ∙ ap (λ (b : Bool). both b (is_allocated (take (cap / 4) m) s)) (sym (le-ltb s cap (omega arith)))
            ∙ ap (λ (n : ℕ). both (ltb s n) (is_allocated (take (cap / 4) m) s)) size
      ]

  pub roots_are : (roots : List ℕ) → list_all (used_slot cap m) roots ≡ every (in_use (heap_of (lists words m [] []))) roots
  unfolding basics
  roots_are [] = refl
  roots_are (s ∷ roots) =
      and_both (used_slot cap m s) (list_all (used_slot cap m) roots) ∙ (λ i. both (in_use_is s i) (roots_are roots i))
