-- One step of the pair walk, by what the code finds of the two cells. Assumes nothing.
use mathlib.Core.Path.{◌≡◌, refl, sym, ap, ◌∙◌, subst}
use mathlib.Core.Bool.{Bool, true, false, not}
use mathlib.Core.List.{List, [], ◌∷◌}
use Prim.Native.Nat.{ℕ, ◌+◌, ◌*◌, ◌≤◌, ◌<◌}
use native.Mathlib.Omega.{arith}
use borrow.Author.Tests.{not-true, not-false}
use lib.ListN.{length}
use Rattle.rules.specs.Cells.{slot, Cell, pair}
use Rattle.rules.specs.Heap.{Heap, cell_at}
use Rattle.rules.specs.Layout.{Lent, heap_of}
use Rattle.rules.specs.Equal.{Goal, alike, walks, needs, eqv_cells, holds_if, walk_step, step, equal_rules}
use Rattle.equal_laws.proofs.Steps.{step_walks}
use Rattle.leaf_cells.specs.Cells.{loaded}
use Rattle.heap_eqv.specs.Eqv.{holding, Within, Comparable}
use Rattle.std.specs.Prelude.{Some, None}
use Rattle.std.specs.Prelude as code
use Rattle.heap_equal.specs.declared.Parts.{Parts}
use Rattle.heap_equal.specs.declared.Parts.TheVariants.{Pairs}
use Rattle.heap_equal.specs.declared.Walked.TheVariants as walked
use Rattle.heap_equal.specs.Parts.{parted}
use Rattle.heap_equal.specs.Boards.{CanJoin, WalksJoined, Ready, Moved, UsedSlots, NextTold, WalkTold}
use Rattle.heap_equal.proofs.CellParts.{pairs_are, walk_ends}
use Rattle.heap_equal.proofs.SoundLists.{slots_comparable, slots_below, rows_inside, parts_loaded, text_inside, cells_told, car_used, cdr_used}
use Rattle.heap_equal.proofs.Moves.{moved_then, moved_before, refuted_then, refuted_before, step_fails, walk_known, walk_taken, walk_weight}

module _ (l : Lent) (c : ℕ) (sc : List ℕ) (top s t : ℕ) (pre : Ready l c sc top × UsedSlots (heap_of l) s t) where
  abbrev h : Heap
  h = heap_of l

  pub rows_there : (8 * s + 16 ≤ length l.words) × (8 * t + 16 ≤ length l.words)
  rows_there = rows_inside l pre.0.lists_sound s t pre.1

  inside : (s < c) × (t < c)
  inside = slots_below l pre.0.lists_sound c pre.0.shape.slots s t pre.1

  pub can_join : CanJoin c sc s t
  can_join =
      record { room = pre.0.shape.room; rising = pre.0.shape.walks_rise; first = inside.0; second = inside.1 }

  pub texts_there : (x y : Cell) → x ≡ loaded l.words s → y ≡ loaded l.words t → Within (length l.bytes) x × Within (length l.bytes) y
  texts_there x y p q =
      (text_inside l pre.0.lists_sound s pre.1.first_used x p, text_inside l pre.0.lists_sound t pre.1.second_used y q)

  step_is : step h (walks s t) ≡ walk_step h (cell_at h s) (cell_at h t)
  step_is = step_walks h s t (cell_at h s) (cell_at h t) refl refl

  module _ (r : Bool) (sc' : List ℕ) (told : WalksJoined c sc s t sc' r) where
    -- the walk was here before
    pub walk_met : not r ≡ true → WalkTold h c s t sc top sc' walked.Ends
    unfolding WalkTold
    walk_met n = walk_known h c sc top pre.0.shape s t inside.0 inside.1 r sc' told (not-true r n)

    module _ (n : not r ≡ false) (p : Parts) (is : p ≡ parted (loaded l.words s) (loaded l.words t)) where
      parts_are : p ≡ parted (cell_at h s) (cell_at h t)
      parts_are = is ∙ parts_loaded l pre.0.lists_sound s t pre.1

      taken : (gs : List Goal) → step h (walks s t) ≡ needs gs → Moved h c (walks s t ∷ []) sc top gs sc' top
      taken = walk_taken h c sc top pre.0.shape s t inside.0 inside.1 r sc' told (not-false r n)

      -- "otherwise `eqv` of the two cells themselves"
      module _ (other : (a d b e : ℕ) → p ≡ Pairs a d b e → ⊥) (x y : Cell) (q : Bool) (x_is : x ≡ loaded l.words s) (y_is : y ≡ loaded l.words t) (q_is : q ≡ eqv_cells (holding l.bytes) x y) where
        ends_by : step h (walks s t) ≡ holds_if q
        ends_by =
            step_is
            ∙ walk_ends h (cell_at h s) (cell_at h t) (λ a d b e u. other a d b e (parts_are ∙ sym u))
            ∙ ap holds_if (sym (cells_told l pre.0.lists_sound s t pre.1 x y q x_is y_is q_is))

        pub walk_over : q ≡ true → WalkTold h c s t sc top sc' walked.Ends
        unfolding WalkTold equal_rules
        walk_over e = taken [] (ends_by ∙ ap holds_if e)

        pub walk_fails : q ≡ false → WalkTold h c s t sc top sc' walked.Differs
        unfolding WalkTold equal_rules
        walk_fails e = step_fails h c sc top (walks s t) (ends_by ∙ ap holds_if e)

      -- "the cars are `equal`; then, if both cdr cells are pairs, the same again"
      module _ (a d b e : ℕ) (found : p ≡ Pairs a d b e) where
        cells_are : (cell_at h s ≡ pair a d) × (cell_at h t ≡ pair b e)
        cells_are = pairs_are (cell_at h s) (cell_at h t) a d b e (sym found ∙ parts_are)

        abbrev gs : List Goal
        gs = alike (slot a) (slot b) ∷ walks d e ∷ []

        needs_are : step h (walks s t) ≡ needs gs
        unfolding equal_rules
        needs_are = step_is ∙ (λ i. walk_step h (cells_are.0 i) (cells_are.1 i))

        cars : UsedSlots h a b
        cars =
            record {
              first_used = car_used l pre.0.lists_sound s a d cells_are.0;
              second_used = car_used l pre.0.lists_sound t b e cells_are.1;
            }

        cdrs : UsedSlots h d e
        cdrs =
            record {
              first_used = cdr_used l pre.0.lists_sound s a d cells_are.0;
              second_used = cdr_used l pre.0.lists_sound t b e cells_are.1;
            }

        pub cars_ask : Ready l c sc' top × Comparable l (slot a) (slot b)
        cars_ask =
            (record { lists_sound = pre.0.lists_sound; shape = (taken gs needs_are).shape }, slots_comparable l pre.0.lists_sound a b cars)

        module _ (sc'' : List ℕ) (x : code.Option ℕ) (cars_told : NextTold h c (alike (slot a) (slot b) ∷ []) sc' top sc'' x) where
          pub walk_on : (k : ℕ) → x ≡ Some k → WalkTold h c s t sc top sc'' (walked.On k d e)
          unfolding WalkTold NextTold
          walk_on k q =
              let m : Moved h c (alike (slot a) (slot b) ∷ []) sc' top [] sc'' k = subst (λ (z : code.Option ℕ). NextTold h c (alike (slot a) (slot b) ∷ []) sc' top sc'' z) q cars_told in
              record {
                moved =
                    moved_then h c (walks s t ∷ []) gs (walks d e ∷ []) sc sc' sc'' top top k (taken gs needs_are)
                    (moved_before h c (alike (slot a) (slot b) ∷ []) [] (walks d e ∷ []) sc' sc'' top k m);
                used = cdrs;
                more_walked =
                    omega (
                      arith,
                      walk_weight h c sc top pre.0.shape s t inside.0 inside.1 r sc' told (not-false r n),
                      m.walk_gain,
                    );
              }

          pub walk_stops : x ≡ None → WalkTold h c s t sc top sc'' walked.Differs
          unfolding WalkTold NextTold
          walk_stops q =
              refuted_then h c (walks s t ∷ []) gs sc sc' top top (taken gs needs_are)
              (refuted_before h c (alike (slot a) (slot b) ∷ []) (walks d e ∷ []) sc' top
              (subst (λ (z : code.Option ℕ). NextTold h c (alike (slot a) (slot b) ∷ []) sc' top sc'' z) q cars_told))
