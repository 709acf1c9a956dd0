-- Two values that should be `equal`, by what the code finds of them. Assumes nothing.
use borrow.Enum.Refused.{Among, opened, not_key}
use mathlib.Core.Path.{◌≡◌, refl, sym, ap, ◌∙◌, subst}
use mathlib.Core.Bool.{Bool, true, false, not}
use mathlib.Core.List.{List, [], ◌∷◌}
use Prim.Native.Nat.{ℕ, ◌+◌, ◌*◌, ◌≤◌, ◌<◌}
use native.Mathlib.Omega.{arith}
use borrow.Author.Tests.{not-true, not-false}
use lib.ListN.{length}
use Rattle.rules.specs.Cells.{Scalar, undefined, nil, eof, void, bool, char, number, Value, slot, scalar, Block, vector}
use Rattle.rules.specs.Heap.{Heap, cell_at, elements_of}
use Rattle.rules.specs.Layout.{Lent, heap_of}
use Rattle.rules.specs.Equal.{eqv, Goal, alike, fails, needs, slots_step, unlike_step, step, equal_rules}
use Rattle.rules.specs.Calls.{value_in_use}
use Rattle.equal_laws.proofs.Steps.{step_eqv, step_unlike, step_slots}
use Rattle.leaf_cells.specs.Cells.{loaded}
use Rattle.leaf_cells.specs.Elements.{value_of}
use Rattle.leaf_cells.specs.declared.Value as given
use Rattle.leaf_cells.specs.declared.Value.TheVariants as value
use Rattle.heap_eqv.specs.Eqv.{Comparable}
use Rattle.std.specs.Prelude.{Some, None}
use Rattle.std.specs.Prelude as code
use Rattle.heap_equal.specs.declared.Parts.{Parts}
use Rattle.heap_equal.specs.declared.Parts.TheVariants.{Unlike}
use Rattle.heap_equal.specs.Parts.{parted, wanted, part_rules}
use Rattle.heap_equal.specs.Boards.{CanJoinAlike, AlikeJoined, stacked, PairPushed, Ready, Moved, by_eqv, NextTold, UsedSlots}
use Rattle.heap_equal.proofs.CellParts.{unlike_fails, like_needs}
use Rattle.heap_equal.proofs.SoundLists.{slots_comparable, slots_below, rows_inside, parts_loaded, elements_whole}
use Rattle.heap_equal.proofs.Moves.{step_fails, needless, pair_room, pair_pushed, class_shape, alike_known, alike_taken, alike_weight}

-- ---- the variants of a value

-- a variant from 1 on is not the first
pub not_first : (x : ℕ) → Among (1 ∷ 2 ∷ 3 ∷ 4 ∷ 5 ∷ 6 ∷ 7 ∷ []) x → x ≡ 0 → ⊥
not_first x o is = not_key (1 ∷ 2 ∷ 3 ∷ 4 ∷ 5 ∷ 6 ∷ 7 ∷ []) 0 tt x (opened o) is

pub record ScalarGiven (v : Value) : Type 0 where
  pub which : Scalar
  pub is : v ≡ scalar which

pub scalar_given : (v : given.Value) → ((s : ℕ) → v ≡ value.Slot s → ⊥) → ScalarGiven (value_of v)
scalar_given (value.Slot s) no_slot = absurd (no_slot s refl)
scalar_given value.Undefined no_slot = record { which = undefined; is = refl }
scalar_given value.Nil no_slot = record { which = nil; is = refl }
scalar_given value.Eof no_slot = record { which = eof; is = refl }
scalar_given value.Void no_slot = record { which = void; is = refl }
scalar_given (value.Bool b) no_slot = record { which = bool b; is = refl }
scalar_given (value.Char n) no_slot = record { which = char n; is = refl }
scalar_given (value.Number n) no_slot = record { which = number n; is = refl }

module _ (l : Lent) (c : ℕ) (sc : List ℕ) (top : ℕ) where
  abbrev h : Heap
  h = heap_of l

  -- ---- two slots

  module _ (s t : ℕ) (pre : Ready l c sc top × UsedSlots h s t) where
    abbrev goal : Goal
    goal = alike (slot s) (slot t)

    pub both_rows : (8 * s + 16 ≤ length l.words) × (8 * t + 16 ≤ length l.words)
    both_rows = rows_inside l pre.0.lists_sound s t pre.1

    pub both_comparable : Comparable l (slot s) (slot t)
    both_comparable = slots_comparable l pre.0.lists_sound s t pre.1

    inside : (s < c) × (t < c)
    inside = slots_below l pre.0.lists_sound c pre.0.shape.slots s t pre.1

    pub can_join_alike : CanJoinAlike c sc s t
    can_join_alike =
        record {
          room = pre.0.shape.room;
          rising = pre.0.shape.alike_rise;
          first = inside.0;
          second = inside.1;
        }

    module _ (r : Bool) (sc' : List ℕ) (told : AlikeJoined c sc s t sc' r) where
      -- of one class already
      pub slots_known : not r ≡ true → NextTold h c (goal ∷ []) sc top sc' (Some top)
      unfolding NextTold
      slots_known e =
          alike_known h c sc top pre.0.shape s t inside.0 inside.1 r sc' told (not-true r e)

      pub room_left : 2 * c + 2 * top + 1 < length sc'
      room_left =
          pair_room h c sc' top (class_shape h c sc top pre.0.shape s t inside.0 inside.1 r sc' told)

      module _ (fresh : not r ≡ false) (same : Bool) (same_is : same ≡ eqv h (slot s) (slot t)) where
        taken : (gs : List Goal) → step h goal ≡ needs gs → Moved h c (goal ∷ []) sc top gs sc' top
        taken =
            alike_taken h c sc top pre.0.shape s t inside.0 inside.1 r sc' told (not-false r fresh)

        -- "true if `eqv`"
        pub slots_eqv : same ≡ true → NextTold h c (goal ∷ []) sc top sc' (Some top)
        unfolding NextTold
        slots_eqv e = taken [] (step_eqv h (slot s) (slot t) (sym same_is ∙ e))

        module _ (no : same ≡ false) (p : Parts) (is : p ≡ parted (loaded l.words s) (loaded l.words t)) where
          step_is : step h goal ≡ slots_step h s t (cell_at h s) (cell_at h t)
          step_is = step_slots h s t (cell_at h s) (cell_at h t) refl refl (sym same_is ∙ no)

          whole : (x : ℕ) (b : Block) → cell_at h x ≡ vector b → length (elements_of h b) ≡ b.size
          whole x b e = elements_whole l pre.0.lists_sound x b e

          parts_are : p ≡ parted (cell_at h s) (cell_at h t)
          parts_are = is ∙ parts_loaded l pre.0.lists_sound s t pre.1

          pub parts_differ : p ≡ Unlike → NextTold h c (goal ∷ []) sc top sc' None
          unfolding NextTold
          parts_differ e =
              step_fails h c sc top goal
              (step_is ∙ unlike_fails h s t (cell_at h s) (cell_at h t) (whole s) (whole t) (sym e ∙ parts_are))

          pub parts_alike : (p ≡ Unlike → ⊥) → (sc'' : List ℕ) (n : ℕ) → PairPushed c sc' top s t sc'' n → NextTold h c (goal ∷ []) sc top sc'' (Some n)
          unfolding NextTold part_rules
          parts_alike ne sc'' n done =
              let need =
              like_needs h s t (cell_at h s) (cell_at h t) (whole s) (whole t) (λ e. ne (parts_are ∙ sym e)) in
              let wide =
              alike_weight h c sc top pre.0.shape s t inside.0 inside.1 r sc' told (not-false r fresh) in
              let m = taken (wanted h s t) (step_is ∙ need) in
              subst (λ (x : List ℕ). Moved h c (goal ∷ []) sc top [] x n) (sym done.scratch_is)
              (subst (λ (k : ℕ). Moved h c (goal ∷ []) sc top [] (stacked c sc' top s t) k) (sym done.height_is)
              (pair_pushed h c sc' top m.shape s t pre.1 (omega (arith, wide, pre.0.shape.height)) (goal ∷ []) sc m wide))

  -- ---- two values

  module _ (v w : Value) (pre : Ready l c sc top × Comparable l v w) where
    module _ (x : code.Option ℕ) (told : x ≡ by_eqv (eqv h v w) top) where
      -- `eqv`, or else they differ
      by_test : (eqv h v w ≡ false → unlike_step h v w ≡ fails) → NextTold h c (alike v w ∷ []) sc top sc x
      unfolding NextTold by_eqv
      by_test differ =
          subst (λ (y : code.Option ℕ). NextTold h c (alike v w ∷ []) sc top sc y) (sym told) (at (eqv h v w) refl)
        where
          at : (b : Bool) → eqv h v w ≡ b → NextTold h c (alike v w ∷ []) sc top sc (by_eqv b top)
          at true e = needless h c sc top pre.0.shape (alike v w) (step_eqv h v w e)
          at false e = step_fails h c sc top (alike v w) (step_unlike h v w e ∙ differ e)

      pub first_scalar : ScalarGiven v → NextTold h c (alike v w ∷ []) sc top sc x
      unfolding equal_rules
      first_scalar y = by_test (λ e. ap (λ (z : Value). unlike_step h z w) y.is)

    module _ (s : ℕ) (vs : v ≡ slot s) where
      pub slot_ask : Comparable l (slot s) w
      slot_ask = subst (λ (x : Value). Comparable l x w) vs pre.1

      pub second_scalar : (x : code.Option ℕ) → x ≡ by_eqv (eqv h (slot s) w) top → ScalarGiven w → NextTold h c (alike v w ∷ []) sc top sc x
      unfolding equal_rules
      second_scalar x told y =
          by_test x (told ∙ sym (ap (λ (z : Value). by_eqv (eqv h z w) top) vs)) (λ e i. unlike_step h (vs i) (y.is i))

    module _ (s t : ℕ) (vs : v ≡ slot s) (ws : w ≡ slot t) where
      pub slots_ask : Ready l c sc top × UsedSlots h s t
      unfolding value_in_use
      slots_ask = (
        pre.0,
        record {
          first_used = sym (ap (value_in_use h) vs) ∙ pre.1.first;
          second_used = sym (ap (value_in_use h) ws) ∙ pre.1.second;
        },
      )

      pub slots_told : (sc' : List ℕ) (x : code.Option ℕ) → NextTold h c (alike (slot s) (slot t) ∷ []) sc top sc' x → NextTold h c (alike v w ∷ []) sc top sc' x
      slots_told sc' x =
          subst (λ (g : Goal). NextTold h c (g ∷ []) sc top sc' x) (sym (λ i. alike (vs i) (ws i)))
