-- The door of `eqv`: 20, then 11 of the first value and of the second, then 14, then the comparison. Assumes nothing.
use mathlib.Core.Path.{◌≡◌, sym, ap, ◌∙◌}
use mathlib.Core.Bool.{Bool, true, false, not}
use mathlib.Core.List.{[], ◌∷◌}
use Prim.Native.Nat.{ℕ}
use lib.ListN.{get_or}
use Rattle.laws.specs.Basics.{both}
use Rattle.rules.specs.Refusals.{Refusal, unsound, no_such_slot, Answer, accepted, refused, ◌⇒◌, unless, refusals}
use Rattle.rules.specs.Cells.{Value}
use Rattle.rules.specs.Layout.{Lent, heap_of}
use Rattle.rules.specs.Sound.{sound}
use Rattle.rules.specs.Equal.{eqv}
use Rattle.rules.specs.Calls.{given_value, of_answer, value_in_use, eqv_call}
use Rattle.heap_sound_cells.specs.Looked.{named}
use Rattle.heap_given.proofs.GivenLaws.{value_used, both_used}
use Rattle.heap_eqv.specs.Eqv.{Comparable}
use Rattle.doors_equal.specs.Behind.{eqv_behind, second_behind}

-- ---- 20, and 11 of the first value

module _ (l : Lent) (kind a kind' a' : ℕ) where
  abbrev first_given : Answer Value → Answer Bool
  first_given x = of_answer x (λ v. second_behind l v kind' a') (λ r. refused r)

  pub eqv_unsound : sound l ≡ false → refused unsound ≡ eqv_call l kind a kind' a'
  unfolding eqv_call refusals
  eqv_unsound e = rw (eqv_call, e)

  module _ (ok : sound l ≡ true) where
    eqv_sound : first_given (given_value kind a) ≡ eqv_call l kind a kind' a'
    unfolding eqv_call refusals second_behind
    eqv_sound = rw (eqv_call, ok)

    pub first_malformed : (r : Refusal) → refused r ≡ given_value kind a → refused r ≡ eqv_call l kind a kind' a'
    unfolding of_answer
    first_malformed r p = ap first_given p ∙ eqv_sound

    pub first_accepted : (v : Value) → accepted v ≡ given_value kind a → second_behind l v kind' a' ≡ eqv_call l kind a kind' a'
    unfolding of_answer
    first_accepted v p = ap first_given p ∙ eqv_sound

-- ---- 11 of the second

module _ (l : Lent) (v : Value) (kind a : ℕ) where
  abbrev second_given : Answer Value → Answer Bool
  second_given x = of_answer x (λ w. eqv_behind l v w) (λ r. refused r)

  pub second_malformed : (r : Refusal) → refused r ≡ given_value kind a → refused r ≡ second_behind l v kind a
  unfolding second_behind
  second_malformed r p = ap second_given p

  pub second_accepted : (w : Value) → accepted w ≡ given_value kind a → eqv_behind l v w ≡ second_behind l v kind a
  unfolding second_behind
  second_accepted w p = ap second_given p

-- ---- 14, by the lent map

module _ (l : Lent) (ok : sound l ≡ true) (v w : Value) where
  tested : (t : Bool) → both (value_in_use (heap_of l) v) (value_in_use (heap_of l) w) ≡ t
      → unless ((not t ⇒ no_such_slot) ∷ []) (accepted (eqv (heap_of l) v w)) (λ r. refused r) ≡ eqv_behind l v w
  unfolding eqv_behind
  tested t e =
      ap (λ (t : Bool). unless ((not t ⇒ no_such_slot) ∷ []) (accepted (eqv (heap_of l) v w)) (λ r. refused r)) (sym e)

  pub first_free : named (get_or l.words 1 0) l.map v ≡ false → refused no_such_slot ≡ eqv_behind l v w
  unfolding refusals
  first_free n = tested false (both_used l ok v w false n)

  module _ (used : named (get_or l.words 1 0) l.map v ≡ true) where
    pub second_free : named (get_or l.words 1 0) l.map w ≡ false → refused no_such_slot ≡ eqv_behind l v w
    unfolding refusals
    second_free n = tested false (both_used l ok v w true used ∙ n)

    pub comparable : named (get_or l.words 1 0) l.map w ≡ true → Comparable l v w
    comparable n = record { lists_sound = ok; first = sym (value_used l ok v) ∙ used; second = sym (value_used l ok w) ∙ n }

    pub compared : named (get_or l.words 1 0) l.map w ≡ true → (r : Bool) → r ≡ eqv (heap_of l) v w → accepted r ≡ eqv_behind l v w
    unfolding refusals
    compared n r e = ap accepted e ∙ tested true (both_used l ok v w true used ∙ n)
