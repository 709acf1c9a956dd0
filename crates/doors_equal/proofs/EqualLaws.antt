-- The door of `equal`: 20, then 19, then 11 of the first value and of the second, then 14, then the comparison. Assumes nothing.
use mathlib.Core.Path.{◌≡◌, refl, sym, ap, ◌∙◌, subst}
use mathlib.Core.Bool.{Bool, true, false, not}
use mathlib.Core.List.{List, [], ◌∷◌}
use Prim.Native.Nat.{ℕ}
use native.Mathlib.Omega.{arith}
use borrow.Author.Tests.{ltb-false}
use lib.Dec.{ltb}
use lib.ListN.{length, get_or}
use Rattle.laws.specs.Basics.{both, zeros}
use Rattle.rules.specs.Numbers.{scratch_words}
use Rattle.rules.specs.Refusals.{Answer, accepted, refused, Refusal, unsound, short_scratch, no_such_slot, ◌⇒◌, unless, refusals}
use Rattle.rules.specs.Cells.{Value}
use Rattle.rules.specs.Heap.{capacity}
use Rattle.rules.specs.Heap.{Heap}
use Rattle.rules.specs.Layout.{Lent, heap_of}
use Rattle.rules.specs.Sound.{sound}
use Rattle.rules.specs.Equal.{Equal}
use Rattle.rules.specs.Calls.{EqualLeft, cleared, given_value, of_answer, value_in_use, EqualValues, EqualCall}
use Rattle.heap_sound_rows.proofs.HeapFacts.{cells_length}
use Rattle.heap_sound_cells.specs.Looked.{named}
use Rattle.heap_given.proofs.GivenLaws.{value_used, both_used}
use Rattle.heap_given.proofs.HeaderLaws.{short_by_header}
use Rattle.heap_eqv.specs.Eqv.{Comparable}
use Rattle.heap_equal.specs.Boards.{Room, Answered}
use Rattle.doors_equal.specs.Behind.{EqualSecond}

abbrev stopped : Refusal → List ℕ → EqualLeft
stopped r scratch = record { answer = refused r; scratch = scratch }

module _ (l : Lent) (scratch : List ℕ) (kind a kind' a' : ℕ) where
  -- the call by its first two tests, and by what was given first
  abbrev given : Answer Value → EqualLeft → Type 0
  given x r =
      of_answer x (λ v. EqualSecond (heap_of l) scratch v kind' a' r) (λ n. r ≡ stopped n (cleared scratch))

  abbrev tested : Bool → Bool → EqualLeft → Type 0
  tested s t r =
      unless ((not s ⇒ unsound) ∷ (t ⇒ short_scratch) ∷ []) (given (given_value kind a) r) (λ n. r ≡ stopped n scratch)

  abbrev short : Bool
  short = ltb (length scratch) (scratch_words (capacity (heap_of l)))

  by_tests : (s t : Bool) (r : EqualLeft) → sound l ≡ s → short ≡ t → tested s t r → EqualCall l scratch kind a kind' a' r
  unfolding EqualCall EqualSecond
  by_tests s t r e f x = subst (λ (b : Bool). tested b short r) (sym e) (subst (λ (b : Bool). tested s b r) (sym f) x)

  -- 20
  pub equal_unsound : sound l ≡ false → EqualCall l scratch kind a kind' a' (stopped unsound scratch)
  unfolding refusals
  equal_unsound e = by_tests false short _ e refl refl

  module _ (ok : sound l ≡ true) where
    -- 19
    pub equal_short : ltb (length scratch) (scratch_words (get_or l.words 1 0)) ≡ true → EqualCall l scratch kind a kind' a' (stopped short_scratch scratch)
    unfolding refusals
    equal_short e = by_tests true true _ ok (short_by_header l scratch true e) refl

    module _ (long : ltb (length scratch) (scratch_words (get_or l.words 1 0)) ≡ false) where
      passed : (x : Answer Value) (r : EqualLeft) → x ≡ given_value kind a → given x r → EqualCall l scratch kind a kind' a' r
      unfolding refusals
      passed x r e y = by_tests true false r ok (short_by_header l scratch false long) (subst (λ (z : Answer Value). given z r) e y)

      -- 11
      pub first_malformed : (r : Refusal) → refused r ≡ given_value kind a → (after : List ℕ) → after ≡ zeros (length scratch) → EqualCall l scratch kind a kind' a' (stopped r after)
      unfolding of_answer cleared
      first_malformed r p after c = passed (refused r) _ p (ap (stopped r) c)

      pub first_accepted : (v : Value) → accepted v ≡ given_value kind a → (r : EqualLeft) → EqualSecond (heap_of l) scratch v kind' a' r → EqualCall l scratch kind a kind' a' r
      unfolding of_answer
      first_accepted v p r x = passed (accepted v) r p x

-- ---- the second value

module _ (l : Lent) (scratch : List ℕ) (v : Value) (kind a : ℕ) where
  abbrev second : Answer Value → EqualLeft → Type 0
  second x r = of_answer x (λ w. EqualValues (heap_of l) scratch v w r) (λ n. r ≡ stopped n (cleared scratch))

  -- 11
  pub second_malformed : (r : Refusal) → refused r ≡ given_value kind a → (after : List ℕ) → after ≡ zeros (length scratch) → EqualSecond (heap_of l) scratch v kind a (stopped r after)
  unfolding EqualSecond cleared
  second_malformed r p after c =
      subst (λ (x : Answer Value). second x (stopped r after)) p (ap (stopped r) c)

  pub second_accepted : (w : Value) → accepted w ≡ given_value kind a → (r : EqualLeft) → EqualValues (heap_of l) scratch v w r → EqualSecond (heap_of l) scratch v kind a r
  unfolding EqualSecond
  second_accepted w p r x = subst (λ (y : Answer Value). second y r) p x

-- ---- 14, by the lent map, and the comparison

module _ (l : Lent) (ok : sound l ≡ true) (scratch : List ℕ) (v w : Value) where
  abbrev compared_by : Bool → EqualLeft → Type 0
  compared_by t r =
      unless ((not t ⇒ no_such_slot) ∷ [])
      ((truth : Bool) × Equal (heap_of l) v w truth × (r ≡ record { answer = accepted truth; scratch = cleared scratch }))
      (λ n. r ≡ stopped n (cleared scratch))

  used_by : (t : Bool) (r : EqualLeft) → both (value_in_use (heap_of l) v) (value_in_use (heap_of l) w) ≡ t → compared_by t r → EqualValues (heap_of l) scratch v w r
  unfolding EqualValues
  used_by t r e x = subst (λ (b : Bool). compared_by b r) (sym e) x

  pub first_free : named (get_or l.words 1 0) l.map v ≡ false → (after : List ℕ) → after ≡ zeros (length scratch) → EqualValues (heap_of l) scratch v w (stopped no_such_slot after)
  unfolding refusals cleared
  first_free n after c = used_by false _ (both_used l ok v w false n) (ap (stopped no_such_slot) c)

  module _ (used : named (get_or l.words 1 0) l.map v ≡ true) where
    pub second_free : named (get_or l.words 1 0) l.map w ≡ false → (after : List ℕ) → after ≡ zeros (length scratch) → EqualValues (heap_of l) scratch v w (stopped no_such_slot after)
    unfolding refusals cleared
    second_free n after c = used_by false _ (both_used l ok v w true used ∙ n) (ap (stopped no_such_slot) c)

    module _ (also : named (get_or l.words 1 0) l.map w ≡ true) where
      pub comparable : Comparable l v w
      comparable =
          record { lists_sound = ok; first = sym (value_used l ok v) ∙ used; second = sym (value_used l ok w) ∙ also }

      pub compared : (r : Bool) (after : List ℕ) → Answered (heap_of l) scratch v w after r → EqualValues (heap_of l) scratch v w (record { answer = accepted r; scratch = after })
      unfolding refusals
      compared r after x =
          used_by true _ (both_used l ok v w true used ∙ also)
          (r, x.answer, ap (λ (y : List ℕ). record { answer = accepted r; scratch = y }) x.scratch_is)

-- scratch that is not too short has the formula's length
pub roomy : (l : Lent) (scratch : List ℕ) → ltb (length scratch) (scratch_words (get_or l.words 1 0)) ≡ false → Room l scratch
roomy l scratch e =
    record { long = omega (arith, ltb-false (length scratch) (scratch_words (get_or l.words 1 0)) e, cells_length l) }

-- of the scratch the comparison takes only the length
abbrev by_clean : Heap → List ℕ → Value → Value → EqualLeft → Type 0
by_clean h clean v w r =
    unless ((not (both (value_in_use h v) (value_in_use h w)) ⇒ no_such_slot) ∷ [])
    ((truth : Bool) × Equal h v w truth × (r ≡ record { answer = accepted truth; scratch = clean }))
    (λ n. r ≡ stopped n clean)

pub same_scratch : (h : Heap) (s s' : List ℕ) (v w : Value) (r : EqualLeft) → length s ≡ length s' → EqualValues h s v w r → EqualValues h s' v w r
unfolding EqualValues cleared
same_scratch h s s' v w r e x = subst (λ (n : ℕ). by_clean h (zeros n) v w r) e x
