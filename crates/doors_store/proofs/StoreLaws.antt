-- The doors of the two stores: 20, then 11, then 14, then the store behind them. Assumes nothing.
use mathlib.Core.Path.{◌≡◌, sym, ap, ◌∙◌}
use mathlib.Core.Bool.{Bool, true, false, not}
use mathlib.Core.List.{[], ◌∷◌}
use Prim.Native.Nat.{ℕ}
use lib.ListN.{get_or}
use Rattle.laws.specs.Basics.{both}
use Rattle.rules.specs.Refusals.{Refusal, unsound, no_such_slot, wrong_cell, Answer, accepted, refused, ◌⇒◌, unless, refusals}
use Rattle.rules.specs.Cells.{Value, Cell, is_symbol}
use Rattle.rules.specs.Heap.{cell_at, in_use, with_cell}
use Rattle.rules.specs.Layout.{Lent, rooms_of, heap_of, lent_of}
use Rattle.rules.specs.Sound.{sound}
use Rattle.rules.specs.Calls.{Stored, stored, given_value, given_cell, of_answer, value_in_use, cell_in_use, cell_store, store_element, element_store}
use Rattle.heap_sound_cells.specs.Looked.{used_slot, named}
use Rattle.heap_given.specs.Given.{cell_named}
use Rattle.heap_given.proofs.GivenLaws.{in_use_lent, value_used, cell_used}
use Rattle.heap_store.specs.Stores.{Ready, store_cell}
use Rattle.doors_store.specs.Behind.{cell_behind, element_behind}

-- ---- 20 and 11

module _ (l : Lent) (s kind a b : ℕ) where
  abbrev cell_given : Answer Cell → Stored
  cell_given x = of_answer x (cell_behind l s) (λ r. stored (refused r) l)

  pub cell_unsound : sound l ≡ false → stored (refused unsound) l ≡ cell_store l s kind a b
  unfolding cell_store refusals
  cell_unsound e = rw (cell_store, e)

  module _ (ok : sound l ≡ true) where
    cell_sound : cell_given (given_cell kind a b) ≡ cell_store l s kind a b
    unfolding cell_store refusals cell_behind
    cell_sound = rw (cell_store, ok)

    pub cell_malformed : (r : Refusal) → refused r ≡ given_cell kind a b → stored (refused r) l ≡ cell_store l s kind a b
    unfolding of_answer
    cell_malformed r p = ap cell_given p ∙ cell_sound

    pub cell_accepted : (c : Cell) → accepted c ≡ given_cell kind a b → cell_behind l s c ≡ cell_store l s kind a b
    unfolding of_answer
    cell_accepted c p = ap cell_given p ∙ cell_sound

module _ (l : Lent) (s k kind a : ℕ) where
  abbrev value_given : Answer Value → Stored
  value_given x = of_answer x (element_behind l s k) (λ r. stored (refused r) l)

  pub element_unsound : sound l ≡ false → stored (refused unsound) l ≡ element_store l s k kind a
  unfolding element_store refusals
  element_unsound e = rw (element_store, e)

  module _ (ok : sound l ≡ true) where
    element_sound : value_given (given_value kind a) ≡ element_store l s k kind a
    unfolding element_store refusals element_behind
    element_sound = rw (element_store, ok)

    pub element_malformed : (r : Refusal) → refused r ≡ given_value kind a → stored (refused r) l ≡ element_store l s k kind a
    unfolding of_answer
    element_malformed r p = ap value_given p ∙ element_sound

    pub element_accepted : (v : Value) → accepted v ≡ given_value kind a → element_behind l s k v ≡ element_store l s k kind a
    unfolding of_answer
    element_accepted v p = ap value_given p ∙ element_sound

-- ---- 14, by the lent map

module _ (l : Lent) (s : ℕ) (ok : sound l ≡ true) where
  pub ready : used_slot (get_or l.words 1 0) l.map s ≡ true → Ready l s
  ready u = record { lists_sound = ok; used = in_use_lent l ok s ∙ u }

  -- the slot is in use or not, and what is given too
  both_by : (t x : Bool) → used_slot (get_or l.words 1 0) l.map s ≡ t → both (in_use (heap_of l) s) x ≡ both t x
  both_by t x u = ap (λ (y : Bool). both y x) (in_use_lent l ok s ∙ u)

  module _ (c : Cell) where
    cell_tested : (t : Bool) → both (in_use (heap_of l) s) (cell_in_use (heap_of l) c) ≡ t
        → unless ((not t ⇒ no_such_slot) ∷ (is_symbol (cell_at (heap_of l) s) ⇒ wrong_cell) ∷ [])
        (stored (accepted tt) (lent_of (rooms_of l) (with_cell (heap_of l) s c)))
        (λ r. stored (refused r) l) ≡ cell_behind l s c
    unfolding cell_behind
    cell_tested t e =
        ap
        (λ (t : Bool).
        unless ((not t ⇒ no_such_slot) ∷ (is_symbol (cell_at (heap_of l) s) ⇒ wrong_cell) ∷ [])
        (stored (accepted tt) (lent_of (rooms_of l) (with_cell (heap_of l) s c)))
        (λ r. stored (refused r) l))
        (sym e)

    pub cell_slot_free : used_slot (get_or l.words 1 0) l.map s ≡ false → stored (refused no_such_slot) l ≡ cell_behind l s c
    unfolding refusals
    cell_slot_free u = cell_tested false (both_by false _ u)

    module _ (u : used_slot (get_or l.words 1 0) l.map s ≡ true) where
      pub cell_names_free : cell_named (get_or l.words 1 0) l.map c ≡ false → stored (refused no_such_slot) l ≡ cell_behind l s c
      unfolding refusals
      cell_names_free n = cell_tested false (both_by true _ u ∙ sym (cell_used l ok c) ∙ n)

      pub cell_passed : cell_named (get_or l.words 1 0) l.map c ≡ true → (x : Answer (Unit {0})) (after : Lent) → stored x after ≡ store_cell l s c → stored x after ≡ cell_behind l s c
      unfolding refusals store_cell
      cell_passed n x after p =
          p
          ∙ cell_tested true (both_by true _ u ∙ sym (cell_used l ok c) ∙ n)

  module _ (k : ℕ) (v : Value) where
    element_tested : (t : Bool) → both (in_use (heap_of l) s) (value_in_use (heap_of l) v) ≡ t
        → unless ((not t ⇒ no_such_slot) ∷ []) (store_element l (heap_of l) s k v) (λ r. stored (refused r) l) ≡ element_behind l s k v
    unfolding element_behind
    element_tested t e =
        ap
        (λ (t : Bool).
        unless ((not t ⇒ no_such_slot) ∷ []) (store_element l (heap_of l) s k v) (λ r. stored (refused r) l))
        (sym e)

    pub element_slot_free : used_slot (get_or l.words 1 0) l.map s ≡ false → stored (refused no_such_slot) l ≡ element_behind l s k v
    unfolding refusals
    element_slot_free u = element_tested false (both_by false _ u)

    module _ (u : used_slot (get_or l.words 1 0) l.map s ≡ true) where
      pub element_name_free : named (get_or l.words 1 0) l.map v ≡ false → stored (refused no_such_slot) l ≡ element_behind l s k v
      unfolding refusals
      element_name_free n = element_tested false (both_by true _ u ∙ sym (value_used l ok v) ∙ n)

      pub element_passed : named (get_or l.words 1 0) l.map v ≡ true → (x : Answer (Unit {0})) (after : Lent) → stored x after ≡ store_element l (heap_of l) s k v → stored x after ≡ element_behind l s k v
      unfolding refusals
      element_passed n x after p =
          p
          ∙ element_tested true (both_by true _ u ∙ sym (value_used l ok v) ∙ n)
