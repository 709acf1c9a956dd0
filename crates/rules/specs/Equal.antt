-- Document 01, "Equality": `eqv`, and `equal` with its pair walk. Assumes nothing.
use Rattle.std.specs.Prelude.{◌≡◌, Bool, true, false, ◌↔◌, ℕ, zero, suc, eqb, length}
use mathlib.Core.List.{List, [], ◌∷◌, ◌++◌, Memᴰ}
use Rattle.std.proofs.Math.Option.{Option, none, some}
use Rattle.laws.specs.Basics.{both, either, any, same, basics}
use Rattle.rules.specs.Cells.{Scalar, undefined, nil, eof, void, bool, char, number, Value, slot, scalar, Cell, plain, pair, symbol, string, vector, bit}
use Rattle.rules.specs.Heap.{Heap, cell_at, shown, text_of, elements_of}
use Rattle.rules.specs.Layout.{value_words, layout_rules}

-- ---- eqv

-- "Bool, Number, Char by value; Nil with Nil, Eof with Eof; .. all else false, Void with Void too"
unfoldable pub eqv_scalars : Scalar → Scalar → Bool
eqv_scalars undefined t = false
eqv_scalars nil t = elim t [ undefined ↦ false | nil ↦ true | eof ↦ false | void ↦ false | bool b ↦ false | char n ↦ false | number n ↦ false ]
eqv_scalars eof t = elim t [ undefined ↦ false | nil ↦ false | eof ↦ true | void ↦ false | bool b ↦ false | char n ↦ false | number n ↦ false ]
eqv_scalars void t = false
eqv_scalars (bool a) t =
    elim t [ undefined ↦ false | nil ↦ false | eof ↦ false | void ↦ false | bool b ↦ eqb (bit a) (bit b) | char n ↦ false | number n ↦ false ]
eqv_scalars (char m) t =
    elim t [ undefined ↦ false | nil ↦ false | eof ↦ false | void ↦ false | bool b ↦ false | char n ↦ eqb m n | number n ↦ false ]
eqv_scalars (number m) t =
    elim t [ undefined ↦ false | nil ↦ false | eof ↦ false | void ↦ false | bool b ↦ false | char n ↦ false | number n ↦ eqb m n ]

-- "compare cells: .. pairs when both fields name the same slots; strings by content"
unfoldable pub eqv_cells : Heap → Cell → Cell → Bool
unfolding eqv_scalars basics
eqv_cells h (plain s) d = elim d [ plain t ↦ eqv_scalars s t | pair a e ↦ false | symbol b ↦ false | string b ↦ false | vector b ↦ false ]
eqv_cells h (pair a d) e =
    elim e [ plain t ↦ false | pair b f ↦ both (eqb a b) (eqb d f) | symbol b ↦ false | string b ↦ false | vector b ↦ false ]
eqv_cells h (symbol b) d = false
eqv_cells h (string b) d =
    elim d [ plain t ↦ false | pair a e ↦ false | symbol c ↦ false | string c ↦ same (text_of h b) (text_of h c) | vector c ↦ false ]
eqv_cells h (vector b) d = false

unfoldable pub same_slot : Value → Value → Bool
same_slot (slot s) w = elim w [ slot t ↦ eqb s t | scalar x ↦ false ]
same_slot (scalar x) w = false

-- "true for the same slot; otherwise compare cells"
unfoldable pub eqv : Heap → Value → Value → Bool
unfolding same_slot eqv_cells
eqv h v w = either (same_slot v w) (eqv_cells h (shown h v) (shown h w))

-- ---- equal

-- what is asked: whether two values are `equal`; whether the pair walk from two slots on holds
pub data Goal : Type 0 where
  alike : Value → Value → Goal
  walks : ℕ → ℕ → Goal

-- one step: it fails, or it holds if all of these do
pub data Step : Type 0 where
  fails : Step
  needs : List Goal → Step

unfoldable pub holds_if : Bool → Step
holds_if true = needs []
holds_if false = fails

unfoldable pub element_by_element : List Value → List Value → List Goal
element_by_element [] ws = []
element_by_element (v ∷ vs) ws = elim ws [ [] ↦ [] | w ∷ ws ↦ alike v w ∷ element_by_element vs ws ]

unfoldable pub vectors_step : List Value → List Value → Step
unfolding element_by_element
vectors_step vs ws = elim (eqb (length vs) (length ws)) [ true ↦ needs (element_by_element vs ws) | false ↦ fails ]

-- two slots that are not `eqv`: "two pairs, by the pair walk; two vectors of one length, element by element; two strings
-- by content; else false" (two strings of like content are `eqv`)
unfoldable pub slots_step : Heap → ℕ → ℕ → Cell → Cell → Step
unfolding vectors_step
slots_step h s t (plain x) d = fails
slots_step h s t (pair a d) e =
    elim e [ plain x ↦ fails | pair b f ↦ needs (walks s t ∷ []) | symbol c ↦ fails | string c ↦ fails | vector c ↦ fails ]
slots_step h s t (symbol b) d = fails
slots_step h s t (string b) d = fails
slots_step h s t (vector b) d =
    elim d [
      | plain x ↦ fails
      | pair a e ↦ fails
      | symbol c ↦ fails
      | string c ↦ fails
      | vector c ↦ vectors_step (elements_of h b) (elements_of h c)
    ]

unfoldable pub unlike_step : Heap → Value → Value → Step
unfolding slots_step
unlike_step h (scalar x) w = fails
unlike_step h (slot s) w = elim w [ slot t ↦ slots_step h s t (cell_at h s) (cell_at h t) | scalar y ↦ fails ]

-- "the cars are `equal`; then, if both cdr cells are pairs, the same again; otherwise `eqv` of the two cells themselves"
unfoldable pub walk_step : Heap → Cell → Cell → Step
unfolding holds_if eqv_cells
walk_step h (plain x) d = holds_if (eqv_cells h (plain x) d)
walk_step h (pair a d) e =
    elim e [
      | plain x ↦ holds_if (eqv_cells h (pair a d) (plain x))
      | pair b f ↦ needs (alike (slot a) (slot b) ∷ walks d f ∷ [])
      | symbol c ↦ holds_if (eqv_cells h (pair a d) (symbol c))
      | string c ↦ holds_if (eqv_cells h (pair a d) (string c))
      | vector c ↦ holds_if (eqv_cells h (pair a d) (vector c))
    ]
walk_step h (symbol b) d = holds_if (eqv_cells h (symbol b) d)
walk_step h (string b) d = holds_if (eqv_cells h (string b) d)
walk_step h (vector b) d = holds_if (eqv_cells h (vector b) d)

-- "true if `eqv`"
unfoldable pub step : Heap → Goal → Step
unfolding eqv unlike_step walk_step
step h (alike v w) = elim (eqv h v w) [ true ↦ needs [] | false ↦ unlike_step h v w ]
step h (walks s t) = walk_step h (cell_at h s) (cell_at h t)

-- "a finite chain of such steps fails"
pub data Fails (h : Heap) : Goal → Type 0 where
  now : {g : Goal} → step h g ≡ fails → Fails h g
  later : {g : Goal} {gs : List Goal} {n : Goal} → step h g ≡ needs gs → Memᴰ n gs → Fails h n → Fails h g

-- "The answer is false exactly when a finite chain of such steps fails."
unfoldable pub Equal : Heap → Value → Value → Bool → Type 0
Equal h v w answer = (answer ≡ false) ↔ Fails h (alike v w)

-- ---- computing it on small data: every goal once

unfoldable pub goal_words : Goal → List ℕ
unfolding layout_rules
goal_words (alike v w) = 0 ∷ value_words v ++ value_words w
goal_words (walks s t) = 1 ∷ s ∷ t ∷ []

unfoldable pub same_goal : Goal → Goal → Bool
unfolding goal_words basics
same_goal g k = same (goal_words g) (goal_words k)

-- the goals met and those to do; none where the first number, a bound on the steps, was too small
unfoldable pub run : ℕ → Heap → List Goal → List Goal → Option Bool
unfolding same_goal step basics
run zero h met todo = none
run (suc n) h met [] = some true
run (suc n) h met (g ∷ todo) =
    elim (any (same_goal g) met) [
      | true ↦ run n h met todo
      | false ↦ elim (step h g) [ fails ↦ some false | needs gs ↦ run n h (g ∷ met) (gs ++ todo) ]
    ]

unfoldable pub equal_by : ℕ → Heap → Value → Value → Option Bool
unfolding run
equal_by n h v w = run n h [] (alike v w ∷ [])

unfoldable pub equal_rules : Unit {0}
unfolding eqv_scalars eqv_cells same_slot eqv holds_if element_by_element vectors_step slots_step unlike_step walk_step step Equal
    goal_words same_goal run equal_by
equal_rules = tt
