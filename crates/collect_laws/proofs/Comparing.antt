-- What is reached compares the same where every reached slot shows what it showed: `eqv` gives the same answer, each step of
-- `equal` is the same, and it asks only for what is reached again. Document 01, "Equality": "The answer is false exactly when a
-- finite chain of such steps fails." Assumes nothing.
use mathlib.Core.Path.{◌≡◌, refl, sym, ap, ◌∙◌, subst}
use mathlib.Core.Bool.{Bool, true, false}
use mathlib.Core.List.Memᴰ
use mathlib.Core.List.{List, [], ◌∷◌, Memᴰ}
use mathlib.Core.Logic.{◌↔◌, ⊎_elim}
use Prim.Native.Nat.{ℕ}
use native.Mathlib.Omega.{arith}
use lib.Dec.{eqb}
use lib.ListN.{length}
use Rattle.laws.specs.Basics.{either, same}
use Rattle.rules.specs.Cells.{Value, slot, Cell, plain, pair, symbol, string, vector}
use Rattle.rules.specs.Heap.{Heap, cell_at, shown}
use Rattle.rules.specs.Collect.{Reached, next}
use Rattle.rules.specs.Equal.{eqv_cells, same_slot, eqv, Goal, alike, walks, Step, fails, needs, holds_if, element_by_element, vectors_step, slots_step, unlike_step, walk_step, step, Fails, now, later, Equal}
use Rattle.collect_laws.specs.Kept.{AsBefore, same_scalar, same_pair, symbol_moved, string_moved, vector_moved, ReachedValue, no_slot, at_slot}
use Rattle.collect_laws.proofs.Reading.{ReachedValues, none_left, one_more, Led, pair_led, vector_led}

-- ---- goals about what is reached

pub data ReachedGoal (h : Heap) (roots : List ℕ) : Goal → Type 0 where
  both_values : {v w : Value} → ReachedValue h roots v → ReachedValue h roots w → ReachedGoal h roots (alike v w)
  both_slots : {s t : ℕ} → Reached h roots s → Reached h roots t → ReachedGoal h roots (walks s t)

-- all that a step needs is about what is reached
data StepLed (h : Heap) (roots : List ℕ) : Step → Type 0 where
  none_needed : StepLed h roots fails
  all_led : {gs : List Goal} → ((n : Goal) → Memᴰ n gs → ReachedGoal h roots n) → StepLed h roots (needs gs)

needs_led : (h : Heap) (roots : List ℕ) {x : Step} → StepLed h roots x → (gs : List Goal) → x ≡ needs gs → (n : Goal) → Memᴰ n gs → ReachedGoal h roots n
needs_led h roots none_needed gs e n m = let z : ◌≡◌ {A = ℕ} 0 1 = cc in absurd (omega arith)
needs_led h roots (all_led {gs = ks} p) gs e n m =
    let q : ks ≡ gs = cc in p n (subst (λ (l : List Goal). Memᴰ n l) (sym q) m)

module _ (h : Heap) (roots : List ℕ) where
  no_goals : (n : Goal) → Memᴰ n [] → ReachedGoal h roots n
  no_goals n m = absurd (Memᴰ.not-nil m)

  more_goals : {g : Goal} {gs : List Goal} → ReachedGoal h roots g → ((n : Goal) → Memᴰ n gs → ReachedGoal h roots n) → (n : Goal) → Memᴰ n (g ∷ gs) → ReachedGoal h roots n
  more_goals x p n m = ⊎_elim (λ q. subst (λ (g : Goal). ReachedGoal h roots g) (sym q) x) (λ q. p n q) (Memᴰ.cases_cons m)

  holds_led : (b : Bool) → StepLed h roots (holds_if b)
  unfolding holds_if
  holds_led true = all_led no_goals
  holds_led false = none_needed

  elements_led : {vs ws : List Value} → ReachedValues h roots vs → ReachedValues h roots ws → (n : Goal) → Memᴰ n (element_by_element vs ws) → ReachedGoal h roots n
  unfolding element_by_element
  elements_led none_left ys = no_goals
  elements_led (one_more x xs) none_left = no_goals
  elements_led (one_more x xs) (one_more y ys) = more_goals (both_values x y) (elements_led xs ys)

  vectors_led : {vs ws : List Value} → ReachedValues h roots vs → ReachedValues h roots ws → StepLed h roots (vectors_step vs ws)
  unfolding vectors_step
  vectors_led {vs} {ws} x y = by (eqb (length vs) (length ws))
    where
      by : (b : Bool) → StepLed h roots (elim b [ true ↦ needs (element_by_element vs ws) | false ↦ fails ])
      by true = all_led (elements_led x y)
      by false = none_needed

  slots_led : (s t : ℕ) → Reached h roots s → Reached h roots t → (c d : Cell) → Led h roots c → Led h roots d → StepLed h roots (slots_step h s t c d)
  unfolding slots_step
  slots_led s t x y (plain z) d p q = none_needed
  slots_led s t x y (pair a e) (plain z) p q = none_needed
  slots_led s t x y (pair a e) (pair b f) p q = all_led (more_goals (both_slots x y) no_goals)
  slots_led s t x y (pair a e) (symbol z) p q = none_needed
  slots_led s t x y (pair a e) (string z) p q = none_needed
  slots_led s t x y (pair a e) (vector z) p q = none_needed
  slots_led s t x y (symbol z) d p q = none_needed
  slots_led s t x y (string z) d p q = none_needed
  slots_led s t x y (vector b) (plain z) p q = none_needed
  slots_led s t x y (vector b) (pair a e) p q = none_needed
  slots_led s t x y (vector b) (symbol z) p q = none_needed
  slots_led s t x y (vector b) (string z) p q = none_needed
  slots_led s t x y (vector b) (vector c) p q = vectors_led (vector_led h roots b p) (vector_led h roots c q)

  slot_of : {s : ℕ} → ReachedValue h roots (slot s) → Reached h roots s
  slot_of (at_slot r) = r

  walk_led : (c d : Cell) → Led h roots c → Led h roots d → StepLed h roots (walk_step h c d)
  unfolding walk_step
  walk_led (plain z) d p q = holds_led (eqv_cells h (plain z) d)
  walk_led (pair a e) (plain z) p q = holds_led (eqv_cells h (pair a e) (plain z))
  walk_led (pair a e) (pair b f) p q =
      let x = pair_led h roots a e p in
      let y = pair_led h roots b f q in
      all_led (more_goals (both_values x.0 y.0) (more_goals (both_slots (slot_of x.1) (slot_of y.1)) no_goals))
  walk_led (pair a e) (symbol z) p q = holds_led (eqv_cells h (pair a e) (symbol z))
  walk_led (pair a e) (string z) p q = holds_led (eqv_cells h (pair a e) (string z))
  walk_led (pair a e) (vector z) p q = holds_led (eqv_cells h (pair a e) (vector z))
  walk_led (symbol z) d p q = holds_led (eqv_cells h (symbol z) d)
  walk_led (string z) d p q = holds_led (eqv_cells h (string z) d)
  walk_led (vector z) d p q = holds_led (eqv_cells h (vector z) d)

  unlike_led : {v w : Value} → ReachedValue h roots v → ReachedValue h roots w → StepLed h roots (unlike_step h v w)
  unfolding unlike_step
  unlike_led no_slot y = none_needed
  unlike_led (at_slot x) no_slot = none_needed
  unlike_led (at_slot {s} x) (at_slot {s = t} y) = slots_led s t x y (cell_at h s) (cell_at h t) (λ n m. next x m) (λ n m. next y m)

  step_led : {g : Goal} → ReachedGoal h roots g → StepLed h roots (step h g)
  unfolding step
  step_led (both_values {v} {w} x y) = by (eqv h v w)
    where
      by : (b : Bool) → StepLed h roots (elim b [ true ↦ needs [] | false ↦ unlike_step h v w ])
      by true = all_led no_goals
      by false = unlike_led x y
  step_led (both_slots {s} {t} x y) = walk_led (cell_at h s) (cell_at h t) (λ n m. next x m) (λ n m. next y m)

-- ---- the steps are the same

module _ (h k : Heap) where
  cells_eqv : {c c' d d' : Cell} → AsBefore h k c c' → AsBefore h k d d' → eqv_cells k c' d' ≡ eqv_cells h c d
  unfolding eqv_cells
  cells_eqv (same_scalar x) (same_scalar y) = refl
  cells_eqv (same_scalar x) (same_pair a d) = refl
  cells_eqv (same_scalar x) (symbol_moved b c n t) = refl
  cells_eqv (same_scalar x) (string_moved b c n t) = refl
  cells_eqv (same_scalar x) (vector_moved b c n t) = refl
  cells_eqv (same_pair a d) (same_scalar y) = refl
  cells_eqv (same_pair a d) (same_pair b e) = refl
  cells_eqv (same_pair a d) (symbol_moved b c n t) = refl
  cells_eqv (same_pair a d) (string_moved b c n t) = refl
  cells_eqv (same_pair a d) (vector_moved b c n t) = refl
  cells_eqv (symbol_moved b c n t) y = refl
  cells_eqv (string_moved b c n t) (same_scalar y) = refl
  cells_eqv (string_moved b c n t) (same_pair a d) = refl
  cells_eqv (string_moved b c n t) (symbol_moved e f m u) = refl
  cells_eqv (string_moved b c n t) (string_moved e f m u) = λ i. same (t i) (u i)
  cells_eqv (string_moved b c n t) (vector_moved e f m u) = refl
  cells_eqv (vector_moved b c n t) y = refl

  cells_slots_step : (s r : ℕ) {c c' d d' : Cell} → AsBefore h k c c' → AsBefore h k d d' → slots_step k s r c' d' ≡ slots_step h s r c d
  unfolding slots_step
  cells_slots_step s r (same_scalar x) y = refl
  cells_slots_step s r (same_pair a d) (same_scalar y) = refl
  cells_slots_step s r (same_pair a d) (same_pair b e) = refl
  cells_slots_step s r (same_pair a d) (symbol_moved b c n t) = refl
  cells_slots_step s r (same_pair a d) (string_moved b c n t) = refl
  cells_slots_step s r (same_pair a d) (vector_moved b c n t) = refl
  cells_slots_step s r (symbol_moved b c n t) y = refl
  cells_slots_step s r (string_moved b c n t) y = refl
  cells_slots_step s r (vector_moved b c n t) (same_scalar y) = refl
  cells_slots_step s r (vector_moved b c n t) (same_pair a d) = refl
  cells_slots_step s r (vector_moved b c n t) (symbol_moved e f m u) = refl
  cells_slots_step s r (vector_moved b c n t) (string_moved e f m u) = refl
  cells_slots_step s r (vector_moved b c n t) (vector_moved e f m u) = λ i. vectors_step (t i) (u i)

  cells_walk_step : {c c' d d' : Cell} → AsBefore h k c c' → AsBefore h k d d' → walk_step k c' d' ≡ walk_step h c d
  unfolding walk_step
  cells_walk_step (same_scalar x) y = ap holds_if (cells_eqv (same_scalar x) y)
  cells_walk_step (same_pair a d) (same_scalar y) = ap holds_if (cells_eqv (same_pair a d) (same_scalar y))
  cells_walk_step (same_pair a d) (same_pair b e) = refl
  cells_walk_step (same_pair a d) (symbol_moved b c n t) = ap holds_if (cells_eqv (same_pair a d) (symbol_moved b c n t))
  cells_walk_step (same_pair a d) (string_moved b c n t) = ap holds_if (cells_eqv (same_pair a d) (string_moved b c n t))
  cells_walk_step (same_pair a d) (vector_moved b c n t) = ap holds_if (cells_eqv (same_pair a d) (vector_moved b c n t))
  cells_walk_step (symbol_moved b c n t) y = ap holds_if (cells_eqv (symbol_moved b c n t) y)
  cells_walk_step (string_moved b c n t) y = ap holds_if (cells_eqv (string_moved b c n t) y)
  cells_walk_step (vector_moved b c n t) y = ap holds_if (cells_eqv (vector_moved b c n t) y)

module _ (h k : Heap) (roots : List ℕ) (stays : (s : ℕ) → Reached h roots s → AsBefore h k (cell_at h s) (cell_at k s)) where
  shows_same : {v : Value} → ReachedValue h roots v → AsBefore h k (shown h v) (shown k v)
  shows_same (no_slot {x}) = same_scalar x
  shows_same (at_slot {s} r) = stays s r

  pub same_eqv : {v w : Value} → ReachedValue h roots v → ReachedValue h roots w → eqv k v w ≡ eqv h v w
  unfolding eqv
  same_eqv {v} {w} x y = ap (either (same_slot v w)) (cells_eqv h k (shows_same x) (shows_same y))

  unlike_same : {v w : Value} → ReachedValue h roots v → ReachedValue h roots w → unlike_step k v w ≡ unlike_step h v w
  unfolding unlike_step
  unlike_same no_slot y = refl
  unlike_same (at_slot x) no_slot = refl
  unlike_same (at_slot {s} x) (at_slot {s = t} y) = cells_slots_step h k s t (stays s x) (stays t y)

  step_same : {g : Goal} → ReachedGoal h roots g → step k g ≡ step h g
  unfolding step
  step_same (both_values x y) = λ i. elim (same_eqv x y i) [ true ↦ needs [] | false ↦ unlike_same x y i ]
  step_same (both_slots {s} {t} x y) = cells_walk_step h k (stays s x) (stays t y)

  fails_after : {g : Goal} → ReachedGoal h roots g → Fails h g → Fails k g
  fails_after x (now e) = now (step_same x ∙ e)
  fails_after x (later {g} {gs} {n} e m f) =
      later (step_same x ∙ e) m (fails_after (needs_led h roots (step_led h roots x) gs e n m) f)

  fails_before : {g : Goal} → ReachedGoal h roots g → Fails k g → Fails h g
  fails_before x (now e) = now (sym (step_same x) ∙ e)
  fails_before x (later {g} {gs} {n} e m f) =
      let q = sym (step_same x) ∙ e in
      later q m (fails_before (needs_led h roots (step_led h roots x) gs q n m) f)

  pub same_equal : {v w : Value} → ReachedValue h roots v → ReachedValue h roots w → (b : Bool) → Equal k v w b ↔ Equal h v w b
  unfolding Equal
  same_equal x y b =
      let g = both_values x y in (
        λ p. (λ e. fails_before g (p.0 e), λ f. p.1 (fails_after g f)),
        λ p. (λ e. fails_after g (p.0 e), λ f. p.1 (fails_before g f)),
      )
