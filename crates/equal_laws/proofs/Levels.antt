-- What holds up to n steps: a chain fails exactly where some level does not hold, and each level is symmetric and transitive.
-- So `equal` is, and it is true of a slot with itself and of values that are `eqv`. Document 01, "Equality". Assumes nothing.
use mathlib.Core.Path.{◌≡◌, refl, sym, ap, ◌∙◌, subst}
use mathlib.Core.Bool.{Bool, true, false}
use mathlib.Core.List.{List, [], ◌∷◌, Memᴰ}
use mathlib.Core.Logic.{◌⊎◌, inl, inr, ⊎_elim}
use Prim.Native.Nat.{ℕ, zero, suc}
use native.Mathlib.Omega.{arith}
use borrow.Author.Tests.{eqb-true}
use lib.Dec.{eqb}
use lib.ListN.{length}
use Rattle.laws.specs.Basics.{both, every, basics}
use Rattle.laws.proofs.Tests.{true≢false, both_left, both_right, both_true}
use Rattle.rules.specs.Cells.{Block, Value, slot, scalar, Cell, plain, pair, symbol, string, vector, is_pair}
use Rattle.rules.specs.Heap.{Heap, cell_at, shown, elements_of}
use Rattle.rules.specs.Equal.{eqv_cells, eqv, Goal, alike, walks, Step, fails, needs, holds_if, element_by_element, slots_step, unlike_step, walk_step, step, Fails, now, later, Equal, equal_rules}
use Rattle.equal_laws.specs.Levels.{holds}
use Rattle.equal_laws.proofs.Steps.{step_eqv, step_unlike, unlike_slots, step_walks, one_length}
use Rattle.equal_laws.proofs.Eqv.{never, look, eqv_cells_look, eqv_cells_sym, eqv_cells_trans, pair_look, eqv_cases, slot_eqv, eqv_sym, eqv_trans}

-- ---- every, by its members

module _ {A : Type 0} (f : A → Bool) where
  pub every_member : (l : List A) → every f l ≡ true → (a : A) → Memᴰ a l → f a ≡ true
  unfolding basics
  every_member [] e a x'' = elim x'' [ ]
  every_member (x ∷ l) e a (Memᴰ.head p) = ap f p ∙ both_left (f x) _ e
  every_member (x ∷ l) e a (Memᴰ.tail m) = every_member l (both_right (f x) _ e) a m

  pub member_every : (l : List A) → ((a : A) → Memᴰ a l → f a ≡ true) → every f l ≡ true
  unfolding basics
  member_every [] p = refl
  member_every (x ∷ l) p = both_true (p x (Memᴰ.head refl)) (member_every l (λ a m. p a (Memᴰ.tail m)))

  -- one of the list does not pass
  record Failing (l : List A) : Type 0 where
    one : A
    among : Memᴰ one l
    not_passing : f one ≡ false

  every_false : (l : List A) → every f l ≡ false → Failing l
  unfolding basics
  every_false [] e = absurd (true≢false e)
  every_false (x ∷ l) e = go (λ e. every_false l e) (f x) refl e
    where
      go : (every f l ≡ false → Failing l) → (b : Bool) → f x ≡ b → both b (every f l) ≡ false → Failing (x ∷ l)
      go rest true p e =
          let r = rest e in
          record { one = r.one; among = Memᴰ.tail r.among; not_passing = r.not_passing }
      go rest false p e = record { one = x; among = Memᴰ.head refl; not_passing = p }

-- a test that holds or not
true_or_false : (b : Bool) → (b ≡ true) ⊎ (b ≡ false)
true_or_false true = inl refl
true_or_false false = inr refl

module _ (h : Heap) where
  -- ---- one level

  outcome : ℕ → Step → Bool
  unfolding basics
  outcome n fails = false
  outcome n (needs gs) = every (holds n h) gs

  by_step : (n : ℕ) (g : Goal) → holds (suc n) h g ≡ outcome n (step h g)
  unfolding holds outcome
  by_step n g = go (step h g)
    where
      go : (s : Step) → elim s as (λ x. Bool) [ fails ↦ false | needs gs ↦ every (holds n h) gs ] ≡ outcome n s
      go fails = refl
      go (needs gs) = refl

  -- a step's needs are what is asked one level below
  pub needs_hold : (n : ℕ) (g : Goal) (gs : List Goal) → step h g ≡ needs gs → every (holds n h) gs ≡ true → holds (suc n) h g ≡ true
  unfolding outcome
  needs_hold n g gs e all = by_step n g ∙ ap (outcome n) e ∙ all

  pub nothing_needed : (g : Goal) → step h g ≡ needs [] → (n : ℕ) → holds n h g ≡ true
  unfolding holds basics
  nothing_needed g e zero = refl
  nothing_needed g e (suc n) = needs_hold n g [] e refl

  -- ---- chains that fail

  pub fails_low : (g : Goal) → Fails h g → (n : ℕ) × (holds n h g ≡ false)
  unfolding outcome
  fails_low g (now e) = (1, by_step 0 g ∙ ap (outcome 0) e)
  fails_low g (later {gs = gs} {n = k} e among f) =
      let low = fails_low k f in (
        suc low.0,
        by_step low.0 g ∙ ap (outcome low.0) e
            ∙ ⊎_elim
            (λ all. absurd (true≢false (sym (every_member (holds low.0 h) gs all k among) ∙ low.1)))
            (λ some. some)
            (true_or_false (every (holds low.0 h) gs)),
      )

  pub low_fails : (n : ℕ) (g : Goal) → holds n h g ≡ false → Fails h g
  unfolding holds outcome
  low_fails zero g e = absurd (true≢false e)
  low_fails (suc n) g e = go (λ k e. low_fails n k e) (step h g) refl (sym (by_step n g) ∙ e)
    where
      go : ((k : Goal) → holds n h k ≡ false → Fails h k) → (s : Step) → step h g ≡ s → outcome n s ≡ false → Fails h g
      go below fails q e = now q
      go below (needs gs) q e =
          let r = every_false (holds n h) gs e in
          later q r.among (below r.one r.not_passing)

  -- ---- how two values hold, one level up

  pub data Alike (n : ℕ) : Value → Value → Type 0 where
    by_eqv : {v w : Value} → eqv h v w ≡ true → Alike n v w
    by_walk : {s t a d b f : ℕ} → cell_at h s ≡ pair a d → cell_at h t ≡ pair b f → holds n h (walks s t) ≡ true → Alike n (slot s) (slot t)
    by_elements : {s t : ℕ} {b c : Block} → cell_at h s ≡ vector b → cell_at h t ≡ vector c → length (elements_of h b) ≡ length (elements_of h c) → every (holds n h) (element_by_element (elements_of h b) (elements_of h c)) ≡ true → Alike n (slot s) (slot t)

  module _ (n : ℕ) where
    slots_view : (s t : ℕ) (c d : Cell) → cell_at h s ≡ c → cell_at h t ≡ d → outcome n (slots_step h s t c d) ≡ true → Alike n (slot s) (slot t)
    unfolding equal_rules outcome
    slots_view s t (plain x) d p q e = never e
    slots_view s t (pair a d) (plain x) p q e = never e
    slots_view s t (pair a d) (pair b f) p q e = by_walk p q (both_left (holds n h (walks s t)) _ e)
    slots_view s t (pair a d) (symbol b) p q e = never e
    slots_view s t (pair a d) (string b) p q e = never e
    slots_view s t (pair a d) (vector b) p q e = never e
    slots_view s t (symbol b) d p q e = never e
    slots_view s t (string b) d p q e = never e
    slots_view s t (vector b) (plain x) p q e = never e
    slots_view s t (vector b) (pair a d) p q e = never e
    slots_view s t (vector b) (symbol c) p q e = never e
    slots_view s t (vector b) (string c) p q e = never e
    slots_view s t (vector b) (vector c) p q e = go (eqb (length vs) (length ws)) refl e
      where
        vs : List Value
        vs = elements_of h b

        ws : List Value
        ws = elements_of h c

        go : (r : Bool) → eqb (length vs) (length ws) ≡ r → outcome n (elim r as (λ x. Step) [ true ↦ needs (element_by_element vs ws) | false ↦ fails ]) ≡ true → Alike n (slot s) (slot t)
        go true r e = by_elements p q (eqb-true (length vs) (length ws) r) e
        go false r e = never e

    unlike_view : (v w : Value) → outcome n (unlike_step h v w) ≡ true → Alike n v w
    unfolding equal_rules outcome
    unlike_view (scalar x) w e = never e
    unlike_view (slot s) (scalar y) e = never e
    unlike_view (slot s) (slot t) e = slots_view s t (cell_at h s) (cell_at h t) refl refl e

    pub alike_view : (v w : Value) → holds (suc n) h (alike v w) ≡ true → Alike n v w
    unfolding equal_rules outcome
    alike_view v w e = go (eqv h v w) refl (sym (by_step n (alike v w)) ∙ e)
      where
        go : (b : Bool) → eqv h v w ≡ b → outcome n (elim b as (λ x. Step) [ true ↦ needs [] | false ↦ unlike_step h v w ]) ≡ true → Alike n v w
        go true q e = by_eqv q
        go false q e = unlike_view v w e

    -- and back: each way makes it hold
    unless_eqv : (v w : Value) → outcome n (unlike_step h v w) ≡ true → holds (suc n) h (alike v w) ≡ true
    unfolding outcome basics
    unless_eqv v w e = go (eqv h v w) refl
      where
        go : (b : Bool) → eqv h v w ≡ b → holds (suc n) h (alike v w) ≡ true
        go true q = needs_hold n (alike v w) [] (step_eqv h v w q) refl
        go false q = by_step n (alike v w) ∙ ap (outcome n) (step_unlike h v w q) ∙ e

    slots_hold : (s t : ℕ) (c d : Cell) → cell_at h s ≡ c → cell_at h t ≡ d → outcome n (slots_step h s t c d) ≡ true → holds (suc n) h (alike (slot s) (slot t)) ≡ true
    slots_hold s t c d p q e = unless_eqv (slot s) (slot t) (ap (outcome n) (unlike_slots h s t c d p q) ∙ e)

    pub alike_holds : (v w : Value) → Alike n v w → holds (suc n) h (alike v w) ≡ true
    unfolding equal_rules outcome
    alike_holds v w (by_eqv e) = needs_hold n (alike v w) [] (step_eqv h v w e) refl
    alike_holds v w (by_walk {s = s} {t = t} {a = a} {d = d} {b = b} {f = f} p q e) =
        slots_hold s t (pair a d) (pair b f) p q (both_true e refl)
    alike_holds v w (by_elements {s = s} {t = t} {b = b} {c = c} p q l e) =
        slots_hold s t (vector b) (vector c) p q (ap (outcome n) (one_length (elements_of h b) (elements_of h c) l) ∙ e)

    -- ---- how a pair walk holds, one level up

    pub data Walks (s t : ℕ) : Type 0 where
      by_pairs : {a d b f : ℕ} → cell_at h s ≡ pair a d → cell_at h t ≡ pair b f → holds n h (alike (slot a) (slot b)) ≡ true → holds n h (walks d f) ≡ true → Walks s t
      at_end : is_pair (cell_at h s) ≡ false → eqv_cells h (cell_at h s) (cell_at h t) ≡ true → Walks s t

    ends_so : (b : Bool) → outcome n (holds_if b) ≡ true → b ≡ true
    unfolding equal_rules outcome
    ends_so true e = refl
    ends_so false e = never e

    cells_view : (s t : ℕ) (c d : Cell) → cell_at h s ≡ c → cell_at h t ≡ d → outcome n (walk_step h c d) ≡ true → Walks s t
    unfolding equal_rules outcome
    cells_view s t (plain x) d p q e = at_end (ap is_pair p) ((λ i. eqv_cells h (p i) (q i)) ∙ ends_so (eqv_cells h (plain x) d) e)
    cells_view s t (pair a d) (plain x) p q e = never e
    cells_view s t (pair a d) (pair b f) p q e =
        let r = both_right (holds n h (alike (slot a) (slot b))) _ e in
        by_pairs p q (both_left (holds n h (alike (slot a) (slot b))) _ e) (both_left (holds n h (walks d f)) _ r)
    cells_view s t (pair a d) (symbol b) p q e = never e
    cells_view s t (pair a d) (string b) p q e = never e
    cells_view s t (pair a d) (vector b) p q e = never e
    cells_view s t (symbol b) d p q e = never e
    cells_view s t (string b) d p q e = at_end (ap is_pair p) ((λ i. eqv_cells h (p i) (q i)) ∙ ends_so (eqv_cells h (string b) d) e)
    cells_view s t (vector b) d p q e = never e

    pub walks_view : (s t : ℕ) → holds (suc n) h (walks s t) ≡ true → Walks s t
    unfolding equal_rules
    walks_view s t e = cells_view s t (cell_at h s) (cell_at h t) refl refl (sym (by_step n (walks s t)) ∙ e)

    end_holds : (c d : Cell) → is_pair c ≡ false → eqv_cells h c d ≡ true → outcome n (walk_step h c d) ≡ true
    unfolding equal_rules outcome
    end_holds (plain x) d p e = ap (λ (b : Bool). outcome n (holds_if b)) e
    end_holds (pair a d) f p e = absurd (true≢false p)
    end_holds (symbol b) d p e = never e
    end_holds (string b) d p e = ap (λ (r : Bool). outcome n (holds_if r)) e
    end_holds (vector b) d p e = never e

    pub walks_hold : (s t : ℕ) → Walks s t → holds (suc n) h (walks s t) ≡ true
    unfolding equal_rules outcome
    walks_hold s t (by_pairs {a = a} {d = d} {b = b} {f = f} p q x y) =
        by_step n (walks s t) ∙ ap (outcome n) (step_walks h s t (pair a d) (pair b f) p q) ∙ both_true x (both_true y refl)
    walks_hold s t (at_end p e) = by_step n (walks s t) ∙ end_holds (cell_at h s) (cell_at h t) p e

  -- cells that are `eqv` are both pairs or neither is
  no_pair : (c d : Cell) → eqv_cells h c d ≡ true → is_pair c ≡ false → is_pair d ≡ false
  no_pair c d e p = go d refl
    where
      go : (x : Cell) → d ≡ x → is_pair d ≡ false
      go (plain x) q = ap is_pair q
      go (pair a f) q =
          absurd
          (true≢false
          (sym (ap is_pair (pair_look h c a f (eqv_cells_look h c d e ∙ ap (look h) q))) ∙ p))
      go (symbol b) q = ap is_pair q
      go (string b) q = ap is_pair q
      go (vector b) q = ap is_pair q

  -- ---- symmetry

  record Symmetric (n : ℕ) : Type 0 where
    for_alike : (v w : Value) → holds n h (alike v w) ≡ true → holds n h (alike w v) ≡ true
    for_walks : (s t : ℕ) → holds n h (walks s t) ≡ true → holds n h (walks t s) ≡ true

  elements_sym : (n : ℕ) → Symmetric n → (vs ws : List Value) → every (holds n h) (element_by_element vs ws) ≡ true → every (holds n h) (element_by_element ws vs) ≡ true
  unfolding equal_rules basics
  elements_sym n below [] [] e = refl
  elements_sym n below [] (w ∷ ws) e = refl
  elements_sym n below (v ∷ vs) [] e = refl
  elements_sym n below (v ∷ vs) (w ∷ ws) e =
      both_true (below.for_alike v w (both_left (holds n h (alike v w)) _ e))
      (elements_sym n below vs ws (both_right (holds n h (alike v w)) _ e))

  turned : (n : ℕ) → Symmetric n → (v w : Value) → Alike n v w → Alike n w v
  turned n below v w (by_eqv e) = by_eqv (eqv_sym h v w e)
  turned n below v w (by_walk {s = s} {t = t} p q e) = by_walk q p (below.for_walks s t e)
  turned n below v w (by_elements {b = b} {c = c} p q l e) =
      by_elements q p (sym l) (elements_sym n below (elements_of h b) (elements_of h c) e)

  turned_walk : (n : ℕ) → Symmetric n → (s t : ℕ) → Walks n s t → Walks n t s
  turned_walk n below s t (by_pairs {a = a} {d = d} {b = b} {f = f} p q x y) =
      by_pairs q p (below.for_alike (slot a) (slot b) x) (below.for_walks d f y)
  turned_walk n below s t (at_end p e) =
      at_end (no_pair (cell_at h s) (cell_at h t) e p) (eqv_cells_sym h (cell_at h s) (cell_at h t) e)

  symmetric : (n : ℕ) → Symmetric n
  unfolding holds
  symmetric zero = record { for_alike = λ v w e. refl; for_walks = λ s t e. refl }
  symmetric (suc n) =
      let below = symmetric n in
      record {
        for_alike = λ v w e. alike_holds n w v (turned n below v w (alike_view n v w e));
        for_walks = λ s t e. walks_hold n t s (turned_walk n below s t (walks_view n s t e));
      }

  pub alike_sym : (n : ℕ) (v w : Value) → holds n h (alike v w) ≡ true → holds n h (alike w v) ≡ true
  alike_sym n = (symmetric n).for_alike

  pub walks_sym : (n s t : ℕ) → holds n h (walks s t) ≡ true → holds n h (walks t s) ≡ true
  walks_sym n = (symmetric n).for_walks

  -- ---- transitivity

  same_walk : (n : ℕ) (s r t : ℕ) → cell_at h s ≡ cell_at h r → holds n h (walks s t) ≡ true → holds n h (walks r t) ≡ true
  unfolding holds equal_rules
  same_walk zero s r t p e = refl
  same_walk (suc n) s r t p e =
      by_step n (walks r t)
      ∙ ap (outcome n) (step_walks h r t (cell_at h s) (cell_at h t) (sym p) refl)
      ∙ sym (by_step n (walks s t)) ∙ e

  -- only a pair is `eqv` to a pair, and only a vector's own slot to it
  module _ (s t : ℕ) where
    eqv_pair : (n : ℕ) (u : Value) {a d b f : ℕ} → eqv h u (slot s) ≡ true → cell_at h s ≡ pair a d → cell_at h t ≡ pair b f → holds n h (walks s t) ≡ true → Alike n u (slot t)
    eqv_pair n u {a} {d} {b} {f} e p q x =
        ⊎_elim (λ same. subst (λ (y : Value). Alike n y (slot t)) (sym same) (by_walk p q x))
        (λ cells. go u (pair_look h (shown h u) a d (eqv_cells_look h (shown h u) (cell_at h s) cells ∙ ap (look h) p)))
        (eqv_cases h u (slot s) e)
      where
        go : (u : Value) → shown h u ≡ pair a d → Alike n u (slot t)
        go (scalar y) c = absurd (let z : ◌≡◌ {A = ℕ} 0 1 = cc in omega arith)
        go (slot r) c = by_walk c q (same_walk n s r t (p ∙ sym c) x)

    eqv_vector : (u : Value) {b : Block} → eqv h u (slot s) ≡ true → cell_at h s ≡ vector b → u ≡ slot s
    unfolding equal_rules
    eqv_vector u {b} e p =
        ⊎_elim (λ same. same)
        (λ cells.
        never
        (sym (ap (λ (c : Cell). eqv_cells h c (shown h u)) p) ∙ eqv_cells_sym h (shown h u) (cell_at h s) cells))
        (eqv_cases h u (slot s) e)

  eqv_then : (n : ℕ) (u v w : Value) → eqv h u v ≡ true → Alike n v w → Alike n u w
  eqv_then n u v w e (by_eqv f) = by_eqv (eqv_trans h u v w e f)
  eqv_then n u v w e (by_walk {s = s} {t = t} p q x) = eqv_pair s t n u e p q x
  eqv_then n u v w e (by_elements {s = s} {t = t} p q l x) =
      subst (λ (y : Value). Alike n y (slot t)) (sym (eqv_vector s t u e p)) (by_elements p q l x)

  then_eqv : (n : ℕ) (u v w : Value) → Alike n u v → eqv h v w ≡ true → Alike n u w
  then_eqv n u v w x e =
      turned n (symmetric n) w u (eqv_then n w v u (eqv_sym h v w e) (turned n (symmetric n) u v x))

  record Transitive (n : ℕ) : Type 0 where
    for_alike : (u v w : Value) → holds n h (alike u v) ≡ true → holds n h (alike v w) ≡ true → holds n h (alike u w) ≡ true
    for_walks : (r s t : ℕ) → holds n h (walks r s) ≡ true → holds n h (walks s t) ≡ true → holds n h (walks r t) ≡ true

  elements_trans : (n : ℕ) → Transitive n → (us vs ws : List Value) → length us ≡ length vs → every (holds n h) (element_by_element us vs) ≡ true → every (holds n h) (element_by_element vs ws) ≡ true → every (holds n h) (element_by_element us ws) ≡ true
  unfolding equal_rules basics
  elements_trans n below [] vs ws l e f = refl
  elements_trans n below (u ∷ us) [] ws l e f = absurd (omega arith)
  elements_trans n below (u ∷ us) (v ∷ vs) [] l e f = refl
  elements_trans n below (u ∷ us) (v ∷ vs) (w ∷ ws) l e f =
      both_true
      (below.for_alike u v w (both_left (holds n h (alike u v)) _ e) (both_left (holds n h (alike v w)) _ f))
      (elements_trans n below us vs ws (omega arith) (both_right (holds n h (alike u v)) _ e) (both_right (holds n h (alike v w)) _ f))

  module _ (n : ℕ) (below : Transitive n) where
    chained : (u v w : Value) → Alike n u v → Alike n v w → Alike n u w
    chained u v w (by_eqv e) y = eqv_then n u v w e y
    chained u v w (by_walk p q x) (by_eqv e) = then_eqv n u v w (by_walk p q x) e
    chained u v w (by_walk {s = r} {t = s} p q x) (by_walk {t = t} p' q' y) =
        by_walk p q' (below.for_walks r s t x y)
    chained u v w (by_walk p q x) (by_elements p' q' l y) =
        absurd (let z : ◌≡◌ {A = ℕ} 0 1 = cc (q, p') in omega arith)
    chained u v w (by_elements p q l x) (by_eqv e) = then_eqv n u v w (by_elements p q l x) e
    chained u v w (by_elements p q l x) (by_walk p' q' y) =
        absurd (let z : ◌≡◌ {A = ℕ} 0 1 = cc (q, p') in omega arith)
    chained u v w (by_elements {b = b} {c = c} p q l x) (by_elements {b = c'} {c = d} p' q' l' y) =
        let same : c' ≡ c = cc (q, p') in
        by_elements p q' (l ∙ ap (λ (k : Block). length (elements_of h k)) (sym same) ∙ l')
        (elements_trans n below (elements_of h b) (elements_of h c) (elements_of h d) l x
        (ap (λ (k : Block). every (holds n h) (element_by_element (elements_of h k) (elements_of h d))) (sym same) ∙ y))

    chained_walk : (r s t : ℕ) → Walks n r s → Walks n s t → Walks n r t
    chained_walk r s t (by_pairs {a = a} {d = d} {b = b} {f = f} p q x y) (by_pairs {a = b'} {d = f'} {b = c} {f = g} p' q' x' y') =
        let cars : b ≡ b' = cc (q, p') in
        let cdrs : f ≡ f' = cc (q, p') in
        by_pairs p q'
        (below.for_alike (slot a) (slot b) (slot c) x (ap (λ (k : ℕ). holds n h (alike (slot k) (slot c))) cars ∙ x'))
        (below.for_walks d f g y (ap (λ (k : ℕ). holds n h (walks k g)) cdrs ∙ y'))
    chained_walk r s t (by_pairs p q x y) (at_end p' e) = absurd (true≢false (sym (ap is_pair q) ∙ p'))
    chained_walk r s t (at_end p e) (by_pairs p' q' x y) =
        absurd (true≢false (sym (ap is_pair p') ∙ no_pair (cell_at h r) (cell_at h s) e p))
    chained_walk r s t (at_end p e) (at_end p' f) =
        at_end p (eqv_cells_trans h (cell_at h r) (cell_at h s) (cell_at h t) e f)

  transitive : (n : ℕ) → Transitive n
  unfolding holds
  transitive zero = record { for_alike = λ u v w e f. refl; for_walks = λ r s t e f. refl }
  transitive (suc n) =
      let below = transitive n in
      record {
        for_alike = λ u v w e f. alike_holds n u w (chained n below u v w (alike_view n u v e) (alike_view n v w f));
        for_walks = λ r s t e f. walks_hold n r t (chained_walk n below r s t (walks_view n r s e) (walks_view n s t f));
      }

  pub alike_trans : (n : ℕ) (u v w : Value) → holds n h (alike u v) ≡ true → holds n h (alike v w) ≡ true → holds n h (alike u w) ≡ true
  alike_trans n = (transitive n).for_alike

  pub walks_trans : (n r s t : ℕ) → holds n h (walks r s) ≡ true → holds n h (walks s t) ≡ true → holds n h (walks r t) ≡ true
  walks_trans n = (transitive n).for_walks

  -- ---- values that are `eqv`

  pub eqv_holds : (n : ℕ) (v w : Value) → eqv h v w ≡ true → holds n h (alike v w) ≡ true
  unfolding holds
  eqv_holds zero v w e = refl
  eqv_holds (suc n) v w e = alike_holds n v w (by_eqv e)

  pub same_alike : (n s : ℕ) → holds n h (alike (slot s) (slot s)) ≡ true
  same_alike n s = eqv_holds n (slot s) (slot s) (slot_eqv h s)

  -- ---- `equal`

  -- what holds at every level fails by no chain
  pub all_holds : (g : Goal) → ((n : ℕ) → holds n h g ≡ true) → Fails h g → ⊥
  all_holds g all f = let low = fails_low g f in true≢false (sym (all low.0) ∙ low.1)

  pub equal_holds : (v w : Value) → Equal h v w true → (n : ℕ) → holds n h (alike v w) ≡ true
  unfolding equal_rules
  equal_holds v w e n =
      ⊎_elim (λ p. p) (λ p. absurd (true≢false (e.1 (low_fails n (alike v w) p))))
      (true_or_false (holds n h (alike v w)))

  pub holds_equal : (v w : Value) → ((n : ℕ) → holds n h (alike v w) ≡ true) → Equal h v w true
  unfolding equal_rules
  holds_equal v w all = (λ p. absurd (true≢false p), λ f. absurd (all_holds (alike v w) all f))

  pub eqv_equal : (v w : Value) → eqv h v w ≡ true → Equal h v w true
  eqv_equal v w e = holds_equal v w (λ n. eqv_holds n v w e)

  pub equal_same : (s : ℕ) → Equal h (slot s) (slot s) true
  equal_same s = eqv_equal (slot s) (slot s) (slot_eqv h s)

  fails_sym : (v w : Value) → Fails h (alike v w) → Fails h (alike w v)
  fails_sym v w f =
      let low = fails_low (alike v w) f in
      ⊎_elim (λ e. absurd (true≢false (sym (alike_sym low.0 w v e) ∙ low.1))) (λ e. low_fails low.0 (alike w v) e)
      (true_or_false (holds low.0 h (alike w v)))

  pub equal_sym : (v w : Value) (b : Bool) → Equal h v w b → Equal h w v b
  unfolding equal_rules
  equal_sym v w b e = (λ p. fails_sym v w (e.0 p), λ f. e.1 (fails_sym w v f))

  -- there is one answer
  pub equal_one : (v w : Value) (a b : Bool) → Equal h v w a → Equal h v w b → a ≡ b
  unfolding equal_rules
  equal_one v w a b e f = go a b (λ p. f.1 (e.0 p)) (λ p. e.1 (f.0 p))
    where
      go : (a b : Bool) → (a ≡ false → b ≡ false) → (b ≡ false → a ≡ false) → a ≡ b
      go true true p q = refl
      go true false p q = q refl
      go false b p q = sym (p refl)
