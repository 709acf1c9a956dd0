-- Links that rise end at a root. What a change of one word does to who is met, to the roots and to the weight. Assumes nothing.
use mathlib.Core.Path.{◌≡◌, refl, sym, ap, ◌∙◌}
use mathlib.Core.Bool.{Bool, true, false}
use mathlib.Core.List.{List}
use Prim.Native.Nat.{ℕ, zero, suc, ◌+◌, ◌*◌, ◌-◌, ◌≤◌, ◌<◌}
use native.Mathlib.Omega.{arith}
use native.Mathlib.Decide.{ℕ_discrete}
use borrow.Author.Tests.{ltb-true, ltb-false, lt-ltb, eq-eqb, ne_eqb}
use lib.Dec.{eqb, ltb}
use lib.ListN.{length, get_or, set, length-set, get_or-eq_default}
use lib.Seq.{get_or-set_same, get_or-set_other}
use Rattle.laws.specs.Basics.{choose}
use Rattle.laws.proofs.Sums.{sum_below}
use Rattle.leaf_classes.specs.Classes.{met, link, follow, root_of, Rises, slot_weight, weight, class_rules}

-- ---- following links

module _ (l : List ℕ) where
  pub met_below : (s : ℕ) → met l s ≡ true → s < length l
  unfolding class_rules
  met_below s m = at (ltb s (length l)) refl
    where
      at : (b : Bool) → ltb s (length l) ≡ b → s < length l
      at true e = ltb-true s (length l) e
      at false e = absurd (omega (arith, ltb-true 0 (get_or l s 0) m, get_or-eq_default l 0 (ltb-false s (length l) e)))

  follow_last : (n s : ℕ) → follow (suc n) l s ≡ link l (follow n l s)
  unfolding class_rules
  follow_last zero s = refl
  follow_last (suc n) s = follow_last n (link l s)

  stays : (n s : ℕ) → link l s ≡ s → follow n l s ≡ s
  unfolding class_rules
  stays zero s e = refl
  stays (suc n) s e = ap (follow n l) e ∙ stays n s e

  pub root_here : (s : ℕ) → link l s ≡ s → root_of l s ≡ s
  unfolding class_rules
  root_here s e = stays (length l) s e

  module _ (rises : Rises l) where
    -- a slot that is no root links higher
    pub higher : (s : ℕ) → met l s ≡ true → (link l s ≡ s → ⊥) → s < link l s
    higher s m ne = at (ltb s (link l s)) refl
      where
        at : (b : Bool) → ltb s (link l s) ≡ b → s < link l s
        at true e = ltb-true s (link l s) e
        at false e = absurd (ne (omega (arith, ltb-false s (link l s) e, rises.up s m)))

    fixed : (n s : ℕ) → met l s ≡ true → length l ≤ s + n → link l (follow n l s) ≡ follow n l s
    unfolding class_rules
    fixed zero s m h = absurd (omega (arith, met_below s m))
    fixed (suc n) s m h =
        elim (ℕ_discrete (link l s) s) [
          | yes e ↦ let q = stays (suc n) s e in ap (link l) q ∙ e ∙ sym q
          | no ne ↦ fixed n (link l s) (rises.known s m) (omega (arith, higher s m ne))
        ]

    module _ (s : ℕ) (m : met l s ≡ true) where
      pub root_fixed : link l (root_of l s) ≡ root_of l s
      unfolding class_rules
      root_fixed = fixed (length l) s m (omega arith)

      pub root_up : root_of l (link l s) ≡ root_of l s
      unfolding class_rules
      root_up = follow_last (length l) s ∙ root_fixed

    followed_met : (n s : ℕ) → met l s ≡ true → met l (follow n l s) ≡ true
    unfolding class_rules
    followed_met zero s m = m
    followed_met (suc n) s m = followed_met n (link l s) (rises.known s m)

    pub root_met : (s : ℕ) → met l s ≡ true → met l (root_of l s) ≡ true
    unfolding class_rules
    root_met s m = followed_met (length l) s m

-- ---- two lists whose links differ

-- the roots of the second are those of the first through f, if each of its links keeps the class
module _ (l l' : List ℕ) (rises : Rises l) (rises' : Rises l') (f : ℕ → ℕ)
    (kept : (y : ℕ) → met l y ≡ true → met l' y ≡ true)
    (inside : (y : ℕ) → met l y ≡ true → met l (link l' y) ≡ true)
    (ends : (y : ℕ) → met l y ≡ true → link l' y ≡ y → f (root_of l y) ≡ y)
    (passes : (y : ℕ) → met l y ≡ true → f (root_of l (link l' y)) ≡ f (root_of l y)) where
  regrouped_by : (n y : ℕ) → met l y ≡ true → length l' ≤ y + n → root_of l' y ≡ f (root_of l y)
  regrouped_by zero y m h = absurd (omega (arith, met_below l' y (kept y m)))
  regrouped_by (suc n) y m h =
      elim (ℕ_discrete (link l' y) y) [
        | yes e ↦ root_here l' y e ∙ sym (ends y m e)
        | no ne ↦
            sym (root_up l' rises' y (kept y m))
            ∙ regrouped_by n (link l' y) (inside y m) (omega (arith, higher l' rises' y (kept y m) ne))
            ∙ passes y m
      ]

  pub regrouped : (y : ℕ) → met l y ≡ true → root_of l' y ≡ f (root_of l y)
  regrouped y m = regrouped_by (length l') y m (omega arith)

-- ---- one word changed

-- two sums that differ in one term
sum_change : (f g : ℕ → ℕ) (s : ℕ) → ((k : ℕ) → (k ≡ s → ⊥) → f k ≡ g k) → (n : ℕ) → s < n → sum_below n f + g s ≡ sum_below n g + f s
unfolding sum_below
sum_change f g s same zero h = absurd (omega arith)
sum_change f g s same (suc n) h =
    elim (ℕ_discrete n s) [
      | yes e ↦ omega (arith, ap f e, ap g e, below n (omega arith))
      | no ne ↦ omega (arith, same n ne, sum_change f g s same n (omega arith))
    ]
  where
    below : (m : ℕ) → m ≤ s → sum_below m f ≡ sum_below m g
    below zero h = refl
    below (suc m) h = omega (arith, same m (λ e. omega arith), below m (omega arith))

module _ (l : List ℕ) (s w : ℕ) (inside : s < length l) where
  word_here : get_or (set l s w) s 0 ≡ w
  word_here = get_or-set_same l s w 0 inside

  word_other : (y : ℕ) → (y ≡ s → ⊥) → get_or (set l s w) y 0 ≡ get_or l y 0
  word_other y ne = get_or-set_other l s y w 0 ne

  pub link_here : link (set l s w) s ≡ w - 1
  unfolding class_rules
  link_here = ap (λ (x : ℕ). x - 1) word_here

  pub met_here : 0 < w → met (set l s w) s ≡ true
  unfolding class_rules
  met_here p = lt-ltb 0 (get_or (set l s w) s 0) (omega (arith, word_here))

  pub link_other : (y : ℕ) → (y ≡ s → ⊥) → link (set l s w) y ≡ link l y
  unfolding class_rules
  link_other y ne = ap (λ (x : ℕ). x - 1) (word_other y ne)

  pub met_other : (y : ℕ) → (y ≡ s → ⊥) → met (set l s w) y ≡ met l y
  unfolding class_rules
  met_other y ne = ap (λ (x : ℕ). ltb 0 x) (word_other y ne)

  pub set-rises : Rises l → 0 < w → s ≤ w - 1 → met (set l s w) (w - 1) ≡ true → Rises (set l s w)
  set-rises r p u k = record { up = up_at; known = known_at }
    where
      up_at : (y : ℕ) → met (set l s w) y ≡ true → y ≤ link (set l s w) y
      up_at y m =
          elim (ℕ_discrete y s) [
            | yes e ↦ omega (arith, ap (link (set l s w)) e, link_here)
            | no ne ↦ omega (arith, link_other y ne, r.up y (sym (met_other y ne) ∙ m))
          ]

      known_at : (y : ℕ) → met (set l s w) y ≡ true → met (set l s w) (link (set l s w) y) ≡ true
      known_at y m =
          elim (ℕ_discrete y s) [
            | yes e ↦ ap (met (set l s w)) (ap (link (set l s w)) e ∙ link_here) ∙ k
            | no ne ↦ ap (met (set l s w)) (link_other y ne) ∙ still (link l y) (r.known y (sym (met_other y ne) ∙ m))
          ]
        where
          still : (z : ℕ) → met l z ≡ true → met (set l s w) z ≡ true
          still z m =
              elim (ℕ_discrete z s) [
                | yes e ↦ ap (met (set l s w)) e ∙ met_here p
                | no ne ↦ met_other z ne ∙ m
              ]

  pub set-weight : weight (set l s w) + slot_weight l s ≡ weight l + slot_weight (set l s w) s
  unfolding class_rules
  set-weight =
      ap (λ (n : ℕ). sum_below n (slot_weight (set l s w)) + slot_weight l s) (length-set l s w)
      ∙ sum_change (slot_weight (set l s w)) (slot_weight l) s same (length l) inside
    where
      same : (k : ℕ) → (k ≡ s → ⊥) → slot_weight (set l s w) k ≡ slot_weight l k
      same k ne = ap (λ (x : ℕ). choose (ltb 0 x) (choose (eqb (x - 1) k) 1 2) 0) (word_other k ne)

-- ---- the weight of one slot

module _ (l : List ℕ) (s : ℕ) where
  pub weight_unmet : met l s ≡ false → slot_weight l s ≡ 0
  unfolding slot_weight
  weight_unmet m = ap (λ (b : Bool). choose b (choose (eqb (link l s) s) 1 2) 0) m

  pub weight_root : met l s ≡ true → link l s ≡ s → slot_weight l s ≡ 1
  unfolding slot_weight
  weight_root m e =
      ap (λ (b : Bool). choose b (choose (eqb (link l s) s) 1 2) 0) m
      ∙ ap (λ (b : Bool). choose b 1 2) (eq-eqb (link l s) s e)

  pub weight_linked : met l s ≡ true → (link l s ≡ s → ⊥) → slot_weight l s ≡ 2
  unfolding slot_weight
  weight_linked m ne =
      ap (λ (b : Bool). choose b (choose (eqb (link l s) s) 1 2) 0) m
      ∙ ap (λ (b : Bool). choose b 1 2) (ne_eqb (link l s) s ne)

  most : slot_weight l s ≤ 2
  unfolding slot_weight
  most = at (met l s) (eqb (link l s) s)
    where
      at : (a b : Bool) → choose a (choose b 1 2) 0 ≤ 2
      at true true = omega arith
      at true false = omega arith
      at false b = omega arith

pub weight_most : (l : List ℕ) → weight l ≤ 2 * length l
unfolding weight sum_below
weight_most l = upto (length l)
  where
    upto : (n : ℕ) → sum_below n (slot_weight l) ≤ 2 * n
    upto zero = omega arith
    upto (suc n) = omega (arith, upto n, most l n)
