-- Finding a root with halving changes no root, not who is met, and no weight. Assumes nothing.
use mathlib.Core.Path.{◌≡◌, refl, sym, ap, ◌∙◌}
use mathlib.Core.Bool.{Bool, true, false}
use mathlib.Core.List.{List}
use Prim.Native.Nat.{ℕ, zero, suc, ◌+◌, ◌≤◌, ◌<◌}
use native.Mathlib.Omega.{arith}
use native.Mathlib.Decide.{ℕ_discrete}
use borrow.Author.Tests.{ltb-true, eqb-true, eqb-false}
use lib.Dec.{eqb}
use lib.ListN.{length, get_or, set, length-set}
use Rattle.laws.specs.Basics.{both}
use Rattle.leaf_classes.specs.Classes.{met, link, root_of, together, Rises, weight, Found, finding, halved, found, class_rules}
use Rattle.leaf_classes.proofs.Roots.{met_below, root_here, higher, root_up, regrouped, link_here, met_here, link_other, met_other, set-rises, set-weight, weight_linked}

-- the same classes in other links
pub record Regrouped (l l' : List ℕ) : Type 0 where
  pub size : length l' ≡ length l
  pub rising : Rises l'
  pub met_same : (y : ℕ) → met l' y ≡ met l y
  pub roots_same : (y : ℕ) → met l y ≡ true → root_of l' y ≡ root_of l y
  pub weight_same : weight l' ≡ weight l

pub regrouped_none : (l : List ℕ) → Rises l → Regrouped l l
regrouped_none l r =
    record { size = refl; rising = r; met_same = λ y. refl; roots_same = λ y m. refl; weight_same = refl }

pub regrouped_then : {a b c : List ℕ} → Regrouped a b → Regrouped b c → Regrouped a c
regrouped_then p q =
    record {
      size = q.size ∙ p.size;
      rising = q.rising;
      met_same = λ y. q.met_same y ∙ p.met_same y;
      roots_same = λ y m. q.roots_same y (p.met_same y ∙ m) ∙ p.roots_same y m;
      weight_same = q.weight_same ∙ p.weight_same;
    }

-- ---- one link

module _ (l : List ℕ) (rises : Rises l) (s : ℕ) (m : met l s ≡ true) where
  module _ (ne : link l s ≡ s → ⊥) where
    abbrev p : ℕ
    p = link l s

    abbrev l' : List ℕ
    l' = set l s (get_or l p 0)

    inside : s < length l
    inside = met_below l s m

    word_positive : 0 < get_or l p 0
    unfolding class_rules
    word_positive = ltb-true 0 (get_or l p 0) (rises.known s m)

    link_now : link l' s ≡ link l p
    unfolding class_rules
    link_now = link_here l s (get_or l p 0) inside

    above : s < link l p
    above = omega (arith, higher l rises s m ne, rises.up p (rises.known s m))

    met_now : (y : ℕ) → met l' y ≡ met l y
    met_now y =
        elim (ℕ_discrete y s) [
          | yes e ↦ ap (met l') e ∙ met_here l s (get_or l p 0) inside word_positive ∙ sym (ap (met l) e ∙ m)
          | no n ↦ met_other l s (get_or l p 0) inside y n
        ]

    rising_now : Rises l'
    unfolding class_rules
    rising_now =
        set-rises l s (get_or l p 0) inside rises word_positive (omega (arith, above)) (met_now (link l p) ∙ rises.known p (rises.known s m))

    ends_now : (y : ℕ) → met l y ≡ true → link l' y ≡ y → root_of l y ≡ y
    ends_now y my e =
        elim (ℕ_discrete y s) [
          | yes q ↦ absurd (omega (arith, above, sym link_now ∙ ap (link l') (sym q) ∙ e ∙ q))
          | no n ↦ root_here l y (sym (link_other l s (get_or l p 0) inside y n) ∙ e)
        ]

    passes_now : (y : ℕ) → met l y ≡ true → root_of l (link l' y) ≡ root_of l y
    passes_now y my =
        elim (ℕ_discrete y s) [
          | yes q ↦
              ap (root_of l) (ap (link l') q ∙ link_now)
              ∙ root_up l rises p (rises.known s m)
              ∙ root_up l rises s m
              ∙ ap (root_of l) (sym q)
          | no n ↦ ap (root_of l) (link_other l s (get_or l p 0) inside y n) ∙ root_up l rises y my
        ]

    inside_now : (y : ℕ) → met l y ≡ true → met l (link l' y) ≡ true
    inside_now y my = sym (met_now (link l' y)) ∙ rising_now.known y (met_now y ∙ my)

    weight_now : weight l' ≡ weight l
    weight_now =
        omega (
          arith,
          set-weight l s (get_or l p 0) inside,
          weight_linked l s m ne,
          weight_linked l' s (met_now s ∙ m) (λ e. omega (arith, above, sym link_now ∙ e)),
        )

    pub one_halved : Regrouped l l'
    one_halved =
        record {
          size = length-set l s (get_or l p 0);
          rising = rising_now;
          met_same = met_now;
          roots_same =
              regrouped l l' rises rising_now (λ x. x) (λ y my. met_now y ∙ my) inside_now ends_now passes_now;
          weight_same = weight_now;
        }

-- ---- to the root

-- what a search for the root is worth: the root, and the same classes
pub record Right (l : List ℕ) (s : ℕ) (f : Found) : Type 0 where
  pub root_right : f.root ≡ root_of l s
  pub links_right : Regrouped l f.links

abbrev Halves : ℕ → Type 0
Halves n = (l : List ℕ) (s : ℕ) → Rises l → met l s ≡ true → length l ≤ s + n → Right l s (halved n l s)

pub halved_right : (n : ℕ) → Halves n
unfolding class_rules
halved_right zero l s r m h = absurd (omega (arith, met_below l s m))
halved_right (suc n) l s r m h = at (halved_right n) (eqb (link l s) s) refl
  where
    at : Halves n → (b : Bool) → eqb (link l s) s ≡ b → Right l s (elim b as (λ _. Found) [ true ↦ finding l s | false ↦ halved n (set l s (get_or l (link l s) 0)) (link l (link l s)) ])
    at further true e = record { root_right = sym (root_here l s (eqb-true (link l s) s e)); links_right = regrouped_none l r }
    at further false e =
        let ne = eqb-false (link l s) s e in
        let g = one_halved l r s m ne in
        let k = r.known s m in
        let rest =
        further (set l s (get_or l (link l s) 0)) (link l (link l s)) g.rising
        (g.met_same (link l (link l s)) ∙ r.known (link l s) k)
        (omega (arith, g.size, higher l r s m ne, r.up (link l s) k)) in
        record {
          root_right =
              rest.root_right
              ∙ g.roots_same (link l (link l s)) (r.known (link l s) k)
              ∙ root_up l r (link l s) k
              ∙ root_up l r s m;
          links_right = regrouped_then g rest.links_right;
        }

pub found_right : (l : List ℕ) (s : ℕ) → Rises l → met l s ≡ true → Right l s (found l s)
unfolding found
found_right l s r m = halved_right (length l) l s r m (omega arith)

-- "together" looks at who is met and at the roots
pub regrouped_together : (l l' : List ℕ) → Regrouped l l' → (x y : ℕ) → together l' x y ≡ together l x y
unfolding together
regrouped_together l l' g x y =
    (λ i. both (g.met_same x i) (both (g.met_same y i) (eqb (root_of l' x) (root_of l' y))))
    ∙ at (met l x) refl (met l y) refl
  where
    at : (a : Bool) → met l x ≡ a → (b : Bool) → met l y ≡ b → both a (both b (eqb (root_of l' x) (root_of l' y))) ≡ both a (both b (eqb (root_of l x) (root_of l y)))
    at false p b q = refl
    at true p false q = refl
    at true p true q = λ i. eqb (g.roots_same x p i) (g.roots_same y q i)
