-- The way to the root, turn by turn: what was to find is what is left to find. Assumes nothing.
use mathlib.Core.Path.{◌≡◌, refl, sym, ap, ◌∙◌, subst}
use mathlib.Core.Bool.{Bool, true, false, not}
use mathlib.Core.List.{List}
use Prim.Native.Nat.{ℕ, zero, suc, ◌+◌, ◌-◌, ◌≤◌, ◌<◌}
use native.Mathlib.Omega.{arith}
use borrow.Author.Tests.{ltb-true, eq-eqb, ne_eqb}
use lib.ListN.{length, get_or, set}
use Rattle.leaf_classes.specs.Classes.{met, link, Rises, Found, finding, halved, Finds, meeting, class_rules}
use Rattle.leaf_classes.proofs.Roots.{met_below, higher}
use Rattle.leaf_classes.proofs.Finding.{Regrouped, one_halved}

pub record Walking (l₀ : List ℕ) (s : ℕ) (l : List ℕ) (x p : ℕ) : Type 0 where
  pub size : length l ≡ length l₀
  pub rising : Rises l
  pub here : met l x ≡ true
  pub next : p ≡ link l x
  pub fuel : ℕ
  pub enough : length l ≤ x + fuel
  pub left : halved (length l₀) l₀ s ≡ halved fuel l x

-- a met slot's word says where its link is
module _ (l : List ℕ) (x : ℕ) (m : met l x ≡ true) where
  pub word_positive : 0 < get_or l x 0
  unfolding class_rules
  word_positive = ltb-true 0 (get_or l x 0) m

  pub slot_inside : x < length l
  slot_inside = met_below l x m

pub begins : (l : List ℕ) (s : ℕ) → Rises l → met l s ≡ true → Walking l s l s (get_or l s 0 - 1)
unfolding class_rules
begins l s r m =
    record { size = refl; rising = r; here = m; next = refl; fuel = length l; enough = omega arith; left = refl }

module _ (l₀ : List ℕ) (s : ℕ) (l : List ℕ) (x p : ℕ) (way : Walking l₀ s l x p) where
  pub next_met : met l p ≡ true
  next_met = ap (met l) way.next ∙ way.rising.known x way.here

  pub next_inside : p < length l
  next_inside = met_below l p next_met

  module _ (on : p ≡ x → ⊥) where
    no_root : link l x ≡ x → ⊥
    no_root e = on (way.next ∙ e)

    shorter : Regrouped l (set l x (get_or l (link l x) 0))
    shorter = one_halved l way.rising x way.here no_root

    abbrev l' : List ℕ
    l' = set l x (get_or l p 0)

    l'-is : l' ≡ set l x (get_or l (link l x) 0)
    l'-is = ap (λ (q : ℕ). set l x (get_or l q 0)) way.next

    further_met : met l (get_or l p 0 - 1) ≡ true
    unfolding class_rules
    further_met = way.rising.known p next_met

    pub further : x < get_or l p 0 - 1
    unfolding class_rules
    further =
        omega (arith, higher l way.rising x way.here no_root, sym way.next, way.rising.up p next_met)

    pub further_inside : get_or l p 0 - 1 < length l
    further_inside = met_below l (get_or l p 0 - 1) further_met

    now_met : met l' (get_or l p 0 - 1) ≡ true
    now_met = ap (λ (k : List ℕ). met k (get_or l p 0 - 1)) l'-is ∙ shorter.met_same (get_or l p 0 - 1) ∙ further_met

    pub further_word : 0 < get_or l' (get_or l p 0 - 1) 0
    further_word = word_positive l' (get_or l p 0 - 1) now_met

    one_turn : (n : ℕ) → length l ≤ x + n → (m : ℕ) → n ≡ m → halved n l x ≡ halved (m - 1) l' (get_or l p 0 - 1)
    unfolding class_rules
    one_turn zero h m e = absurd (omega (arith, met_below l x way.here))
    one_turn (suc n) h m e =
        ap (λ (t : Bool). elim t as (λ _. Found) [ true ↦ finding l x | false ↦ halved n (set l x (get_or l (link l x) 0)) (link l (link l x)) ])
        (ne_eqb (link l x) x no_root)
        ∙ sym (λ i. halved n (l'-is i) (link l (way.next i)))
        ∙ ap (λ (k : ℕ). halved k l' (get_or l p 0 - 1)) (let q : n ≡ m - 1 = omega arith in q)

    pub goes_on : Walking l₀ s l' (get_or l p 0 - 1) (get_or l' (get_or l p 0 - 1) 0 - 1)
    unfolding link
    goes_on =
        record {
          size = ap length l'-is ∙ shorter.size ∙ way.size;
          rising = subst (λ (k : List ℕ). Rises k) (sym l'-is) shorter.rising;
          here = now_met;
          next = refl;
          fuel = way.fuel - 1;
          enough = omega (arith, ap length l'-is, shorter.size, way.enough, further);
          left = way.left ∙ one_turn way.fuel way.enough way.fuel refl;
        }

  pub ends : p ≡ x → Finds l₀ s l x
  unfolding class_rules
  ends e =
      let q = way.left ∙ done way.fuel in
      record { root_is = sym (ap (λ (f : Found). f.root) q); links_are = sym (ap (λ (f : Found). f.links) q) }
    where
      done : (n : ℕ) → halved n l x ≡ finding l x
      done zero = refl
      done (suc n) =
          ap (λ (t : Bool). elim t as (λ _. Found) [ true ↦ finding l x | false ↦ halved n (set l x (get_or l (link l x) 0)) (link l (link l x)) ])
          (eq-eqb (link l x) x (sym way.next ∙ e))

-- ---- a slot met

module _ (l : List ℕ) (s : ℕ) where
  abbrev pub Meeting : Bool → List ℕ → Type 0
  Meeting r l' = (r ≡ not (met l s)) × (l' ≡ meeting l s)
