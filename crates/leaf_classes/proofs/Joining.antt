-- The steps of a join, one after the other, come to `joined`. Assumes nothing.
use mathlib.Core.Path.{◌≡◌, sym, ap, ◌∙◌, subst}
use mathlib.Core.Bool.{Bool, true, not}
use mathlib.Core.List.{List}
use Prim.Native.Nat.{ℕ, ◌+◌, ◌<◌, min, max}
use native.Mathlib.Omega.{arith}
use native.Mathlib.Decide.{dec_lt}
use borrow.Author.Tests.{lt-ltb, le-ltb, eq-eqb, ne_eqb}
use lib.Dec.{eqb, ltb}
use lib.ListN.{length, set}
use Rattle.laws.specs.Basics.{choose}
use Rattle.leaf_classes.specs.Classes.{met, Rises, Found, found, Finds, meeting, tied, joined, Joins}
use Rattle.leaf_classes.proofs.Classes.{first_ready, second_ready, roots_inside}
use Rattle.leaf_classes.proofs.Ways.{Meeting}

module _ (l : List ℕ) (s t : ℕ) (pre : Rises l × ((s < length l) × (t < length l)))
    (r₁ : Bool) (l₁ : List ℕ) (e₁ : Meeting l s r₁ l₁)
    (r₂ : Bool) (l₂ : List ℕ) (e₂ : Meeting l₁ t r₂ l₂) where
  l₂_is : l₂ ≡ meeting (meeting l s) t
  l₂_is = e₂.1 ∙ ap (λ (k : List ℕ). meeting k t) e₁.1

  pub first_asks : Rises l₂ × (met l₂ s ≡ true)
  first_asks =
      subst (λ (k : List ℕ). Rises k × (met k s ≡ true)) (sym l₂_is) (first_ready l pre.0 s t pre.1.0 pre.1.1)

  module _ (l₃ : List ℕ) (a : ℕ) (e₃ : Finds l₂ s l₃ a) where
    a_is : a ≡ (found (meeting (meeting l s) t) s).root
    a_is = e₃.root_is ∙ ap (λ (k : List ℕ). (found k s).root) l₂_is

    l₃_is : l₃ ≡ (found (meeting (meeting l s) t) s).links
    l₃_is = e₃.links_are ∙ ap (λ (k : List ℕ). (found k s).links) l₂_is

    pub second_asks : Rises l₃ × (met l₃ t ≡ true)
    second_asks =
        subst (λ (k : List ℕ). Rises k × (met k t ≡ true)) (sym l₃_is) (second_ready l pre.0 s t pre.1.0 pre.1.1)

    module _ (l₄ : List ℕ) (b : ℕ) (e₄ : Finds l₃ t l₄ b) where
      abbrev g : Found
      g = found (found (meeting (meeting l s) t) s).links t

      b_is : b ≡ g.root
      b_is = e₄.root_is ∙ ap (λ (k : List ℕ). (found k t).root) l₃_is

      l₄_is : l₄ ≡ g.links
      l₄_is = e₄.links_are ∙ ap (λ (k : List ℕ). (found k t).links) l₃_is

      pub both_inside : (a < length l) × (b < length l)
      both_inside =
          let q = roots_inside l pre.0 s t pre.1.0 pre.1.1 in
          (omega (arith, q.0, a_is), omega (arith, q.1, b_is))

      -- an answer and links that are those of `joined`, told by a, b and the list after both searches
      come_to : (r : Bool) (l' : List ℕ) → r ≡ choose (eqb a b) (not (met l s)) true → l' ≡ tied l₄ a b → Joins l s t l' r
      unfolding joined
      come_to r l' p q =
          record {
            answer_is = p ∙ (λ i. choose (eqb (a_is i) (b_is i)) (not (met l s)) true);
            links_are = q ∙ (λ i. tied (l₄_is i) (a_is i) (b_is i));
          }

      pub one_class : a ≡ b → Joins l s t l₄ r₁
      unfolding tied
      one_class e =
          let t' = sym (eq-eqb a b e) in
          come_to r₁ l₄ (e₁.0 ∙ ap (λ (v : Bool). choose v (not (met l s)) true) t')
          (ap (λ (v : Bool). choose v l₄ (choose (ltb a b) (set l₄ a (b + 1)) (set l₄ b (a + 1)))) t')

      module _ (ne : a ≡ b → ⊥) where
        two_classes : (l' : List ℕ) → l' ≡ choose (ltb a b) (set l₄ a (b + 1)) (set l₄ b (a + 1)) → Joins l s t l' true
        unfolding tied
        two_classes l' q =
            let t' = sym (ne_eqb a b ne) in
            come_to true l' (ap (λ (v : Bool). choose v (not (met l s)) true) t')
            (q ∙ ap (λ (v : Bool). choose v l₄ (choose (ltb a b) (set l₄ a (b + 1)) (set l₄ b (a + 1)))) t')

        -- the lower one to the higher
        pub linked : (low high : ℕ) → low ≡ min a b → high ≡ max a b → Joins l s t (set l₄ low (high + 1)) true
        linked low high p q =
            let choice = λ (v : Bool). choose v (set l₄ a (b + 1)) (set l₄ b (a + 1)) in
            two_classes (set l₄ low (high + 1)) (elim (dec_lt a b) [
              | yes h ↦
                  let x : low ≡ a = omega arith in
                  let y : high ≡ b = omega arith in
                  (λ i. set l₄ (x i) (y i + 1)) ∙ ap choice (sym (lt-ltb a b h))
              | no h ↦
                  let x : low ≡ b = omega arith in
                  let y : high ≡ a = omega arith in
                  (λ i. set l₄ (x i) (y i + 1)) ∙ ap choice (sym (le-ltb a b (omega arith)))
            ])
