-- What joining two slots does to the classes: the two are together, and nothing else follows but what must; a join that says
-- that they were together already changes no class, another raises the weight. Assumes nothing.
use mathlib.Core.Path.{◌≡◌, refl, sym, ap, ◌∙◌, subst}
use mathlib.Core.Bool.{Bool, true, false, not}
use mathlib.Core.List.{List}
use mathlib.Core.Logic.{◌⊎◌, inl, inr, ⊎_elim}
use Prim.Native.Nat.{ℕ, ◌+◌, ◌-◌, ◌≤◌, ◌<◌}
use native.Mathlib.Omega.{arith}
use native.Mathlib.Decide.{ℕ_discrete}
use borrow.Author.Tests.{ltb-true, ltb-false, eqb-true, eq-eqb, ne_eqb}
use lib.Dec.{eqb, ltb}
use lib.ListN.{length, get_or, set, length-set}
use Rattle.laws.specs.Basics.{choose, zeros}
use Rattle.laws.proofs.Tests.{true≢false, both_left, both_right, both_true}
use Rattle.laws.proofs.Lists.{get_or_zeros}
use Rattle.equal_laws.specs.Runs.{Widened}
use Rattle.leaf_classes.specs.Classes.{met, link, root_of, together, Together, Rises, weight, found, meeting, tied, joined}
use Rattle.leaf_classes.proofs.Roots.{met_below, root_here, root_up, root_met, root_fixed, regrouped, link_here, met_here, link_other, met_other, set-rises, set-weight, weight_unmet, weight_root, weight_linked}
use Rattle.leaf_classes.proofs.Finding.{Regrouped, regrouped_then, Right, found_right, regrouped_together}

-- ---- together

module _ (l : List ℕ) where
  pub together_parts : (x y : ℕ) → together l x y ≡ true → (met l x ≡ true) × ((met l y ≡ true) × (root_of l x ≡ root_of l y))
  unfolding together
  together_parts x y e =
      let e' = both_right (met l x) _ e in
      (both_left (met l x) _ e, (both_left (met l y) _ e', eqb-true (root_of l x) (root_of l y) (both_right (met l y) _ e')))

  pub made_together : (x y : ℕ) → met l x ≡ true → met l y ≡ true → root_of l x ≡ root_of l y → together l x y ≡ true
  unfolding together
  made_together x y p q e = both_true p (both_true q (eq-eqb (root_of l x) (root_of l y) e))

-- ---- nothing met

module _ (n : ℕ) where
  unmet_zeros : (s : ℕ) → met (zeros n) s ≡ true → ⊥
  unfolding met
  unmet_zeros s m = omega (arith, ltb-true 0 (get_or (zeros n) s 0) m, get_or_zeros n s)

  pub zeros_rise : Rises (zeros n)
  zeros_rise = record { up = λ s m. absurd (unmet_zeros s m); known = λ s m. absurd (unmet_zeros s m) }

  pub zeros_apart : (x y : ℕ) → together (zeros n) x y ≡ true → ⊥
  zeros_apart x y e = unmet_zeros x (together_parts (zeros n) x y e).0

-- ---- a slot met

-- a slot is met now: the classes that were stay, and it is alone if it was not met
record Meets (l : List ℕ) (s : ℕ) (m : List ℕ) : Type 0 where
  size : length m ≡ length l
  rising : Rises m
  here : met m s ≡ true
  kept : (y : ℕ) → met l y ≡ true → met m y ≡ true
  roots : (y : ℕ) → met l y ≡ true → root_of m y ≡ root_of l y
  least : (x y : ℕ) → together m x y ≡ true → (together l x y ≡ true) ⊎ ((x ≡ s) × (y ≡ s))
  weight_kept : weight l ≤ weight m
  weight_more : met l s ≡ false → weight l + 1 ≤ weight m

module _ (l : List ℕ) (rises : Rises l) (s : ℕ) (inside : s < length l) where
  module _ (unmet : met l s ≡ false) where
    abbrev m : List ℕ
    m = set l s (s + 1)

    met_now : met m s ≡ true
    met_now = met_here l s (s + 1) inside (omega arith)

    link_now : link m s ≡ s
    link_now = link_here l s (s + 1) inside ∙ omega arith

    kept_now : (y : ℕ) → met l y ≡ true → met m y ≡ true
    kept_now y my =
        elim (ℕ_discrete y s)
        [ yes e ↦ ap (met m) e ∙ met_now | no ne ↦ met_other l s (s + 1) inside y ne ∙ my ]

    old : (y : ℕ) → met l y ≡ true → y ≡ s → ⊥
    old y my e = true≢false (sym my ∙ ap (met l) e ∙ unmet)

    rising_now : Rises m
    rising_now =
        set-rises l s (s + 1) inside rises (omega arith) (omega arith)
        (ap (met m) (let e : s + 1 - 1 ≡ s = omega arith in e) ∙ met_now)

    old_link : (y : ℕ) → met l y ≡ true → link m y ≡ link l y
    old_link y my = link_other l s (s + 1) inside y (old y my)

    roots_now : (y : ℕ) → met l y ≡ true → root_of m y ≡ root_of l y
    roots_now =
        regrouped l m rises rising_now (λ x. x) kept_now (λ y my. ap (met l) (old_link y my) ∙ rises.known y my)
        (λ y my e. root_here l y (sym (old_link y my) ∙ e))
        (λ y my. ap (root_of l) (old_link y my) ∙ root_up l rises y my)

    others_now : (y : ℕ) → met m y ≡ true → (met l y ≡ true) ⊎ (y ≡ s)
    others_now y my =
        elim (ℕ_discrete y s) [ yes e ↦ inr e | no ne ↦ inl (sym (met_other l s (s + 1) inside y ne) ∙ my) ]

    alone_now : root_of m s ≡ s
    alone_now = root_here m s link_now

    -- the root of a slot that was met was met
    strangers : (y : ℕ) → met l y ≡ true → root_of m y ≡ root_of m s → ⊥
    strangers y my e =
        true≢false (sym (root_met l rises y my) ∙ ap (met l) (sym (roots_now y my) ∙ e ∙ alone_now) ∙ unmet)

    least_now : (x y : ℕ) → together m x y ≡ true → (together l x y ≡ true) ⊎ ((x ≡ s) × (y ≡ s))
    least_now x y e =
        let q = together_parts m x y e in
        ⊎_elim
        (λ mx.
        ⊎_elim
        (λ my. inl (made_together l x y mx my (sym (roots_now x mx) ∙ q.1.1 ∙ roots_now y my)))
        (λ ys. absurd (strangers x mx (q.1.1 ∙ ap (root_of m) ys)))
        (others_now y q.1.0))
        (λ xs.
        ⊎_elim
        (λ my. absurd (strangers y my (sym q.1.1 ∙ ap (root_of m) xs)))
        (λ ys. inr (xs, ys))
        (others_now y q.1.0))
        (others_now x q.0)

    weight_now : weight l + 1 ≤ weight m
    weight_now =
        omega (arith, set-weight l s (s + 1) inside, weight_unmet l s unmet, weight_root m s met_now link_now)

    met_new : Meets l s m
    met_new =
        record {
          size = length-set l s (s + 1);
          rising = rising_now;
          here = met_now;
          kept = kept_now;
          roots = roots_now;
          least = least_now;
          weight_kept = omega (arith, weight_now);
          weight_more = λ _. weight_now;
        }

  met_old : met l s ≡ true → Meets l s l
  met_old m =
      record {
        size = refl;
        rising = rises;
        here = m;
        kept = λ y my. my;
        roots = λ y my. refl;
        least = λ x y e. inl e;
        weight_kept = omega arith;
        weight_more = λ u. absurd (true≢false (sym m ∙ u));
      }

  meets : Meets l s (meeting l s)
  unfolding meeting
  meets = at (met l s) refl
    where
      at : (b : Bool) → met l s ≡ b → Meets l s (choose b l (set l s (s + 1)))
      at true e = met_old e
      at false e = met_new e

-- ---- two roots tied

-- the classes of two roots are one now
record Ties (l : List ℕ) (a b : ℕ) (l' : List ℕ) : Type 0 where
  size : length l' ≡ length l
  rising : Rises l'
  kept : (x y : ℕ) → together l x y ≡ true → together l' x y ≡ true
  adds : together l' a b ≡ true
  least : (x y : ℕ) → together l' x y ≡ true → (together l x y ≡ true) ⊎ (((together l x a ≡ true) × (together l b y ≡ true)) ⊎ ((together l x b ≡ true) × (together l a y ≡ true)))
  weight_more : weight l + 1 ≤ weight l'

module _ (l : List ℕ) (rises : Rises l) (a b : ℕ) (ma : met l a ≡ true) (mb : met l b ≡ true) (ra : link l a ≡ a) (rb : link l b ≡ b) (lower : a < b) where
  abbrev up_to : List ℕ
  up_to = set l a (b + 1)

  -- a's class has b's root now
  moved : ℕ → ℕ
  moved r = choose (eqb r a) b r

  moved_a : (r : ℕ) → r ≡ a → moved r ≡ b
  unfolding moved
  moved_a r e = ap (λ (t : Bool). choose t b r) (eq-eqb r a e)

  moved_not : (r : ℕ) → (r ≡ a → ⊥) → moved r ≡ r
  unfolding moved
  moved_not r ne = ap (λ (t : Bool). choose t b r) (ne_eqb r a ne)

  a_inside : a < length l
  a_inside = met_below l a ma

  tied_link : link up_to a ≡ b
  tied_link = link_here l a (b + 1) a_inside ∙ omega arith

  tied_met : (y : ℕ) → met up_to y ≡ met l y
  tied_met y =
      elim (ℕ_discrete y a) [
        | yes e ↦ ap (met up_to) e ∙ met_here l a (b + 1) a_inside (omega arith) ∙ sym (ap (met l) e ∙ ma)
        | no ne ↦ met_other l a (b + 1) a_inside y ne
      ]

  tied_rises : Rises up_to
  tied_rises =
      set-rises l a (b + 1) a_inside rises (omega arith) (omega arith)
      (ap (met up_to) (let e : b + 1 - 1 ≡ b = omega arith in e) ∙ tied_met b ∙ mb)

  root_a : root_of l a ≡ a
  root_a = root_here l a ra

  root_b : root_of l b ≡ b
  root_b = root_here l b rb

  tied_ends : (y : ℕ) → met l y ≡ true → link up_to y ≡ y → moved (root_of l y) ≡ y
  tied_ends y my e =
      elim (ℕ_discrete y a) [
        | yes q ↦ absurd (omega (arith, sym tied_link ∙ ap (link up_to) (sym q) ∙ e ∙ q))
        | no ne ↦
            let r = root_here l y (sym (link_other l a (b + 1) a_inside y ne) ∙ e) in ap moved r ∙ moved_not y ne
      ]

  tied_passes : (y : ℕ) → met l y ≡ true → moved (root_of l (link up_to y)) ≡ moved (root_of l y)
  tied_passes y my =
      elim (ℕ_discrete y a) [
        | yes q ↦
            ap (λ (z : ℕ). moved (root_of l z)) (ap (link up_to) q ∙ tied_link)
            ∙ ap moved root_b
            ∙ moved_not b (λ e. omega arith)
            ∙ sym (moved_a (root_of l y) (ap (root_of l) q ∙ root_a))
        | no ne ↦
            ap moved (ap (root_of l) (link_other l a (b + 1) a_inside y ne) ∙ root_up l rises y my)
      ]

  tied_roots : (y : ℕ) → met l y ≡ true → root_of up_to y ≡ moved (root_of l y)
  tied_roots =
      regrouped l up_to rises tied_rises moved (λ y my. tied_met y ∙ my)
      (λ y my. sym (tied_met (link up_to y)) ∙ tied_rises.known y (tied_met y ∙ my))
      tied_ends
      tied_passes

  tied_least : (x y : ℕ) → together up_to x y ≡ true → (together l x y ≡ true) ⊎ (((together l x a ≡ true) × (together l b y ≡ true)) ⊎ ((together l x b ≡ true) × (together l a y ≡ true)))
  tied_least x y e =
      let q = together_parts up_to x y e in
      let mx = sym (tied_met x) ∙ q.0 in
      let my = sym (tied_met y) ∙ q.1.0 in
      let r = sym (tied_roots x mx) ∙ q.1.1 ∙ tied_roots y my in
      elim (ℕ_discrete (root_of l x) a) [
        | yes p ↦
            elim (ℕ_discrete (root_of l y) a) [
              | yes p' ↦ inl (made_together l x y mx my (p ∙ sym p'))
              | no n' ↦
                  inr
                  (inl (
                    made_together l x a mx ma (p ∙ sym root_a),
                    made_together l b y mb my (root_b ∙ sym (moved_a (root_of l x) p) ∙ r ∙ moved_not (root_of l y) n'),
                  ))
            ]
        | no n ↦
            elim (ℕ_discrete (root_of l y) a) [
              | yes p' ↦
                  inr
                  (inr (
                    made_together l x b mx mb (sym (moved_not (root_of l x) n) ∙ r ∙ moved_a (root_of l y) p' ∙ sym root_b),
                    made_together l a y ma my (root_a ∙ sym p'),
                  ))
              | no n' ↦
                  inl (made_together l x y mx my (sym (moved_not (root_of l x) n) ∙ r ∙ moved_not (root_of l y) n'))
            ]
      ]

  tied_kept : (x y : ℕ) → together l x y ≡ true → together up_to x y ≡ true
  tied_kept x y e =
      let q = together_parts l x y e in
      made_together up_to x y (tied_met x ∙ q.0) (tied_met y ∙ q.1.0)
      (tied_roots x q.0 ∙ ap moved q.1.1 ∙ sym (tied_roots y q.1.0))

  ties_up : Ties l a b up_to
  ties_up =
      record {
        size = length-set l a (b + 1);
        rising = tied_rises;
        kept = tied_kept;
        adds =
            made_together up_to a b (tied_met a ∙ ma) (tied_met b ∙ mb)
            (tied_roots a ma
            ∙ moved_a (root_of l a) root_a
            ∙ sym (tied_roots b mb ∙ ap moved root_b ∙ moved_not b (λ e. omega arith)));
        least = tied_least;
        weight_more =
            omega (
              arith,
              set-weight l a (b + 1) a_inside,
              weight_root l a ma ra,
              weight_linked up_to a (tied_met a ∙ ma) (λ e. omega (arith, sym tied_link ∙ e)),
            );
      }

together_sym : (l : List ℕ) (x y : ℕ) → together l x y ≡ true → together l y x ≡ true
together_sym l x y e = let q = together_parts l x y e in made_together l y x q.1.0 q.0 (sym q.1.1)

ties_back : (l : List ℕ) (a b : ℕ) (l' : List ℕ) → Ties l b a l' → Ties l a b l'
ties_back l a b l' t =
    record {
      size = t.size;
      rising = t.rising;
      kept = t.kept;
      adds = together_sym l' b a t.adds;
      least = λ x y e. ⊎_elim (λ p. inl p) (⊎_elim (λ p. inr (inr p)) (λ p. inr (inl p))) (t.least x y e);
      weight_more = t.weight_more;
    }

module _ (l : List ℕ) (rises : Rises l) (a b : ℕ) (ma : met l a ≡ true) (mb : met l b ≡ true) (ra : link l a ≡ a) (rb : link l b ≡ b) where
  ties : (a ≡ b → ⊥) → Ties l a b (tied l a b)
  unfolding tied
  ties ne =
      subst (λ (t : Bool). Ties l a b (choose t l (choose (ltb a b) (set l a (b + 1)) (set l b (a + 1))))) (sym (ne_eqb a b ne))
      (at (ltb a b) refl)
    where
      at : (t : Bool) → ltb a b ≡ t → Ties l a b (choose t (set l a (b + 1)) (set l b (a + 1)))
      at true e = ties_up l rises a b ma mb ra rb (ltb-true a b e)
      at false e = ties_back l a b _ (ties_up l rises b a mb ma rb ra (less (ltb b a) refl))
        where
          less : (u : Bool) → ltb b a ≡ u → b < a
          less true e' = ltb-true b a e'
          less false e' = absurd (ne (omega (arith, ltb-false a b e, ltb-false b a e')))

tied_same : (l : List ℕ) (a b : ℕ) → a ≡ b → tied l a b ≡ l
unfolding tied
tied_same l a b e = ap (λ (t : Bool). choose t l (choose (ltb a b) (set l a (b + 1)) (set l b (a + 1)))) (eq-eqb a b e)

-- ---- joining

-- what a join keeps always
pub record Keeps (l l' : List ℕ) : Type 0 where
  pub size : length l' ≡ length l
  pub rising : Rises l'

module _ (l : List ℕ) (rises : Rises l) (s t : ℕ) (s_inside : s < length l) (t_inside : t < length l) where
  abbrev m₁ : List ℕ
  m₁ = meeting l s

  abbrev m₂ : List ℕ
  m₂ = meeting m₁ t

  first_met : Meets l s m₁
  first_met = meets l rises s s_inside

  second_met : Meets m₁ t m₂
  second_met = meets m₁ first_met.rising t (omega (arith, first_met.size))

  s_met : met m₂ s ≡ true
  s_met = second_met.kept s first_met.here

  t_met : met m₂ t ≡ true
  t_met = second_met.here

  first_found : Right m₂ s (found m₂ s)
  first_found = found_right m₂ s second_met.rising s_met

  abbrev g₁ : List ℕ
  g₁ = (found m₂ s).links

  second_found : Right g₁ t (found g₁ t)
  second_found = found_right g₁ t first_found.links_right.rising (first_found.links_right.met_same t ∙ t_met)

  abbrev g₂ : List ℕ
  g₂ = (found g₁ t).links

  all_found : Regrouped m₂ g₂
  all_found = regrouped_then first_found.links_right second_found.links_right

  abbrev a : ℕ
  a = (found m₂ s).root

  abbrev b : ℕ
  b = (found g₁ t).root

  a_is : a ≡ root_of m₂ s
  a_is = first_found.root_right

  b_is : b ≡ root_of m₂ t
  b_is = second_found.root_right ∙ first_found.links_right.roots_same t t_met

  g_roots : (y : ℕ) → met m₂ y ≡ true → root_of g₂ y ≡ root_of m₂ y
  g_roots = all_found.roots_same

  g_met : (y : ℕ) → met m₂ y ≡ true → met g₂ y ≡ true
  g_met y m = all_found.met_same y ∙ m

  -- a root of the lists with s and t met is one after the search
  root_stays : (y r : ℕ) → met m₂ y ≡ true → r ≡ root_of m₂ y → (met g₂ r ≡ true) × (link g₂ r ≡ r)
  root_stays y r m e =
      let q : r ≡ root_of g₂ y = e ∙ sym (g_roots y m) in (
        ap (met g₂) q ∙ root_met g₂ all_found.rising y (g_met y m),
        ap (link g₂) q ∙ root_fixed g₂ all_found.rising y (g_met y m) ∙ sym q,
      )

  a_root : (met g₂ a ≡ true) × (link g₂ a ≡ a)
  a_root = root_stays s a s_met a_is

  b_root : (met g₂ b ≡ true) × (link g₂ b ≡ b)
  b_root = root_stays t b t_met b_is

  s_with_a : together g₂ s a ≡ true
  s_with_a = made_together g₂ s a (g_met s s_met) a_root.0 (g_roots s s_met ∙ sym a_is ∙ sym (root_here g₂ a a_root.1))

  t_with_b : together g₂ t b ≡ true
  t_with_b = made_together g₂ t b (g_met t t_met) b_root.0 (g_roots t t_met ∙ sym b_is ∙ sym (root_here g₂ b b_root.1))

  together_after : (x y : ℕ) → together g₂ x y ≡ together m₂ x y
  together_after = regrouped_together m₂ g₂ all_found

  -- what was together still is
  kept_so_far : (x y : ℕ) → together l x y ≡ true → together g₂ x y ≡ true
  kept_so_far x y e =
      let q = together_parts l x y e in
      let mx = first_met.kept x q.0 in
      let my = first_met.kept y q.1.0 in
      together_after x y
      ∙ made_together m₂ x y (second_met.kept x mx) (second_met.kept y my)
      (second_met.roots x mx
      ∙ first_met.roots x q.0
      ∙ q.1.1
      ∙ sym (first_met.roots y q.1.0)
      ∙ sym (second_met.roots y my))

  -- what is together now was, or is s or t with itself
  least_so_far : (Q : ℕ → ℕ → Type 0) → ((x y : ℕ) → together l x y ≡ true → Q x y) → Q s s → Q t t → (x y : ℕ) → together g₂ x y ≡ true → Q x y
  least_so_far Q was qs qt x y e =
      ⊎_elim
      (λ p.
      ⊎_elim (was x y) (λ xy. subst (λ (z : ℕ). Q x z) (sym xy.1) (subst (λ (z : ℕ). Q z s) (sym xy.0) qs))
      (first_met.least x y p))
      (λ xy. subst (λ (z : ℕ). Q x z) (sym xy.1) (subst (λ (z : ℕ). Q z t) (sym xy.0) qt))
      (second_met.least x y (sym (together_after x y) ∙ e))

  weight_so_far : weight l ≤ weight g₂
  weight_so_far = omega (arith, first_met.weight_kept, second_met.weight_kept, all_found.weight_same)

  module _ (one : a ≡ b) where
    roots_one : root_of m₂ s ≡ root_of m₂ t
    roots_one = sym a_is ∙ one ∙ b_is

    same_links : (joined l s t).links ≡ g₂
    unfolding joined
    same_links = tied_same g₂ a b one

    answer_fresh : (joined l s t).widened ≡ not (met l s)
    unfolding joined
    answer_fresh = ap (λ (v : Bool). choose v (not (met l s)) true) (eq-eqb a b one)

  module _ (two : a ≡ b → ⊥) where
    all_tied : Ties g₂ a b (tied g₂ a b)
    all_tied = ties g₂ all_found.rising a b a_root.0 b_root.0 a_root.1 b_root.1 two

    tied_links : (joined l s t).links ≡ tied g₂ a b
    unfolding joined
    tied_links = refl

    answer_yes : (joined l s t).widened ≡ true
    unfolding joined
    answer_yes = ap (λ (v : Bool). choose v (not (met l s)) true) (ne_eqb a b two)

  -- what the two searches ask, and that the roots are slots of the list
  pub first_ready : Rises m₂ × (met m₂ s ≡ true)
  first_ready = (second_met.rising, s_met)

  pub second_ready : Rises g₁ × (met g₁ t ≡ true)
  second_ready = (first_found.links_right.rising, first_found.links_right.met_same t ∙ t_met)

  pub roots_inside : (a < length l) × (b < length l)
  roots_inside =
      let e : length g₂ ≡ length l = all_found.size ∙ second_met.size ∙ first_met.size in
      (omega (arith, met_below g₂ a a_root.0, e), omega (arith, met_below g₂ b b_root.0, e))

  g_size : length g₂ ≡ length l
  g_size = all_found.size ∙ second_met.size ∙ first_met.size

  pub join_keeps : Keeps l (joined l s t).links
  join_keeps =
      elim (ℕ_discrete a b) [
        | yes e ↦ subst (λ (k : List ℕ). Keeps l k) (sym (same_links e)) (record { size = g_size; rising = all_found.rising })
        | no ne ↦
            subst (λ (k : List ℕ). Keeps l k) (sym (tied_links ne))
            (record { size = (all_tied ne).size ∙ g_size; rising = (all_tied ne).rising })
      ]

  -- "if s and t are both met with one root": they were together, and all is as before
  module _ (refused : (joined l s t).widened ≡ false) where
    one_root : a ≡ b
    one_root = elim (ℕ_discrete a b) [ yes e ↦ e | no ne ↦ absurd (true≢false (sym (answer_yes ne) ∙ refused)) ]

    s_was_met : met l s ≡ true
    s_was_met = at (met l s) refl
      where
        at : (v : Bool) → met l s ≡ v → v ≡ true
        at true e = refl
        at false e = sym refused ∙ answer_fresh one_root ∙ ap not e

    pub join_no : together l s t ≡ true
    join_no =
        ⊎_elim (λ e. e)
        (λ st. made_together l s t s_was_met (ap (met l) (st.1 ∙ sym st.0) ∙ s_was_met) (ap (root_of l) (st.0 ∙ sym st.1)))
        (⊎_elim (λ e. first_met.least s t e)
        (λ st. inr (refl, st.1 ∙ sym st.0))
        (second_met.least s t (made_together m₂ s t s_met t_met (roots_one one_root))))

    pub join_same : (x y : ℕ) → together (joined l s t).links x y ≡ true → together l x y ≡ true
    join_same x y e =
        let q = together_parts l s t join_no in
        least_so_far (Together l) (λ x y p. p) (made_together l s s q.0 q.0 refl)
        (made_together l t t q.1.0 q.1.0 refl)
        x y
        (ap (λ (k : List ℕ). together k x y) (sym (same_links one_root)) ∙ e)

    pub join_same_back : (x y : ℕ) → together l x y ≡ true → together (joined l s t).links x y ≡ true
    join_same_back x y e = ap (λ (k : List ℕ). together k x y) (same_links one_root) ∙ kept_so_far x y e

  -- "Otherwise": they are together now, and what follows
  pub join_yes : (joined l s t).widened ≡ true → Widened (Together l) (Together (joined l s t).links) s t
  join_yes yes_now =
      elim (ℕ_discrete a b) [
        | yes e ↦ subst (λ (k : List ℕ). Widened (Together l) (Together k) s t) (sym (same_links e)) (when_one e)
        | no ne ↦ subst (λ (k : List ℕ). Widened (Together l) (Together k) s t) (sym (tied_links ne)) (when_two ne)
      ]
    where
      when_one : a ≡ b → Widened (Together l) (Together g₂) s t
      when_one e =
          record {
            keeps = kept_so_far;
            adds =
                made_together g₂ s t (g_met s s_met) (g_met t t_met)
                (g_roots s s_met ∙ roots_one e ∙ sym (g_roots t t_met));
            least =
                λ Q back on was st.
                least_so_far Q was (on s t s st (back s t st)) (on t s t (back s t st) st);
          }

      when_two : (a ≡ b → ⊥) → Widened (Together l) (Together (tied g₂ a b)) s t
      when_two ne =
          let k = all_tied ne in
          record {
            keeps = λ x y e. k.kept x y (kept_so_far x y e);
            adds =
                let p = together_parts (tied g₂ a b) s a (k.kept s a s_with_a) in
                let q = together_parts (tied g₂ a b) t b (k.kept t b t_with_b) in
                let r = together_parts (tied g₂ a b) a b k.adds in
                made_together (tied g₂ a b) s t p.0 q.0 (p.1.1 ∙ r.1.1 ∙ sym q.1.1);
            least =
                λ Q back on was st x y e.
                let so_far = least_so_far Q was (on s t s st (back s t st)) (on t s t (back s t st) st) in
                let sa = so_far s a s_with_a in
                let tb = so_far t b t_with_b in
                ⊎_elim (so_far x y)
                (⊎_elim
                (λ p. on x a y (so_far x a p.0) (on a s y (back s a sa) (on s t y st (on t b y tb (so_far b y p.1)))))
                (λ p. on x b y (so_far x b p.0) (on b t y (back t b tb) (on t s y (back s t st) (on s a y sa (so_far a y p.1))))))
                (k.least x y e);
          }

  pub join_light : weight l ≤ weight (joined l s t).links
  join_light =
      elim (ℕ_discrete a b) [
        | yes e ↦ subst (λ (k : List ℕ). weight l ≤ weight k) (sym (same_links e)) weight_so_far
        | no ne ↦
            subst (λ (k : List ℕ). weight l ≤ weight k) (sym (tied_links ne)) (omega (arith, (all_tied ne).weight_more, weight_so_far))
      ]

  pub join_weight : (joined l s t).widened ≡ true → weight l + 1 ≤ weight (joined l s t).links
  join_weight yes_now =
      elim (ℕ_discrete a b) [
        | yes e ↦
            subst (λ (k : List ℕ). weight l + 1 ≤ weight k) (sym (same_links e))
            (omega (arith, first_met.weight_more (unmet (met l s) refl e), second_met.weight_kept, all_found.weight_same))
        | no ne ↦
            subst (λ (k : List ℕ). weight l + 1 ≤ weight k) (sym (tied_links ne))
            (omega (arith, (all_tied ne).weight_more, weight_so_far))
      ]
    where
      unmet : (v : Bool) → met l s ≡ v → a ≡ b → met l s ≡ false
      unmet false e one = e
      unmet true e one = absurd (true≢false (sym yes_now ∙ answer_fresh one ∙ ap not e))
