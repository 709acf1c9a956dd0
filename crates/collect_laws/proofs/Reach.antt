-- What marking by rounds comes to is just what the roots reach, where every slot that is named is below the capacity: a round
-- that marks nothing new is the last, and each round before it marks one slot more. Document 01: "Reach: a pair leads to car
-- and cdr, a vector to each element that is a slot." Assumes nothing.
use mathlib.Core.Path.{◌≡◌, refl, sym, ap, ◌∙◌, subst}
use mathlib.Core.Bool.{Bool, true, false}
use mathlib.Core.List.{List, [], ◌∷◌, ◌++◌}
use mathlib.Core.Logic.{◌⊎◌, inl, inr, ⊎_elim}
use Prim.Native.Nat.{ℕ, zero, suc, ◌+◌, ◌≤◌, ◌<◌}
use native.Mathlib.Omega.{arith}
use native.Mathlib.Decide.{ℕ_discrete}
use borrow.Author.Tests.{lt-ltb}
use lib.Dec.{ltb}
use lib.ListN.{length}
use Rattle.laws.specs.Basics.{choose, join, member, count, basics}
use Rattle.laws.proofs.Tests.{true≢false, either_cases, either_left, either_right}
use Rattle.laws.proofs.Members.{member_append, among, is_member, first_member, later_member, member_cases, member_every, no_member}
use Rattle.laws.proofs.Pointwise.{count_here, count_other}
use Rattle.rules.specs.Heap.{Heap, capacity, cell_at}
use Rattle.rules.specs.Collect.{leads_to, Reached, root, next, mark_all, mark_round, mark_rounds, marked}
use Rattle.rules.proofs.Good.{each_once}

-- a slot that one of the list leads to
pub record From (f : ℕ → List ℕ) (l : List ℕ) (t : ℕ) : Type 0 where
  pub slot : ℕ
  pub in_list : member slot l ≡ true
  pub led_to : member t (f slot) ≡ true

module _ (f : ℕ → List ℕ) where
  from_join : (l : List ℕ) (t : ℕ) → member t (join f l) ≡ true → From f l t
  unfolding basics
  from_join [] t e = absurd (true≢false (sym e))
  from_join (x ∷ l) t e =
      ⊎_elim (λ p. record { slot = x; in_list = first_member x l; led_to = p })
      (λ p. let g = from_join l t p in record { slot = g.slot; in_list = later_member g.slot x l g.in_list; led_to = g.led_to })
      (either_cases (member t (f x)) _ (sym (member_append t (f x) (join f l)) ∙ e))

  to_join : (l : List ℕ) (s t : ℕ) → member s l ≡ true → member t (f s) ≡ true → member t (join f l) ≡ true
  unfolding basics
  to_join [] s t e p = absurd (true≢false (sym e))
  to_join (x ∷ l) s t e p =
      member_append t (f x) (join f l)
      ∙ ⊎_elim (λ q. either_left (member t (join f l)) (ap (λ (n : ℕ). member t (f n)) (sym q) ∙ p))
      (λ q. either_right (member t (f x)) (to_join l s t q p)) (member_cases s x l e)

-- ---- marking some slots more

-- none met before, or one more
with_one : (x : ℕ) (ms : List ℕ) (b : Bool) → member x ms ≡ b → (s : ℕ) → member s (choose b ms (x ∷ ms)) ≡ true → (s ≡ x) ⊎ (member s ms ≡ true)
with_one x ms true q s e = inr e
with_one x ms false q s e = member_cases s x ms e

one_there : (x : ℕ) (ms : List ℕ) (b : Bool) → member x ms ≡ b → member x (choose b ms (x ∷ ms)) ≡ true
one_there x ms true q = q
one_there x ms false q = first_member x ms

others_there : (x : ℕ) (ms : List ℕ) (b : Bool) (s : ℕ) → member s ms ≡ true → member s (choose b ms (x ∷ ms)) ≡ true
others_there x ms true s e = e
others_there x ms false s e = later_member s x ms e

pub marks_kept : (ss ms : List ℕ) (s : ℕ) → member s ms ≡ true → member s (mark_all ss ms) ≡ true
unfolding mark_all
marks_kept [] ms s e = e
marks_kept (x ∷ ss) ms s e = marks_kept ss (choose (member x ms) ms (x ∷ ms)) s (others_there x ms (member x ms) s e)

pub marks_new : (ss ms : List ℕ) (s : ℕ) → member s ss ≡ true → member s (mark_all ss ms) ≡ true
unfolding mark_all basics
marks_new [] ms s e = absurd (true≢false (sym e))
marks_new (x ∷ ss) ms s e =
    ⊎_elim
    (λ p.
    marks_kept ss (choose (member x ms) ms (x ∷ ms)) s
    (ap (λ (n : ℕ). member n (choose (member x ms) ms (x ∷ ms))) p ∙ one_there x ms (member x ms) refl))
    (λ p. marks_new ss (choose (member x ms) ms (x ∷ ms)) s p)
    (member_cases s x ss e)

pub marks_only : (ss ms : List ℕ) (s : ℕ) → member s (mark_all ss ms) ≡ true → (member s ss ≡ true) ⊎ (member s ms ≡ true)
unfolding mark_all
marks_only [] ms s e = inr e
marks_only (x ∷ ss) ms s e =
    ⊎_elim (λ p. inl (later_member s x ss p))
    (λ p.
    ⊎_elim (λ q. inl (ap (λ (n : ℕ). member n (x ∷ ss)) q ∙ first_member x ss)) (λ q. inr q)
    (with_one x ms (member x ms) refl s p))
    (marks_only ss (choose (member x ms) ms (x ∷ ms)) s e)

-- each slot once
Once : List ℕ → Type 0
Once ms = (s : ℕ) → count s ms ≤ 1

once_more : (x : ℕ) (ms : List ℕ) (b : Bool) → member x ms ≡ b → Once ms → Once (choose b ms (x ∷ ms))
unfolding Once
once_more x ms true q o s = o s
once_more x ms false q o s =
    elim (ℕ_discrete s x) [
      | yes e ↦ omega (arith, count_here s x ms e, no_member x ms q, ap (λ (n : ℕ). count n ms) e)
      | no d ↦ omega (arith, count_other s x ms d, o s)
    ]

marks_once : (ss ms : List ℕ) → Once ms → Once (mark_all ss ms)
unfolding mark_all
marks_once [] ms o = o
marks_once (x ∷ ss) ms o = marks_once ss (choose (member x ms) ms (x ∷ ms)) (once_more x ms (member x ms) refl o)

marks_longer : (ss ms : List ℕ) → length ms ≤ length (mark_all ss ms)
unfolding mark_all
marks_longer [] ms = omega arith
marks_longer (x ∷ ss) ms = by (λ l. marks_longer ss l) (member x ms)
  where
    by : ((l : List ℕ) → length l ≤ length (mark_all ss l)) → (b : Bool) → length ms ≤ length (mark_all ss (choose b ms (x ∷ ms)))
    by rest true = rest ms
    by rest false = omega (arith, rest (x ∷ ms))

-- nothing new, or one more at least
marks_grow : (ss ms : List ℕ) → (mark_all ss ms ≡ ms) ⊎ (length ms < length (mark_all ss ms))
unfolding mark_all
marks_grow [] ms = inl refl
marks_grow (x ∷ ss) ms = by (marks_grow ss ms) (member x ms)
  where
    by : (mark_all ss ms ≡ ms) ⊎ (length ms < length (mark_all ss ms)) → (b : Bool) → (mark_all ss (choose b ms (x ∷ ms)) ≡ ms) ⊎ (length ms < length (mark_all ss (choose b ms (x ∷ ms))))
    by rest true = rest
    by rest false = inr (omega (arith, marks_longer ss (x ∷ ms)))

-- ---- rounds

module _ (h : Heap) where
  abbrev pub leads : ℕ → List ℕ
  leads s = leads_to h (cell_at h s)

  -- what the marked ones lead to is marked
  pub Closed : List ℕ → Type 0
  Closed ms = (s t : ℕ) → member s ms ≡ true → member t (leads s) ≡ true → member t ms ≡ true

  still_closed : (ms : List ℕ) → mark_round h ms ≡ ms → Closed ms
  unfolding Closed mark_round
  still_closed ms e s t m p = ap (member t) (sym e) ∙ marks_new (join leads ms) ms t (to_join leads ms s t m p)

  stays : (n : ℕ) (ms : List ℕ) → mark_round h ms ≡ ms → mark_rounds n h ms ≡ ms
  unfolding mark_rounds
  stays zero ms e = refl
  stays (suc n) ms e = ap (mark_rounds n h) e ∙ stays n ms e

  -- the rounds come to an end, or each marks one slot more
  rounds_grow : (n : ℕ) (ms : List ℕ) → Closed (mark_rounds n h ms) ⊎ (n + length ms ≤ length (mark_rounds n h ms))
  unfolding mark_rounds mark_round
  rounds_grow zero ms = inr (omega arith)
  rounds_grow (suc n) ms =
      by (λ ms. rounds_grow n ms) (marks_grow (join leads ms) ms)
    where
      by : ((ms : List ℕ) → Closed (mark_rounds n h ms) ⊎ (n + length ms ≤ length (mark_rounds n h ms))) → (mark_round h ms ≡ ms) ⊎ (length ms < length (mark_round h ms)) → Closed (mark_rounds n h (mark_round h ms)) ⊎ (suc n + length ms ≤ length (mark_rounds n h (mark_round h ms)))
      by more (inl e) = inl (subst Closed (sym (ap (mark_rounds n h) e ∙ stays n ms e)) (still_closed ms e))
      by more (inr l) = ⊎_elim (λ c. inl c) (λ p. inr (omega arith)) (more (mark_round h ms))

  -- a property that what is led to has keeps through the rounds
  module _ (P : ℕ → Type 0) (on : (s t : ℕ) → P s → member t (leads s) ≡ true → P t) where
    round_keeps : (ms : List ℕ) → ((s : ℕ) → member s ms ≡ true → P s) → (s : ℕ) → member s (mark_round h ms) ≡ true → P s
    unfolding mark_round
    round_keeps ms p s e =
        ⊎_elim
        (λ q. let g = from_join leads ms s q in on g.slot s (p g.slot g.in_list) g.led_to)
        (λ q. p s q) (marks_only (join leads ms) ms s e)

    rounds_keep : (n : ℕ) (ms : List ℕ) → ((s : ℕ) → member s ms ≡ true → P s) → (s : ℕ) → member s (mark_rounds n h ms) ≡ true → P s
    unfolding mark_rounds
    rounds_keep zero ms p = p
    rounds_keep (suc n) ms p = rounds_keep n (mark_round h ms) (round_keeps ms p)

  rounds_once : (n : ℕ) (ms : List ℕ) → Once ms → Once (mark_rounds n h ms)
  unfolding mark_rounds mark_round
  rounds_once zero ms o = o
  rounds_once (suc n) ms o = rounds_once n (mark_round h ms) (marks_once (join leads ms) ms o)

  rounds_kept : (n : ℕ) (ms : List ℕ) (s : ℕ) → member s ms ≡ true → member s (mark_rounds n h ms) ≡ true
  unfolding mark_rounds mark_round
  rounds_kept zero ms s e = e
  rounds_kept (suc n) ms s e = rounds_kept n (mark_round h ms) s (marks_kept (join leads ms) ms s e)

  -- ---- the whole

  module _ (roots : List ℕ) where
    from_roots : (s : ℕ) → member s (mark_all roots []) ≡ true → member s roots ≡ true
    unfolding basics
    from_roots s e = ⊎_elim (λ p. p) (λ p. absurd (true≢false (sym p))) (marks_only roots [] s e)

    -- what is marked is reached
    pub marked_reached : (s : ℕ) → member s (marked h roots) ≡ true → Reached h roots s
    unfolding marked
    marked_reached =
        rounds_keep (λ s. Reached h roots s) (λ s t r m. next r (among t (leads s) m)) (capacity h) (mark_all roots [])
        (λ s e. root (among s roots (from_roots s e)))

    -- where the roots have a property that leads on, and only slots below the capacity have it
    module _ (Q : ℕ → Type 0) (low : (s : ℕ) → Q s → s < capacity h) (start : (s : ℕ) → member s roots ≡ true → Q s) (on : (s t : ℕ) → Q s → member t (leads s) ≡ true → Q t) where
      pub marked_keeps : (s : ℕ) → member s (marked h roots) ≡ true → Q s
      unfolding marked
      marked_keeps = rounds_keep Q on (capacity h) (mark_all roots []) (λ s e. start s (from_roots s e))

      marked_most : length (marked h roots) ≤ capacity h
      unfolding marked Once basics
      marked_most =
          each_once (capacity h) (marked h roots)
          (member_every (λ s. ltb s (capacity h)) (marked h roots) (λ s m. lt-ltb s (capacity h) (low s (marked_keeps s m))))
          (λ s l. rounds_once (capacity h) (mark_all roots []) (marks_once roots [] (λ n. omega arith)) s)

      -- rounds that found nothing at first find nothing at all
      nothing : (n : ℕ) → mark_rounds n h [] ≡ []
      unfolding mark_round mark_all basics
      nothing n = stays n [] refl

      marked_closed : Closed (marked h roots)
      unfolding marked Closed basics
      marked_closed = by (mark_all roots []) (rounds_grow (capacity h) (mark_all roots [])) marked_most
        where
          by : (ms : List ℕ) → Closed (mark_rounds (capacity h) h ms) ⊎ (capacity h + length ms ≤ length (mark_rounds (capacity h) h ms)) → length (mark_rounds (capacity h) h ms) ≤ capacity h → Closed (mark_rounds (capacity h) h ms)
          by ms (inl c) l = c
          by [] (inr p) l = λ s t m q. absurd (true≢false (sym m ∙ ap (member s) (nothing (capacity h))))
          by (x ∷ ms) (inr p) l = absurd (omega arith)

      -- what is reached is marked
      pub reached_marked : (s : ℕ) → Reached h roots s → member s (marked h roots) ≡ true
      unfolding marked Closed
      reached_marked s (root m) = rounds_kept (capacity h) (mark_all roots []) s (marks_new roots [] s (is_member s roots m))
      reached_marked t (next {s} r m) = marked_closed s t (reached_marked s r) (is_member t (leads s) m)

-- ---- heaps that lead alike are marked alike

join_same : (f g : ℕ → List ℕ) → ((s : ℕ) → f s ≡ g s) → (l : List ℕ) → join f l ≡ join g l
unfolding basics
join_same f g e [] = refl
join_same f g e (x ∷ l) = λ i. e x i ++ join_same f g e l i

module _ (h k : Heap) (same : (s : ℕ) → leads_to h (cell_at h s) ≡ leads_to k (cell_at k s)) where
  rounds_same : (n : ℕ) (ms : List ℕ) → mark_rounds n h ms ≡ mark_rounds n k ms
  unfolding mark_rounds mark_round
  rounds_same zero ms = refl
  rounds_same (suc n) ms =
      rounds_same n (mark_round h ms)
      ∙ ap (λ (l : List ℕ). mark_rounds n k (mark_all l ms))
      (join_same (λ s. leads_to h (cell_at h s)) (λ s. leads_to k (cell_at k s)) same ms)

  pub marked_alike : capacity h ≡ capacity k → (roots : List ℕ) → marked h roots ≡ marked k roots
  unfolding marked
  marked_alike size roots =
      rounds_same (capacity h) (mark_all roots []) ∙ ap (λ (n : ℕ). mark_rounds n k (mark_all roots [])) size
