-- A run that takes each pair of slots once, step by step: how it begins, how a goal is skipped or taken, and what its end
-- says of `equal`. Document 01, "Equality": "The answer is false exactly when a finite chain of such steps fails."
-- Assumes nothing.
use mathlib.Core.Path.{◌≡◌, refl, ap, ◌∙◌, subst}
use mathlib.Core.Bool.{true, false}
use mathlib.Core.List.Memᴰ
use mathlib.Core.List.{List, [], ◌∷◌, ◌++◌, Memᴰ}
use mathlib.Core.Logic.{⊎_elim}
use Prim.Native.Nat.{ℕ, zero, suc}
use Rattle.rules.specs.Cells.{Value, slot}
use Rattle.rules.specs.Heap.{Heap}
use Rattle.rules.specs.Equal.{eqv, Goal, alike, walks, fails, needs, step, Fails, now, later, Equal, equal_rules}
use Rattle.equal_laws.specs.Levels.{holds}
use Rattle.equal_laws.specs.Runs.{Holding, Run, Widened}
use Rattle.equal_laws.proofs.Levels.{member_every, needs_hold, nothing_needed, eqv_holds, alike_sym, alike_trans, walks_sym, walks_trans, holds_equal}

module _ (h : Heap) (first : Goal) where
  -- ---- the beginning

  pub begin_with : (A W : ℕ → ℕ → Type 0) → ((s t : ℕ) → A s t → ⊥) → ((s t : ℕ) → W s t → ⊥) → Run h first A W (first ∷ [])
  begin_with A W no_alike no_walks =
      record {
        fair = λ g m f. subst (λ (k : Goal). Fails h k) (Memᴰ.eq_of_singleton m) f;
        alike_rises = λ n all s t a. absurd (no_alike s t a);
        walks_rises = λ n all s t w. absurd (no_walks s t w);
        covers = λ n all. all.waiting first (Memᴰ.head refl);
      }

  pub begin : Run h first (λ s t. ⊥) (λ s t. ⊥) (first ∷ [])
  begin = begin_with (λ s t. ⊥) (λ s t. ⊥) (λ s t p. p) (λ s t p. p)

  module _ (A W : ℕ → ℕ → Type 0) where
    -- ---- skipping a goal

    more_waiting : (n : ℕ) (g : Goal) (rest : List Goal) → holds n h g ≡ true → Holding n h A W rest → Holding n h A W (g ∷ rest)
    more_waiting n g rest e all =
        record {
          taken_alike = all.taken_alike;
          taken_walks = all.taken_walks;
          waiting = λ k m. ⊎_elim (λ p. ap (holds n h) p ∙ e) (λ p. all.waiting k p) (Memᴰ.cases_cons m);
        }

    -- a goal that holds as soon as all else does
    skip : (g : Goal) (rest : List Goal) → ((n : ℕ) → Holding n h A W rest → holds n h g ≡ true) → Run h first A W (g ∷ rest) → Run h first A W rest
    skip g rest so run =
        record {
          fair = λ k m f. run.fair k (Memᴰ.tail m) f;
          alike_rises = λ n all. run.alike_rises n (more_waiting n g rest (so n all) all);
          walks_rises = λ n all. run.walks_rises n (more_waiting n g rest (so n all) all);
          covers = λ n all. run.covers n (more_waiting n g rest (so n all) all);
        }

    pub skip_held : (g : Goal) (rest : List Goal) → ((n : ℕ) → holds n h g ≡ true) → Run h first A W (g ∷ rest) → Run h first A W rest
    skip_held g rest held = skip g rest (λ n all. held n)

    pub skip_needless : (g : Goal) (rest : List Goal) → step h g ≡ needs [] → Run h first A W (g ∷ rest) → Run h first A W rest
    skip_needless g rest e = skip_held g rest (nothing_needed h g e)

    pub skip_eqv : (v w : Value) (rest : List Goal) → eqv h v w ≡ true → Run h first A W (alike v w ∷ rest) → Run h first A W rest
    skip_eqv v w rest e = skip_held (alike v w) rest (λ n. eqv_holds h n v w e)

    pub skip_alike : (s t : ℕ) (rest : List Goal) → A s t → Run h first A W (alike (slot s) (slot t) ∷ rest) → Run h first A W rest
    skip_alike s t rest a = skip (alike (slot s) (slot t)) rest (λ n all. all.taken_alike s t a)

    pub skip_walks : (s t : ℕ) (rest : List Goal) → W s t → Run h first A W (walks s t ∷ rest) → Run h first A W rest
    skip_walks s t rest w = skip (walks s t) rest (λ n all. all.taken_walks s t w)

    -- ---- taking a goal

    module _ (g : Goal) (gs rest : List Goal) (taken : step h g ≡ needs gs) (run : Run h first A W (g ∷ rest)) where
      needs_fair : (k : Goal) → Memᴰ k (gs ++ rest) → Fails h k → Fails h first
      needs_fair k m f =
          ⊎_elim (λ p. run.fair g (Memᴰ.head refl) (later taken p f)) (λ p. run.fair k (Memᴰ.tail p) f)
          (Memᴰ.append_cases gs m)

      -- the goal holds one step further than its needs
      module _ (A' W' : ℕ → ℕ → Type 0) (n : ℕ) (all : Holding n h A' W' (gs ++ rest)) where
        taken_holds : holds (suc n) h g ≡ true
        taken_holds =
            needs_hold h n g gs taken (member_every (holds n h) gs (λ k m. all.waiting k (Memᴰ.append_left rest m)))

        -- what held before the goal was taken
        earlier : ((s t : ℕ) → A s t → A' s t) → ((s t : ℕ) → W s t → W' s t) → holds n h g ≡ true → Holding n h A W (g ∷ rest)
        earlier a w e =
            more_waiting n g rest e
            (record {
              taken_alike = λ s t p. all.taken_alike s t (a s t p);
              taken_walks = λ s t p. all.taken_walks s t (w s t p);
              waiting = λ k m. all.waiting k (Memᴰ.append_right gs m);
            })

    pub take-alike : (A' : ℕ → ℕ → Type 0) (s t : ℕ) (gs rest : List Goal) → Widened A A' s t → step h (alike (slot s) (slot t)) ≡ needs gs → Run h first A W (alike (slot s) (slot t) ∷ rest) → Run h first A' W (gs ++ rest)
    take-alike A' s t gs rest wider taken run =
        record {
          fair = needs_fair g gs rest taken run;
          alike_rises = λ n all.
              wider.least (λ x y. holds (suc n) h (alike (slot x) (slot y)) ≡ true)
              (λ x y. alike_sym h (suc n) (slot x) (slot y))
              (λ x y z. alike_trans h (suc n) (slot x) (slot y) (slot z))
              (λ x y. run.alike_rises n (before n all) x y)
              (taken_holds g gs rest taken run A' W n all);
          walks_rises = λ n all. run.walks_rises n (before n all);
          covers = λ n all. run.covers n (before n all);
        }
      where
        g : Goal
        g = alike (slot s) (slot t)

        before : (n : ℕ) → Holding n h A' W (gs ++ rest) → Holding n h A W (g ∷ rest)
        before n all =
            earlier g gs rest taken run A' W n all wider.keeps (λ x y p. p) (all.taken_alike s t wider.adds)

    pub take_walks : (W' : ℕ → ℕ → Type 0) (s t : ℕ) (gs rest : List Goal) → Widened W W' s t → step h (walks s t) ≡ needs gs → Run h first A W (walks s t ∷ rest) → Run h first A W' (gs ++ rest)
    take_walks W' s t gs rest wider taken run =
        record {
          fair = needs_fair g gs rest taken run;
          alike_rises = λ n all. run.alike_rises n (before n all);
          walks_rises = λ n all.
              wider.least (λ x y. holds (suc n) h (walks x y) ≡ true)
              (λ x y. walks_sym h (suc n) x y)
              (λ x y z. walks_trans h (suc n) x y z)
              (λ x y. run.walks_rises n (before n all) x y)
              (taken_holds g gs rest taken run A W' n all);
          covers = λ n all. run.covers n (before n all);
        }
      where
        g : Goal
        g = walks s t

        before : (n : ℕ) → Holding n h A W' (gs ++ rest) → Holding n h A W (g ∷ rest)
        before n all =
            earlier g gs rest taken run A W' n all (λ x y p. p) wider.keeps (all.taken_walks s t wider.adds)

    -- ---- the same run, told otherwise

    -- the pairs taken are the same
    pub same_taken : (A' W' : ℕ → ℕ → Type 0) (todo : List Goal) → ((x y : ℕ) → A x y → A' x y) → ((x y : ℕ) → A' x y → A x y) → ((x y : ℕ) → W x y → W' x y) → ((x y : ℕ) → W' x y → W x y) → Run h first A W todo → Run h first A' W' todo
    same_taken A' W' todo a a' w w' run =
        record {
          fair = run.fair;
          alike_rises = λ n all s t p. run.alike_rises n (back n all) s t (a' s t p);
          walks_rises = λ n all s t p. run.walks_rises n (back n all) s t (w' s t p);
          covers = λ n all. run.covers n (back n all);
        }
      where
        back : (n : ℕ) → Holding n h A' W' todo → Holding n h A W todo
        back n all =
            record {
              taken_alike = λ s t p. all.taken_alike s t (a s t p);
              taken_walks = λ s t p. all.taken_walks s t (w s t p);
              waiting = all.waiting;
            }

    -- the goals to do are the same, in any order and however often
    pub reorder : (todo todo' : List Goal) → ((g : Goal) → Memᴰ g todo → Memᴰ g todo') → ((g : Goal) → Memᴰ g todo' → Memᴰ g todo) → Run h first A W todo → Run h first A W todo'
    reorder todo todo' there back run =
        record {
          fair = λ g m f. run.fair g (back g m) f;
          alike_rises = λ n all. run.alike_rises n (again n all);
          walks_rises = λ n all. run.walks_rises n (again n all);
          covers = λ n all. run.covers n (again n all);
        }
      where
        again : (n : ℕ) → Holding n h A W todo' → Holding n h A W todo
        again n all =
            record {
              taken_alike = all.taken_alike;
              taken_walks = all.taken_walks;
              waiting = λ g m. all.waiting g (there g m);
            }

    -- with nothing left to do, all that was taken holds at every level
    all_taken : Run h first A W [] → (n : ℕ) → Holding n h A W []
    unfolding holds
    all_taken run zero =
        record {
          taken_alike = λ s t p. refl;
          taken_walks = λ s t p. refl;
          waiting = λ g m. refl;
        }
    all_taken run (suc n) =
        let all = all_taken run n in
        record {
          taken_alike = run.alike_rises n all;
          taken_walks = run.walks_rises n all;
          waiting = λ g m. absurd (Memᴰ.not-nil m);
        }

-- ---- the end

module _ (h : Heap) (v w : Value) (A W : ℕ → ℕ → Type 0) where
  pub failed : (g : Goal) (todo : List Goal) → Run h (alike v w) A W todo → Memᴰ g todo → step h g ≡ fails → Equal h v w false
  unfolding equal_rules
  failed g todo run m e = (λ p. run.fair g m (now e), λ f. refl)

  pub finished : Run h (alike v w) A W [] → Equal h v w true
  finished run = holds_equal h v w (λ n. run.covers n (all_taken h (alike v w) A W run n))
