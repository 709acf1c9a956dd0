-- Where `run` answers, it answers as `Fails` says: so readings 11 and 12, which compute, are facts about `equal`.
-- Assumes nothing.
use mathlib.Core.Path.{◌≡◌, refl, sym, ap, ◌∙◌, subst}
use mathlib.Core.Bool.{Bool, true, false}
use mathlib.Core.List.Memᴰ
use mathlib.Core.List.{List, [], ◌∷◌, ◌++◌, Memᴰ}
use mathlib.Core.Option.{Option, some}
use mathlib.Core.Logic.{◌⊎◌, inl, inr, ⊎_elim}
use Prim.Native.Nat.{ℕ, zero, suc}
use native.Mathlib.Omega.{arith}
use Prim.Native.Nat.{◌+◌, ◌<◌}
use lib.ListN.{get_or, get_or-append}
use lib.Seq.{get_or-append-add}
use Rattle.laws.specs.Basics.{any, basics}
use Rattle.laws.proofs.Tests.{either_cases, same_equal, true≢false}
use Rattle.laws.proofs.Options.{none_some, some_value}
use Rattle.rules.specs.Cells.{Value}
use Rattle.rules.specs.Heap.{Heap}
use Rattle.rules.specs.Layout.{value_words, value_from, layout_rules}
use Rattle.rules.specs.Equal.{Goal, alike, walks, Step, fails, needs, step, Fails, now, later, Equal, goal_words, same_goal, run, equal_by, equal_rules}
use Rattle.rules.proofs.LentLaws.{value_again, value_width}

-- ---- goals by their words

goal_from : List ℕ → Goal
unfolding layout_rules
goal_from ws =
    elim (get_or ws 0 0) [
      | zero ↦ alike (value_from (get_or ws 1 0) (get_or ws 2 0)) (value_from (get_or ws 4 0) (get_or ws 5 0))
      | suc n ↦ walks (get_or ws 1 0) (get_or ws 2 0)
    ]

-- the words of the first value, then those of the second
first_word : (v : Value) (l : List ℕ) (k : ℕ) → k < 3 → get_or (value_words v ++ l) k 0 ≡ get_or (value_words v) k 0
first_word v l k small = get_or-append (value_words v) l 0 k (subst (λ (n : ℕ). k < n) (sym (value_width v)) small)

second_word : (v : Value) (l : List ℕ) (k : ℕ) → get_or (value_words v ++ l) (3 + k) 0 ≡ get_or l k 0
second_word v l k =
    ap (λ (n : ℕ). get_or (value_words v ++ l) (n + k) 0) (sym (value_width v)) ∙ get_or-append-add (value_words v) l k 0

goal_again : (g : Goal) → goal_from (goal_words g) ≡ g
unfolding equal_rules goal_from
goal_again (alike v w) =
    let l = value_words w in
    (λ i.
    alike (value_from (first_word v l 0 (omega arith) i) (first_word v l 1 (omega arith) i))
    (value_from (second_word v l 0 i) (second_word v l 1 i)))
    ∙ (λ i. alike (value_again v i) (value_again w i))
goal_again (walks s t) = refl

same_goal_equal : (g k : Goal) → same_goal g k ≡ true → g ≡ k
unfolding equal_rules
same_goal_equal g k e =
    sym (goal_again g) ∙ ap goal_from (same_equal (goal_words g) (goal_words k) e) ∙ goal_again k

any_same : (g : Goal) (met : List Goal) → any (same_goal g) met ≡ true → Memᴰ g met
unfolding basics
any_same g [] e = absurd (true≢false (sym e))
any_same g (m ∷ met) e =
    ⊎_elim (λ p. subst (λ (x : Goal). Memᴰ g (x ∷ met)) (same_goal_equal g m p) (Memᴰ.head refl))
    (λ p. Memᴰ.tail (any_same g met p))
    (either_cases (same_goal g m) _ e)

-- ---- no

-- a goal of the list fails
record Failing (h : Heap) (gs : List Goal) : Type 0 where
  goal : Goal
  among : Memᴰ goal gs
  failing : Fails h goal

module _ (h : Heap) where
  further : (g : Goal) (todo : List Goal) → Failing h todo → Failing h (g ∷ todo)
  further g todo f = record { goal = f.goal; among = Memᴰ.tail f.among; failing = f.failing }

  module _ (n : ℕ) (g : Goal) (met todo : List Goal) (rest : (met todo : List Goal) → run n h met todo ≡ some false → Failing h todo) where
    no_step : (s : Step) → step h g ≡ s → elim s as (λ x. Option Bool) [ fails ↦ some false | needs gs ↦ run n h (g ∷ met) (gs ++ todo) ] ≡ some false → Failing h (g ∷ todo)
    no_step fails q e = record { goal = g; among = Memᴰ.head refl; failing = now q }
    no_step (needs gs) q e =
        let f = rest (g ∷ met) (gs ++ todo) e in
        ⊎_elim (λ m. record { goal = g; among = Memᴰ.head refl; failing = later q m f.failing })
        (λ m. record { goal = f.goal; among = Memᴰ.tail m; failing = f.failing })
        (Memᴰ.append_cases gs f.among)

    no_skip : (b : Bool) → elim b as (λ x. Option Bool) [ true ↦ run n h met todo | false ↦ elim (step h g) [ fails ↦ some false | needs gs ↦ run n h (g ∷ met) (gs ++ todo) ] ] ≡ some false → Failing h (g ∷ todo)
    no_skip true e = further g todo (rest met todo e)
    no_skip false e = no_step (step h g) refl e

  run_no : (n : ℕ) (met todo : List Goal) → run n h met todo ≡ some false → Failing h todo
  unfolding equal_rules
  run_no zero met todo e = absurd (none_some e)
  run_no (suc n) met [] e = absurd (true≢false (some_value e))
  run_no (suc n) met (g ∷ todo) e = no_skip n g met todo (λ met todo e. run_no n met todo e) (any (same_goal g) met) e

  -- ---- yes

  -- all that the run met: what was met before and the list are among it, and each goal's needs are too, but for those that
  -- were met before
  record Settled (met todo : List Goal) : Type 0 where
    all : List Goal
    before : (g : Goal) → Memᴰ g met → Memᴰ g all
    listed : (g : Goal) → Memᴰ g todo → Memᴰ g all
    closed : (g : Goal) → Memᴰ g all → Memᴰ g met ⊎ ((gs : List Goal) × (step h g ≡ needs gs) × ((k : Goal) → Memᴰ k gs → Memᴰ k all))

  module _ (n : ℕ) (g : Goal) (met todo : List Goal) (rest : (met todo : List Goal) → run n h met todo ≡ some true → Settled met todo) where
    yes_step : (s : Step) → step h g ≡ s → elim s as (λ x. Option Bool) [ fails ↦ some false | needs gs ↦ run n h (g ∷ met) (gs ++ todo) ] ≡ some true → Settled met (g ∷ todo)
    yes_step fails q e = absurd (true≢false (sym (some_value e)))
    yes_step (needs gs) q e =
        let r = rest (g ∷ met) (gs ++ todo) e in
        record {
          all = r.all;
          before = λ k m. r.before k (Memᴰ.tail m);
          listed = λ k m.
              ⊎_elim (λ p. subst (λ (x : Goal). Memᴰ x r.all) (sym p) (r.before g (Memᴰ.head refl)))
              (λ p. r.listed k (Memᴰ.append_right gs p))
              (Memᴰ.cases_cons m);
          closed = λ k m.
              ⊎_elim
              (λ p.
              ⊎_elim
              (λ p'.
              inr (
                gs,
                subst (λ (x : Goal). step h x ≡ needs gs) (sym p') q,
                λ x y. r.listed x (Memᴰ.append_left todo y),
              ))
              (λ p'. inl p')
              (Memᴰ.cases_cons p))
              (λ p. inr p)
              (r.closed k m);
        }

    yes_skip : (b : Bool) → any (same_goal g) met ≡ b → elim b as (λ x. Option Bool) [ true ↦ run n h met todo | false ↦ elim (step h g) [ fails ↦ some false | needs gs ↦ run n h (g ∷ met) (gs ++ todo) ] ] ≡ some true → Settled met (g ∷ todo)
    yes_skip true q e =
        let r = rest met todo e in
        record {
          all = r.all;
          before = r.before;
          listed = λ k m.
              ⊎_elim (λ p. subst (λ (x : Goal). Memᴰ x r.all) (sym p) (r.before g (any_same g met q))) (λ p. r.listed k p)
              (Memᴰ.cases_cons m);
          closed = r.closed;
        }
    yes_skip false q e = yes_step (step h g) refl e

  run_yes : (n : ℕ) (met todo : List Goal) → run n h met todo ≡ some true → Settled met todo
  unfolding equal_rules
  run_yes zero met todo e = absurd (none_some e)
  run_yes (suc n) met [] e =
      record { all = met; before = λ g m. m; listed = λ g m. absurd (Memᴰ.not-nil m); closed = λ g m. inl m }
  run_yes (suc n) met (g ∷ todo) e =
      yes_skip n g met todo (λ met todo e. run_yes n met todo e) (any (same_goal g) met) refl e

  -- in a closed list nothing fails
  none_fails : (all : List Goal) → ((g : Goal) → Memᴰ g all → (gs : List Goal) × (step h g ≡ needs gs) × ((k : Goal) → Memᴰ k gs → Memᴰ k all)) → (g : Goal) → Memᴰ g all → Fails h g → ⊥
  none_fails all closed g m (now e) = fails_needs (sym e ∙ (closed g m).1)
    where
      fails_needs : {gs : List Goal} → fails ≡ needs gs → ⊥
      fails_needs e = let z : ◌≡◌ {A = ℕ} 0 1 = cc in omega arith
  none_fails all closed g m (later {n = k} e among f) =
      none_fails all closed k
      ((closed g m).2 k (subst (λ (gs : List Goal). Memᴰ k gs) (needs_same (sym e ∙ (closed g m).1)) among))
      f
    where
      needs_same : {gs ks : List Goal} → needs gs ≡ needs ks → gs ≡ ks
      needs_same e = cc

  -- ---- both

  pub equal_yes : (n : ℕ) (v w : Value) → equal_by n h v w ≡ some true → Equal h v w true
  unfolding equal_rules
  equal_yes n v w e =
      let r = run_yes n [] (alike v w ∷ []) e in (
        λ p. absurd (true≢false p),
        λ f.
            absurd
            (none_fails r.all
            (λ g m. ⊎_elim (λ p. absurd (Memᴰ.not-nil p)) (λ p. p) (r.closed g m))
            (alike v w)
            (r.listed (alike v w) (Memᴰ.head refl))
            f),
      )

  pub equal_no : (n : ℕ) (v w : Value) → equal_by n h v w ≡ some false → Equal h v w false
  unfolding equal_rules
  equal_no n v w e =
      let f = run_no n [] (alike v w ∷ []) e in
      (λ p. subst (λ (g : Goal). Fails h g) (Memᴰ.eq_of_singleton f.among) f.failing, λ g. refl)
