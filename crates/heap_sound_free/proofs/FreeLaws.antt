-- The two clauses on Free slots, by the marks. Assumes nothing.
use mathlib.Core.Path.{◌≡◌, refl, sym, ap, ◌∙◌, subst}
use mathlib.Core.Bool.{Bool, true, false, not}
use mathlib.Core.List.{List, []}
use mathlib.Core.Logic.{⊎_elim}
use Prim.Native.Nat.{ℕ, zero, suc, ◌+◌, ◌*◌, ◌/◌, ◌%◌, ◌≤◌, ◌<◌}
use native.Mathlib.Omega.{arith}
use borrow.Author.Tests.{eqb-true, eq-eqb, ne_eqb, ltb-true, lt-ltb}
use lib.Dec.{eqb, ltb}
use lib.ListN.{get_or}
use lib.Seq.{get_or-take}
use Rattle.laws.specs.Basics.{choose, both, either, every, every_below}
use Rattle.laws.proofs.Tests.{true≢false, both_left, both_right, both_true, either_cases, either_right, below_all, all_below}
use Rattle.laws.proofs.Checks.{refuted, agreeing}
use Rattle.rules.specs.Cells.{plain, undefined}
use Rattle.rules.specs.Map.{state_in, state_of, Free, map_rules}
use Rattle.rules.specs.Heap.{Heap, capacity, cell_at}
use Rattle.rules.specs.Layout.{cell_from, heap_of, layout_rules}
use Rattle.rules.specs.Sound.{is_free, is_undefined, free_once, sound_rules}
use Rattle.leaf_cells.specs.Cells.{loaded}
use Rattle.heap_sound_rows.specs.Rows.{lists, word}
use Rattle.heap_sound_rows.proofs.HeapFacts.{cells_length}
use Rattle.heap_sound_free.specs.Marks.{tally, new_at, column_of, free_slot, free_sound}
use Rattle.heap_sound_free.proofs.TallyLaws.{count_column, every_column, new_low, all_new}

-- ---- a kind that is Undefined

pub undefined_kind : (k a b : ℕ) → either (eqb k 0) (ltb 10 k) ≡ is_undefined (cell_from k a b)
unfolding layout_rules sound_rules
undefined_kind zero a b = refl
undefined_kind (suc zero) a b = refl
undefined_kind (suc (suc zero)) a b = refl
undefined_kind (suc (suc (suc zero))) a b = refl
undefined_kind (suc (suc (suc (suc zero)))) a b = refl
undefined_kind (suc (suc (suc (suc (suc zero))))) a b = refl
undefined_kind (suc (suc (suc (suc (suc (suc zero)))))) a b = refl
undefined_kind (suc (suc (suc (suc (suc (suc (suc zero))))))) a b = refl
undefined_kind (suc (suc (suc (suc (suc (suc (suc (suc zero)))))))) a b = refl
undefined_kind (suc (suc (suc (suc (suc (suc (suc (suc (suc zero))))))))) a b = refl
undefined_kind (suc (suc (suc (suc (suc (suc (suc (suc (suc (suc zero)))))))))) a b = refl
undefined_kind (suc (suc (suc (suc (suc (suc (suc (suc (suc (suc (suc k))))))))))) a b =
    either_right (eqb (suc (suc (suc (suc (suc (suc (suc (suc (suc (suc (suc k))))))))))) 0)
    (lt-ltb 10 (suc (suc (suc (suc (suc (suc (suc (suc (suc (suc (suc k))))))))))) (omega arith))

-- ---- one slot

module _ (ws m marks : List ℕ) (s : ℕ) where
  pub undefined_word : either (eqb (get_or ws (8 + 8 * s) 0) 0) (ltb 10 (get_or ws (8 + 8 * s) 0)) ≡ is_undefined (loaded ws s)
  unfolding loaded
  undefined_word =
      undefined_kind (get_or ws (8 + 8 * s) 0) (word ws s 1) (word ws s 2)
      ∙ ap (λ (n : ℕ). is_undefined (cell_from (get_or ws n 0) (word ws s 1) (word ws s 2))) (sym (native.Mathlib.Nat.add-zero (8 + 8 * s)))

-- ---- the whole

module _ (ws m : List ℕ) (fours : get_or ws 1 0 % 4 ≡ 0) where
  abbrev cap : ℕ
  cap = get_or ws 1 0

  abbrev held : Heap
  held = heap_of (lists ws m [] [])

  abbrev f : ℕ → ℕ
  f = column_of ws 4

  -- a slot's state in the part of the map in use
  state_in_use : (s : ℕ) → s < cap → is_free held s ≡ eqb (state_of m s) Free
  unfolding sound_rules layout_rules map_rules
  state_in_use s h =
      ap (λ (b : ℕ). eqb (state_in b (s % 4)) Free) (get_or-take (cap / 4) m (s / 4) 0 (omega arith))

  cell_in : (s : ℕ) → s < cap → cell_at held s ≡ loaded ws s
  unfolding layout_rules loaded
  cell_in s h = Rattle.laws.proofs.Lists.get_or_map_rising _ 0 cap s (plain undefined) h ∙ ap (loaded ws) (native.Mathlib.Nat.zero-add s)

  -- the two clauses, slot by slot
  record Each : Type 0 where
    low : (j : ℕ) → j < get_or ws 2 0 → f j < cap
    counts : (s : ℕ) → s < cap → tally f (get_or ws 2 0) s ≡ choose (eqb (state_of m s) Free) 1 0
    empty : (s : ℕ) → s < cap → state_of m s ≡ Free → is_undefined (loaded ws s) ≡ true

  told : free_sound ws m ≡ true → Each
  unfolding sound_rules layout_rules
  told e =
      let o = both_left (free_once held) _ e in
      let u = both_right (free_once held) _ e in
      let c = cells_length (lists ws m [] []) in
      record {
        low = λ j h.
            subst (λ (n : ℕ). f j < n) c
            (ltb-true _ _
            (below_all _ (get_or ws 2 0)
            (sym (every_column f (λ s. ltb s (capacity held)) (get_or ws 2 0)) ∙ both_left (every (λ s. ltb s (capacity held)) held.free) _ o)
            j h));
        counts = λ s h.
            sym (count_column f (get_or ws 2 0) s)
            ∙ eqb-true _ _
            (below_all _ (capacity held) (both_right (every (λ s. ltb s (capacity held)) held.free) _ o) s (subst (λ (n : ℕ). s < n) (sym c) h))
            ∙ ap (λ (b : Bool). choose b 1 0) (state_in_use s h);
        empty = λ s h z.
            ap is_undefined (sym (cell_in s h))
            ∙ ⊎_elim (λ p. absurd (true≢false (sym (eq-eqb _ _ z) ∙ sym (state_in_use s h) ∙ borrow.Author.Tests.not-true _ p))) (λ p. p)
            (either_cases (not (is_free held s)) _ (below_all _ (capacity held) u s (subst (λ (n : ℕ). s < n) (sym c) h)));
      }

  back : Each → free_sound ws m ≡ true
  unfolding sound_rules layout_rules
  back e =
      let c = cells_length (lists ws m [] []) in
      both_true
      (both_true
      (every_column f (λ s. ltb s (capacity held)) (get_or ws 2 0)
      ∙ all_below _ (get_or ws 2 0) (λ j h. lt-ltb _ _ (subst (λ (n : ℕ). f j < n) (sym c) (e.low j h))))
      (all_below _ (capacity held)
      (λ s h.
      let l = subst (λ (n : ℕ). s < n) c h in
      eq-eqb _ _ (count_column f (get_or ws 2 0) s ∙ e.counts s l ∙ ap (λ (b : Bool). choose b 1 0) (sym (state_in_use s l))))))
      (all_below _ (capacity held)
      (λ s h. free_or_not s (subst (λ (n : ℕ). s < n) c h) (is_free held s) refl))
    where
      free_or_not : (s : ℕ) → s < cap → (b : Bool) → is_free held s ≡ b → either (not b) (is_undefined (cell_at held s)) ≡ true
      free_or_not s h true p =
          ap is_undefined (cell_in s h) ∙ e.empty s h (eqb-true _ _ (sym (state_in_use s h) ∙ p))
      free_or_not s h false p = refl

  -- ---- by the marks

  module _ (marks : List ℕ) (marked : (s : ℕ) → get_or marks s 0 ≡ tally f (get_or ws 2 0) s) where
    slot_count : (s : ℕ) → free_slot ws m marks s ≡ true → ◌≡◌ {A = ℕ} (get_or marks s 0) (choose (eqb (state_of m s) Free) 1 0)
    unfolding free_slot
    slot_count s e = by (eqb (state_of m s) Free) e
      where
        by : (b : Bool) → choose b (both (eqb (get_or marks s 0) 1) (is_undefined (loaded ws s))) (eqb (get_or marks s 0) 0) ≡ true → ◌≡◌ {A = ℕ} (get_or marks s 0) (choose b 1 0)
        by true p = eqb-true _ 1 (both_left (eqb (get_or marks s 0) 1) _ p)
        by false p = eqb-true _ 0 p

    slot_empty : (s : ℕ) → free_slot ws m marks s ≡ true → state_of m s ≡ Free → is_undefined (loaded ws s) ≡ true
    unfolding free_slot
    slot_empty s e z = by (eqb (state_of m s) Free) (eq-eqb _ _ z) e
      where
        by : (b : Bool) → b ≡ true → choose b (both (eqb (get_or marks s 0) 1) (is_undefined (loaded ws s))) (eqb (get_or marks s 0) 0) ≡ true → is_undefined (loaded ws s) ≡ true
        by true q p = both_right (eqb (get_or marks s 0) 1) _ p
        by false q p = absurd (true≢false (sym q))

    slot_good : (s : ℕ) → ◌≡◌ {A = ℕ} (get_or marks s 0) (choose (eqb (state_of m s) Free) 1 0) → (state_of m s ≡ Free → is_undefined (loaded ws s) ≡ true)
        → free_slot ws m marks s ≡ true
    unfolding free_slot
    slot_good s c u = by (eqb (state_of m s) Free) refl c
      where
        by : (b : Bool) → eqb (state_of m s) Free ≡ b → ◌≡◌ {A = ℕ} (get_or marks s 0) (choose b 1 0)
            → choose b (both (eqb (get_or marks s 0) 1) (is_undefined (loaded ws s))) (eqb (get_or marks s 0) 0) ≡ true
        by true q p = both_true (eq-eqb _ 1 p) (u (eqb-true _ _ q))
        by false q p = eq-eqb _ 0 p

    pub by_marks : every_below (get_or ws 2 0) (new_at f cap) ≡ true → every_below cap (free_slot ws m marks) ≡ free_sound ws m
    by_marks new =
        agreeing _ _
        (λ e.
        back
        (record {
          low = λ j h. new_low f cap j (below_all _ (get_or ws 2 0) new j h);
          counts = λ s h. sym (marked s) ∙ slot_count s (below_all _ cap e s h);
          empty = λ s h z. slot_empty s (below_all _ cap e s h) z;
        }))
        (λ e.
        let t = told e in
        all_below _ cap (λ s h. slot_good s (marked s ∙ t.counts s h) (t.empty s h)))

  at_most : (b : Bool) (n : ℕ) → ◌≡◌ {A = ℕ} n (choose b 1 0) → n ≤ 1
  at_most true n e = omega arith
  at_most false n e = omega arith

  -- a list that does not hold each slot once is refused
  pub not_once : every_below (get_or ws 2 0) (new_at f cap) ≡ false → false ≡ free_sound ws m
  not_once e =
      refuted _
      (λ t.
      let p = told t in
      true≢false
      (sym (all_new f cap (get_or ws 2 0) p.low (λ s h. at_most (eqb (state_of m s) Free) _ (p.counts s h))) ∙ e))
