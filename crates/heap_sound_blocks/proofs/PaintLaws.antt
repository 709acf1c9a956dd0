-- Painting: a part that is covered place by place, and the turn of a slot. Assumes nothing.
use mathlib.Core.Path.{◌≡◌, refl, sym, ap, ◌∙◌, subst}
use mathlib.Core.Bool.{Bool, true, false, ◌&&◌}
use mathlib.Core.List.{List}
use mathlib.Core.Logic.{◌⊎◌, inl, inr, ⊎_elim}
use Prim.Native.Nat.{ℕ, ◌+◌, ◌-◌, ◌*◌, ◌≤◌, ◌<◌}
use native.Mathlib.Decide.{ℕ_discrete, dec_lt}
use native.Mathlib.Omega.{arith}
use borrow.Author.Tests.{eqb-true, eq-eqb, leb-true, le-leb}
use lib.Dec.{eqb, leb}
use lib.ListN.{length, get_or, set}
use lib.Seq.{get_or-set_same, get_or-set_other}
use Rattle.laws.specs.Basics.{choose, both, between}
use Rattle.laws.proofs.Tests.{true≢false, both_left, both_right, both_true, either_cases, either_left, either_right}
use Rattle.laws.proofs.Variants.{positive}
use Rattle.rules.specs.Cells.{Block, block, same_block}
use Rattle.rules.specs.Sound.{lies_in, same_or_disjoint}
use Rattle.heap_sound_rows.specs.Rows.{word}
use Rattle.heap_sound_blocks.specs.Blocks.{shown, Inside, Covered, Apart, Owned, Shared, Painted, Turned}

-- ---- the block that a row shows

module _ (ws : List ℕ) (low high i : ℕ) where
  pub shown_is : low ≤ get_or ws (8 + 8 * i) 0 → get_or ws (8 + 8 * i) 0 ≤ high → block (word ws i 1) (word ws i 2) ≡ shown ws low high i
  unfolding shown
  shown_is l h = ap (λ (b : Bool). choose b (block (word ws i 1) (word ws i 2)) (block 0 0)) (sym (both_true (le-leb _ _ l) (le-leb _ _ h)))

-- ---- within the room in use

module _ (used place size : ℕ) where
  pub lies_bound : lies_in used (block place size) ≡ true → place + size ≤ used
  unfolding lies_in
  lies_bound e = leb-true _ _ (both_left (leb (place + size) used) _ e)

-- ---- covering, a place a turn

-- the first i places of the part are covered, and were clear
pub record Front (before now : List ℕ) (place i mark : ℕ) : Type 0 where
  pub clear : (x : ℕ) → place ≤ x → x < place + i → get_or before x 0 ≡ 0
  pub inside : (x : ℕ) → place ≤ x → x < place + i → get_or now x 0 ≡ mark
  pub outside : (x : ℕ) → (place ≤ x → place + i ≤ x) → get_or now x 0 ≡ get_or before x 0

module _ (before : List ℕ) (place mark : ℕ) where
  pub front_none : Front before before place 0 mark
  front_none =
      record { clear = λ x l h. absurd (omega arith); inside = λ x l h. absurd (omega arith); outside = λ x h. refl }

  module _ (now : List ℕ) (i : ℕ) (f : Front before now place i mark) where
    pub front_more : place + i < length now → get_or now (place + i) 0 ≡ 0 → Front before (set now (place + i) mark) place (i + 1) mark
    front_more h z =
        record {
          clear = λ x l r.
              elim (ℕ_discrete x (place + i)) [
                | yes e ↦ ap (λ (k : ℕ). get_or before k 0) e ∙ sym (f.outside (place + i) (λ _. omega arith)) ∙ z
                | no d ↦ f.clear x l (omega arith)
              ];
          inside = λ x l r.
              elim (ℕ_discrete x (place + i)) [
                | yes e ↦ ap (λ (k : ℕ). get_or (set now (place + i) mark) k 0) e ∙ get_or-set_same now (place + i) mark 0 h
                | no d ↦ get_or-set_other now (place + i) x mark 0 d ∙ f.inside x l (omega arith)
              ];
          outside = λ x h.
              get_or-set_other now (place + i) x mark 0 (λ e. omega (arith, h (omega arith)))
              ∙ f.outside x (λ l. omega (arith, h l));
        }

    pub front_met : (size : ℕ) → i < size → (get_or now (place + i) 0 ≡ 0 → ⊥) → (after : List ℕ) → Covered before after place size mark false
    front_met size h d after =
        record {
          clear = λ e. absurd (true≢false (sym e));
          inside = λ e. absurd (true≢false (sym e));
          outside = λ e. absurd (true≢false (sym e));
          met = λ e.
              record {
                at = place + i;
                inside = record { from = omega arith; to = omega arith };
                painted = positive (get_or before (place + i) 0) (λ z. d (f.outside (place + i) (λ _. omega arith) ∙ z));
              };
        }

    pub front_all : (size : ℕ) → i ≡ size → Covered before now place size mark true
    front_all size e =
        record {
          clear = λ _ x p. f.clear x p.from (omega (arith, p.to));
          inside = λ _ x p. f.inside x p.from (omega (arith, p.to));
          outside = λ _ x d.
              f.outside x
              (λ l.
              elim (dec_lt x (place + i)) [
                | yes h ↦ absurd (d (record { from = l; to = omega arith }))
                | no h ↦ omega arith
              ]);
          met = λ e. absurd (true≢false e);
        }

-- ---- the turn of a slot

-- two blocks that are the same or disjoint, and share a place
pub one_block : (a b : Block) (x : ℕ) → same_or_disjoint a b ≡ true → Inside a x → Inside b x → a ≡ b
unfolding same_or_disjoint
one_block a b x e p q =
    ⊎_elim
    (λ s.
    let u = eqb-true _ _ (both_left (eqb a.place b.place) _ s) in
    let v = eqb-true _ _ (both_right (eqb a.place b.place) _ s) in
    λ k. block (u k) (v k))
    (λ d.
    ⊎_elim (λ l. absurd (omega (arith, leb-true (a.place + a.size) b.place l, p.to, q.from)))
    (λ l. absurd (omega (arith, leb-true (b.place + b.size) a.place l, q.to, p.from)))
    (either_cases (leb (a.place + a.size) b.place) _ d))
    (either_cases (same_block a b) _ e)

begins : (b : Block) → 0 < b.size → Inside b b.place
begins b h = record { from = omega arith; to = omega arith }

full : (b : Block) (x : ℕ) → Inside b x → 0 < b.size
full b x p = omega (arith, p.from, p.to)

moved : {b c : Block} {x : ℕ} → b ≡ c → Inside b x → Inside c x
moved {b} {c} {x} e p = subst (λ (d : Block). Inside d x) e p

inside? : (b : Block) (x : ℕ) → Inside b x ⊎ (Inside b x → ⊥)
inside? b x =
    elim (dec_lt x b.place) [
      | yes h ↦ inr (λ p. omega (arith, p.from))
      | no h ↦
          elim (dec_lt x (b.place + b.size)) [
            | yes l ↦ inl (record { from = omega arith; to = l })
            | no l ↦ inr (λ p. omega (arith, p.to))
          ]
    ]

module _ (shows : ℕ → Block) (used i : ℕ) where
  turn_bad : (after : List ℕ) → ((n : ℕ) → i < n → Apart shows used n → ⊥) → Turned shows used i after false
  turn_bad after b =
      record { lies = λ e. absurd (true≢false (sym e)); painted = λ e. absurd (true≢false (sym e)); bad = λ _. b }

  turn_good : (after : List ℕ) → lies_in used (shows i) ≡ true → Painted shows (i + 1) after → Turned shows used i after true
  turn_good after l p = record { lies = λ _. l; painted = λ _. p; bad = λ e. absurd (true≢false e) }

  pub turn_out : (after : List ℕ) → lies_in used (shows i) ≡ false → Turned shows used i after false
  turn_out after e = turn_bad after (λ n h a. true≢false (sym (a.lies i h) ∙ e))

  module _ (before : List ℕ) (p : Painted shows i before) where
    owned_more : (x : ℕ) → 0 < get_or before x 0 → Owned shows (i + 1) x (get_or before x 0)
    owned_more x h = record { below = omega (arith, (p.owned x h).below); inside = (p.owned x h).inside }

    pub turn_empty : lies_in used (shows i) ≡ true → (shows i).size ≡ 0 → Turned shows used i before true
    turn_empty l z =
        turn_good before l
        (record {
          owned = owned_more;
          shared = λ j x h q.
              elim (ℕ_discrete j i) [
                | yes e ↦ absurd (omega (arith, full (shows i) x (moved (ap shows e) q)))
                | no d ↦ p.shared j x (omega arith) q
              ];
        })

    -- the place where the block begins is painted, by the slot that showed the block
    pub turn_same : lies_in used (shows i) ≡ true → 0 < get_or before (shows i).place 0
        → shows (get_or before (shows i).place 0 - 1) ≡ shows i → Turned shows used i before true
    turn_same l h e =
        turn_good before l
        (record {
          owned = owned_more;
          shared = λ j x k q.
              elim (ℕ_discrete j i) [
                | yes f ↦
                    let s = p.shared (get_or before (shows i).place 0 - 1) x (p.owned (shows i).place h).below (moved (ap shows f ∙ sym e) q) in
                    record { painted = s.painted; same = s.same ∙ e ∙ ap shows (sym f) }
                | no d ↦ p.shared j x (omega arith) q
              ];
        })

    -- by one that shows another block
    pub turn_other : (after : List ℕ) → 0 < (shows i).size → 0 < get_or before (shows i).place 0
        → (shows (get_or before (shows i).place 0 - 1) ≡ shows i → ⊥) → Turned shows used i after false
    turn_other after full_here h d =
        let o = p.owned (shows i).place h in
        turn_bad after
        (λ n k a.
        d
        (one_block (shows (get_or before (shows i).place 0 - 1)) (shows i) (shows i).place
        (a.apart (get_or before (shows i).place 0 - 1) i (omega (arith, o.below)) k (full _ _ o.inside) full_here) o.inside
        (begins (shows i) full_here)))

    -- it is clear, and so is the whole block, or not
    pub turn_cover : (after : List ℕ) (r : Bool) → lies_in used (shows i) ≡ true → 0 < (shows i).size → get_or before (shows i).place 0 ≡ 0
        → Covered before after (shows i).place (shows i).size (i + 1) r → Turned shows used i after r
    turn_cover after true l f z c =
        turn_good after l
        (record {
          owned = λ x h.
              ⊎_elim
              (λ q.
              let m : get_or after x 0 ≡ i + 1 = c.inside refl x q in
              let n : i ≡ get_or after x 0 - 1 = omega arith in
              record { below = omega arith; inside = moved (ap shows n) q })
              (λ d.
              let s = c.outside refl x d in
              subst (λ (m : ℕ). Owned shows (i + 1) x m) (sym s) (owned_more x (subst (λ (m : ℕ). 0 < m) s h)))
              (inside? (shows i) x);
          shared = λ j x h q.
              elim (ℕ_discrete j i) [
                | yes e ↦
                    let m : get_or after x 0 ≡ i + 1 = c.inside refl x (moved (ap shows e) q) in
                    let n : get_or after x 0 - 1 ≡ j = omega arith in
                    record { painted = omega arith; same = ap shows n }
                | no d ↦
                    let s = p.shared j x (omega arith) q in
                    let o = c.outside refl x (λ w. omega (arith, s.painted, c.clear refl x w)) in
                    subst (λ (m : ℕ). Shared shows (shows j) m) (sym o) s
              ];
        })
    turn_cover after false l f z c =
        let t = c.met refl in
        let o = p.owned t.at t.painted in
        let j = get_or before t.at 0 - 1 in
        turn_bad after
        (λ n k a.
        let e = one_block (shows j) (shows i) t.at (a.apart j i (omega (arith, o.below)) k (full _ _ o.inside) f) o.inside t.inside in
        omega (arith, (p.shared j (shows i).place o.below (moved (sym e) (begins (shows i) f))).painted))

-- a test of both, as a derived comparison has it
and_both : (a b : Bool) → (a && b) ≡ both a b
and_both true b = refl
and_both false b = refl

-- the same, by the place and the size that were read
module _ (shows : ℕ → Block) (used i place size : ℕ) (e : block place size ≡ shows i) where
  at_place : (before : List ℕ) → get_or before place 0 ≡ get_or before (shows i).place 0
  at_place before = ap (λ (b : Block). get_or before b.place 0) e

  pub read_out : (after : List ℕ) → lies_in used (block place size) ≡ false → Turned shows used i after false
  read_out after l = turn_out shows used i after (ap (lies_in used) (sym e) ∙ l)

  module _ (before : List ℕ) (p : Painted shows i before) (l : lies_in used (block place size) ≡ true) where
    lies : lies_in used (shows i) ≡ true
    lies = ap (lies_in used) (sym e) ∙ l

    pub read_empty : size ≡ 0 → Turned shows used i before true
    read_empty z = turn_empty shows used i before p lies (ap (λ (b : Block). b.size) (sym e) ∙ z)

    pub read_clear : (after : List ℕ) (r : Bool) → (size ≡ 0 → ⊥) → get_or before place 0 ≡ 0 → Covered before after place size (i + 1) r → Turned shows used i after r
    read_clear after r d z c =
        turn_cover shows used i before p after r lies
        (subst (λ (b : Block). 0 < b.size) e (positive size d))
        (sym (at_place before) ∙ z)
        (subst (λ (b : Block). Covered before after b.place b.size (i + 1) r) e c)

    module _ (by first_place first_size : ℕ) (is : get_or before place 0 ≡ by) (d : by ≡ 0 → ⊥) (f : block first_place first_size ≡ shows (by - 1)) where
      painted_by : shows (get_or before (shows i).place 0 - 1) ≡ shows (by - 1)
      painted_by = ap (λ (n : ℕ). shows (n - 1)) (sym (at_place before) ∙ is)

      is_painted : 0 < get_or before (shows i).place 0
      is_painted = subst (λ (n : ℕ). 0 < n) (sym is ∙ at_place before) (positive by d)

      pub read_same : first_place ≡ place → first_size ≡ size → Turned shows used i before true
      read_same u v =
          turn_same shows used i before p lies is_painted (painted_by ∙ sym f ∙ (λ k. block (u k) (v k)) ∙ e)

      pub read_other : (after : List ℕ) → (size ≡ 0 → ⊥) → (first_place ≡ place → first_size ≡ size → ⊥) → Turned shows used i after false
      read_other after s n =
          turn_other shows used i before p after (subst (λ (b : Block). 0 < b.size) e (positive size s)) is_painted
          (λ q.
          let w = f ∙ sym painted_by ∙ q ∙ sym e in
          n (ap (λ (b : Block). b.place) w) (ap (λ (b : Block). b.size) w))

      -- as the comparison of the two finds it
      pub read_by : (size ≡ 0 → ⊥) → (r : Bool) → r ≡ (eqb first_place place && eqb first_size size) → Turned shows used i before r
      read_by s true q =
          let e : both (eqb first_place place) (eqb first_size size) ≡ true = sym (q ∙ and_both (eqb first_place place) (eqb first_size size)) in
          read_same (eqb-true _ _ (both_left (eqb first_place place) _ e)) (eqb-true _ _ (both_right (eqb first_place place) _ e))
      read_by s false q =
          read_other before s (λ u v. true≢false (sym (both_true (eq-eqb _ _ u) (eq-eqb _ _ v)) ∙ sym (q ∙ and_both (eqb first_place place) (eqb first_size size))))

-- ---- all slots

module _ (shows : ℕ → Block) (used : ℕ) where
  pub painted_none : (paint : List ℕ) → ((x : ℕ) → get_or paint x 0 ≡ 0) → Painted shows 0 paint
  painted_none paint z =
      record { owned = λ x h. absurd (omega (arith, z x)); shared = λ i x h q. absurd (omega arith) }

  pub lies_more : (i : ℕ) → ((j : ℕ) → j < i → lies_in used (shows j) ≡ true) → lies_in used (shows i) ≡ true
      → (j : ℕ) → j < i + 1 → lies_in used (shows j) ≡ true
  lies_more i p e j h =
      elim (ℕ_discrete j i) [ yes q ↦ ap (λ (k : ℕ). lies_in used (shows k)) q ∙ e | no d ↦ p j (omega arith) ]

  -- what is painted is apart
  module _ (n : ℕ) (paint : List ℕ) (p : Painted shows n paint) where
    one : (i j x : ℕ) → i < n → j < n → Inside (shows i) x → Inside (shows j) x → shows i ≡ shows j
    one i j x hi hj u v = sym (p.shared i x hi u).same ∙ (p.shared j x hj v).same

    the_same : (a b : Block) → a ≡ b → same_or_disjoint a b ≡ true
    unfolding same_or_disjoint
    the_same a b e =
        either_left _
        (both_true (eq-eqb _ _ (ap (λ (c : Block). c.place) e)) (eq-eqb _ _ (ap (λ (c : Block). c.size) e)))

    before : (a b : Block) → a.place + a.size ≤ b.place → same_or_disjoint a b ≡ true
    unfolding same_or_disjoint
    before a b h = either_right (same_block a b) (either_left _ (le-leb _ _ h))

    behind : (a b : Block) → b.place + b.size ≤ a.place → same_or_disjoint a b ≡ true
    unfolding same_or_disjoint
    behind a b h = either_right (same_block a b) (either_right (leb (a.place + a.size) b.place) (le-leb _ _ h))

    two : (i j : ℕ) → i < n → j < n → 0 < (shows i).size → 0 < (shows j).size → same_or_disjoint (shows i) (shows j) ≡ true
    two i j hi hj fi fj =
        elim (dec_lt (shows j).place ((shows i).place + (shows i).size)) [
          | no h ↦ before (shows i) (shows j) (omega arith)
          | yes h ↦
              elim (dec_lt (shows i).place ((shows j).place + (shows j).size)) [
                | no k ↦ behind (shows i) (shows j) (omega arith)
                | yes k ↦
                    the_same (shows i) (shows j)
                    (elim (dec_lt (shows i).place (shows j).place) [
                      | yes l ↦
                          one i j (shows j).place hi hj (record { from = omega arith; to = h }) (record { from = omega arith; to = omega arith })
                      | no l ↦
                          one i j (shows i).place hi hj (record { from = omega arith; to = omega arith }) (record { from = omega arith; to = k })
                    ])
              ]
        ]

    pub painted_apart : ((j : ℕ) → j < n → lies_in used (shows j) ≡ true) → Apart shows used n
    painted_apart l = record { lies = l; apart = λ i j hi hj fi fj. two i j hi hj fi fj }
