-- The rules' walk, a step at a time, and what it keeps: what is on the path or labelled was met, and each slot has one label
-- at most. Document 01, "Reading back": "each pair or vector once". Assumes nothing.
use mathlib.Core.Path.{◌≡◌, refl, sym, ap, ◌∙◌, subst}
use mathlib.Core.Bool.{Bool, true, false}
use mathlib.Core.List.{List, [], ◌∷◌, ◌++◌}
use mathlib.Core.Logic.{⊎_elim}
use Prim.Native.Nat.{ℕ, zero, suc, ◌+◌, ◌≤◌, ◌<◌}
use native.Mathlib.Omega.{arith}
use native.Mathlib.Decide.{ℕ_discrete}
use borrow.Author.Tests.{eqb-true, leb-true, lt-ltb}
use lib.Dec.{eqb, leb, ltb}
use lib.ListN.{length}
use Rattle.laws.specs.Basics.{choose, every, member, count, basics}
use Rattle.laws.proofs.Tests.{true≢false, both_left, both_right, both_true, either_cases, either_left, either_right, every_append}
use Rattle.laws.proofs.Members.{member_end, no_member, later_member}
use Rattle.laws.proofs.Pointwise.{all_every, count_here, count_other, count_append, get_d_part, length_part}
use Rattle.rules.specs.Cells.{undefined, Value, slot, scalar, Block, Cell, plain, pair, symbol, string, vector}
use Rattle.rules.specs.Heap.{Heap, capacity, cell_at, in_use, elements_of}
use Rattle.rules.specs.Sound.{value_named, sound_rules}
use Rattle.rules.specs.Calls.{call_rules}
use Rattle.rules.specs.Read.{Walk, meet, give_label, enter, in_order, walk}
use Rattle.rules.proofs.Good.{Good, CellGood, used_slot, each_once}
use Rattle.heap_walk.specs.Walks.{has_parts, walk_parts}
use Rattle.heap_walk.specs.Tasks.{Kept}

-- ---- a step

-- from a slot: into a pair or a vector, and nowhere from another cell
pub walk_step : (n : ℕ) (h : Heap) (path : List ℕ) (s : ℕ) (w : Walk) → walk (suc n) h path (slot s) w ≡ choose (has_parts (cell_at h s)) (enter path s (walk_parts n h (s ∷ path) (cell_at h s)) w) w
unfolding walk walk_parts
walk_step n h path s w = go (cell_at h s)
  where
    go : (c : Cell) → elim c as (λ c. Walk) [ plain x ↦ w | pair a d ↦ enter path s (λ w. walk n h (s ∷ path) (slot d) (walk n h (s ∷ path) (slot a) w)) w | symbol b ↦ w | string b ↦ w | vector b ↦ enter path s (in_order (λ v w. walk n h (s ∷ path) v w) (elements_of h b)) w ] ≡ choose (has_parts c) (enter path s (walk_parts n h (s ∷ path) c) w) w
    go (plain x) = refl
    go (pair a d) = refl
    go (symbol b) = refl
    go (string b) = refl
    go (vector b) = refl

pub walk_into : (n : ℕ) (h : Heap) (path : List ℕ) (s : ℕ) (w : Walk) → has_parts (cell_at h s) ≡ true → walk (suc n) h path (slot s) w ≡ enter path s (walk_parts n h (s ∷ path) (cell_at h s)) w
walk_into n h path s w e = walk_step n h path s w ∙ ap (λ (b : Bool). choose b (enter path s (walk_parts n h (s ∷ path) (cell_at h s)) w) w) e

pub walk_off : (n : ℕ) (h : Heap) (path : List ℕ) (s : ℕ) (w : Walk) → has_parts (cell_at h s) ≡ false → walk n h path (slot s) w ≡ w
unfolding walk
walk_off zero h path s w e = refl
walk_off (suc n) h path s w e = walk_step n h path s w ∙ ap (λ (b : Bool). choose b (enter path s (walk_parts n h (s ∷ path) (cell_at h s)) w) w) e

pub no_parts_walk : (n : ℕ) (h : Heap) (path : List ℕ) (c : Cell) (w : Walk) → has_parts c ≡ false → walk_parts n h path c w ≡ w
unfolding walk_parts
no_parts_walk n h path (plain x) w e = refl
no_parts_walk n h path (pair a d) w e = absurd (true≢false e)
no_parts_walk n h path (symbol b) w e = refl
no_parts_walk n h path (string b) w e = refl
no_parts_walk n h path (vector b) w e = absurd (true≢false e)

pub walk_scalar : (n : ℕ) (h : Heap) (path : List ℕ) (x : Rattle.rules.specs.Cells.Scalar) (w : Walk) → walk n h path (scalar x) w ≡ w
unfolding walk
walk_scalar zero h path x w = refl
walk_scalar (suc n) h path x w = refl

module _ (path : List ℕ) (s : ℕ) (inside : Walk → Walk) (w : Walk) where
  pub enter_path : member s path ≡ true → enter path s inside w ≡ give_label s w
  unfolding enter
  enter_path e =
      ap (λ (b : Bool). elim b as (λ b. Walk) [ true ↦ give_label s w | false ↦ elim (member s w.met) as (λ b. Walk) [ true ↦ w | false ↦ inside (meet s w) ] ]) e

  pub enter_met : member s path ≡ false → member s w.met ≡ true → enter path s inside w ≡ w
  unfolding enter
  enter_met e m =
      ap (λ (b : Bool). elim b as (λ b. Walk) [ true ↦ give_label s w | false ↦ elim (member s w.met) as (λ b. Walk) [ true ↦ w | false ↦ inside (meet s w) ] ]) e
      ∙ ap (λ (b : Bool). elim b as (λ b. Walk) [ true ↦ w | false ↦ inside (meet s w) ]) m

  pub enter_new : member s path ≡ false → member s w.met ≡ false → enter path s inside w ≡ inside (meet s w)
  unfolding enter
  enter_new e m =
      ap (λ (b : Bool). elim b as (λ b. Walk) [ true ↦ give_label s w | false ↦ elim (member s w.met) as (λ b. Walk) [ true ↦ w | false ↦ inside (meet s w) ] ]) e
      ∙ ap (λ (b : Bool). elim b as (λ b. Walk) [ true ↦ w | false ↦ inside (meet s w) ]) m

-- ---- what a walk keeps

pub record Onward (h : Heap) (before after : Walk) : Type 0 where
  pub met_kept : (s : ℕ) → member s before.met ≡ true → member s after.met ≡ true
  pub labels_met : (s : ℕ) → member s after.labels ≡ true → member s after.met ≡ true
  pub below : every (λ s. ltb s (capacity h)) after.labels ≡ true
  pub once : (s : ℕ) → count s after.labels ≤ 1

count_empty : (s : ℕ) → count s [] ≡ 0
unfolding basics
count_empty s = refl

single : (f : ℕ → Bool) (s : ℕ) → f s ≡ true → every f (s ∷ []) ≡ true
unfolding basics
single f s e = both_true e refl

module _ (h : Heap) where
  pub kept_after : {path : List ℕ} {w after : Walk} → Kept h path w → Onward h w after → Kept h path after
  kept_after k o =
      record {
        path_met = λ s e. o.met_kept s (k.path_met s e);
        labels_met = o.labels_met;
        below = o.below;
        once = o.once;
      }

  pub onward_refl : {path : List ℕ} {w : Walk} → Kept h path w → Onward h w w
  onward_refl k = record { met_kept = λ s e. e; labels_met = k.labels_met; below = k.below; once = k.once }

  pub onward_trans : {a b c : Walk} → Onward h a b → Onward h b c → Onward h a c
  onward_trans p q =
      record { met_kept = λ s e. q.met_kept s (p.met_kept s e); labels_met = q.labels_met; below = q.below; once = q.once }

  -- labels are slots below the capacity, each once
  pub labels_few : {path : List ℕ} (w : Walk) → Kept h path w → length w.labels ≤ capacity h
  labels_few w k = each_once (capacity h) w.labels k.below (λ s l. k.once s)

  module _ (path : List ℕ) (s : ℕ) (w : Walk) (k : Kept h path w) (small : s < capacity h) where
    -- a slot is met
    pub kept_meet : Kept h (s ∷ path) (meet s w)
    unfolding basics
    kept_meet =
        record {
          path_met = λ x e. ⊎_elim (λ q. either_left (member x w.met) q) (λ q. either_right (eqb x s) (k.path_met x q)) (either_cases (eqb x s) (member x path) e);
          labels_met = λ x e. either_right (eqb x s) (k.labels_met x e);
          below = k.below;
          once = k.once;
        }

    pub onward_meet : Onward h w (meet s w)
    onward_meet =
        record {
          met_kept = λ x e. later_member x s w.met e;
          labels_met = λ x e. later_member x s w.met (k.labels_met x e);
          below = k.below;
          once = k.once;
        }

    pub onward_label : member s path ≡ true → Onward h w (give_label s w)
    unfolding give_label
    onward_label on = go (member s w.labels) refl
      where
        go : (b : Bool) → member s w.labels ≡ b → Onward h w (record { met = w.met; labels = choose b w.labels (w.labels ++ (s ∷ [])) })
        go true e = record { met_kept = λ x m. m; labels_met = k.labels_met; below = k.below; once = k.once }
        go false e =
            record {
              met_kept = λ x m. m;
              labels_met =
                  λ x m.
                  ⊎_elim (λ q. ap (λ (y : ℕ). member y w.met) (eqb-true x s q) ∙ k.path_met s on) (λ q. k.labels_met x q)
                  (either_cases (eqb x s) (member x w.labels) (sym (member_end x w.labels s) ∙ m));
              below = every_append (λ s. ltb s (capacity h)) w.labels (s ∷ []) k.below (single (λ s. ltb s (capacity h)) s (lt-ltb s (capacity h) small));
              once =
                  λ x.
                  elim (ℕ_discrete x s) [
                    | yes q ↦
                        omega (
                          arith,
                          count_append x w.labels (s ∷ []),
                          ap (λ (y : ℕ). count y w.labels) q ∙ no_member s w.labels e,
                          count_here x s [] q,
                          count_empty x,
                        )
                    | no d ↦
                        omega (arith, count_append x w.labels (s ∷ []), k.once x, count_other x s [] d, count_empty x)
                  ];
            }

  -- ---- the walk

  abbrev Goes : List ℕ → (Value → Walk → Walk) → Type 0
  Goes path one = (v : Value) (w : Walk) → value_named h v ≡ true → Kept h path w → Onward h w (one v w)

  in_order_onward : (path : List ℕ) (one : Value → Walk → Walk) → Goes path one → (vs : List Value) (w : Walk) → every (value_named h) vs ≡ true → Kept h path w → Onward h w (in_order one vs w)
  unfolding in_order basics
  in_order_onward path one g [] w e k = onward_refl k
  in_order_onward path one g (v ∷ vs) w e k =
      let o = g v w (both_left (value_named h v) _ e) k in
      onward_trans o (in_order_onward path one g vs (one v w) (both_right (value_named h v) _ e) (kept_after k o))

  -- the elements of a vector's block name slots in use
  pub elements_named : (b : Block) → CellGood h (vector b) → every (value_named h) (elements_of h b) ≡ true
  unfolding sound_rules
  elements_named b c =
      all_every (value_named h) (scalar undefined) (elements_of h b)
      (λ i l.
      let lies = leb-true (b.place + b.size) (length h.elements) (both_left (leb (b.place + b.size) (length h.elements)) _ c.vector_in) in
      let size = length_part h.elements b.place b.size lies in
      ap (value_named h) (get_d_part h.elements b.place b.size i (scalar undefined) (omega (arith, size)))
      ∙ c.held (b.place + i) (omega arith) (omega (arith, size)))

  parts_onward : (n : ℕ) (path : List ℕ) → Goes path (λ v w. walk n h path v w) → (c : Cell) → CellGood h c → (w : Walk) → Kept h path w → Onward h w (walk_parts n h path c w)
  unfolding walk_parts sound_rules call_rules
  parts_onward n path g (plain x) c w k = onward_refl k
  parts_onward n path g (pair a d) c w k =
      let o = g (slot a) w (both_left (in_use h a) _ c.linked) k in
      onward_trans o (g (slot d) (walk n h path (slot a) w) (both_right (in_use h a) _ c.linked) (kept_after k o))
  parts_onward n path g (symbol b) c w k = onward_refl k
  parts_onward n path g (string b) c w k = onward_refl k
  parts_onward n path g (vector b) c w k = in_order_onward path (λ v w. walk n h path v w) g (elements_of h b) w (elements_named b c) k

  enter_onward : (path : List ℕ) (s : ℕ) (inside : Walk → Walk) → s < capacity h → ((w : Walk) → Kept h (s ∷ path) w → Onward h w (inside w)) → (w : Walk) → Kept h path w → Onward h w (enter path s inside w)
  enter_onward path s inside small f w k = go (member s path) refl (member s w.met) refl
    where
      go : (a : Bool) → member s path ≡ a → (b : Bool) → member s w.met ≡ b → Onward h w (enter path s inside w)
      go true p b q = subst (λ (x : Walk). Onward h w x) (sym (enter_path path s inside w p)) (onward_label path s w k small p)
      go false p true q = subst (λ (x : Walk). Onward h w x) (sym (enter_met path s inside w p q)) (onward_refl k)
      go false p false q =
          subst (λ (x : Walk). Onward h w x) (sym (enter_new path s inside w p q))
          (onward_trans (onward_meet path s w k small) (f (meet s w) (kept_meet path s w k small)))

  module _ (good : Good h) where
    pub walk_onward : (n : ℕ) (path : List ℕ) → Goes path (λ v w. walk n h path v w)
    unfolding walk sound_rules
    walk_onward zero path v w e k = onward_refl k
    walk_onward (suc n) path (scalar x) w e k = onward_refl k
    walk_onward (suc n) path (slot s) w e k = go (λ p. walk_onward n p) (has_parts (cell_at h s)) refl
      where
        go : ((p : List ℕ) → Goes p (λ v w. walk n h p v w)) → (b : Bool) → has_parts (cell_at h s) ≡ b → Onward h w (walk (suc n) h path (slot s) w)
        go again true q =
            subst (λ (x : Walk). Onward h w x) (sym (walk_into n h path s w q))
            (enter_onward path s (walk_parts n h (s ∷ path) (cell_at h s)) (used_slot h s e).below
            (λ w k. parts_onward n (s ∷ path) (again (s ∷ path)) (cell_at h s) (good.cells s) w k) w k)
        go again false q = subst (λ (x : Walk). Onward h w x) (sym (walk_off (suc n) h path s w q)) (onward_refl k)

    pub walked_parts : (n : ℕ) (path : List ℕ) (s : ℕ) (w : Walk) → Kept h path w → Onward h w (walk_parts n h path (cell_at h s) w)
    walked_parts n path s w k = parts_onward n path (walk_onward n path) (cell_at h s) (good.cells s) w k
