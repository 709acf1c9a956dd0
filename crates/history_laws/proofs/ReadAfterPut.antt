-- What is in use reads and compares the same in a heap that has grown, where it shows what it showed: the walk of a reading is
-- bounded by the capacity, and any larger bound walks the same way, since a path has each slot once. Document 01, "Reading back".
-- Assumes nothing.
use mathlib.Core.Path.{◌≡◌, refl, sym, ap, ◌∙◌, subst}
use mathlib.Core.Bool.{Bool, true, false}
use mathlib.Core.List.Memᴰ
use mathlib.Core.List.{List, [], ◌∷◌}
use Prim.Native.Nat.{ℕ, zero, suc, ◌+◌, ◌≤◌, ◌<◌}
use native.Mathlib.Omega.{arith}
use native.Mathlib.Decide.{ℕ_discrete}
use borrow.Author.Tests.{lt-ltb}
use lib.Dec.{ltb}
use lib.ListN.{length}
use Rattle.laws.specs.Basics.{every, count, member, basics}
use Rattle.laws.proofs.Tests.{true≢false, both_true}
use Rattle.laws.proofs.Pointwise.{count_here, count_other}
use Rattle.rules.specs.Cells.{Value, slot, scalar, Cell, plain, pair, symbol, string, vector}
use Rattle.rules.specs.Heap.{Heap, capacity, cell_at, in_use, text_of, elements_of}
use Rattle.rules.specs.Collect.{Reached, root, next}
use Rattle.rules.specs.Sound.{text_block, vector_block, sound_rules}
use Rattle.rules.specs.Read.{Walk, give_label, meet, enter, in_order, walk, labels_for, reading}
use Rattle.rules.proofs.Good.{Good, used_slot, each_once}
use Rattle.collect_laws.specs.Kept.{AsBefore, same_scalar, same_pair, symbol_moved, string_moved, vector_moved, ReachedValue}
use Rattle.collect_laws.specs.Kept as Kept
use Rattle.collect_laws.proofs.Leading.{marked_in_use, is_marked}
use Rattle.collect_laws.proofs.Reading.{Led, pair_led, vector_led, in_order_same, walk_same, same_by_labels}
use Rattle.collect_laws.proofs.Comparing.{same_eqv, same_equal}
use Rattle.history_laws.specs.Histories.{Slots}
use Rattle.history_laws.specs.Lines.{Held, no_slot, at_slot, SameValues}
use Rattle.history_laws.proofs.Supplies.{count_none}

-- ---- a path

-- slots below the capacity, each once
record OnPath (h : Heap) (path : List ℕ) : Type 0 where
  below : every (λ x. ltb x (capacity h)) path ≡ true
  once : (s : ℕ) → count s path ≤ 1

path_most : (h : Heap) (path : List ℕ) → OnPath h path → length path ≤ capacity h
path_most h path p = each_once (capacity h) path p.below (λ s l. p.once s)

no_path : (h : Heap) → OnPath h []
unfolding basics
no_path h = record { below = refl; once = λ s. omega arith }

longer_path : (h : Heap) (path : List ℕ) (s : ℕ) → OnPath h path → s < capacity h → member s path ≡ false → OnPath h (s ∷ path)
unfolding basics
longer_path h path s p l new =
    record {
      below = both_true (lt-ltb s (capacity h) l) p.below;
      once =
          λ t.
          elim (ℕ_discrete t s) [
            | yes e ↦
                omega (
                  arith,
                  count_here t s path e,
                  count_none t path (λ m. true≢false (sym m ∙ ap (λ (x : ℕ). member x path) e ∙ new)),
                )
            | no d ↦ omega (arith, count_other t s path d, p.once t)
          ];
    }

-- what is inside is asked only where the slot is not on the path
enter_same : (path : List ℕ) (s : ℕ) (f g : Walk → Walk) (w : Walk) → (member s path ≡ false → (w : Walk) → f w ≡ g w) → enter path s f w ≡ enter path s g w
unfolding enter
enter_same path s f g w p = by (member s path) refl
  where
    entered : (Walk → Walk) → Bool → Walk
    entered f b = elim b [ true ↦ give_label s w | false ↦ elim (member s w.met) [ true ↦ w | false ↦ f (meet s w) ] ]

    by : (b : Bool) → member s path ≡ b → entered f b ≡ entered g b
    by true e = refl
    by false e = λ i. elim (member s w.met) as (λ b. Walk) [ true ↦ w | false ↦ p e (meet s w) i ]

-- ---- every bound that is enough walks the same way

module _ (h : Heap) (g : Good h) (roots : List ℕ) (u : every (in_use h) roots ≡ true) where
  pub reached_used : (s : ℕ) → Reached h roots s → in_use h s ≡ true
  reached_used s r = marked_in_use h g roots u s (is_marked h g roots u s r)

  abbrev walk_cell : ℕ → List ℕ → ℕ → Cell → Walk → Walk
  walk_cell n path s c w =
      elim c [
        | plain y ↦ w
        | pair a d ↦ enter path s (λ w. walk n h (s ∷ path) (slot d) (walk n h (s ∷ path) (slot a) w)) w
        | symbol b ↦ w
        | string b ↦ w
        | vector b ↦ enter path s (in_order (λ v w. walk n h (s ∷ path) v w) (elements_of h b)) w
      ]

  self : (s : ℕ) → AsBefore h h (cell_at h s) (cell_at h s)
  self s = by (cell_at h s)
    where
      by : (c : Cell) → AsBefore h h c c
      by (plain x) = same_scalar x
      by (pair a d) = same_pair a d
      by (symbol b) = symbol_moved b b refl refl
      by (string b) = string_moved b b refl refl
      by (vector b) = vector_moved b b refl refl

  walk_enough : (n m : ℕ) (path : List ℕ) → OnPath h path → capacity h < n + length path → capacity h < m + length path → (v : Value) (w : Walk) → ReachedValue h roots v → walk n h path v w ≡ walk m h path v w
  unfolding walk
  walk_enough zero m path p l k v w r = absurd (omega (arith, path_most h path p))
  walk_enough (suc n) zero path p l k v w r = absurd (omega (arith, path_most h path p))
  walk_enough (suc n) (suc m) path p l k (scalar x) w r = refl
  walk_enough (suc n) (suc m) path p l k (slot s) w (Kept.at_slot r) =
      by
      (λ new.
      walk_enough n m (s ∷ path) (longer_path h path s p (used_slot h s (reached_used s r)).below new) (omega arith) (omega arith))
      (cell_at h s)
      (λ t q. next r q)
    where
      by : (member s path ≡ false → (v : Value) (w : Walk) → ReachedValue h roots v → walk n h (s ∷ path) v w ≡ walk m h (s ∷ path) v w) → (c : Cell) → Led h roots c → walk_cell n path s c w ≡ walk_cell m path s c w
      by again (plain x) led = refl
      by again (pair a d) led =
          let q = pair_led h roots a d led in
          enter_same path s _ _ w
          (λ new w.
          again new (slot d) (walk n h (s ∷ path) (slot a) w) q.1 ∙ ap (walk m h (s ∷ path) (slot d)) (again new (slot a) w q.0))
      by again (symbol b) led = refl
      by again (string b) led = refl
      by again (vector b) led =
          enter_same path s _ _ w
          (λ new.
          in_order_same h h roots (λ s x. self s) (λ v w. walk n h (s ∷ path) v w) (λ v w. walk m h (s ∷ path) v w) (again new)
          (vector_led h roots b led))

-- ---- the reading

module _ (h k : Heap) (g : Good h) (more : capacity h ≤ capacity k)
    (cells : (s : ℕ) → in_use h s ≡ true → cell_at k s ≡ cell_at h s)
    (texts : (s : ℕ) → text_of k (text_block (cell_at h s)) ≡ text_of h (text_block (cell_at h s)))
    (vectors : (s : ℕ) → elements_of k (vector_block (cell_at h s)) ≡ elements_of h (vector_block (cell_at h s))) where
  as_it_was : (s : ℕ) → in_use h s ≡ true → AsBefore h k (cell_at h s) (cell_at k s)
  unfolding sound_rules
  as_it_was s u = subst (AsBefore h k (cell_at h s)) (sym (cells s u)) (by (cell_at h s) (texts s) (vectors s))
    where
      by : (c : Cell) → text_of k (text_block c) ≡ text_of h (text_block c) → elements_of k (vector_block c) ≡ elements_of h (vector_block c) → AsBefore h k c c
      by (plain x) t v = same_scalar x
      by (pair a d) t v = same_pair a d
      by (symbol b) t v = symbol_moved b b refl t
      by (string b) t v = string_moved b b refl t
      by (vector b) t v = vector_moved b b refl v

  abbrev Used : Slots
  Used s = in_use h s ≡ true

  stays : (roots : List ℕ) → every (in_use h) roots ≡ true → (s : ℕ) → Reached h roots s → AsBefore h k (cell_at h s) (cell_at k s)
  stays roots u s r = as_it_was s (reached_used h g roots u s r)

  from_roots : (roots : List ℕ) → every (in_use h) roots ≡ true → (v : Value) → ReachedValue h roots v → reading k v ≡ reading h v
  unfolding labels_for
  from_roots roots u v x =
      let same = stays roots u in
      same_by_labels h k roots same v x
      (ap (λ (w : Walk). w.labels)
      (walk_same h k roots same (suc (capacity k)) [] v (record { met = []; labels = [] }) x
      ∙ walk_enough h g roots u (suc (capacity k)) (suc (capacity h)) [] (no_path h) (omega arith) (omega arith) v (record { met = []; labels = [] }) x))

  -- two values in use, as what two roots reach
  record TwoRoots (v w : Value) : Type 0 where
    roots : List ℕ
    roots_used : every (in_use h) roots ≡ true
    first : ReachedValue h roots v
    second : ReachedValue h roots w

  two_roots : (v w : Value) → Held Used v → Held Used w → TwoRoots v w
  unfolding basics
  two_roots v w no_slot no_slot = record { roots = []; roots_used = refl; first = Kept.no_slot; second = Kept.no_slot }
  two_roots v w no_slot (at_slot {s = t} u) =
      record { roots = t ∷ []; roots_used = both_true u refl; first = Kept.no_slot; second = Kept.at_slot (root (Memᴰ.head refl)) }
  two_roots v w (at_slot {s} u) no_slot =
      record { roots = s ∷ []; roots_used = both_true u refl; first = Kept.at_slot (root (Memᴰ.head refl)); second = Kept.no_slot }
  two_roots v w (at_slot {s} u) (at_slot {s = t} x) =
      record {
        roots = s ∷ t ∷ [];
        roots_used = both_true u (both_true x refl);
        first = Kept.at_slot (root (Memᴰ.head refl));
        second = Kept.at_slot (root (Memᴰ.tail (Memᴰ.head refl)));
      }

  pub grown_same : SameValues Used h k
  grown_same =
      record {
        shows = as_it_was;
        reads = λ v x. let r = two_roots v v x x in from_roots r.roots r.roots_used v r.first;
        compares = λ v w x y. let r = two_roots v w x y in same_eqv h k r.roots (stays r.roots r.roots_used) r.first r.second;
        equals = λ v w x y. let r = two_roots v w x y in same_equal h k r.roots (stays r.roots r.roots_used) r.first r.second;
      }
