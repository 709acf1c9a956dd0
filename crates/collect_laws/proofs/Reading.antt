-- What is reached reads the same where every reached slot shows what it showed: the walk gives the same labels, and the build the
-- same datum. Document 01, "Reading back". Assumes nothing.
use mathlib.Core.Path.{◌≡◌, refl, ap, ◌∙◌}
use mathlib.Core.Bool.{true, false}
use mathlib.Core.List.{List, [], ◌∷◌, Memᴰ}
use mathlib.Core.Option.{Option, none}
use Prim.Native.Nat.{ℕ, zero, suc}
use lib.Dec.{leb}
use lib.ListN.{length}
use Rattle.laws.specs.Basics.{member}
use Rattle.rules.specs.Numbers.{most_nodes, most_labels}
use Rattle.rules.specs.Cells.{Value, slot, scalar, Block, Cell, plain, pair, symbol, string, vector}
use Rattle.rules.specs.Nodes.{Atom}
use Rattle.rules.specs.Datum.{Datum, more}
use Rattle.rules.specs.Heap.{Heap, capacity, cell_at, elements_of}
use Rattle.rules.specs.Collect.{slots_among, leads_to, Reached, next}
use Rattle.rules.specs.Read.{Walk, enter, in_order, walk, labels_for, place_in, Room, Built, built, and_then, spend, build_all, build_cell, build, reading_of, reading, read_rules}
use Rattle.collect_laws.specs.Kept.{AsBefore, same_scalar, same_pair, symbol_moved, string_moved, vector_moved, ReachedValue, no_slot, at_slot}

-- ---- reached values

pub data ReachedValues (h : Heap) (roots : List ℕ) : List Value → Type 0 where
  none_left : ReachedValues h roots []
  one_more : {v : Value} {vs : List Value} → ReachedValue h roots v → ReachedValues h roots vs → ReachedValues h roots (v ∷ vs)

reached_values : (h : Heap) (roots : List ℕ) (vs : List Value) → ((t : ℕ) → Memᴰ t (slots_among vs) → Reached h roots t) → ReachedValues h roots vs
unfolding slots_among
reached_values h roots [] p = none_left
reached_values h roots (slot s ∷ vs) p = one_more (at_slot (p s (Memᴰ.head refl))) (reached_values h roots vs (λ t m. p t (Memᴰ.tail m)))
reached_values h roots (scalar x ∷ vs) p = one_more no_slot (reached_values h roots vs p)

-- all that a cell leads to is reached
abbrev pub Led : Heap → List ℕ → Cell → Type 0
Led h roots c = (t : ℕ) → Memᴰ t (leads_to h c) → Reached h roots t

pub pair_led : (h : Heap) (roots : List ℕ) (a d : ℕ) → Led h roots (pair a d) → ReachedValue h roots (slot a) × ReachedValue h roots (slot d)
unfolding leads_to
pair_led h roots a d p = (at_slot (p a (Memᴰ.head refl)), at_slot (p d (Memᴰ.tail (Memᴰ.head refl))))

pub vector_led : (h : Heap) (roots : List ℕ) (b : Block) → Led h roots (vector b) → ReachedValues h roots (elements_of h b)
unfolding leads_to
vector_led h roots b p = reached_values h roots (elements_of h b) p

module _ (h k : Heap) (roots : List ℕ) (same : (s : ℕ) → Reached h roots s → AsBefore h k (cell_at h s) (cell_at k s)) where
  -- ---- the walk

  abbrev walk_cell : ℕ → Heap → List ℕ → ℕ → Cell → Walk → Walk
  walk_cell n x path s c w =
      elim c [
        | plain y ↦ w
        | pair a d ↦ enter path s (λ w. walk n x (s ∷ path) (slot d) (walk n x (s ∷ path) (slot a) w)) w
        | symbol b ↦ w
        | string b ↦ w
        | vector b ↦ enter path s (in_order (λ v w. walk n x (s ∷ path) v w) (elements_of x b)) w
      ]

  pub in_order_same : (f g : Value → Walk → Walk) → ((v : Value) (w : Walk) → ReachedValue h roots v → f v w ≡ g v w) → {vs : List Value} → ReachedValues h roots vs → (w : Walk) → in_order f vs w ≡ in_order g vs w
  unfolding in_order
  in_order_same f g p none_left w = refl
  in_order_same f g p (one_more {v} {vs} r rs) w = ap (in_order f vs) (p v w r) ∙ in_order_same f g p rs (g v w)

  pub walk_same : (n : ℕ) (path : List ℕ) (v : Value) (w : Walk) → ReachedValue h roots v → walk n k path v w ≡ walk n h path v w
  unfolding walk
  walk_same zero path v w r = refl
  walk_same (suc n) path (scalar x) w r = refl
  walk_same (suc n) path (slot s) w (at_slot r) = by (walk_same n (s ∷ path)) (same s r) (λ t m. next r m)
    where
      by : ((v : Value) (w : Walk) → ReachedValue h roots v → walk n k (s ∷ path) v w ≡ walk n h (s ∷ path) v w) → {c d : Cell} → AsBefore h k c d → Led h roots c → walk_cell n k path s d w ≡ walk_cell n h path s c w
      by again (same_scalar x) led = refl
      by again (same_pair a d) led =
          let p = pair_led h roots a d led in
          λ i. enter path s (λ w. (again (slot d) (walk n k (s ∷ path) (slot a) w) p.1 ∙ ap (walk n h (s ∷ path) (slot d)) (again (slot a) w p.0)) i) w
      by again (symbol_moved b c z t) led = refl
      by again (string_moved b c z t) led = refl
      by again (vector_moved b c z t) led =
          (λ i. enter path s (in_order (λ v w. walk n k (s ∷ path) v w) (t i)) w)
          ∙ (λ i.
          enter path s
          (λ w. in_order_same (λ v w. walk n k (s ∷ path) v w) (λ v w. walk n h (s ∷ path) v w) again (vector_led h roots b led) w i)
          w)

  -- ---- the build

  module _ (one one' : Value → Room → Option (Built Datum)) (p : (v : Value) (r : Room) → ReachedValue h roots v → one v r ≡ one' v r) where
    build_all_same : {vs : List Value} → ReachedValues h roots vs → (r : Room) → build_all one vs r ≡ build_all one' vs r
    unfolding read_rules
    build_all_same none_left r = refl
    build_all_same (one_more {v} {vs} x xs) r =
        λ i. and_then (p v r x i) (λ d r. and_then (build_all_same xs r i) (λ ds. built (more d ds)))

    build_cell_same : {c d : Cell} → AsBefore h k c d → Led h roots c → (r : Room) → build_cell one k d r ≡ build_cell one' h c r
    unfolding read_rules
    build_cell_same (same_scalar x) led r = refl
    build_cell_same (same_pair a d) led r =
        let q = pair_led h roots a d led in
        λ i. spend r (λ r. and_then (p (slot a) r q.0 i) (λ x r. and_then (p (slot d) r q.1 i) (λ y. built (Datum.pair x y))))
    build_cell_same (symbol_moved b c z t) led r = λ i. spend r (built (Datum.atom (Atom.symbol (t i))))
    build_cell_same (string_moved b c z t) led r = λ i. spend r (built (Datum.atom (Atom.string (t i))))
    build_cell_same (vector_moved b c z t) led r =
        (λ i. spend r (λ r. and_then (build_all one (t i) r) (λ ds. built (Datum.vector ds))))
        ∙ (λ i. spend r (λ r. and_then (build_all_same (vector_led h roots b led) r i) (λ ds. built (Datum.vector ds))))

  build_same : (n : ℕ) (labels : List ℕ) (v : Value) (r : Room) → ReachedValue h roots v → build n k labels v r ≡ build n h labels v r
  unfolding build
  build_same zero labels v r x = refl
  build_same (suc n) labels (scalar y) r x = refl
  build_same (suc n) labels (slot s) r (at_slot x) = by (build_same n labels)
    where
      by : ((v : Value) (r : Room) → ReachedValue h roots v → build n k labels v r ≡ build n h labels v r) → build (suc n) k labels (slot s) r ≡ build (suc n) h labels (slot s) r
      by again =
          let cell = build_cell_same (λ v r. build n k labels v r) (λ v r. build n h labels v r) again (same s x) (λ t m. next x m) in
          λ i.
          elim (member s labels) [
            | false ↦ cell r i
            | true ↦
                spend r
                (λ r.
                elim (member s r.begun) [
                  | true ↦ built (Datum.atom (Atom.ref (place_in labels s))) r
                  | false ↦
                      and_then (cell (record { left = r.left; begun = s ∷ r.begun }) i)
                      (λ d. built (Datum.def (place_in labels s) d))
                ])
          ]

  -- ---- the reading

  pub same_by_labels : (v : Value) → ReachedValue h roots v → labels_for k v ≡ labels_for h v → reading k v ≡ reading h v
  unfolding reading
  same_by_labels v x labels =
      λ i.
      elim (leb (length (labels i)) most_labels) [
        | false ↦ none
        | true ↦ reading_of ((ap (λ (ls : List ℕ). build most_nodes k ls v (record { left = most_nodes; begun = [] })) labels
            ∙ build_same most_nodes (labels_for h v) v (record { left = most_nodes; begun = [] }) x) i)
      ]

  module _ (size : capacity k ≡ capacity h) where
    labels_same : (v : Value) → ReachedValue h roots v → labels_for k v ≡ labels_for h v
    unfolding labels_for
    labels_same v x =
        ap (λ (n : ℕ). (walk (suc n) k [] v (record { met = []; labels = [] })).labels) size
        ∙ ap (λ (w : Walk). w.labels) (walk_same (suc (capacity h)) [] v (record { met = []; labels = [] }) x)

    pub same_reading : (v : Value) → ReachedValue h roots v → reading k v ≡ reading h v
    same_reading v x = same_by_labels v x (labels_same v x)
