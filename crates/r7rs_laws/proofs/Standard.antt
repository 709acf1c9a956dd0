-- Document 01, "Equality": "On data without Void, Undefined, scopes other than 0 or symbols without a table entry, where no
-- pair walk ends in a symbol or vector, `equal` is R7RS `equal?`." Assumes nothing.
use mathlib.Core.Path.{◌≡◌, refl, sym, ap, ◌∙◌, subst}
use mathlib.Core.Bool.{Bool, true}
use mathlib.Core.List.{List, [], ◌∷◌}
use mathlib.Core.Logic.{◌↔◌}
use mathlib.Core.Option.{some}
use Prim.Native.Nat.{ℕ, zero, suc}
use lib.ListN.{length, get_elem?}
use Rattle.laws.specs.Basics.{every, same, basics}
use Rattle.laws.proofs.Tests.{both_true, same_refl}
use Rattle.laws.proofs.Variants.{clash}
use Rattle.rules.specs.Cells.{Scalar, Value, slot, scalar, Block, Cell, plain, pair, symbol, string, vector, is_pair}
use Rattle.rules.specs.Heap.{Heap, cell_at, shown, text_of, elements_of}
use Rattle.rules.specs.Equal.{eqv_scalars, eqv_cells, eqv, alike, walks, element_by_element, Equal, equal_rules}
use Rattle.rules.specs.R7rs.{to_car, to_cdr, to_element, face, below, SameTree, Listed, r7rs_rules}
use Rattle.rules.proofs.Good.{Good}
use Rattle.equal_laws.specs.Levels.{holds}
use Rattle.equal_laws.proofs.Eqv.{cells_eqv, slot_eqv}
use Rattle.equal_laws.proofs.Levels.{Alike, by_eqv, by_walk, by_elements, Walks, by_pairs, at_end, alike_holds, walks_hold, holds_equal, equal_one}
use Rattle.r7rs_laws.proofs.Trees.{tree_below, tree_face, equal_tree}
use Rattle.r7rs_laws.proofs.Listed.{WalkStop, listed_scalar, same_symbol, listed_below, listed_itself, listed_cdr}

module _ (h : Heap) where
  -- ---- two cells that show the same

  data Facing : Cell → Cell → Type 0 where
    plains : {x y : Scalar} → x ≡ y → Facing (plain x) (plain y)
    pairs : {a d b f : ℕ} → Facing (pair a d) (pair b f)
    symbols : {b c : Block} → text_of h b ≡ text_of h c → Facing (symbol b) (symbol c)
    strings : {b c : Block} → text_of h b ≡ text_of h c → Facing (string b) (string c)
    vectors : {b c : Block} → length (elements_of h b) ≡ length (elements_of h c) → Facing (vector b) (vector c)

  facing : (c d : Cell) → face h c ≡ face h d → Facing c d
  unfolding r7rs_rules
  facing (plain x) (plain y) e = let q : x ≡ y = cc in plains q
  facing (plain x) (pair b f) e = clash (cc)
  facing (plain x) (symbol b) e = clash (cc)
  facing (plain x) (string b) e = clash (cc)
  facing (plain x) (vector b) e = clash (cc)
  facing (pair a d) (plain y) e = clash (cc)
  facing (pair a d) (pair b f) e = pairs
  facing (pair a d) (symbol b) e = clash (cc)
  facing (pair a d) (string b) e = clash (cc)
  facing (pair a d) (vector b) e = clash (cc)
  facing (symbol b) (plain y) e = clash (cc)
  facing (symbol b) (pair a d) e = clash (cc)
  facing (symbol b) (symbol c) e = let q : text_of h b ≡ text_of h c = cc in symbols q
  facing (symbol b) (string c) e = clash (cc)
  facing (symbol b) (vector c) e = clash (cc)
  facing (string b) (plain y) e = clash (cc)
  facing (string b) (pair a d) e = clash (cc)
  facing (string b) (symbol c) e = clash (cc)
  facing (string b) (string c) e = let q : text_of h b ≡ text_of h c = cc in strings q
  facing (string b) (vector c) e = clash (cc)
  facing (vector b) (plain y) e = clash (cc)
  facing (vector b) (pair a d) e = clash (cc)
  facing (vector b) (symbol c) e = clash (cc)
  facing (vector b) (string c) e = clash (cc)
  facing (vector b) (vector c) e = let q : length (elements_of h b) ≡ length (elements_of h c) = cc in vectors q

  -- ---- the same trees hold at every level

  -- a pair walk may begin at these
  record Walkable (s t : ℕ) : Type 0 where
    first : WalkStop (cell_at h s)
    second : WalkStop (cell_at h t)

  record Agree (n : ℕ) : Type 0 where
    for_alike : (v w : Value) → Listed h v → Listed h w → SameTree h v w → holds n h (alike v w) ≡ true
    for_walks : (s t : ℕ) → Walkable s t → Listed h (slot s) → Listed h (slot t) → SameTree h (slot s) (slot t) → holds n h (walks s t) ≡ true

  same_texts : (b c : Block) → text_of h b ≡ text_of h c → eqv_cells h (string b) (string c) ≡ true
  unfolding equal_rules
  same_texts b c e = ap (λ (l : List ℕ). same (text_of h b) l) (sym e) ∙ same_refl (text_of h b)

  same_scalars : (v : Value) (x y : Scalar) → shown h v ≡ plain x → x ≡ y → Listed h v → eqv_cells h (plain x) (plain y) ≡ true
  unfolding equal_rules
  same_scalars v x y p e l = ap (eqv_scalars x) (sym e) ∙ listed_scalar h v x p (listed_itself h v l)

  elements_agree : (n : ℕ) (vs ws : List Value) → ((i : ℕ) (x y : Value) → get_elem? vs i ≡ some x → get_elem? ws i ≡ some y → holds n h (alike x y) ≡ true) → every (holds n h) (element_by_element vs ws) ≡ true
  unfolding equal_rules basics
  elements_agree n [] ws all = refl
  elements_agree n (v ∷ vs) [] all = refl
  elements_agree n (v ∷ vs) (w ∷ ws) all =
      both_true (all 0 v w refl refl) (elements_agree n vs ws (λ i x y p q. all (suc i) x y p q))

  module _ (g : Good h) (n : ℕ) (less : Agree n) where
    module _ (s t : ℕ) (l : Listed h (slot s)) (m : Listed h (slot t)) (trees : SameTree h (slot s) (slot t)) where
      alike_vectors : (b c : Block) → cell_at h s ≡ vector b → cell_at h t ≡ vector c → length (elements_of h b) ≡ length (elements_of h c) → Alike h n (slot s) (slot t)
      unfolding r7rs_rules
      alike_vectors b c p q e =
          by_elements p q e
          (elements_agree n (elements_of h b) (elements_of h c)
          (λ i x y f f'.
          let down : below h (cell_at h s) (to_element i) ≡ some x = ap (λ (k : Cell). below h k (to_element i)) p ∙ f in
          let down' : below h (cell_at h t) (to_element i) ≡ some y = ap (λ (k : Cell). below h k (to_element i)) q ∙ f' in
          less.for_alike x y
          (listed_below h (slot s) x (to_element i) down l)
          (listed_below h (slot t) y (to_element i) down' m)
          (tree_below h (slot s) (slot t) x y (to_element i) down down' trees)))

      walk_pairs : (a d b f : ℕ) → cell_at h s ≡ pair a d → cell_at h t ≡ pair b f → Walks h n s t
      unfolding r7rs_rules
      walk_pairs a d b f p q =
          let car : below h (cell_at h s) to_car ≡ some (slot a) = ap (λ (k : Cell). below h k to_car) p in
          let car' : below h (cell_at h t) to_car ≡ some (slot b) = ap (λ (k : Cell). below h k to_car) q in
          let cdr : below h (cell_at h s) to_cdr ≡ some (slot d) = ap (λ (k : Cell). below h k to_cdr) p in
          let cdr' : below h (cell_at h t) to_cdr ≡ some (slot f) = ap (λ (k : Cell). below h k to_cdr) q in
          by_pairs p q
          (less.for_alike (slot a) (slot b)
          (listed_below h (slot s) (slot a) to_car car l)
          (listed_below h (slot t) (slot b) to_car car' m)
          (tree_below h (slot s) (slot t) (slot a) (slot b) to_car car car' trees))
          (less.for_walks d f
          (record { first = listed_cdr h s a d p l; second = listed_cdr h t b f q m })
          (listed_below h (slot s) (slot d) to_cdr cdr l)
          (listed_below h (slot t) (slot f) to_cdr cdr' m)
          (tree_below h (slot s) (slot t) (slot d) (slot f) to_cdr cdr cdr' trees))

      walk_facing : Walkable s t → (c d : Cell) → cell_at h s ≡ c → cell_at h t ≡ d → Facing c d → Walks h n s t
      walk_facing w (plain x) (plain y) p q (plains e) =
          at_end (ap is_pair p) ((λ i. eqv_cells h (p i) (q i)) ∙ same_scalars (slot s) x y p e l)
      walk_facing w (pair a d) (pair b f) p q pairs = walk_pairs a d b f p q
      walk_facing w (symbol b) (symbol c) p q (symbols e) = absurd (subst WalkStop p w.first)
      walk_facing w (string b) (string c) p q (strings e) =
          at_end (ap is_pair p) ((λ i. eqv_cells h (p i) (q i)) ∙ same_texts b c e)
      walk_facing w (vector b) (vector c) p q (vectors e) = absurd (subst WalkStop p w.first)
      walk_facing w (plain x) (pair b f) p q x7 = elim x7 [ ]
      walk_facing w (plain x) (symbol c) p q x8 = elim x8 [ ]
      walk_facing w (plain x) (string c) p q x9 = elim x9 [ ]
      walk_facing w (plain x) (vector c) p q x10 = elim x10 [ ]
      walk_facing w (pair a d) (plain y) p q x5 = elim x5 [ ]
      walk_facing w (pair a d) (symbol c) p q x6 = elim x6 [ ]
      walk_facing w (pair a d) (string c) p q x7 = elim x7 [ ]
      walk_facing w (pair a d) (vector c) p q x8 = elim x8 [ ]
      walk_facing w (symbol b) (plain y) p q x6 = elim x6 [ ]
      walk_facing w (symbol b) (pair _ f) p q x8 = elim x8 [ ]
      walk_facing w (symbol b) (string c) p q x8 = elim x8 [ ]
      walk_facing w (symbol b) (vector c) p q x9 = elim x9 [ ]
      walk_facing w (string b) (plain y) p q x7 = elim x7 [ ]
      walk_facing w (string b) (pair _ f) p q x9 = elim x9 [ ]
      walk_facing w (string b) (symbol c) p q x9 = elim x9 [ ]
      walk_facing w (string b) (vector c) p q x10 = elim x10 [ ]
      walk_facing w (vector b) (plain y) p q x8 = elim x8 [ ]
      walk_facing w (vector b) (pair _ f) p q x10 = elim x10 [ ]
      walk_facing w (vector b) (symbol c) p q x10 = elim x10 [ ]
      walk_facing w (vector b) (string c) p q x11 = elim x11 [ ]

      -- two slots
      slots_facing : (c d : Cell) → cell_at h s ≡ c → cell_at h t ≡ d → Facing c d → Alike h n (slot s) (slot t)
      slots_facing (plain x) (plain y) p q (plains e) =
          by_eqv (cells_eqv h (slot s) (slot t) ((λ i. eqv_cells h (p i) (q i)) ∙ same_scalars (slot s) x y p e l))
      slots_facing (pair a d) (pair b f) p q pairs =
          by_walk p q
          (less.for_walks s t (record { first = subst WalkStop (sym p) tt; second = subst WalkStop (sym q) tt }) l m trees)
      slots_facing (symbol b) (symbol c) p q (symbols e) =
          by_eqv
          (subst (λ (x : ℕ). eqv h (slot s) (slot x) ≡ true)
          (same_symbol h g s t b c p q (listed_itself h (slot s) l) (listed_itself h (slot t) m) e)
          (slot_eqv h s))
      slots_facing (string b) (string c) p q (strings e) =
          by_eqv (cells_eqv h (slot s) (slot t) ((λ i. eqv_cells h (p i) (q i)) ∙ same_texts b c e))
      slots_facing (vector b) (vector c) p q (vectors e) = alike_vectors b c p q e
      slots_facing (plain x) (pair b f) p q x7 = elim x7 [ ]
      slots_facing (plain x) (symbol c) p q x8 = elim x8 [ ]
      slots_facing (plain x) (string c) p q x9 = elim x9 [ ]
      slots_facing (plain x) (vector c) p q x10 = elim x10 [ ]
      slots_facing (pair a d) (plain y) p q x5 = elim x5 [ ]
      slots_facing (pair a d) (symbol c) p q x6 = elim x6 [ ]
      slots_facing (pair a d) (string c) p q x7 = elim x7 [ ]
      slots_facing (pair a d) (vector c) p q x8 = elim x8 [ ]
      slots_facing (symbol b) (plain y) p q x6 = elim x6 [ ]
      slots_facing (symbol b) (pair _ f) p q x8 = elim x8 [ ]
      slots_facing (symbol b) (string c) p q x8 = elim x8 [ ]
      slots_facing (symbol b) (vector c) p q x9 = elim x9 [ ]
      slots_facing (string b) (plain y) p q x7 = elim x7 [ ]
      slots_facing (string b) (pair _ f) p q x9 = elim x9 [ ]
      slots_facing (string b) (symbol c) p q x9 = elim x9 [ ]
      slots_facing (string b) (vector c) p q x10 = elim x10 [ ]
      slots_facing (vector b) (plain y) p q x8 = elim x8 [ ]
      slots_facing (vector b) (pair _ f) p q x10 = elim x10 [ ]
      slots_facing (vector b) (symbol c) p q x10 = elim x10 [ ]
      slots_facing (vector b) (string c) p q x11 = elim x11 [ ]

    -- a scalar, and what shows the same
    scalar_facing : (v w : Value) (x y : Scalar) → shown h v ≡ plain x → shown h w ≡ plain y → Facing (plain x) (plain y) → Listed h v → Alike h n v w
    scalar_facing v w x y p q (plains e) l =
        by_eqv (cells_eqv h v w ((λ i. eqv_cells h (p i) (q i)) ∙ same_scalars v x y p e l))

    alike_trees : (v w : Value) → Listed h v → Listed h w → SameTree h v w → Alike h n v w
    alike_trees (slot s) (slot t) l m trees =
        slots_facing s t l m trees (cell_at h s) (cell_at h t) refl refl (facing (cell_at h s) (cell_at h t) (tree_face h (slot s) (slot t) trees))
    alike_trees (slot s) (scalar y) l m trees =
        go (cell_at h s) refl (facing (cell_at h s) (plain y) (tree_face h (slot s) (scalar y) trees))
      where
        go : (c : Cell) → cell_at h s ≡ c → Facing c (plain y) → Alike h n (slot s) (scalar y)
        go (plain x) p f = scalar_facing (slot s) (scalar y) x y p refl f l
        go (pair _ _) p f = elim f [ ]
        go (symbol _) p f = elim f [ ]
        go (string _) p f = elim f [ ]
        go (vector _) p f = elim f [ ]
    alike_trees (scalar x) w l m trees =
        go (shown h w) refl (facing (plain x) (shown h w) (tree_face h (scalar x) w trees))
      where
        go : (c : Cell) → shown h w ≡ c → Facing (plain x) c → Alike h n (scalar x) w
        go (plain y) p f = scalar_facing (scalar x) w x y refl p f l
        go (pair _ _) p f = elim f [ ]
        go (symbol _) p f = elim f [ ]
        go (string _) p f = elim f [ ]
        go (vector _) p f = elim f [ ]

  agree : Good h → (n : ℕ) → Agree n
  unfolding holds
  agree g zero = record { for_alike = λ v w l m e. refl; for_walks = λ s t w l m e. refl }
  agree g (suc n) =
      let less = agree g n in
      record {
        for_alike = λ v w l m e. alike_holds h n v w (alike_trees g n less v w l m e);
        for_walks = λ s t w l m e.
            walks_hold h n s t
            (walk_facing g n less s t l m e w (cell_at h s) (cell_at h t) refl refl
            (facing (cell_at h s) (cell_at h t) (tree_face h (slot s) (slot t) e)));
      }

  -- ---- the theorem

  module _ (g : Good h) (v w : Value) (l : Listed h v) (m : Listed h w) where
    pub tree_equal : SameTree h v w → Equal h v w true
    tree_equal trees = holds_equal h v w (λ n. (agree g n).for_alike v w l m trees)

    -- `equal` is `equal?`
    pub equal_standard : Equal h v w true ↔ SameTree h v w
    equal_standard = (equal_tree h v w, tree_equal)

    -- and so is any answer that `equal` gives
    pub answer_standard : (b : Bool) → Equal h v w b → (b ≡ true) ↔ SameTree h v w
    answer_standard b e = (
      λ p. equal_tree h v w (subst (λ (x : Bool). Equal h v w x) p e),
      λ trees. equal_one h v w b true e (tree_equal trees),
    )
