-- Values that are `equal` unfold to the same tree, whatever they hold: each level of `equal` settles the paths of half its
-- length. Document 01, "Equality", beside R7RS small, 6.1. Assumes nothing.
use mathlib.Core.Path.{◌≡◌, refl, sym, ap, ◌∙◌}
use mathlib.Core.Bool.{true}
use mathlib.Core.List.{List, [], ◌∷◌}
use mathlib.Core.Logic.{⊎_elim}
use mathlib.Core.Option.{Option, none, some}
use Prim.Native.Nat.{ℕ, zero, suc, ◌+◌, ◌*◌, ◌≤◌}
use native.Mathlib.Omega.{arith}
use lib.ListN.{length, get_elem?}
use Rattle.laws.specs.Basics.{every, basics}
use Rattle.laws.proofs.Tests.{both_left, both_right}
use Rattle.rules.specs.Cells.{Value, Block, slot, Cell, plain, pair, symbol, string, vector}
use Rattle.rules.specs.Heap.{Heap, cell_at, shown, text_of, elements_of}
use Rattle.rules.specs.Equal.{eqv_cells, alike, walks, element_by_element, Equal, equal_rules}
use Rattle.rules.specs.R7rs.{Turn, to_car, to_cdr, to_element, Face, nothing, a_string, a_vector, face, below, unfolded, SameTree, r7rs_rules}
use Rattle.equal_laws.specs.Levels.{holds}
use Rattle.equal_laws.proofs.Eqv.{never, look, a_text, eqv_cells_look, pair_look, eqv_scalars_equal, eqv_cases}
use Rattle.equal_laws.proofs.Levels.{Alike, by_eqv, by_walk, by_elements, Walks, by_pairs, at_end, alike_view, walks_view, equal_holds}

module _ (h : Heap) where
  -- ---- the tree by what a value shows

  -- what stands down a path from a value, if there is one
  from : Option Value → List Turn → Face
  unfolding r7rs_rules
  from none p = nothing
  from (some v) p = unfolded h v p

  tree : Cell → List Turn → Face
  unfolding r7rs_rules
  tree c [] = face h c
  tree c (t ∷ ts) = from (below h c t) ts

  unfolded_is : (v : Value) (p : List Turn) → unfolded h v p ≡ tree (shown h v) p
  unfolding r7rs_rules tree from
  unfolded_is v [] = refl
  unfolded_is v (t ∷ ts) = go (below h (shown h v) t)
    where
      go : (o : Option Value) → elim o as (λ x. Face) [ none ↦ nothing | some w ↦ unfolded h w ts ] ≡ from o ts
      go none = refl
      go (some w) = refl

  -- what is below the same place of the same trees is the same tree
  module _ (v w x y : Value) (t : Turn) where
    pub tree_below : below h (shown h v) t ≡ some x → below h (shown h w) t ≡ some y → SameTree h v w → SameTree h x y
    unfolding r7rs_rules tree from
    tree_below e f same p =
        sym (unfolded_is v (t ∷ p) ∙ ap (λ (o : Option Value). from o p) e) ∙ same (t ∷ p)
        ∙ unfolded_is w (t ∷ p) ∙ ap (λ (o : Option Value). from o p) f

  pub tree_face : (v w : Value) → SameTree h v w → face h (shown h v) ≡ face h (shown h w)
  unfolding r7rs_rules
  tree_face v w same = same []

  -- cells that are `eqv` have the same tree
  eqv_tree : (c d : Cell) → eqv_cells h c d ≡ true → (p : List Turn) → tree c p ≡ tree d p
  unfolding equal_rules r7rs_rules tree from look
  eqv_tree (plain s) (plain t) e p = ap (λ x. tree (plain x) p) (eqv_scalars_equal s t e)
  eqv_tree (plain s) (pair b f) e p = never e
  eqv_tree (plain s) (symbol b) e p = never e
  eqv_tree (plain s) (string b) e p = never e
  eqv_tree (plain s) (vector b) e p = never e
  eqv_tree (pair a d) c e p = sym (ap (λ (x : Cell). tree x p) (pair_look h c a d (sym (eqv_cells_look h (pair a d) c e))))
  eqv_tree (symbol b) d e p = never e
  eqv_tree (string b) (plain t) e p = never e
  eqv_tree (string b) (pair a d) e p = never e
  eqv_tree (string b) (symbol c) e p = never e
  eqv_tree (string b) (string c) e p = go p (texts (eqv_cells_look h (string b) (string c) e))
    where
      texts : {s t : List ℕ} → a_text s ≡ a_text t → s ≡ t
      texts q = cc

      go : (p : List Turn) → text_of h b ≡ text_of h c → tree (string b) p ≡ tree (string c) p
      go [] q = ap a_string q
      go (t ∷ ts) q = refl
  eqv_tree (string b) (vector c) e p = never e
  eqv_tree (vector b) d e p = never e

  -- ---- a level of `equal` settles the paths of half its length

  record Settles (n : ℕ) : Type 0 where
    for_alike : (v w : Value) → holds n h (alike v w) ≡ true → (p : List Turn) → 2 * length p + 2 ≤ n → unfolded h v p ≡ unfolded h w p
    for_walks : (s t : ℕ) → holds n h (walks s t) ≡ true → (p : List Turn) → 2 * length p + 1 ≤ n → unfolded h (slot s) p ≡ unfolded h (slot t) p

  module _ (n : ℕ) (less : Settles n) where
    -- element by element, and past the end nothing on both sides
    same_elements : (vs ws : List Value) → length vs ≡ length ws → every (holds n h) (element_by_element vs ws) ≡ true → (i : ℕ) (p : List Turn) → 2 * length p + 2 ≤ n → from (get_elem? vs i) p ≡ from (get_elem? ws i) p
    unfolding equal_rules basics from
    same_elements [] [] l e i p fits = refl
    same_elements [] (w ∷ ws) l e i p fits = absurd (omega arith)
    same_elements (v ∷ vs) [] l e i p fits = absurd (omega arith)
    same_elements (v ∷ vs) (w ∷ ws) l e zero p fits =
        less.for_alike v w (both_left (holds n h (alike v w)) _ e) p fits
    same_elements (v ∷ vs) (w ∷ ws) l e (suc i) p fits =
        same_elements vs ws (omega arith) (both_right (holds n h (alike v w)) _ e) i p fits

    -- two cells, each shown by a slot
    shown_by : (s t : ℕ) {c d : Cell} → cell_at h s ≡ c → cell_at h t ≡ d → (p : List Turn) → tree c p ≡ tree d p → unfolded h (slot s) p ≡ unfolded h (slot t) p
    shown_by s t e f p q =
        unfolded_is (slot s) p ∙ ap (λ (c : Cell). tree c p) e ∙ q ∙ sym (ap (λ (c : Cell). tree c p) f) ∙ sym (unfolded_is (slot t) p)

    vectors : (s t : ℕ) (b c : Block) → cell_at h s ≡ vector b → cell_at h t ≡ vector c → length (elements_of h b) ≡ length (elements_of h c) → every (holds n h) (element_by_element (elements_of h b) (elements_of h c)) ≡ true → (p : List Turn) → 2 * length p ≤ n → unfolded h (slot s) p ≡ unfolded h (slot t) p
    unfolding tree r7rs_rules
    vectors s t b c e f l all p fits = shown_by s t e f p (go p fits)
      where
        go : (p : List Turn) → 2 * length p ≤ n → tree (vector b) p ≡ tree (vector c) p
        go [] fits = ap a_vector l
        go (to_car ∷ ts) fits = refl
        go (to_cdr ∷ ts) fits = refl
        go (to_element i ∷ ts) fits = same_elements (elements_of h b) (elements_of h c) l all i ts (omega arith)

    pairs : (s t a d b f : ℕ) → cell_at h s ≡ pair a d → cell_at h t ≡ pair b f → holds n h (alike (slot a) (slot b)) ≡ true → holds n h (walks d f) ≡ true → (p : List Turn) → 2 * length p ≤ n → unfolded h (slot s) p ≡ unfolded h (slot t) p
    unfolding tree from r7rs_rules
    pairs s t a d b f e g cars cdrs p fits = shown_by s t e g p (go p fits)
      where
        go : (p : List Turn) → 2 * length p ≤ n → tree (pair a d) p ≡ tree (pair b f) p
        go [] fits = refl
        go (to_car ∷ ts) fits = less.for_alike (slot a) (slot b) cars ts (omega arith)
        go (to_cdr ∷ ts) fits = less.for_walks d f cdrs ts (omega arith)
        go (to_element i ∷ ts) fits = refl

    alike_trees : (v w : Value) → Alike h n v w → (p : List Turn) → 2 * length p + 1 ≤ n → unfolded h v p ≡ unfolded h w p
    alike_trees v w (by_eqv e) p fits =
        ⊎_elim (λ q. ap (λ (x : Value). unfolded h x p) q)
        (λ q. unfolded_is v p ∙ eqv_tree (shown h v) (shown h w) q p ∙ sym (unfolded_is w p))
        (eqv_cases h v w e)
    alike_trees v w (by_walk {s = s} {t = t} e f x) p fits = less.for_walks s t x p fits
    alike_trees v w (by_elements {s = s} {t = t} {b = b} {c = c} e f l x) p fits = vectors s t b c e f l x p (omega arith)

    walk_trees : (s t : ℕ) → Walks h n s t → (p : List Turn) → 2 * length p ≤ n → unfolded h (slot s) p ≡ unfolded h (slot t) p
    walk_trees s t (by_pairs {a = a} {d = d} {b = b} {f = f} e g x y) p fits = pairs s t a d b f e g x y p fits
    walk_trees s t (at_end q e) p fits = shown_by s t refl refl p (eqv_tree (cell_at h s) (cell_at h t) e p)

  settles : (n : ℕ) → Settles n
  settles zero =
      record { for_alike = λ v w e p fits. absurd (omega arith); for_walks = λ s t e p fits. absurd (omega arith) }
  settles (suc n) =
      let less = settles n in
      record {
        for_alike = λ v w e p fits. alike_trees n less v w (alike_view h n v w e) p (omega arith);
        for_walks = λ s t e p fits. walk_trees n less s t (walks_view h n s t e) p (omega arith);
      }

  pub equal_tree : (v w : Value) → Equal h v w true → SameTree h v w
  unfolding r7rs_rules
  equal_tree v w e p =
      (settles (2 * length p + 2)).for_alike v w (equal_holds h v w e (2 * length p + 2)) p (omega arith)
