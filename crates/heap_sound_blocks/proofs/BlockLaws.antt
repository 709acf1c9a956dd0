-- The blocks that the rows show are those of the heap's cells, and are apart exactly where the heap's blocks are sound; what
-- holds of each block that is painted first holds of every block. Assumes nothing.
use mathlib.Core.Path.{◌≡◌, refl, sym, ap, ◌∙◌, subst}
use mathlib.Core.Bool.{Bool, true, false}
use mathlib.Core.List.{List}
use mathlib.Core.Logic.{⊎_elim}
use Prim.Native.Nat.{ℕ, zero, suc, ◌+◌, ◌-◌, ◌<◌}
use native.Mathlib.Decide.{dec_lt}
use native.Mathlib.Omega.{arith}
use borrow.Author.Tests.{eqb-true, eq-eqb, le-leb, lt-leb}
use lib.Dec.{eqb, leb}
use lib.ListN.{get_or}
use Rattle.laws.specs.Basics.{choose, both, either, between, every}
use Rattle.laws.proofs.Tests.{both_left, both_right, both_true, either_cases, either_left, either_right}
use Rattle.laws.proofs.Pointwise.{every_all, all_every}
use Rattle.rules.specs.Cells.{undefined, Block, block, Cell, plain}
use Rattle.rules.specs.Heap.{Heap, capacity, cell_at}
use Rattle.rules.specs.Layout.{Lent, cell_from, heap_of, layout_rules}
use Rattle.rules.specs.Sound.{text_block, vector_block, lies_in, same_or_disjoint, blocks_sound, sound_rules}
use Rattle.heap_sound_rows.proofs.HeapFacts.{cell_is}
use Rattle.heap_sound_blocks.specs.Blocks.{shown, Inside, Apart, Painted}

-- ---- kinds

text_kind : (k a b : ℕ) → choose (between 7 8 k) (block a b) (block 0 0) ≡ text_block (cell_from k a b)
unfolding layout_rules sound_rules
text_kind zero a b = refl
text_kind (suc zero) a b = refl
text_kind (suc (suc zero)) a b = refl
text_kind (suc (suc (suc zero))) a b = refl
text_kind (suc (suc (suc (suc zero)))) a b = refl
text_kind (suc (suc (suc (suc (suc zero))))) a b = refl
text_kind (suc (suc (suc (suc (suc (suc zero)))))) a b = refl
text_kind (suc (suc (suc (suc (suc (suc (suc zero))))))) a b = refl
text_kind (suc (suc (suc (suc (suc (suc (suc (suc zero)))))))) a b = refl
text_kind (suc (suc (suc (suc (suc (suc (suc (suc (suc zero))))))))) a b = refl
text_kind (suc (suc (suc (suc (suc (suc (suc (suc (suc (suc zero)))))))))) a b = refl
text_kind (suc (suc (suc (suc (suc (suc (suc (suc (suc (suc (suc k))))))))))) a b = ap (λ (t : Bool). choose t (block a b) (block 0 0)) (past k)
  where
    past : (k : ℕ) → between 7 8 (suc (suc (suc (suc (suc (suc (suc (suc (suc (suc (suc k))))))))))) ≡ false
    past k =
        ap (λ (t : Bool). both t (leb (suc (suc (suc (suc (suc (suc (suc (suc (suc (suc (suc k))))))))))) 8)) (le-leb 7 (suc (suc (suc (suc (suc (suc (suc (suc (suc (suc (suc k))))))))))) (omega arith))
        ∙ lt-leb (suc (suc (suc (suc (suc (suc (suc (suc (suc (suc (suc k))))))))))) 8 (omega arith)

vector_kind : (k a b : ℕ) → choose (between 10 10 k) (block a b) (block 0 0) ≡ vector_block (cell_from k a b)
unfolding layout_rules sound_rules
vector_kind zero a b = refl
vector_kind (suc zero) a b = refl
vector_kind (suc (suc zero)) a b = refl
vector_kind (suc (suc (suc zero))) a b = refl
vector_kind (suc (suc (suc (suc zero)))) a b = refl
vector_kind (suc (suc (suc (suc (suc zero))))) a b = refl
vector_kind (suc (suc (suc (suc (suc (suc zero)))))) a b = refl
vector_kind (suc (suc (suc (suc (suc (suc (suc zero))))))) a b = refl
vector_kind (suc (suc (suc (suc (suc (suc (suc (suc zero)))))))) a b = refl
vector_kind (suc (suc (suc (suc (suc (suc (suc (suc (suc zero))))))))) a b = refl
vector_kind (suc (suc (suc (suc (suc (suc (suc (suc (suc (suc zero)))))))))) a b = refl
vector_kind (suc (suc (suc (suc (suc (suc (suc (suc (suc (suc (suc k))))))))))) a b = ap (λ (t : Bool). choose t (block a b) (block 0 0)) (past k)
  where
    past : (k : ℕ) → between 10 10 (suc (suc (suc (suc (suc (suc (suc (suc (suc (suc (suc k))))))))))) ≡ false
    past k =
        ap (λ (t : Bool). both t (leb (suc (suc (suc (suc (suc (suc (suc (suc (suc (suc (suc k))))))))))) 10)) (le-leb 10 (suc (suc (suc (suc (suc (suc (suc (suc (suc (suc (suc k))))))))))) (omega arith))
        ∙ lt-leb (suc (suc (suc (suc (suc (suc (suc (suc (suc (suc (suc k))))))))))) 10 (omega arith)

module _ (l : Lent) (i : ℕ) (h : i < get_or l.words 1 0) where
  pub shown_text : shown l.words 7 8 i ≡ text_block (cell_at (heap_of l) i)
  unfolding shown
  shown_text = text_kind _ _ _ ∙ ap text_block (sym (cell_is l i h))

  pub shown_vector : shown l.words 10 10 i ≡ vector_block (cell_at (heap_of l) i)
  unfolding shown
  shown_vector = vector_kind _ _ _ ∙ ap vector_block (sym (cell_is l i h))

-- ---- apart, and sound

module _ (h : Heap) (n used : ℕ) (size : capacity h ≡ n) (shows : Cell → Block) (at : ℕ → Block)
    (is : (i : ℕ) → i < n → at i ≡ shows (cell_at h i)) where
  -- two blocks, neither of them empty
  pub apart_sound : Apart at used n → blocks_sound used shows h ≡ true
  unfolding blocks_sound
  apart_sound a =
      both_true
      (all_every (λ c. lies_in used (shows c)) (plain undefined) h.cells
      (λ i k. ap (lies_in used) (sym (is i (omega arith))) ∙ a.lies i (omega arith)))
      (all_every _ (plain undefined) h.cells
      (λ i k. all_every _ (plain undefined) h.cells (λ j m. two i j (omega arith) (omega arith))))
    where
      pick : (x y : ℕ) (t : Bool) → (0 < x → 0 < y → t ≡ true) → either (eqb x 0) (either (eqb y 0) t) ≡ true
      pick x y t p =
          elim (dec_lt 0 x) [
            | no h ↦ either_left _ (eq-eqb x 0 (omega arith))
            | yes h ↦
                either_right (eqb x 0)
                (elim (dec_lt 0 y) [ no k ↦ either_left t (eq-eqb y 0 (omega arith)) | yes k ↦ either_right (eqb y 0) (p h k) ])
          ]

      two : (i j : ℕ) → i < n → j < n
          → either (eqb (shows (cell_at h i)).size 0) (either (eqb (shows (cell_at h j)).size 0) (same_or_disjoint (shows (cell_at h i)) (shows (cell_at h j)))) ≡ true
      two i j hi hj =
          pick (shows (cell_at h i)).size (shows (cell_at h j)).size _
          (λ p q.
          (λ k. same_or_disjoint (sym (is i hi) k) (sym (is j hj) k))
          ∙ a.apart i j hi hj (subst (λ (b : Block). 0 < b.size) (sym (is i hi)) p) (subst (λ (b : Block). 0 < b.size) (sym (is j hj)) q))

  pub sound_apart : blocks_sound used shows h ≡ true → Apart at used n
  unfolding blocks_sound
  sound_apart e =
      record {
        lies = λ i k.
            ap (lies_in used) (is i k)
            ∙ every_all (λ c. lies_in used (shows c)) (plain undefined) h.cells (both_left (every (λ c. lies_in used (shows c)) h.cells) _ e) i
            (omega arith);
        apart = λ i j hi hj fi fj.
            (λ k. same_or_disjoint (is i hi k) (is j hj k))
            ∙ picked (shows (cell_at h i)).size (shows (cell_at h j)).size _
            (subst (λ (b : Block). 0 < b.size) (is i hi) fi) (subst (λ (b : Block). 0 < b.size) (is j hj) fj)
            (every_all _ (plain undefined) h.cells
            (every_all _ (plain undefined) h.cells (both_right (every (λ c. lies_in used (shows c)) h.cells) _ e) i (omega arith)) j
            (omega arith));
      }
    where
      picked : (x y : ℕ) (t : Bool) → 0 < x → 0 < y → either (eqb x 0) (either (eqb y 0) t) ≡ true → t ≡ true
      picked x y t p q e =
          ⊎_elim (λ z. absurd (omega (arith, eqb-true x 0 z)))
          (λ f. ⊎_elim (λ z. absurd (omega (arith, eqb-true y 0 z))) (λ g. g) (either_cases (eqb y 0) t f))
          (either_cases (eqb x 0) _ e)

-- ---- each block looked at once

-- the block of slot i is looked at where that slot painted it; what holds of those holds of all
module _ (shows : ℕ → Block) (n : ℕ) (paint : List ℕ) (p : Painted shows n paint) (good : Block → Bool) where
  pub first_all : ((i : ℕ) → i < n → 0 < (shows i).size → get_or paint (shows i).place 0 ≡ i + 1 → good (shows i) ≡ true)
      → (i : ℕ) → i < n → 0 < (shows i).size → good (shows i) ≡ true
  first_all first i h f =
      let b : Inside (shows i) (shows i).place = record { from = omega arith; to = omega arith } in
      let s = p.shared i (shows i).place h b in
      let o = p.owned (shows i).place s.painted in
      let j = get_or paint (shows i).place 0 - 1 in
      let e : shows j ≡ shows i = s.same in
      let m : get_or paint (shows i).place 0 ≡ j + 1 = omega (arith, s.painted) in
      ap good (sym e)
      ∙ first j o.below (subst (λ (c : Block). 0 < c.size) (sym e) f)
      (ap (λ (c : Block). get_or paint c.place 0) e ∙ m)
