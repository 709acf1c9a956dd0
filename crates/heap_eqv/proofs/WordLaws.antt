-- The text of one part, `eqv` of two cells by their kinds and words, and values that are no slots. Assumes nothing.
use mathlib.Core.Path.{◌≡◌, refl, sym, ap, ◌∙◌}
use mathlib.Core.Bool.{Bool, true, false}
use mathlib.Core.List.{List, [], ◌∷◌}
use mathlib.Core.Logic.{◌⊎◌, inl, inr, ⊎_elim}
use Prim.Native.Nat.{ℕ, zero, suc, ◌+◌, ◌≤◌}
use native.Mathlib.Omega.{arith}
use borrow.Author.Tests.{eq-eqb, ne_eqb}
use lib.Dec.{eqb}
use lib.ListN.{get_or}
use Rattle.laws.specs.Basics.{choose, both, same}
use Rattle.laws.proofs.Tests.{same_refl}
use Rattle.rules.specs.Cells.{undefined, nil, eof, void, bool, char, number, Value, slot, scalar, Block, block, Cell, plain, pair, symbol, string, vector}
use Rattle.rules.specs.Heap.{part_of}
use Rattle.rules.specs.Layout.{cell_words, layout_rules}
use Rattle.rules.specs.Sound.{text_block}
use Rattle.rules.specs.Equal.{eqv_cells, same_slot, equal_rules}
use Rattle.leaf_cells.specs.Words.{three}
use Rattle.leaf_cells.specs.declared.Words.{Words}
use Rattle.leaf_cells.proofs.Variants.{Plain}
use Rattle.heap_eqv.specs.Eqv.{holding, Within}

-- what holds of a cell of each kind holds of every cell
each_cell : (P : Cell → Type 0) → P (plain undefined) → P (plain nil) → P (plain eof) → P (plain void) → ((b : Bool) → P (plain (bool b))) → ((n : ℕ) → P (plain (char n))) → ((n : ℕ) → P (plain (number n))) → ((b : Block) → P (string b)) → ((b : Block) → P (symbol b)) → ((a d : ℕ) → P (pair a d)) → ((b : Block) → P (vector b)) → (c : Cell) → P c
each_cell P p0 p1 p2 p3 p4 p5 p6 p7 p8 p9 p10 (plain undefined) = p0
each_cell P p0 p1 p2 p3 p4 p5 p6 p7 p8 p9 p10 (plain nil) = p1
each_cell P p0 p1 p2 p3 p4 p5 p6 p7 p8 p9 p10 (plain eof) = p2
each_cell P p0 p1 p2 p3 p4 p5 p6 p7 p8 p9 p10 (plain void) = p3
each_cell P p0 p1 p2 p3 p4 p5 p6 p7 p8 p9 p10 (plain (bool b)) = p4 b
each_cell P p0 p1 p2 p3 p4 p5 p6 p7 p8 p9 p10 (plain (char n)) = p5 n
each_cell P p0 p1 p2 p3 p4 p5 p6 p7 p8 p9 p10 (plain (number n)) = p6 n
each_cell P p0 p1 p2 p3 p4 p5 p6 p7 p8 p9 p10 (string b) = p7 b
each_cell P p0 p1 p2 p3 p4 p5 p6 p7 p8 p9 p10 (symbol b) = p8 b
each_cell P p0 p1 p2 p3 p4 p5 p6 p7 p8 p9 p10 (pair a d) = p9 a d
each_cell P p0 p1 p2 p3 p4 p5 p6 p7 p8 p9 p10 (vector b) = p10 b

-- ---- texts

-- a part of the bytes has its own text
pub same_part : (bytes : List ℕ) (p m q n : ℕ) → p ≡ q → m ≡ n → true ≡ same (part_of bytes (block p m)) (part_of bytes (block q n))
same_part bytes p m q n e f =
    sym (same_refl (part_of bytes (block p m))) ∙ (λ i. same (part_of bytes (block p m)) (part_of bytes (block (e i) (f i))))

-- ---- cells

-- two cells of kind k, by their words
module _ (bytes x y : List ℕ) where
  unfoldable by_first : Bool
  by_first = eqb (get_or x 1 0) (get_or y 1 0)

  unfoldable by_text : Bool
  by_text = same (part_of bytes (block (get_or x 1 0) (get_or x 2 0))) (part_of bytes (block (get_or y 1 0) (get_or y 2 0)))

  unfoldable by_both : Bool
  by_both = both (eqb (get_or x 1 0) (get_or y 1 0)) (eqb (get_or x 2 0) (get_or y 2 0))

  unfoldable of_kind : ℕ → Bool
  unfolding by_first by_text by_both
  of_kind k =
      get_or (false ∷ by_first ∷ by_first ∷ false ∷ by_first ∷ by_first ∷ by_first ∷ by_text ∷ false ∷ by_both ∷ false ∷ []) k by_first

  -- whatever their kinds
  unfoldable pub by_words : Bool
  unfolding of_kind
  by_words = choose (eqb (get_or x 0 0) (get_or y 0 0)) (of_kind (get_or x 0 0)) false

module _ (bytes : List ℕ) where
  -- the words tell what the rules tell of the cells
  abbrev Told : Cell → Cell → Type 0
  Told c d = by_words bytes (cell_words c) (cell_words d) ≡ eqv_cells (holding bytes) c d

  by_words_is : (c d : Cell) → Told c d
  unfolding by_words equal_rules layout_rules holding
  by_words_is =
      each_cell (λ c. (d : Cell) → Told c d)
      (each_cell (Told (plain undefined)) refl refl refl refl (λ _. refl) (λ _. refl) (λ _. refl) (λ _. refl) (λ _. refl) (λ _ _. refl) (λ _. refl))
      (each_cell (Told (plain nil)) refl refl refl refl (λ _. refl) (λ _. refl) (λ _. refl) (λ _. refl) (λ _. refl) (λ _ _. refl) (λ _. refl))
      (each_cell (Told (plain eof)) refl refl refl refl (λ _. refl) (λ _. refl) (λ _. refl) (λ _. refl) (λ _. refl) (λ _ _. refl) (λ _. refl))
      (each_cell (Told (plain void)) refl refl refl refl (λ _. refl) (λ _. refl) (λ _. refl) (λ _. refl) (λ _. refl) (λ _ _. refl) (λ _. refl))
      (λ b. each_cell (Told (plain (bool b))) refl refl refl refl (λ _. refl) (λ _. refl) (λ _. refl) (λ _. refl) (λ _. refl) (λ _ _. refl) (λ _. refl))
      (λ n. each_cell (Told (plain (char n))) refl refl refl refl (λ _. refl) (λ _. refl) (λ _. refl) (λ _. refl) (λ _. refl) (λ _ _. refl) (λ _. refl))
      (λ n. each_cell (Told (plain (number n))) refl refl refl refl (λ _. refl) (λ _. refl) (λ _. refl) (λ _. refl) (λ _. refl) (λ _ _. refl) (λ _. refl))
      (λ b. each_cell (Told (string b)) refl refl refl refl (λ _. refl) (λ _. refl) (λ _. refl) (λ _. refl) (λ _. refl) (λ _ _. refl) (λ _. refl))
      (λ b. each_cell (Told (symbol b)) refl refl refl refl (λ _. refl) (λ _. refl) (λ _. refl) (λ _. refl) (λ _. refl) (λ _ _. refl) (λ _. refl))
      (λ a e. each_cell (Told (pair a e)) refl refl refl refl (λ _. refl) (λ _. refl) (λ _. refl) (λ _. refl) (λ _. refl) (λ _ _. refl) (λ _. refl))
      (λ b. each_cell (Told (vector b)) refl refl refl refl (λ _. refl) (λ _. refl) (λ _. refl) (λ _. refl) (λ _. refl) (λ _ _. refl) (λ _. refl))

  pub told_by_words : (c d : Cell) (x y : Words) (r : Bool) → three x ≡ cell_words c → three y ≡ cell_words d → r ≡ by_words bytes (three x) (three y) → r ≡ eqv_cells (holding bytes) c d
  told_by_words c d x y r p q e = e ∙ (λ j. by_words bytes (p j) (q j)) ∙ by_words_is c d

  module _ (x y : Words) where
    pub kinds_differ : (x.kind ≡ y.kind → ⊥) → false ≡ by_words bytes (three x) (three y)
    unfolding by_words
    kinds_differ ne = sym (ap (λ (b : Bool). choose b (of_kind bytes (three x) (three y) x.kind) false) (ne_eqb x.kind y.kind ne))

    module _ (alike : x.kind ≡ y.kind) where
      one_kind : of_kind bytes (three x) (three y) x.kind ≡ by_words bytes (three x) (three y)
      unfolding by_words
      one_kind = sym (ap (λ (b : Bool). choose b (of_kind bytes (three x) (three y) x.kind) false) (eq-eqb x.kind y.kind alike))

      at_kind : (k : ℕ) → x.kind ≡ k → of_kind bytes (three x) (three y) k ≡ by_words bytes (three x) (three y)
      at_kind k e = ap (of_kind bytes (three x) (three y)) (sym e) ∙ one_kind

      -- Undefined, Void, symbols and vectors
      pub never : (x.kind ≡ 0) ⊎ ((x.kind ≡ 3) ⊎ ((x.kind ≡ 8) ⊎ (x.kind ≡ 10))) → false ≡ by_words bytes (three x) (three y)
      unfolding of_kind
      never o = ⊎_elim (at_kind 0) (⊎_elim (at_kind 3) (⊎_elim (at_kind 8) (at_kind 10))) o

      pub by_content : x.kind ≡ 7 → same (part_of bytes (block x.first x.second)) (part_of bytes (block y.first y.second)) ≡ by_words bytes (three x) (three y)
      unfolding of_kind
      by_content e = at_kind 7 e

      pub cars_differ : x.kind ≡ 9 → (x.first ≡ y.first → ⊥) → false ≡ by_words bytes (three x) (three y)
      unfolding of_kind
      cars_differ e ne = sym (ap (λ (b : Bool). both b (eqb x.second y.second)) (ne_eqb x.first y.first ne)) ∙ at_kind 9 e

      pub cars_alike : x.kind ≡ 9 → x.first ≡ y.first → eqb x.second y.second ≡ by_words bytes (three x) (three y)
      unfolding of_kind
      cars_alike e p = sym (ap (λ (b : Bool). both b (eqb x.second y.second)) (eq-eqb x.first y.first p)) ∙ at_kind 9 e

      -- Nil, Eof, Bool, Char, Number
      pub by_value : ((x.kind ≡ 0) ⊎ ((x.kind ≡ 3) ⊎ ((x.kind ≡ 8) ⊎ (x.kind ≡ 10))) → ⊥) → (x.kind ≡ 7 → ⊥) → (x.kind ≡ 9 → ⊥) → eqb x.first y.first ≡ by_words bytes (three x) (three y)
      unfolding of_kind
      by_value n n7 n9 =
          by x.kind (λ e. n (inl e)) (λ e. n (inr (inl e))) (λ e. n (inr (inr (inl e)))) (λ e. n (inr (inr (inr e)))) n7 n9 ∙ one_kind
        where
          by : (k : ℕ) → (k ≡ 0 → ⊥) → (k ≡ 3 → ⊥) → (k ≡ 8 → ⊥) → (k ≡ 10 → ⊥) → (k ≡ 7 → ⊥) → (k ≡ 9 → ⊥) → eqb x.first y.first ≡ of_kind bytes (three x) (three y) k
          by zero n0 n3 n8 n10 n7 n9 = absurd (n0 refl)
          by (suc zero) n0 n3 n8 n10 n7 n9 = refl
          by (suc (suc zero)) n0 n3 n8 n10 n7 n9 = refl
          by (suc (suc (suc zero))) n0 n3 n8 n10 n7 n9 = absurd (n3 refl)
          by (suc (suc (suc (suc zero)))) n0 n3 n8 n10 n7 n9 = refl
          by (suc (suc (suc (suc (suc zero))))) n0 n3 n8 n10 n7 n9 = refl
          by (suc (suc (suc (suc (suc (suc zero)))))) n0 n3 n8 n10 n7 n9 = refl
          by (suc (suc (suc (suc (suc (suc (suc zero))))))) n0 n3 n8 n10 n7 n9 = absurd (n7 refl)
          by (suc (suc (suc (suc (suc (suc (suc (suc zero)))))))) n0 n3 n8 n10 n7 n9 = absurd (n8 refl)
          by (suc (suc (suc (suc (suc (suc (suc (suc (suc zero))))))))) n0 n3 n8 n10 n7 n9 = absurd (n9 refl)
          by (suc (suc (suc (suc (suc (suc (suc (suc (suc (suc zero)))))))))) n0 n3 n8 n10 n7 n9 = absurd (n10 refl)
          by (suc (suc (suc (suc (suc (suc (suc (suc (suc (suc (suc k))))))))))) n0 n3 n8 n10 n7 n9 = refl

-- a string's words are its block
module _ (room : ℕ) (x : Words) (seven : x.kind ≡ 7) where
  abbrev Fits : Cell → Type 0
  Fits c = three x ≡ cell_words c → Within room c → x.first + x.second ≤ room

  other : (c : Cell) → (get_or (cell_words c) 0 0 ≡ 7 → ⊥) → Fits c
  other c ne e w = absurd (ne (sym (ap (λ (l : List ℕ). get_or l 0 0) e) ∙ seven))

  pub text_fits : (c : Cell) → Fits c
  unfolding layout_rules text_block
  text_fits =
      each_cell Fits (other _ (λ z. omega arith)) (other _ (λ z. omega arith)) (other _ (λ z. omega arith))
      (other _ (λ z. omega arith)) (λ b. other _ (λ z. omega arith)) (λ n. other _ (λ z. omega arith))
      (λ n. other _ (λ z. omega arith))
      (λ b e w. omega (arith, ap (λ (l : List ℕ). get_or l 1 0) e, ap (λ (l : List ℕ). get_or l 2 0) e, w.ends))
      (λ b. other _ (λ z. omega arith))
      (λ a d. other _ (λ z. omega arith))
      (λ b. other _ (λ z. omega arith))

-- ---- the same slot

-- a value that is no slot is the same slot as no other
pub first_no_slot : (v w : Value) → Plain v → false ≡ same_slot v w
unfolding same_slot
first_no_slot (slot s) w p = absurd (let e = p.is in let z : ◌≡◌ {A = ℕ} 0 1 = cc in omega arith)
first_no_slot (scalar s) w p = refl

pub second_no_slot : (v w : Value) → Plain w → false ≡ same_slot v w
unfolding same_slot
second_no_slot (slot s) (slot t) p = absurd (let e = p.is in let z : ◌≡◌ {A = ℕ} 0 1 = cc in omega arith)
second_no_slot (slot s) (scalar t) p = refl
second_no_slot (scalar s) w p = refl
