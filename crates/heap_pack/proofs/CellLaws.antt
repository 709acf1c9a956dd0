-- The block of a cell by value, and the cell with another place. Assumes nothing.
use mathlib.Core.Path.{◌≡◌, refl, sym, ap, ◌∙◌}
use mathlib.Core.Logic.{◌⊎◌, inl, inr}
use Prim.Native.Nat.{ℕ}
use Rattle.rules.specs.Cells.{Block, block}
use Rattle.rules.specs.Sound.{text_block, vector_block}
use Rattle.leaf_cells.specs.Cells.{cell_of}
use Rattle.heap_pack.specs.declared.Span.{Span}
use Rattle.heap_pack.specs.Moves.{shown}
use Rattle.leaf_cells.specs.declared.VCell.{VCell}
use Rattle.leaf_cells.specs.declared.VCell.TheVariants.{Undefined, Nil, Eof, Void, Bool, Char, Number, Pair, Symbol, String, Vector}

abbrev pub text_span : VCell → Block
text_span Undefined = block 0 0
text_span Nil = block 0 0
text_span Eof = block 0 0
text_span Void = block 0 0
text_span (Bool b) = block 0 0
text_span (Char n) = block 0 0
text_span (Number n) = block 0 0
text_span (Pair a d) = block 0 0
text_span (Symbol p n) = block p n
text_span (String p n) = block p n
text_span (Vector p n) = block 0 0

pub text_span_is : (c : VCell) → text_span c ≡ text_block (cell_of c)
unfolding text_block
text_span_is Undefined = refl
text_span_is Nil = refl
text_span_is Eof = refl
text_span_is Void = refl
text_span_is (Bool b) = refl
text_span_is (Char n) = refl
text_span_is (Number n) = refl
text_span_is (Pair a d) = refl
text_span_is (Symbol p n) = refl
text_span_is (String p n) = refl
text_span_is (Vector p n) = refl

abbrev pub vector_span : VCell → Block
vector_span Undefined = block 0 0
vector_span Nil = block 0 0
vector_span Eof = block 0 0
vector_span Void = block 0 0
vector_span (Bool b) = block 0 0
vector_span (Char n) = block 0 0
vector_span (Number n) = block 0 0
vector_span (Pair a d) = block 0 0
vector_span (Symbol p n) = block 0 0
vector_span (String p n) = block 0 0
vector_span (Vector p n) = block p n

pub vector_span_is : (c : VCell) → vector_span c ≡ vector_block (cell_of c)
unfolding vector_block
vector_span_is Undefined = refl
vector_span_is Nil = refl
vector_span_is Eof = refl
vector_span_is Void = refl
vector_span_is (Bool b) = refl
vector_span_is (Char n) = refl
vector_span_is (Number n) = refl
vector_span_is (Pair a d) = refl
vector_span_is (Symbol p n) = refl
vector_span_is (String p n) = refl
vector_span_is (Vector p n) = refl

-- the block of a symbol or a string is its own, and that of any other cell is empty
pub text_of : (c : VCell) (p n : ℕ) → (c ≡ Symbol p n) ⊎ (c ≡ String p n) → block p n ≡ text_block (cell_of c)
text_of c p n (inl e) = ap {A = VCell} text_span (sym e) ∙ text_span_is c
text_of c p n (inr e) = ap {A = VCell} text_span (sym e) ∙ text_span_is c

pub no_text_block : (c : VCell) → ((p n : ℕ) → c ≡ Symbol p n → ⊥) → ((p n : ℕ) → c ≡ String p n → ⊥) → (b : Span) → (b.place ≡ 0) × (b.size ≡ 0) → shown b ≡ text_block (cell_of c)
no_text_block c d e b z = (λ i. block (z.0 i) (z.1 i)) ∙ none c d e ∙ text_span_is c
  where
    none : (c : VCell) → ((p n : ℕ) → c ≡ Symbol p n → ⊥) → ((p n : ℕ) → c ≡ String p n → ⊥) → block 0 0 ≡ text_span c
    none Undefined d e = refl
    none Nil d e = refl
    none Eof d e = refl
    none Void d e = refl
    none (Bool b) d e = refl
    none (Char n) d e = refl
    none (Number n) d e = refl
    none (Pair a b) d e = refl
    none (Symbol p n) d e = absurd (d p n refl)
    none (String p n) d e = absurd (e p n refl)
    none (Vector p n) d e = refl

pub no_vector_block : (c : VCell) → ((p n : ℕ) → c ≡ Vector p n → ⊥) → (b : Span) → (b.place ≡ 0) × (b.size ≡ 0) → shown b ≡ vector_block (cell_of c)
no_vector_block c d b z = (λ i. block (z.0 i) (z.1 i)) ∙ none c d ∙ vector_span_is c
  where
    none : (c : VCell) → ((p n : ℕ) → c ≡ Vector p n → ⊥) → block 0 0 ≡ vector_span c
    none Undefined d = refl
    none Nil d = refl
    none Eof d = refl
    none Void d = refl
    none (Bool b) d = refl
    none (Char n) d = refl
    none (Number n) d = refl
    none (Pair a b) d = refl
    none (Symbol p n) d = refl
    none (String p n) d = refl
    none (Vector p n) d = absurd (d p n refl)
