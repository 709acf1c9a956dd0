-- A slot's turn, from what its parts did. Assumes nothing.
use mathlib.Core.Path.{◌≡◌, refl, sym, ap, ◌∙◌, subst}
use mathlib.Core.List.{List}
use Prim.Native.Nat.{ℕ, ◌/◌, ◌<◌}
use lib.ListN.{length}
use Rattle.laws.proofs.Variants.{positive}
use Rattle.rules.specs.Cells.{Block}
use Rattle.rules.specs.Sound.{text_block, vector_block}
use Rattle.leaf_cells.specs.Cells.{cell_of, loaded, stored_cell, Stored}
use Rattle.leaf_cells.specs.declared.VCell.{VCell}
use Rattle.leaf_cells.specs.declared.Change.{Change}
use Rattle.heap_pack.specs.declared.Span.{Span}
use Rattle.heap_pack.specs.declared.Gone.{Gone}
use Rattle.heap_pack.specs.Moves.{shown, placed, Written, TextMoved, ElementsMoved, TextReady, TextTurned, no_text, text_goes, ElementsReady, ElementsTurned, no_vector, vector_goes}

module _ (words old table : List ℕ) (at s : ℕ) (c : VCell) (b : Span) (loads : cell_of c ≡ loaded words s) where
  -- the cell that is stored
  stores : (g : Gone) (after : List ℕ) (d : VCell) (x : Change) → cell_of d ≡ placed g.to (cell_of c) → Stored words after s d x → after ≡ stored_cell words s (placed g.to (loaded words s))
  stores g after d x e w = w.words ∙ ap (stored_cell words s) (e ∙ ap (placed g.to) loads)

  module _ (bytes : List ℕ) (is : shown b ≡ text_block (cell_of c)) where
    text_is : shown b ≡ text_block (loaded words s)
    text_is = is ∙ ap text_block loads

    pub text_none : b.size ≡ 0 → TextTurned words bytes old table at s words bytes table at
    text_none e = no_text (ap (λ (x : Block). x.size) (sym text_is) ∙ e) refl refl refl refl

    some_text : (b.size ≡ 0 → ⊥) → 0 < (text_block (loaded words s)).size
    some_text e = positive _ (λ z. e (ap (λ (x : Block). x.size) text_is ∙ z))

    pub text_ready : (b.size ≡ 0 → ⊥) → TextReady words bytes old table at s → Written table at b.place b.size (length old) (length bytes)
    text_ready e r =
        subst (λ (x : Block). Written table at x.place x.size (length old) (length bytes)) (sym text_is) (r.room (some_text e))

    pub text_gone : (b.size ≡ 0 → ⊥) → (g : Gone) (words' bytes' table' : List ℕ) (d : VCell) (x : Change) → TextMoved bytes old table at b.place b.size bytes' table' g → cell_of d ≡ placed g.to (cell_of c) → Stored words words' s d x → TextTurned words bytes old table at s words' bytes' table' g.at
    text_gone e g words' bytes' table' d x m f w =
        text_goes g (some_text e)
        (subst (λ (y : Block). TextMoved bytes old table at y.place y.size bytes' table' g) text_is m)
        (stores g words' d x f w)
        refl

  module _ (elems : List ℕ) (is : shown b ≡ vector_block (cell_of c)) where
    vector_is : shown b ≡ vector_block (loaded words s)
    vector_is = is ∙ ap vector_block loads

    pub elements_none : b.size ≡ 0 → ElementsTurned words elems old table at s words elems table at
    elements_none e = no_vector (ap (λ (x : Block). x.size) (sym vector_is) ∙ e) refl refl refl refl

    some_elements : (b.size ≡ 0 → ⊥) → 0 < (vector_block (loaded words s)).size
    some_elements e = positive _ (λ z. e (ap (λ (x : Block). x.size) vector_is ∙ z))

    pub elements_ready : (b.size ≡ 0 → ⊥) → ElementsReady words elems old table at s → Written table at b.place b.size (length old / 3) (length elems / 3)
    elements_ready e r =
        subst (λ (x : Block). Written table at x.place x.size (length old / 3) (length elems / 3)) (sym vector_is) (r.room (some_elements e))

    pub elements_gone : (b.size ≡ 0 → ⊥) → (g : Gone) (words' elems' table' : List ℕ) (d : VCell) (x : Change) → ElementsMoved elems old table at b.place b.size elems' table' g → cell_of d ≡ placed g.to (cell_of c) → Stored words words' s d x → ElementsTurned words elems old table at s words' elems' table' g.at
    elements_gone e g words' elems' table' d x m f w =
        vector_goes g (some_elements e)
        (subst (λ (y : Block). ElementsMoved elems old table at y.place y.size elems' table' g) vector_is m)
        (stores g words' d x f w)
        refl
