-- Where an element is, in the rules' words, and what a store is behind the doors' tests. Assumes nothing.
use Rattle.std.specs.Prelude.{◌≡◌, true, [], ◌∷◌, ℕ, Some, None}
use Rattle.std.specs.Prelude as code
use Rattle.std.proofs.Math.Option.{Option, none, some}
use Rattle.rules.specs.Refusals.{accepted, refused, wrong_cell, ◌⇒◌, unless, refusals}
use Rattle.rules.specs.Cells.{Cell, is_symbol}
use Rattle.rules.specs.Heap.{cell_at, in_use, with_cell}
use Rattle.rules.specs.Layout.{Lent, rooms_of, heap_of, lent_of, layout_rules}
use Rattle.rules.specs.Sound.{sound}
use Rattle.rules.specs.Calls.{Stored, stored}

-- an element's place, in the rules' words
abbrev pub place_of : code.Option ℕ → Option ℕ
place_of (Some p) = some p
place_of None = none

-- what the doors have tested: 20, and 14 of the slot that is stored into
pub record Ready (l : Lent) (s : ℕ) : Type 0 where
  pub lists_sound : sound l ≡ true
  pub used : in_use (heap_of l) s ≡ true

-- "15 | .. cell store: the slot holds a symbol", else the lists that the layout writes for the heap with that cell; the element
-- store is rules' `store_element`
unfoldable pub store_cell : Lent → ℕ → Cell → Stored
unfolding refusals layout_rules
store_cell l s c =
    unless ((is_symbol (cell_at (heap_of l) s) ⇒ wrong_cell) ∷ [])
    (stored (accepted tt) (lent_of (rooms_of l) (with_cell (heap_of l) s c)))
    (λ r. stored (refused r) l)
