-- What a store does behind its first tests: the rules' own text of the call, from where what was given is a cell or a value. Assumes
-- nothing.
use Rattle.std.specs.Prelude.{not, [], ◌∷◌, ℕ}
use Rattle.laws.specs.Basics.{both}
use Rattle.rules.specs.Refusals.{no_such_slot, wrong_cell, accepted, refused, ◌⇒◌, unless, refusals}
use Rattle.rules.specs.Cells.{Value, Cell, is_symbol}
use Rattle.rules.specs.Heap.{cell_at, in_use, with_cell}
use Rattle.rules.specs.Layout.{Lent, rooms_of, heap_of, lent_of}
use Rattle.rules.specs.Calls.{Stored, stored, value_in_use, cell_in_use, store_element}

-- a cell store behind 20 and 11: 14, 15
unfoldable pub cell_behind : Lent → ℕ → Cell → Stored
unfolding refusals
cell_behind l s c =
    let h = heap_of l in
    unless ((not (both (in_use h s) (cell_in_use h c)) ⇒ no_such_slot) ∷ (is_symbol (cell_at h s) ⇒ wrong_cell) ∷ [])
    (stored (accepted tt) (lent_of (rooms_of l) (with_cell h s c)))
    (λ r. stored (refused r) l)

-- an element store behind 20 and 11: 14, 15
unfoldable pub element_behind : Lent → ℕ → ℕ → Value → Stored
unfolding refusals
element_behind l s k v =
    let h = heap_of l in
    unless ((not (both (in_use h s) (value_in_use h v)) ⇒ no_such_slot) ∷ [])
    (store_element l h s k v)
    (λ r. stored (refused r) l)
