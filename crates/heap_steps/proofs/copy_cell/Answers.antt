-- `heap_steps::copy_cell`: the cell of one slot in another. Assumes nothing.
use mathlib.Core.Path.{sym, ap, ◌∙◌}
use Rattle.leaf_cells.specs.Cells.{cell_of}
use Rattle.leaf_cells.specs.declared.VCell.{VCell}
use Rattle.heap_steps.specs.Places.{new, shown_place}
use Rattle.heap_steps.proofs.copy_cell.Goals.{in-At, in-New}
use Rattle.heap_steps.proofs.PlaceSteps.{copy_row, copied_row, copied_at, copied_new}
use Rattle.heap_steps.proofs.copy_cell.Goals as goal

-- src/lib.rt:111:17
pub load-c-requires : goal.load-c-requires
load-c-requires c = copied_row c.requires.0 c.requires.1 _ _ _ c.requires.2 _ (sym (ap shown_place c.in-At.is) ∙ c.place_of.ensures)

-- src/lib.rt:112:13
pub store-requires : goal.store-requires
store-requires c = copy_row c.requires.0 c.requires.1 _ _ _ c.requires.2

pub returns : goal.returns
returns c =
    λ n h o.
    let d = c.match-place_of.c in
    elim c.match-place_of.branch [
      | in-At w ↦ copied_at n h _ _ _ o w.in-At.s (sym (ap shown_place w.in-At.is) ∙ c.place_of.ensures) d (ap cell_of w.c-is ∙ w.load-c.ensures) _ _ c.store.ensures
      | in-New w ↦ copied_new n h _ _ _ o d (ap (λ (x : VCell). new (cell_of x)) w.c-is ∙ sym (ap shown_place w.in-New.is) ∙ c.place_of.ensures) _ _ c.store.ensures
    ]
