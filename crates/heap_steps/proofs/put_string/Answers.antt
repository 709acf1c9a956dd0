-- `heap_steps::put_string`: its text at the end of the room in use, then its cell. Assumes nothing.
use Rattle.heap_steps.proofs.CellSteps.{header_on, text_fits_on, open_after, string_put}
use Rattle.heap_steps.proofs.put_string.Goals as goal

-- src/lib.rt:26:9
pub append_text-place-requires : goal.append_text-place-requires
append_text-place-requires c = record { in_bounds = header_on c.requires.0 c.requires.1 c.requires.2 _ _ _ _ c.requires.3; text_in_bounds = text_fits_on c.requires.0 c.requires.1 c.requires.2 _ _ _ _ c.requires.3 }

-- src/lib.rt:27:5
pub new_cell-requires : goal.new_cell-requires
new_cell-requires c = (_, _, open_after c.requires.0 c.requires.1 c.requires.2 _ _ _ _ c.requires.3 _ _ _ c.append_text-place.ensures)

-- src/lib.rt:21:1
pub returns : goal.returns
returns c = λ n room h o. string_put n room h _ _ _ _ o _ _ _ c.append_text-place.ensures _ _ _ (c.new_cell.ensures n _ (open_after n room h _ _ _ _ o _ _ _ c.append_text-place.ensures))
