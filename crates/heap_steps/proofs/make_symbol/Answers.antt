-- `heap_steps::make_symbol`: its name, its slot, its entry. Assumes nothing.
use Rattle.heap_steps.proofs.CellSteps.{header_on, text_fits_on, open_after}
use Rattle.heap_steps.proofs.SymbolSteps.{entry_row, symbol_made}
use Rattle.heap_steps.proofs.make_symbol.Goals as goal

-- src/lib.rt:36:9
pub append_text-place-requires : goal.append_text-place-requires
append_text-place-requires c = record { in_bounds = header_on c.requires.0 c.requires.1 c.requires.2 _ _ _ _ c.requires.3.text; text_in_bounds = text_fits_on c.requires.0 c.requires.1 c.requires.2 _ _ _ _ c.requires.3.text }

-- src/lib.rt:37:9
pub new_cell-s-requires : goal.new_cell-s-requires
new_cell-s-requires c = (_, _, open_after c.requires.0 c.requires.1 c.requires.2 _ _ _ _ c.requires.3.text _ _ _ c.append_text-place.ensures)

-- src/lib.rt:38:5
pub add-requires : goal.add-requires
add-requires c = entry_row c.requires.0 c.requires.1 c.requires.2 _ _ _ _ c.requires.3 _ _ _ c.append_text-place.ensures _ _ _ (c.new_cell-s.ensures c.requires.0 _ (open_after c.requires.0 c.requires.1 c.requires.2 _ _ _ _ c.requires.3.text _ _ _ c.append_text-place.ensures))

-- src/lib.rt:31:1
pub returns : goal.returns
returns c = λ n room h o. symbol_made n room h _ _ _ _ o _ _ _ c.append_text-place.ensures _ _ _ (c.new_cell-s.ensures n _ (open_after n room h _ _ _ _ o.text _ _ _ c.append_text-place.ensures)) _ _ c.add.ensures
