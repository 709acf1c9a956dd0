-- `doors::block_in`: by the cell's kind. Assumes nothing.
use mathlib.Core.Path.{sym, ap}
use mathlib.Core.Logic.{inl, inr}
use Rattle.rules.specs.Calls.{text_in}
use Rattle.leaf_cells.specs.Cells.{cell_of}
use Rattle.leaf_cells.specs.declared.VCell.{VCell}
use Rattle.doors.proofs.DoorLaws.{not_text}
use Rattle.doors.proofs.block_in.Goals as goal

pub returns-in_default : goal.returns-in_default
returns-in_default c = not_text c.args.cell c.in_default.not-Symbol c.in_default.not-String

pub returns-in-Symbol : goal.returns-in-Symbol
unfolding text_in
returns-in-Symbol c = elim c.in-Symbol.is [ inl e ↦ ap (λ (x : VCell). text_in (cell_of x)) (sym e) | inr e ↦ ap (λ (x : VCell). text_in (cell_of x)) (sym e) ]

pub returns-in-Symbol-2 : goal.returns-in-Symbol-2
unfolding text_in
returns-in-Symbol-2 c = elim c.in-Symbol.is [ inl e ↦ ap (λ (x : VCell). text_in (cell_of x)) (sym e) | inr e ↦ ap (λ (x : VCell). text_in (cell_of x)) (sym e) ]
