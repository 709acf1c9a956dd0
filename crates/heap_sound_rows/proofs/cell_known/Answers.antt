-- `heap_sound_rows::cell_known`: word by word. Assumes nothing.
use Rattle.heap_sound_rows.proofs.RowLaws.{known}
use Rattle.rules.specs.Layout.{cell_words}
use borrow.Author.Rules.{rules}
use mathlib.Core.Path.{ap, ◌∙◌}
use Rattle.heap_sound_rows.proofs.cell_known.Goals as goal

pub returns-then-w-a : goal.returns-then-w-a
returns-then-w-a c = known _ _ _ _ _ _ _ (c.cell_words-w.ensures ∙ ap cell_words c.cell_from.ensures) _ (search rules)

pub returns-else-w-a : goal.returns-else-w-a
returns-else-w-a c = known _ _ _ _ _ _ _ (c.cell_words-w.ensures ∙ ap cell_words c.cell_from.ensures) _ (search rules)
