-- `heap_sound_rows::value_known`: word by word. Assumes nothing.
use Rattle.heap_sound_rows.proofs.RowLaws.{known}
use Rattle.rules.specs.Layout.{value_words}
use borrow.Author.Rules.{rules}
use mathlib.Core.Path.{ap, ◌∙◌}
use Rattle.heap_sound_rows.proofs.value_known.Goals as goal

pub returns-then-w-a : goal.returns-then-w-a
returns-then-w-a c = known _ _ _ _ _ _ _ (c.value_words-w.ensures ∙ ap value_words c.value_from.ensures) _ (search rules)

pub returns-else-w-a : goal.returns-else-w-a
returns-else-w-a c = known _ _ _ _ _ _ _ (c.value_words-w.ensures ∙ ap value_words c.value_from.ensures) _ (search rules)
