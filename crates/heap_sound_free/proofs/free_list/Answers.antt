-- `heap_sound_free::free_list`: by the marks. Assumes nothing.
use Rattle.heap_sound_free.proofs.FreeLaws.{by_marks, not_once}
use mathlib.Core.Path.{sym, ◌∙◌}
use native.Mathlib.Omega.{arith}
use Rattle.heap_sound_free.proofs.free_list.Goals as goal

pub mark_column-requires : goal.mark_column-requires
mark_column-requires c = record { column_bound = omega arith; n_in_bounds = omega arith; capacity_in_bounds = omega arith; by_index = c.requires.by_index }

pub returns-then-mark_column : goal.returns-then-mark_column
returns-then-mark_column c = c.free_slots.ensures ∙ by_marks c.args.words.now c.args.map.now c.requires.words_value.0 _ (c.mark_column.ensures.marked c.if-mark_column.true) (sym c.mark_column.ensures.once ∙ c.if-mark_column.true)

pub returns-else-mark_column : goal.returns-else-mark_column
returns-else-mark_column c = c.if-mark_column.false ∙ not_once c.args.words.now c.args.map.now c.requires.words_value.0 (sym c.mark_column.ensures.once ∙ c.if-mark_column.false)
