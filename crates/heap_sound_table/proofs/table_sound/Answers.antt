-- `heap_sound_table::table_sound`: entries, their slots, their names. Assumes nothing.
use mathlib.Core.Bool.{Bool}
use mathlib.Core.Path.{sym, ◌∙◌, subst}
use native.Mathlib.Omega.{arith}
use lib.Seq.{length-take-le}
use Rattle.laws.proofs.Zeros.{all_zero}
use Rattle.laws.proofs.Tests.{true≢false}
use Rattle.heap_sound_table.specs.Entries.{Decided, TableGood}
use Rattle.heap_sound_table.proofs.TableLaws.{table_bad, slots_bad, leading, table_decided}
use Rattle.heap_sound_table.proofs.table_sound.Goals as goal
use Rattle.heap_sound_table.proofs.table_sound.Goals.{then-entries_good, else-entries_good}

pub mark_column-requires-clause-by_index : goal.mark_column-requires-clause-by_index
mark_column-requires-clause-by_index c = λ s. all_zero 4096 s

pub names_differ-requires-clause-leading : goal.names_differ-requires-clause-leading
names_differ-requires-clause-leading c = elim c.if-entries_good.branch [
  | then-entries_good w ↦ leading c.args.words.now c.args.map.now c.args.bytes.now c.args.capacity c.args.n (sym c.entries_good.ensures ∙ w.if-entries_good.true) c.requires.capacity_in_bounds.0 _ (length-take-le c.args.n _ (omega arith))
  | else-entries_good w ↦ absurd (true≢false (sym c.if-mark_column.true ∙ w.value-is ∙ w.if-entries_good.false))
]

pub returns-then-mark_column : goal.returns-then-mark_column
returns-then-mark_column c = elim c.if-entries_good.branch [
  | then-entries_good w ↦ table_decided c.args.words.now c.args.map.now c.args.bytes.now c.args.capacity c.args.n (sym c.entries_good.ensures ∙ w.if-entries_good.true) (sym w.mark_column.ensures.once ∙ sym w.value-is ∙ c.if-mark_column.true) _ _ (length-take-le c.args.n _ (omega arith)) c.names_differ.ensures
  | else-entries_good w ↦ absurd (true≢false (sym c.if-mark_column.true ∙ w.value-is ∙ w.if-entries_good.false))
]

pub returns-else-mark_column : goal.returns-else-mark_column
returns-else-mark_column c =
    subst (λ (r : Bool). Decided (TableGood c.args.words.now c.args.map.now c.args.bytes.now c.args.capacity c.args.n) r) (sym c.if-mark_column.false)
    (elim c.if-entries_good.branch [
      | then-entries_good w ↦ slots_bad c.args.words.now c.args.map.now c.args.bytes.now c.args.capacity c.args.n (sym c.entries_good.ensures ∙ w.if-entries_good.true) (sym w.mark_column.ensures.once ∙ sym w.value-is ∙ c.if-mark_column.false)
      | else-entries_good w ↦ table_bad c.args.words.now c.args.map.now c.args.bytes.now c.args.capacity c.args.n (sym c.entries_good.ensures ∙ w.if-entries_good.false)
    ])
