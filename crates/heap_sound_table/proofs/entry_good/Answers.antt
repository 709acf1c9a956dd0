-- `heap_sound_table::entry_good`: in use, a symbol, and its scope. Assumes nothing.
use mathlib.Core.Path.{sym, ◌∙◌}
use borrow.Author.Rules.{rules}
use borrow.Author.Tests.{eqb-true, eq-eqb}
use Rattle.laws.proofs.Tests.{true≢false}
use Rattle.heap_sound_table.proofs.TableLaws.{used_low, entry_unused, entry_unnamed, entry_scoped}
use Rattle.heap_sound_table.proofs.entry_good.Goals as goal
use Rattle.heap_sound_table.proofs.entry_good.Goals.{then-in_use, else-in_use}

pub overflow_mul-slot : goal.overflow_mul-slot
overflow_mul-slot c = let b = used_low c.args.words.now c.args.map.now c.args.capacity c.args.i _ (sym c.in_use.ensures ∙ c.if-in_use.true) in search rules

pub overflow_add-slot-then-in_use : goal.overflow_add-slot-then-in_use
overflow_add-slot-then-in_use c = let b = used_low c.args.words.now c.args.map.now c.args.capacity c.args.i _ (sym c.in_use.ensures ∙ c.if-in_use.true) in search rules

pub offset_bounds-words-slot : goal.offset_bounds-words-slot
offset_bounds-words-slot c = let b = used_low c.args.words.now c.args.map.now c.args.capacity c.args.i _ (sym c.in_use.ensures ∙ c.if-in_use.true) in search rules

pub bounds-words-slot : goal.bounds-words-slot
bounds-words-slot c = let b = used_low c.args.words.now c.args.map.now c.args.capacity c.args.i _ (sym c.in_use.ensures ∙ c.if-in_use.true) in search rules

pub returns-then-words-slot-eq8 : goal.returns-then-words-slot-eq8
returns-then-words-slot-eq8 c = elim c.if-in_use.branch [
  | then-in_use w ↦ entry_scoped c.args.words.now c.args.map.now c.args.capacity c.args.i (sym c.in_use.ensures ∙ w.if-in_use.true) (eqb-true _ 8 (sym w.value-is ∙ c.if-words-slot-eq8.true))
  | else-in_use w ↦ absurd (true≢false (sym c.if-words-slot-eq8.true ∙ w.value-is ∙ w.if-in_use.false))
]

pub returns-else-words-slot-eq8 : goal.returns-else-words-slot-eq8
returns-else-words-slot-eq8 c = elim c.if-in_use.branch [
  | then-in_use w ↦ c.if-words-slot-eq8.false ∙ entry_unnamed c.args.words.now c.args.map.now c.args.capacity c.args.i (sym c.in_use.ensures ∙ w.if-in_use.true) (λ e. true≢false (sym (eq-eqb _ 8 e) ∙ sym w.value-is ∙ c.if-words-slot-eq8.false))
  | else-in_use w ↦ w.value-is ∙ w.if-in_use.false ∙ entry_unused c.args.words.now c.args.map.now c.args.capacity c.args.i (sym c.in_use.ensures ∙ w.if-in_use.false)
]
