-- `leaf_symbols::close_up`: what is stored and what is left to store make the whole. Assumes nothing.
use mathlib.Core.Path.{◌∙◌}
use Rattle.leaf_map.specs.declared.State.TheVariants.{Allocated}
use Rattle.leaf_map.proofs.SameState.{is_state, other_state}
use Rattle.leaf_symbols.proofs.Turns.{closing, closing_kept, closing_freed, closing_ends}
use Rattle.leaf_symbols.proofs.close_up.Goals as goal
use Rattle.leaf_symbols.proofs.close_up.Goals.{then-eq, else-eq}

pub loop-i-init : goal.loop-i-init
loop-i-init c = closing c.args.words.now c.args.map.now _

pub loop-i-preserved : goal.loop-i-preserved
loop-i-preserved c =
    elim c.if-eq.branch [
      | then-eq w ↦ closing_kept c.args.words.now c.args.map.now _ c.loop-i.words c.loop-i.kept c.loop-i.i c.loop-i.invariant c.loop-i-test.true c.if-eq.words c.if-eq.kept (w.words-is ∙ w.store_entry.ensures) w.kept-is (is_state c.get.result Allocated c.eq.ensures c.get.ensures w.if-eq.true)
      | else-eq w ↦ closing_freed c.args.words.now c.args.map.now _ c.loop-i.words c.loop-i.kept c.loop-i.i c.loop-i.invariant c.loop-i-test.true c.if-eq.words c.if-eq.kept w.words-is w.kept-is (other_state c.get.result Allocated c.eq.ensures c.get.ensures w.if-eq.false)
    ]

pub returns : goal.returns
returns c = closing_ends c.args.words.now c.args.map.now c.loop-i.words c.loop-i.kept c.loop-i.i c.loop-i.invariant c.loop-i-test.false
