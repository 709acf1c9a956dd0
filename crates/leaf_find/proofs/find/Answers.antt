-- `leaf_find::find`: what is found from the place on is what is found in the whole. Assumes nothing.
use mathlib.Core.Path.{◌∙◌, sym}
use Rattle.leaf_symbols.proofs.Turns.{found_start, found_end, other_scope, other_name, finds, passes}
use Rattle.leaf_find.proofs.find.Goals as goal
use Rattle.leaf_find.proofs.find.Goals.{else-words-at-via-then-words-at+else-name_is, else-words-at-via-else-words-at}

pub loop-i-init : goal.loop-i-init
loop-i-init c = found_start c.args.words.now c.args.bytes.now c.args.name.now c.args.scope

pub returns-then-name_is : goal.returns-then-name_is
returns-then-name_is c = finds c.args.words.now c.args.bytes.now c.args.name.now c.args.scope c.loop-i.i _ c.loop-i-test.true c.if-words-at.true (sym c.name_is.ensures ∙ c.if-name_is.true) ∙ c.loop-i.invariant

pub loop-i-preserved : goal.loop-i-preserved
loop-i-preserved c =
    passes c.args.words.now c.args.bytes.now c.args.name.now c.args.scope c.loop-i.i _ c.loop-i-test.true
    (elim c.else-words-at.branch [
      | else-words-at-via-then-words-at+else-name_is w ↦ other_name c.args.words.now c.args.bytes.now c.args.name.now c.args.scope c.loop-i.i w.if-words-at.true (sym w.name_is.ensures ∙ w.if-name_is.false)
      | else-words-at-via-else-words-at w ↦ other_scope c.args.words.now c.args.bytes.now c.args.name.now c.args.scope c.loop-i.i w.if-words-at.false
    ])
    ∙ c.loop-i.invariant

pub returns : goal.returns
returns c = found_end c.args.words.now c.args.bytes.now c.args.name.now c.args.scope c.loop-i.i _ c.loop-i-test.false ∙ c.loop-i.invariant
