-- `heap_needs::is_met`: the name is among those left, or among none. Assumes nothing.
use Rattle.std.proofs.Common.{sym, refl, ◌∙◌}
use Rattle.heap_needs.proofs.NameLaws.{other_scope, other_text, here, none_met}
use Rattle.heap_needs.proofs.is_met.Goals.{else-n-scope-via-else-n-scope, else-n-scope-via-then-n-scope+else-same}
use Rattle.heap_needs.proofs.is_met.Goals as goal

pub returns-then-same : goal.returns-then-same
returns-then-same c =
    sym (c.loop-i.invariant ∙ here c.args.names.now c.args.datum.now c.args.name.now c.args.scope c.loop-i.i _ _ c.loop-i-test.true c.loop-i.auto.i refl c.if-n-scope.true (sym c.same.ensures ∙ c.if-same.true))

pub loop-i-preserved : goal.loop-i-preserved
loop-i-preserved c =
    elim c.else-n-scope.branch [
      | else-n-scope-via-else-n-scope w ↦
          c.loop-i.invariant ∙ other_scope c.args.names.now c.args.datum.now c.args.name.now c.args.scope c.loop-i.i _ _ c.loop-i-test.true c.loop-i.auto.i refl w.if-n-scope.false
      | else-n-scope-via-then-n-scope+else-same w ↦
          c.loop-i.invariant ∙ other_text c.args.names.now c.args.datum.now c.args.name.now c.args.scope c.loop-i.i _ _ c.loop-i-test.true c.loop-i.auto.i refl w.if-n-scope.true (sym w.same.ensures ∙ w.if-same.false)
    ]

pub returns : goal.returns
returns c = sym (c.loop-i.invariant ∙ none_met c.args.names.now c.args.datum.now c.args.name.now c.args.scope c.loop-i.i c.loop-i-test.false)
