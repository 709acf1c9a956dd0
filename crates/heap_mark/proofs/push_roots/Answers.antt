-- `heap_mark::push_roots`: what was pushed and what is left to push make the roots. Assumes nothing.
use native.Mathlib.Omega.{arith}
use Rattle.heap_mark.proofs.Leads.{along, along_next, along_on, take_more, drop_more}
use Rattle.heap_mark.proofs.push_roots.Goals as goal

pub loop-root-init : goal.loop-root-init
loop-root-init c = (omega arith, along _ _ _ _ c.requires)

pub push-top-requires : goal.push-top-requires
push-top-requires c = along_next _ _ _ _ _ _ _ _ c.loop-root.invariant.1 _ _ (drop_more _ _ c.loop-root-test.true)

pub loop-root-preserved : goal.loop-root-preserved
loop-root-preserved c = (omega arith, along_on _ _ _ _ _ _ _ _ c.loop-root.invariant.1 _ _ _ _ _ _ (drop_more _ _ c.loop-root-test.true) (take_more _ _ c.loop-root-test.true) c.push-top.ensures c.push-top.auto.scratch)
