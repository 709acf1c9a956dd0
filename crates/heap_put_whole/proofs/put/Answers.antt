-- `heap_put_whole::put`: the scratch cleared after the put. Assumes nothing.
use Rattle.leaf_lists.specs.Lists.{held}
use Rattle.heap_put_whole.proofs.WholeLaws.{cleared_left}
use Rattle.heap_put_whole.proofs.put.Goals as goal

pub returns-clause-put : goal.returns-clause-put
returns-clause-put c = cleared_left (held c.args.heap.now) _ _ c.put_any-answer.new.scratch _ _ _ c.put_any-answer.ensures.outcome c.clear_words.ensures c.put_any-answer.auto.scratch
