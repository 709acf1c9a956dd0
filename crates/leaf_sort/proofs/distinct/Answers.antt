-- `leaf_sort::distinct`: no two neighbours alike, or two at some place. Assumes nothing.
use borrow.Author.Rules.{rules}
use Rattle.leaf_sort.proofs.ByStd.{windows_differ, windows_of}
use Rattle.leaf_sort.proofs.distinct.Goals as goal

pub returns : goal.returns
returns c =
    let run = c.all.ensures.runs in
    windows_differ c.args.keys.now c.args.bytes.now run.0 _ _ c.args.order.now
    (windows_of run.0 c.windows.result c.args.order.now run.1 c.windows.ensures.size c.windows.ensures.rest (c.windows.ensures.runs run.0 run.0.seen))
    (λ a r q k. search rules) (λ x b q. search rules) c.all.result run.2
