-- `leaf_sort::sort`: what std's sort promises, in the rules' words. Assumes nothing.
use borrow.Author.Rules.{rules}
use Rattle.leaf_sort.proofs.ByStd.{permuted_by, sorted_by}
use Rattle.leaf_sort.proofs.sort.Goals as goal

pub returns : goal.returns
returns c =
    record {
      permuted = permuted_by c.args.order.now c.sort_unstable_by.new.self c.sort_unstable_by.ensures.permutation c.sort_unstable_by.ensures.len;
      sorted = sorted_by c.args.keys.now c.args.bytes.now c.sort_unstable_by.new.self c.sort_unstable_by.ensures.sorted (λ a r f k. search rules);
    }
