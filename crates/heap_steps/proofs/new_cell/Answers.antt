-- `heap_steps::new_cell`: a slot given, and the cell stored there. Assumes nothing.
use Rattle.heap_steps.proofs.CellSteps.{can_alloc_on, row_on, made_on}
use Rattle.heap_steps.proofs.new_cell.Goals as goal

-- src/lib.rt:15:9
pub alloc-s-requires : goal.alloc-s-requires
alloc-s-requires c = can_alloc_on c.requires.0 c.requires.1 _ _ c.requires.2

-- src/lib.rt:16:5
pub store-requires : goal.store-requires
store-requires c = row_on c.requires.0 c.requires.1 _ _ c.requires.2 _ _ _ c.alloc-s.ensures

-- src/lib.rt:11:1
pub returns : goal.returns
returns c = λ n h o. made_on n h _ _ o _ _ _ _ _ _ c.alloc-s.ensures c.store.ensures
