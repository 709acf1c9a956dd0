-- `heap_sound_cells::vectors`: painted, and then looked at once. Assumes nothing.
use Rattle.heap_sound_cells.proofs.FirstLaws.{looked_bad, looked}
use Rattle.heap_sound_cells.specs.Looked.{vector_good}
use Rattle.heap_sound_blocks.specs.Blocks.{shown}
use native.Mathlib.Omega.{arith}
use Rattle.heap_sound_cells.proofs.vectors.Goals as goal

-- src/lib.rt:224:9
pub returns-then-not-lay : goal.returns-then-not-lay
returns-then-not-lay c = looked_bad (vector_good c.args.elems.now c.args.map.now c.args.capacity) (shown c.args.words.now 10 10) c.args.used c.args.capacity _ c.lay.ensures (c.if-not-lay.true)

-- src/lib.rt:226:5
pub vectors_named-requires : goal.vectors_named-requires
vectors_named-requires c = record { capacity_in_bounds = omega arith; apart = c.lay.ensures.sound (c.if-not-lay.false); used_in_bounds = omega arith; used_in_bounds_2 = omega arith }

-- src/lib.rt:215:1
pub returns : goal.returns
returns c = looked (vector_good c.args.elems.now c.args.map.now c.args.capacity) (shown c.args.words.now 10 10) c.args.used c.args.capacity _ c.lay.ensures (c.if-not-lay.false) _ c.vectors_named.ensures
