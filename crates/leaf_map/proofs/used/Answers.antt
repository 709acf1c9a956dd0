-- `leaf_map::used`: what is counted and what is left to count make the whole. Assumes nothing.
use native.Mathlib.Omega.{arith}
use Rattle.rules.proofs.TwoBits.{Counted, count_byte, low_bits_done}
use Rattle.leaf_map.proofs.used.Goals as goal

-- a byte was counted: at most four, and so many are left fewer
counted : (c : goal.After-low_bits-n) → Counted c.args.map.now c.loop-byte.byte-index c.low_bits-n.result
counted c = count_byte c.args.map.now c.loop-byte.byte-index c.low_bits-n.result c.loop-byte-test.true c.low_bits-n.ensures

pub overflow_add-n : goal.overflow_add-n
overflow_add-n c = omega (arith, counted c)

pub loop-byte-preserved : goal.loop-byte-preserved
loop-byte-preserved c = (omega (arith, counted c), omega (arith, counted c))

pub returns : goal.returns
returns c = omega (arith, low_bits_done c.args.map.now c.loop-byte.byte-index c.loop-byte-test.false)
