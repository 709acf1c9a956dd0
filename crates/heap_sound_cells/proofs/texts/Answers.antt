-- `heap_sound_cells::texts`: painted, and then looked at once. Assumes nothing.
use Rattle.heap_sound_cells.proofs.FirstLaws.{looked_bad, looked}
use Rattle.heap_sound_cells.specs.Looked.{text_good}
use Rattle.heap_sound_blocks.specs.Blocks.{shown}
use lib.ListN.{length}
use native.Mathlib.Omega.{arith}
use Rattle.heap_sound_cells.proofs.texts.Goals as goal

-- src/lib.rt:162:9
pub returns-then-not-lay : goal.returns-then-not-lay
returns-then-not-lay c = looked_bad (text_good c.args.bytes.now) (shown c.args.words.now 7 8) (length c.args.bytes.now) c.args.capacity _ c.lay.ensures (c.if-not-lay.true)

-- src/lib.rt:164:5
pub texts_utf8-requires : goal.texts_utf8-requires
texts_utf8-requires c = record { capacity_in_bounds = omega arith; apart = c.lay.ensures.sound (c.if-not-lay.false); bytes_in_bounds = omega arith }

-- src/lib.rt:154:1
pub returns : goal.returns
returns c = looked (text_good c.args.bytes.now) (shown c.args.words.now 7 8) (length c.args.bytes.now) c.args.capacity _ c.lay.ensures (c.if-not-lay.false) _ c.texts_utf8.ensures
