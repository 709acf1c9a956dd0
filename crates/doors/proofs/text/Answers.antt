-- `doors::text`: the block's part of the bytes, or an empty one. Assumes nothing.
use mathlib.Core.Path.{◌∙◌}
use Rattle.heap_sound_rows.specs.Rows.{lists}
use Rattle.doors.specs.Answers.{block_of}
use Rattle.doors.proofs.DoorLaws.{part_refused, part_fits, part_held}
use Rattle.doors.proofs.text.Goals as goal

pub text-requires : goal.text-requires
text-requires c = part_fits (lists c.args.words.now c.args.map.now c.args.bytes.now c.args.elems.now) c.args.slot (block_of c.in-Ok.block) c.in-Ok.ensures

pub returns-in-Ok : goal.returns-in-Ok
returns-in-Ok c = c.text.ensures ∙ part_held (lists c.args.words.now c.args.map.now c.args.bytes.now c.args.elems.now) c.args.slot (block_of c.in-Ok.block) c.in-Ok.ensures

pub returns-in-Err : goal.returns-in-Err
returns-in-Err c = part_refused (lists c.args.words.now c.args.map.now c.args.bytes.now c.args.elems.now) c.args.slot _ c.in-Err.ensures
