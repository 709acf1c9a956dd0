-- `sheet_parse::first_lines`: chunk, then slots. Assumes nothing.
use Rattle.laws.specs.Basics.{basics}
use Rattle.sheet_parse.proofs.ReadLaws.{no_chunk, no_slots, both_lines}
use Rattle.sheet_parse.proofs.first_lines.Goals as goal

pub returns-in_err-chunk : goal.returns-in_err-chunk
unfolding basics
returns-in_err-chunk c = rw c.from_residual.ensures (no_chunk c.args.text.now c.in_err-chunk.ensures)

pub returns-in_err-slots : goal.returns-in_err-slots
unfolding basics
returns-in_err-slots c = rw c.from_residual-in_err-slots.ensures (no_slots c.args.text.now c.in_ok-chunk.chunk c.in_ok-chunk.ensures c.in_err-slots.ensures)

pub returns : goal.returns
unfolding basics
returns c = both_lines c.args.text.now c.in_ok-chunk.chunk c.in_ok-chunk.ensures c.in_ok-slots.slots c.in_ok-slots.ensures
