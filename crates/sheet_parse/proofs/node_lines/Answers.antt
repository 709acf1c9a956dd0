-- `sheet_parse::node_lines`: what was to do is what is left to do. Assumes nothing.
use Rattle.sheet_parse.proofs.StepLaws.{going_begins, going_room, going_bad, last_place, going_last, going_roomy, going_less, going_on}
use Rattle.sheet_parse.proofs.node_lines.Goals as goal

pub loop-out-init : goal.loop-out-init
loop-out-init c = going_begins c.args.text.now c.args.out.now c.args.ends.now c.args.from c.requires.from_in_bounds

pub read_at-requires : goal.read_at-requires
read_at-requires c = going_room c.loop-out.invariant c.requires.text_in_bounds

pub returns-in-None : goal.returns-in-None
returns-in-None c = going_bad c.loop-out.invariant _ c.read_at.result c.read_at.ensures _ _ c.in-None.is c.clear_bytes.ensures c.clear_words.ensures

pub finish-count-requires : goal.finish-count-requires
finish-count-requires c = last_place c.loop-out.invariant _ c.read_at.result c.read_at.ensures (rw c.in-Some-Last.field-0-is at c.in-Some-Last.is) c.requires.text_len_bound_2

pub returns-in-Some-Last : goal.returns-in-Some-Last
returns-in-Some-Last c = going_last c.loop-out.invariant _ c.read_at.result c.read_at.ensures (rw c.in-Some-Last.field-0-is at c.in-Some-Last.is) c.requires.text_len_bound_2 c.finish-count.result _ c.finish-count.ensures.0 c.finish-count.ensures.1 c.requires.text_in_bounds

pub advance-p-requires : goal.advance-p-requires
advance-p-requires c = going_roomy c.loop-out.invariant _ c.read_at.result c.read_at.ensures c.in-Some-Node.node.size c.in-Some-Node.node.follow c.in-Some-Node.next (rw c.in-Some-Node.field-0-is at c.in-Some-Node.is) c.requires.text_len_bound c.requires.text_len_bound_2

pub loop-out-smaller : goal.loop-out-smaller
loop-out-smaller c = going_less c.loop-out.invariant _ c.read_at.result c.read_at.ensures c.in-Some-Node.node.size c.in-Some-Node.node.follow c.in-Some-Node.next (rw c.in-Some-Node.field-0-is at c.in-Some-Node.is) c.advance-p.result c.advance-p.ensures.0

pub loop-out-preserved : goal.loop-out-preserved
loop-out-preserved c = going_on c.loop-out.invariant _ c.read_at.result c.read_at.ensures c.in-Some-Node.node.size c.in-Some-Node.node.follow c.in-Some-Node.next (rw c.in-Some-Node.field-0-is at c.in-Some-Node.is) c.advance-p.result c.advance-p.ensures.0 _ c.advance-p.ensures.1
