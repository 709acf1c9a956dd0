-- `heap_read::read_blank`: the walk, then the read by its labels. Assumes nothing.
use Rattle.heap_read.proofs.ReadLaws.{label_task, many_answer, marked_task}
use Rattle.heap_read.proofs.read_blank.Goals as goal

pub returns-then-count-gt64 : goal.returns-then-count-gt64
returns-then-count-gt64 c = λ r h k. many_answer r h _ _ _ _ _ k _ _ (c.label-count.ensures _ _ (label_task r h _ _ _ _ _ k)) c.if-count-gt64.true _

pub read_marked-requires : goal.read_marked-requires
read_marked-requires c = (_, _, marked_task _ _ _ _ _ _ _ c.requires.2 _ _ (c.label-count.ensures _ _ (label_task _ _ _ _ _ _ _ c.requires.2)) c.if-count-gt64.false c.label-count.auto.marks)

pub returns : goal.returns
returns c = λ r h k. c.read_marked.ensures _ _ (marked_task r h _ _ _ _ _ k _ _ (c.label-count.ensures _ _ (label_task r h _ _ _ _ _ k)) c.if-count-gt64.false c.label-count.auto.marks)
