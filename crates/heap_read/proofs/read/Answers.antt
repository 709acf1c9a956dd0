-- `heap_read::read`: the answer and what is left, by the rules' read. Assumes nothing.
use Rattle.heap_read.proofs.ReadLaws.{blank_task, read_answered}
use Rattle.laws.specs.Basics.{zeros}
use mathlib.Core.Path.{ap, ◌∙◌}
use Rattle.heap_read.proofs.read.Goals as goal

pub read_blank-a-requires : goal.read_blank-a-requires
read_blank-a-requires c = (_, _, blank_task _ _ _ _ _ _ _ _ c.requires.2 c.clear_words.ensures)

pub returns : goal.returns
returns c = λ r h k. read_answered h _ _ _ k.named _ _ _ (c.read_blank-a.ensures _ _ (blank_task r h _ _ _ _ _ _ k c.clear_words.ensures)) (c.clear_words-2.ensures ∙ ap zeros (c.read_blank-a.auto.scratch ∙ c.clear_words.auto.words))
