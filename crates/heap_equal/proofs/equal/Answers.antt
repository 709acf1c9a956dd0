-- `heap_equal::equal`: the scratch is cleared before and after. Assumes nothing.
use Rattle.leaf_cells.specs.Elements.{value_of}
use Rattle.leaf_lists.specs.Lists.{lent_of}
use Rattle.heap_equal.proofs.Deciding.{decide_asks, answered}
use Rattle.heap_equal.proofs.equal.Goals as goal

pub decide-answer-requires : goal.decide-answer-requires
decide-answer-requires c = let v = decide_asks (lent_of c.args.heap) c.args.scratch.now (value_of c.args.v) (value_of c.args.w) (c.requires.comparable, c.requires.room) c.clear_words.new.words c.clear_words.ensures in record { comparable = v.0; room = v.1.0; clear = v.1.1 }

pub returns : goal.returns
returns c = answered (lent_of c.args.heap) c.args.scratch.now (value_of c.args.v) (value_of c.args.w) (c.requires.comparable, c.requires.room) c.clear_words.new.words c.clear_words.ensures c.decide-answer.result c.decide-answer.ensures c.decide-answer.new.scratch c.clear_words-2.new.words c.decide-answer.auto.scratch c.clear_words-2.ensures
