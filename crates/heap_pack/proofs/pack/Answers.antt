-- `heap_pack::pack`: texts, then elements. Assumes nothing.
use Rattle.heap_pack.proofs.BothLaws.{elements_given, all_packed}
use Rattle.heap_pack.proofs.pack.Goals as goal

pub pack_texts-requires : goal.pack_texts-requires
pack_texts-requires c = (_, _, _, c.requires.3.texts)

pub pack_vectors-requires : goal.pack_vectors-requires
pack_vectors-requires c = (_, _, _, elements_given c.requires.1 _ _ _ _ _ _ _ c.requires.3.vectors (c.pack_texts.ensures _ _ _ c.requires.3.texts))

pub returns-clause-packed : goal.returns-clause-packed
returns-clause-packed c = λ n h r g. all_packed h n r _ _ _ _ (c.pack_texts.ensures n h r.bytes g.texts) (c.pack_vectors.ensures n _ r.elements (elements_given h _ _ _ _ _ _ _ g.vectors (c.pack_texts.ensures n h r.bytes g.texts)))
