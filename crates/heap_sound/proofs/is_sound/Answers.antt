-- `heap_sound::is_sound`: the outline, then the contents. Assumes nothing.
use Rattle.heap_sound.proofs.WholeLaws.{not_sound, sound_is}
use Rattle.leaf_lists.specs.Lists.{lent_of}
use mathlib.Core.Path.{◌∙◌}
use Rattle.heap_sound.proofs.is_sound.Goals as goal

pub returns-else-outline : goal.returns-else-outline
returns-else-outline c = c.if-outline.false ∙ not_sound (lent_of c.args.heap) c.outline.ensures (c.if-outline.false)

pub contents-requires : goal.contents-requires
contents-requires c = c.outline.ensures.holds (c.if-outline.true)

pub returns-then-outline : goal.returns-then-outline
returns-then-outline c = sound_is (lent_of c.args.heap) c.outline.ensures (c.if-outline.true) _ c.contents.ensures
