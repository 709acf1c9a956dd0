-- `heap_pack::pack_texts`: with room aside. Assumes nothing.
use mathlib.Core.Path.{refl}
use Rattle.laws.specs.Basics.{zeros}
use Rattle.heap_pack.proofs.BothLaws.{texts_lent}
use Rattle.heap_pack.proofs.pack_texts.Goals as goal

pub pack_texts_in-requires : goal.pack_texts_in-requires
unfolding zeros
pack_texts_in-requires c = (_, _, _, texts_lent _ _ _ _ _ _ _ refl refl c.requires.3)

pub returns : goal.returns
unfolding zeros
returns c = λ n h room g. c.pack_texts_in.ensures n h room (texts_lent _ _ _ _ _ _ _ refl refl g)
