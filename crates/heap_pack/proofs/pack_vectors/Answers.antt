-- `heap_pack::pack_vectors`: with room aside. Assumes nothing.
use mathlib.Core.Path.{refl}
use Rattle.laws.specs.Basics.{zeros}
use Rattle.heap_pack.proofs.BothLaws.{elements_lent}
use Rattle.heap_pack.proofs.pack_vectors.Goals as goal

pub pack_elements_in-requires : goal.pack_elements_in-requires
unfolding zeros
pack_elements_in-requires c = (_, _, _, elements_lent _ _ _ _ _ _ _ refl refl c.requires.3)

pub returns : goal.returns
unfolding zeros
returns c = λ n h room g. c.pack_elements_in.ensures n h room (elements_lent _ _ _ _ _ _ _ refl refl g)
