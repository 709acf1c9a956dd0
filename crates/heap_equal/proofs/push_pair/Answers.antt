-- `heap_equal::push_pair`: both words lie in the scratch. Assumes nothing.
use mathlib.Core.Path.{refl}
use native.Mathlib.Omega.{arith}
use lib.ListN.{length-set}
use Rattle.heap_equal.specs.Boards.{stacked}
use Rattle.heap_equal.proofs.push_pair.Goals as goal

pub bounds-scratch-at-2 : goal.bounds-scratch-at-2
bounds-scratch-at-2 c = simp length-set (omega (arith, c.requires))

pub returns : goal.returns
unfolding stacked
returns c = record { height_is = refl; scratch_is = refl }
