-- `sheet_print::freelist_line`: the key, the list, the line end. Assumes nothing.
use lib.ListN.{length-set}
use Rattle.laws.specs.Basics.{basics}
use Rattle.sheet_print.proofs.WordLaws.{freelist_is}
use mathlib.Core.Path.{◌∙◌}
use Rattle.sheet_print.proofs.freelist_line.Goals as goal

pub shape_of-out : goal.shape_of-out
shape_of-out c = simp length-set (c.print_free-end.auto.out ∙ c.print_text-start.auto.out)

pub returns : goal.returns
unfolding basics
returns c = λ m b e. freelist_is c.args.words.now m b e c.print_text-start.ensures c.print_free-end.ensures
