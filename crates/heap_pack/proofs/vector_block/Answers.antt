-- `heap_pack::vector_block`: a vector's, or none. Assumes nothing.
use mathlib.Core.Path.{sym, ap, ◌∙◌}
use Rattle.heap_pack.proofs.CellLaws.{vector_span, vector_span_is, no_vector_block}
use Rattle.heap_pack.proofs.vector_block.Goals as goal

pub returns-in-Vector : goal.returns-in-Vector
returns-in-Vector c = sym (ap vector_span c.in-Vector.is) ∙ vector_span_is c.args.c

pub returns-in_default : goal.returns-in_default
returns-in_default c = no_vector_block c.args.c c.in_default.not-Vector c.default.result c.default.ensures
