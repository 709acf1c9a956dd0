-- `heap_equal::parts_of`: by the kinds of the two cells. Assumes nothing.
use mathlib.Core.Path.{ap, ◌∙◌}
use mathlib.Core.Logic.{inl, inr}
use denote.Enum.Declared.{tag_of}
use Rattle.leaf_cells.specs.contracts.VCell.{the_type}
use Rattle.leaf_cells.specs.Cells.{cell_of}
use Rattle.leaf_cells.specs.declared.VCell.{VCell}
use Rattle.heap_equal.proofs.CellParts.{no_pair, no_vector, neither_two, told, told_first, two_pairs, two_vectors, two_sizes, neither, pair_alone, vector_alone}
use Rattle.heap_equal.proofs.parts_of.Goals as goal

pub returns-then-m-n : goal.returns-then-m-n
returns-then-m-n c = two_sizes c.load-x.result c.load-y.result _ _ c.load-x.ensures c.load-y.ensures c.in-Vector.p c.in-Vector.m c.in-Vector-y.q c.in-Vector-y.n c.in-Vector.is c.in-Vector-y.is c.if-m-n.true

pub returns-in-Pair-y : goal.returns-in-Pair-y
returns-in-Pair-y c = two_pairs c.load-x.result c.load-y.result _ _ c.load-x.ensures c.load-y.ensures c.in-Pair.a c.in-Pair.d c.in-Pair-y.b c.in-Pair-y.e c.in-Pair.is c.in-Pair-y.is

pub returns-in_default-y : goal.returns-in_default-y
returns-in_default-y c = pair_alone _ _ c.load-y.result (λ a d e. no_pair _ c.in_default-y.in_default-y-own.keys2 (ap (λ (x : VCell). tag_of the_type x) e)) ∙ told_first c.load-x.result c.load-y.result _ _ c.load-x.ensures c.load-y.ensures _ (ap cell_of c.in-Pair.is)

pub returns-else-m-n : goal.returns-else-m-n
returns-else-m-n c = two_vectors c.load-x.result c.load-y.result _ _ c.load-x.ensures c.load-y.ensures c.in-Vector.p c.in-Vector.m c.in-Vector-y.q c.in-Vector-y.n c.in-Vector.is c.in-Vector-y.is c.if-m-n.false

pub returns-in_default-y-2 : goal.returns-in_default-y-2
returns-in_default-y-2 c = vector_alone _ c.load-y.result (λ a d e. no_vector _ c.in_default-y-2.in_default-y-2-own.keys2 (ap (λ (x : VCell). tag_of the_type x) e)) ∙ told_first c.load-x.result c.load-y.result _ _ c.load-x.ensures c.load-y.ensures _ (ap cell_of c.in-Vector.is)

pub returns-in_default : goal.returns-in_default
returns-in_default c = neither c.load-x.result (λ a d e. neither_two _ c.in_default.in_default-own.keys3 (inl (ap (λ (x : VCell). tag_of the_type x) e))) (λ p n e. neither_two _ c.in_default.in_default-own.keys3 (inr (ap (λ (x : VCell). tag_of the_type x) e))) (cell_of c.load-y.result) ∙ told c.load-x.result c.load-y.result _ _ c.load-x.ensures c.load-y.ensures
