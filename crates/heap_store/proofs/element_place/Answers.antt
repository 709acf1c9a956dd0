-- `heap_store::element_place`: a vector has its elements, and no other cell any. Assumes nothing.
use mathlib.Core.Path.{sym, ap, ◌∙◌}
use native.Mathlib.Omega.{arith}
use Rattle.rules.specs.Calls.{element_place}
use Rattle.leaf_cells.specs.Cells.{cell_of}
use Rattle.leaf_cells.specs.declared.VCell.{VCell}
use Rattle.leaf_cells.proofs.Variants.{but_vector, other_cell}
use Rattle.heap_store.proofs.StoreLaws.{no_vector, element_there, element_missing, vector_size}
use Rattle.heap_store.proofs.element_place.Goals as goal

pub overflow_add-result : goal.overflow_add-result
overflow_add-result c = omega (arith, vector_size c.args.c _ _ c.in-Vector.is c.requires, c.if-k-size.true)

pub returns-in-Vector : goal.returns-in-Vector
returns-in-Vector c = element_there _ _ _ (omega (arith, c.if-k-size.true)) ∙ ap (λ (x : VCell). element_place (cell_of x) c.args.k) (sym c.in-Vector.is)

pub returns-in_default : goal.returns-in_default
returns-in_default c = element_missing _ _ _ (omega (arith, c.if-k-size.false)) ∙ ap (λ (x : VCell). element_place (cell_of x) c.args.k) (sym c.in-Vector.is)

pub returns-in_default-2 : goal.returns-in_default-2
returns-in_default-2 c = no_vector c.args.c c.args.k (λ p n e. other_cell but_vector _ c.in_default.in_default-own.keys2 e tt)
