-- What is answered of a given scalar, value or cell, in the rules' words; and whether a cell names slots in use. A fault of what
-- a caller gives is at node 0: there is no other. Assumes nothing.
use Rattle.std.specs.Prelude.{Bool, true, List, ℕ, Result, Ok, Err}
use Rattle.laws.specs.Basics.{both}
use Rattle.rules.specs.Refusals.{Answer, accepted, refused, malformed}
use Rattle.rules.specs.Cells.{Scalar, Cell, plain, pair, symbol, string, vector}
use Rattle.rules.specs.Cells as cells
use Rattle.rules.specs.Layout.{scalar_from}
use Rattle.leaf_cells.specs.Cells.{cell_of}
use Rattle.leaf_cells.specs.Elements.{value_of}
use Rattle.leaf_cells.specs.declared.VCell.{VCell}
use Rattle.leaf_cells.specs.declared.Value.{Value}
use Rattle.leaf_nodes.specs.Reads.{fault_of}
use Rattle.leaf_nodes.specs.declared.Fault.{Fault}
use Rattle.heap_sound_cells.specs.Looked.{used_slot}

-- a fault, as the refusal that it is told by
abbrev pub refused_for : {A : Type 0} → Fault → Answer A
refused_for f = refused (malformed (fault_of f) 0)

-- a good one is the layout's scalar of that kind and field
abbrev pub scalar_answer : Result (Unit {0}) Fault → ℕ → ℕ → Answer Scalar
scalar_answer (Ok u) kind a = accepted (scalar_from kind a)
scalar_answer (Err f) kind a = refused_for f

abbrev pub value_answer : Result Value Fault → Answer cells.Value
value_answer (Ok v) = accepted (value_of v)
value_answer (Err f) = refused_for f

abbrev pub cell_answer : Result VCell Fault → Answer Cell
cell_answer (Ok c) = accepted (cell_of c)
cell_answer (Err f) = refused_for f

-- a cell names slots in use, if any
unfoldable pub cell_named : ℕ → List ℕ → Cell → Bool
cell_named capacity m (plain s) = true
cell_named capacity m (pair a d) = both (used_slot capacity m a) (used_slot capacity m d)
cell_named capacity m (symbol b) = true
cell_named capacity m (string b) = true
cell_named capacity m (vector b) = true
