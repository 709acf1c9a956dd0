-- `heap_atoms::shape_of`: kind by kind. Assumes nothing.
use Rattle.std.proofs.Common.{refl}
use Rattle.heap_atoms.proofs.Atoms.{node_shape, fault_shape, atom_shape}
use Rattle.heap_atoms.proofs.shape_of.Goals as goal

pub returns-in_default : goal.returns-in_default
returns-in_default c = fault_shape _ _ c.in_default.ensures

pub returns-in-Pair : goal.returns-in-Pair
returns-in-Pair c = node_shape _ _ _ c.in-Pair.is c.in-Ok.ensures

pub returns-in-Vector : goal.returns-in-Vector
returns-in-Vector c = node_shape _ _ _ c.in-Vector.is c.in-Ok.ensures

pub returns-in-Def : goal.returns-in-Def
returns-in-Def c = node_shape _ _ _ c.in-Def.is c.in-Ok.ensures

pub returns-in_default-node : goal.returns-in_default-node
returns-in_default-node c = atom_shape _ _ _ refl c.in_default-node.not-Pair c.in_default-node.not-Vector c.in_default-node.not-Def c.in-Ok.ensures
