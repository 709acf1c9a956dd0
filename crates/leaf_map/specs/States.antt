-- The states by the rules' numbers. Assumes nothing.
use Rattle.std.specs.Prelude.{◌<◌, ℕ}
use Rattle.std.proofs.Common.{arith}
use Rattle.leaf_map.specs.declared.State.{State}
use Rattle.leaf_map.specs.declared.State.TheVariants.{Free, Allocated, Used, Three}

abbrev pub number_of : State → ℕ
number_of Free = 0
number_of Allocated = 1
number_of Used = 2
number_of Three = 3

pub number_small : (s : State) → number_of s < 4
number_small Free = omega arith
number_small Allocated = omega arith
number_small Used = omega arith
number_small Three = omega arith
