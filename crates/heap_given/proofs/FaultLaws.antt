-- What is wrong with a datum or a given scalar, in the code and in the rules: each comes from one of the other, so that an answer
-- that tells it is determined. Assumes nothing.
use mathlib.Core.Path.{◌≡◌, refl}
use Rattle.rules.specs.Refusals.{Fault, unknown_kind, cut_short, left_over, bad_bool, bad_char, bad_utf8}
use Rattle.leaf_nodes.specs.declared.Fault as code
use Rattle.leaf_nodes.specs.declared.Fault.TheVariants as faults
use Rattle.leaf_nodes.specs.Reads.{fault_of}

unfoldable pub from_fault : Fault → code.Fault
from_fault unknown_kind = faults.UnknownKind
from_fault cut_short = faults.CutShort
from_fault left_over = faults.LeftOver
from_fault bad_bool = faults.BadBool
from_fault bad_char = faults.BadChar
from_fault bad_utf8 = faults.BadUtf8

pub fault_back : (f : code.Fault) → from_fault (fault_of f) ≡ f
unfolding from_fault
fault_back faults.UnknownKind = refl
fault_back faults.CutShort = refl
fault_back faults.LeftOver = refl
fault_back faults.BadBool = refl
fault_back faults.BadChar = refl
fault_back faults.BadUtf8 = refl
