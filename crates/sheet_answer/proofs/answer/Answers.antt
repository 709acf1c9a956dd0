-- `sheet_answer::answer`: the room that is lent. Assumes nothing.
use mathlib.Core.Path.{refl}
use native.Mathlib.Omega.{arith}
use Rattle.laws.specs.Basics.{zeros}
use Rattle.sheet_answer.proofs.LineLaws.{lent_room}
use Rattle.sheet_answer.proofs.answer.Goals as goal

pub answer_in-requires : goal.answer_in-requires
unfolding zeros
answer_in-requires g c = record { rooms_lent = lent_room _ _ _ _ _ _ _ _ refl refl refl refl refl refl refl refl; in_bounds = omega arith }
