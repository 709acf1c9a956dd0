-- `doors::used`: the part of the map in use is counted. Assumes nothing.
use mathlib.Core.Path.{sym, ap}
use Prim.Native.Nat.{◌/◌}
use native.Mathlib.Omega.{arith}
use lib.ListN.{get_or}
use lib.Seq.{length-take-le}
use Rattle.leaf_lists.specs.Lists.{lent_of}
use Rattle.refusals.specs.declared.Refusal.TheVariants.{Unsound}
use Rattle.heap_given.proofs.AnswerLaws.{passed_on}
use Rattle.doors.proofs.DoorLaws.{known, used_unsound, used_is, used_for}
use Rattle.doors.proofs.used.Goals as goal

pub returns-in_err-sound : goal.returns-in_err-sound
returns-in_err-sound c = used_unsound (lent_of c.args.heap) c.in_err-sound.ensures.0 _ (passed_on (λ a. a) _ _ Unsound c.from_residual.ensures.1 c.in_err-sound.ensures.1)

pub bounds-sound-1 : goal.bounds-sound-1
bounds-sound-1 c = omega (arith, (known (lent_of c.in_ok-sound.sound.lists) c.in_ok-sound.sound.sound).header)

pub slice_bounds-used-end : goal.slice_bounds-used-end
slice_bounds-used-end c = sym (length-take-le (get_or c.in_ok-sound.sound.lists.words.now 1 0 / 4) c.in_ok-sound.sound.lists.map.now (known (lent_of c.in_ok-sound.sound.lists) c.in_ok-sound.sound.sound).states)

pub used-requires : goal.used-requires
used-requires c = let k = known (lent_of c.in_ok-sound.sound.lists) c.in_ok-sound.sound.sound in omega (arith, length-take-le (get_or c.in_ok-sound.sound.lists.words.now 1 0 / 4) c.in_ok-sound.sound.lists.map.now k.states, k.few)

pub returns : goal.returns
returns c = used_for _ _ _ (ap lent_of c.in_ok-sound.ensures.1) (used_is (lent_of c.in_ok-sound.sound.lists) c.in_ok-sound.sound.sound _ c.used.ensures)
