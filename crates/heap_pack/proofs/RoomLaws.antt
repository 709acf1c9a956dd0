-- A room whose front was packed: what is behind it is cleared. Assumes nothing.
use mathlib.Core.Path.{◌≡◌, refl, sym, ap, ◌∙◌}
use mathlib.Core.List.{List, ◌++◌}
use Prim.Native.Nat.{ℕ, ◌+◌, ◌-◌, ◌≤◌}
use native.Mathlib.Omega.{arith}
use borrow.Rule.Slice.PartMut.{put_mid, mid_of}
use lib.ListN.{length, take, drop, length-append, length-drop}
use lib.Seq.{sets-eq, take_at, drop_at, drop-drop}
use Rattle.laws.specs.Basics.{zeros}
use Rattle.laws.proofs.Zeros.{zeros_append}
use Rattle.laws.proofs.Pointwise.{length_part}
use Rattle.rules.specs.Layout.{filled}
use Rattle.rules.proofs.LentLaws.{filled_length}
use Rattle.leaf_rooms.specs.Rooms.{stored}

-- the part of a room that is in use
pub front_is : (room : ℕ) (l : List ℕ) (used : ℕ) → used ≡ length l → take used (filled room l) ≡ l
unfolding filled
front_is room l used e = take_at l (zeros (room - length l)) used (sym e)

-- a copy aside begins with what was copied
pub copied : (old l : List ℕ) → length l ≤ length old → take (length l) (stored old 0 l) ≡ l
unfolding stored
copied old l h = ap (take (length l)) (sets-eq l old 0 (omega arith)) ∙ take_at l (drop (0 + length l) old) (length l) refl

module _ (room end used : ℕ) (new was now : List ℕ) (ends : end ≡ length new) (fills : used ≡ length was) (less : end ≤ used) (within : used ≤ room) (is : now ≡ new ++ drop end (filled room was)) where
  pub now_long : length now ≡ room
  now_long =
      omega (
        arith,
        ap length is,
        length-append new (drop end (filled room was)),
        length-drop end (filled room was),
        filled_length room was (omega (arith, fills)),
      )

  spare : drop (used - end) (drop end now) ≡ zeros (room - length was)
  unfolding filled
  spare =
      ap (λ (x : List ℕ). drop (used - end) (drop end x)) is
      ∙ ap (drop (used - end)) (drop_at new (drop end (filled room was)) end (sym ends))
      ∙ drop-drop (used - end) end (filled room was)
      ∙ ap (λ (k : ℕ). drop k (filled room was)) upto
      ∙ drop_at was (zeros (room - length was)) used (sym fills)
    where
      upto : end + (used - end) ≡ used
      upto = omega arith

  pub cleared_behind : (clear : List ℕ) → clear ≡ zeros (length (mid_of end (used - end) now)) → put_mid end (used - end) now clear ≡ filled room new
  unfolding filled
  cleared_behind clear c =
      (λ i. front i ++ ((c ∙ ap zeros size) i ++ spare i))
      ∙ ap (λ (x : List ℕ). new ++ x) (zeros_append (used - end) (room - length was))
      ∙ ap (λ (k : ℕ). new ++ zeros k) upto
    where
      front : take end now ≡ new
      front = ap (take end) is ∙ take_at new (drop end (filled room was)) end (sym ends)

      size : length (take (used - end) (drop end now)) ≡ used - end
      size = length_part now end (used - end) (omega (arith, now_long))

      upto : used - end + (room - length was) ≡ room - length new
      upto = omega (arith, fills, ends)
