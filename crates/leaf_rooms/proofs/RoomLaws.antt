-- A part written over what stood. Assumes nothing.
use mathlib.Core.Path.{◌≡◌, refl, sym, ap, ◌∙◌}
use mathlib.Core.List.{List}
use Prim.Native.Nat.{ℕ, suc, ◌+◌, ◌-◌, ◌≤◌, ◌<◌}
use native.Mathlib.Omega.{arith}
use lib.ListN.{length, get_or, set, drop, drop_of_length-le}
use lib.Seq.{drop-cons}
use borrow.Rule.Slice.PartMut.{put_mid}
use Rattle.std.proofs.Common.{append_assoc}
use Rattle.std.proofs.lemmas.List.Edits.{sets-eq, paste_all}
use Rattle.std.proofs.lemmas.Slice.{put_mid-paste}
use Rattle.leaf_rooms.specs.Rooms.{stored}

-- ---- a part written over

pub put_in : {A : Type 0} (l : List A) (at : ℕ) (t t' : List A) → t' ≡ t → at + length t ≤ length l
    → put_mid at (at + length t - at) l t' ≡ stored l at t
unfolding stored
put_in l at t t' e h =
    let n : length t ≡ at + length t - at = omega arith in
    put_mid-paste at (at + length t - at) l t' t (length t) e n refl
    ∙ paste_all l at t (length t) refl
    ∙ rw (sets-eq t l at h, append_assoc) refl

-- ---- the same turn by turn: what was to write is what is left to write

pub stored_start : {A : Type 0} (l : List A) (at : ℕ) (t : List A) → stored l (at + 0) (drop 0 t) ≡ stored l at t
stored_start l at t = ap (λ (n : ℕ). stored l n t) (native.Mathlib.Nat.add-zero at)

pub stored_on : {A : Type 0} (l : List A) (at : ℕ) (t : List A) (i : ℕ) (x : A) → i < length t → x ≡ get_or t i x
    → stored (set l (at + i) x) (at + (i + 1)) (drop (i + 1) t) ≡ stored l (at + i) (drop i t)
unfolding stored
stored_on l at t i x h e =
    let place : at + (i + 1) ≡ suc (at + i) = omega arith in
    let next : i + 1 ≡ suc i = omega arith in
    (λ j. stored (set l (at + i) (e j)) (place j) (drop (next j) t)) ∙ ap (stored l (at + i)) (sym (drop-cons t i x h))

pub stored_end : {A : Type 0} (l : List A) (at : ℕ) (t : List A) (i : ℕ) → length t ≤ i → stored l at (drop i t) ≡ l
unfolding stored
stored_end l at t i h = ap (stored l at) (drop_of_length-le t h)
