-- The lent map beside the free list: a slot's state is stored in the lent map as in the heap's. Assumes nothing.
use mathlib.Core.Path.{◌≡◌, sym, ◌∙◌}
use mathlib.Core.List.{List, ◌++◌}
use Prim.Native.Nat.{ℕ, ◌-◌, ◌/◌, ◌%◌, ◌<◌}
use lib.ListN.{length, get_or, set, length-set, get_or-append}
use lib.Seq.{set-append_left}
use Rattle.laws.specs.Basics.{zeros}
use Rattle.rules.specs.Map.{with_state, set_state}
use Rattle.rules.specs.Layout.{filled}

-- a state stored in the part in use
pub filled_state : (room : ℕ) (l : List ℕ) (s v : ℕ) → s / 4 < length l → set_state (filled room l) s v ≡ filled room (set_state l s v)
unfolding filled set_state
filled_state room l s v h =
    let z = zeros (room - length l) in
    let byte = with_state (get_or l (s / 4) 0) (s % 4) v in
    (λ i. set (l ++ z) (s / 4) (with_state (get_or-append l z 0 (s / 4) h i) (s % 4) v)) ∙ set-append_left l z (s / 4) byte h
    ∙ (λ i. set l (s / 4) byte ++ zeros (room - sym (length-set l (s / 4) byte) i))
