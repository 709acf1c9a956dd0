-- A run of stores, `sets` of lib.Seq, in two runs: one behind the other, and the last store first. The part of a list from
-- a place on, as code that lends it has it. Assumes nothing.
use mathlib.Core.Path.{◌≡◌, ap, ◌∙◌}
use mathlib.Core.List.{List, [], ◌∷◌, ◌++◌}
use Prim.Native.Nat.{ℕ, suc, ◌+◌, ◌-◌}
use native.Mathlib.Omega.{arith}
use lib.ListN.{length, set, take, drop, length-drop}
use lib.Seq.{sets, set_comm, take_all}

-- one run behind the other
pub sets_append : (l : List ℕ) (at : ℕ) (a b : List ℕ) → sets (sets l at a) (at + length a) b ≡ sets l at (a ++ b)
sets_append l at [] b = ap (λ (n : ℕ). sets l n b) (native.Mathlib.Nat.add-zero at)
sets_append l at (x ∷ a) b =
    let e : at + suc (length a) ≡ suc at + length a = omega arith in
    ap (λ (n : ℕ). sets (sets (set l at x) (suc at) a) n b) e ∙ sets_append (set l at x) (suc at) a b

-- the last store first
pub sets_last : (l : List ℕ) (at : ℕ) (a : List ℕ) (x : ℕ) → sets (set l (at + length a) x) at a ≡ sets l at (a ++ (x ∷ []))
sets_last l at [] x = ap (λ (n : ℕ). set l n x) (native.Mathlib.Nat.add-zero at)
sets_last l at (y ∷ a) x =
    let e : at + suc (length a) ≡ suc at + length a = omega arith in
    let off : suc at + length a ≡ at → ⊥ = λ q. omega arith in
    ap (λ (n : ℕ). sets (set (set l n x) at y) (suc at) a) e
    ∙ ap (λ (l : List ℕ). sets l (suc at) a) (set_comm l (suc at + length a) at x y off)
    ∙ sets_last (set l at y) (suc at) a x

-- a part that reaches to the end
pub to_end : (l : List ℕ) (a : ℕ) → take (length l - a) (drop a l) ≡ drop a l
to_end l a = take_all (length l - a) (drop a l) (omega (arith, length-drop a l))

-- a part by its place and its end
pub part_end : (l : List ℕ) (place size : ℕ) → take (place + size - place) (drop place l) ≡ take size (drop place l)
part_end l place size =
    let e : place + size - place ≡ size = omega arith in
    ap (λ (n : ℕ). take n (drop place l)) e
