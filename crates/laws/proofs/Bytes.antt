-- Numbers as bytes: `little` and `big` undo one another. Assumes nothing.
use mathlib.Core.Path.{◌≡◌, refl, ap, ◌∙◌, subst}
use mathlib.Core.Bool.{Bool, true}
use mathlib.Core.List.{List, [], ◌∷◌}
use Prim.Native.Nat.{ℕ, zero, suc, ◌+◌, ◌*◌, ◌/◌, ◌%◌, ◌^◌, ◌<◌}
use native.Mathlib.Nat.{pow-suc}
use native.Mathlib.Omega.{arith}
use borrow.Author.Tests.{ltb-true, lt-ltb}
use lib.Dec.{ltb}
use lib.ListN.{length}
use Rattle.laws.specs.Basics.{every, little, big, basics}
use Rattle.laws.proofs.Tests.{both_left, both_right, both_true}

-- every one is below 256
abbrev pub all_bytes : List ℕ → Bool
all_bytes bs = every (λ b. ltb b 256) bs

pub length-little : (w n : ℕ) → length (little w n) ≡ w
unfolding basics
length-little zero n = refl
length-little (suc w) n = ap suc (length-little w (n / 256))

pub bytes_little : (w n : ℕ) → all_bytes (little w n) ≡ true
unfolding basics
bytes_little zero n = refl
bytes_little (suc w) n = both_true (lt-ltb (n % 256) 256 (omega arith)) (bytes_little w (n / 256))

pub big_little : (w n : ℕ) → n < 256 ^ w → big (little w n) ≡ n
unfolding basics
big_little zero n h = let e : 256 ^ 0 ≡ 1 = refl in omega (arith, e)
big_little (suc w) n h =
    let k : n < 256 ^ w * 256 = subst (λ (x : ℕ). n < x) (pow-suc 256 w) h in
    let e = big_little w (n / 256) (omega arith) in
    omega arith

pub little_big : (bs : List ℕ) → all_bytes bs ≡ true → little (length bs) (big bs) ≡ bs
unfolding basics
little_big [] h = refl
little_big (b ∷ bs) h =
    let small = ltb-true b 256 (both_left (ltb b 256) _ h) in
    let low : (b + 256 * big bs) % 256 ≡ b = omega arith in
    let high : (b + 256 * big bs) / 256 ≡ big bs = omega arith in
    λ i. low i ∷ (ap (λ (n : ℕ). little (length bs) n) high ∙ little_big bs (both_right (ltb b 256) _ h)) i

pub big_bound : (bs : List ℕ) → all_bytes bs ≡ true → big bs < 256 ^ length bs
unfolding basics
big_bound [] h = let e : 256 ^ 0 ≡ 1 = refl in omega (arith, e)
big_bound (b ∷ bs) h =
    let small = ltb-true b 256 (both_left (ltb b 256) _ h) in
    let rest = big_bound bs (both_right (ltb b 256) _ h) in
    omega (arith, pow-suc 256 (length bs))
