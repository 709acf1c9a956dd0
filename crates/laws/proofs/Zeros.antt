-- Zeros after zeros, and rising numbers from their other end. Assumes nothing.
use mathlib.Core.Path.{◌≡◌, refl, ap, ◌∙◌}
use mathlib.Core.Bool.{true}
use mathlib.Core.List.{List, [], ◌∷◌, ◌++◌, reverse}
use Prim.Native.Nat.{ℕ, zero, suc, ◌+◌, ◌-◌, ◌≤◌}
use native.Mathlib.Omega.{arith}
use native.Mathlib.Decide.{dec_lt}
use borrow.Author.Tests.{lt-ltb}
use lib.Dec.{ltb}
use lib.ListN.{take, drop, get_or, replicate, get_or-replicate, length-replicate, get_or-eq_default}
use Rattle.laws.specs.Basics.{every, rising, zeros, basics}
use Rattle.laws.proofs.Tests.{both_true}

pub zeros_append : (a b : ℕ) → zeros a ++ zeros b ≡ zeros (a + b)
unfolding basics
zeros_append zero b = let e : b ≡ 0 + b = omega arith in ap zeros e
zeros_append (suc a) b = let e : suc (a + b) ≡ suc a + b = omega arith in ap (λ (l : List ℕ). 0 ∷ l) (zeros_append a b) ∙ ap zeros e

pub take-zeros : (n m : ℕ) → n ≤ m → take n (zeros m) ≡ zeros n
unfolding basics
take-zeros zero m h = refl
take-zeros (suc n) zero h = absurd (omega arith)
take-zeros (suc n) (suc m) h = ap (λ (l : List ℕ). 0 ∷ l) (take-zeros n m (omega arith))

pub drop-zeros : (n m : ℕ) → n ≤ m → drop n (zeros m) ≡ zeros (m - n)
unfolding basics
drop-zeros zero m h = let e : m ≡ m - 0 = omega arith in ap zeros e
drop-zeros (suc n) zero h = absurd (omega arith)
drop-zeros (suc n) (suc m) h = let e : m - n ≡ suc m - suc n = omega arith in drop-zeros n m (omega arith) ∙ ap zeros e

-- and those that code made, one by one
pub all_zero : (n i : ℕ) → ◌≡◌ {A = ℕ} (get_or {A = ℕ} (replicate n 0) i 0) 0
all_zero n i =
    elim (dec_lt i n) [
      | yes h ↦ get_or-replicate n i 0 0 h
      | no h ↦ get_or-eq_default {A = ℕ} (replicate n 0) 0 (omega (arith, length-replicate {A = ℕ} n 0))
    ]

pub rising_last : (a n : ℕ) → rising a (suc n) ≡ rising a n ++ ((a + n) ∷ [])
unfolding basics
rising_last a zero = let e : a ≡ a + 0 = omega arith in ap (λ (x : ℕ). x ∷ []) e
rising_last a (suc n) =
    let e : suc a + n ≡ a + suc n = omega arith in
    ap (λ (l : List ℕ). a ∷ l) (rising_last (suc a) n) ∙ ap (λ (x : ℕ). a ∷ (rising (suc a) n ++ (x ∷ []))) e

-- the highest first
pub falling : (a n : ℕ) → reverse (rising a (suc n)) ≡ (a + n) ∷ reverse (rising a n)
falling a n =
    ap reverse (rising_last a n) ∙ mathlib.Core.List.reverse-append (rising a n) ((a + n) ∷ [])

-- n numbers from a on, highest first, are below a + n
pub falling_below : (a n b : ℕ) → a + n ≤ b → every (λ s. ltb s b) (reverse (rising a n)) ≡ true
unfolding basics
falling_below a zero b h = refl
falling_below a (suc n) b h =
    ap (every (λ s. ltb s b)) (falling a n) ∙ both_true (lt-ltb (a + n) b (omega arith)) (falling_below a n b (omega arith))

pub rising_below : (a n b : ℕ) → a + n ≤ b → every (λ s. ltb s b) (rising a n) ≡ true
unfolding basics
rising_below a zero b h = refl
rising_below a (suc n) b h = both_true (lt-ltb a b (omega arith)) (rising_below (suc a) n b (omega arith))
