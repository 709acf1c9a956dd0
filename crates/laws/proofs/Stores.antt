-- A run of stores, `sets` of lib.Seq: what stands where it wrote, and that all else stays. Zeros next to zeros.
-- Assumes nothing.
use mathlib.Core.Path.{◌≡◌, refl, sym, ap, ◌∙◌}
use mathlib.Core.List.{List, [], ◌∷◌, ◌++◌, append_assoc}
use Prim.Native.Nat.{ℕ, zero, suc, ◌+◌, ◌≤◌, ◌<◌}
use native.Mathlib.Omega.{arith}
use lib.ListN.{length, get_or, set, length-append, length-set}
use lib.Seq.{sets, get_or-set_same, get_or-set_other, set-append_seam}
use Rattle.laws.specs.Basics.{zeros}
use Rattle.laws.proofs.Lists.{get_or_zeros}

-- ---- by index

-- what no store reached
pub sets_other : (l : List ℕ) (at : ℕ) (t : List ℕ) (n : ℕ) → (at ≤ n → at + length t ≤ n) → get_or (sets l at t) n 0 ≡ get_or l n 0
sets_other l at [] n off = refl
sets_other l at (x ∷ t) n off =
    sets_other (set l at x) (suc at) t n (λ h. omega (arith, off (omega arith)))
    ∙ get_or-set_other l at n x 0 (λ e. omega (arith, off (omega arith)))

-- what was stored
pub sets_in : (l : List ℕ) (at : ℕ) (t : List ℕ) (k : ℕ) → at + length t ≤ length l → k < length t → get_or (sets l at t) (at + k) 0 ≡ get_or t k 0
sets_in l at [] k fits low = absurd (omega arith)
sets_in l at (x ∷ t) zero fits low =
    ap (λ (n : ℕ). get_or (sets (set l at x) (suc at) t) n 0) (native.Mathlib.Nat.add-zero at)
    ∙ sets_other (set l at x) (suc at) t at (λ h. absurd (omega arith)) ∙ get_or-set_same l at x 0 (omega arith)
sets_in l at (x ∷ t) (suc k) fits low =
    let e : at + suc k ≡ suc at + k = omega arith in
    ap (λ (n : ℕ). get_or (sets (set l at x) (suc at) t) n 0) e
    ∙ sets_in (set l at x) (suc at) t k (omega (arith, length-set l at x)) (omega arith)

-- ---- by parts

-- the middle one of three parts is replaced
pub sets_middle : (p q r t : List ℕ) → length q ≡ length t → sets (p ++ (q ++ r)) (length p) t ≡ p ++ (t ++ r)
sets_middle p [] r [] e = refl
sets_middle p [] r (x ∷ t) e = absurd (omega arith)
sets_middle p (y ∷ q) r [] e = absurd (omega arith)
sets_middle p (y ∷ q) r (x ∷ t) e =
    let p' = p ++ (x ∷ []) in
    let size : suc (length p) ≡ length p' = omega (arith, length-append p (x ∷ [])) in
    let front : set (p ++ (y ∷ (q ++ r))) (length p) x ≡ p' ++ (q ++ r) = set-append_seam p y (q ++ r) x ∙ sym (append_assoc p (x ∷ []) (q ++ r)) in
    (λ i. sets (front i) (size i) t) ∙ sets_middle p' q r t (omega arith) ∙ append_assoc p (x ∷ []) (t ++ r)

-- ---- zeros

-- past a list zeros are what is read there anyway
pub get_or_before_zeros : (l : List ℕ) (n i : ℕ) → get_or (l ++ zeros n) i 0 ≡ get_or l i 0
get_or_before_zeros [] n i = get_or_zeros n i
get_or_before_zeros (x ∷ l) n zero = refl
get_or_before_zeros (x ∷ l) n (suc i) = get_or_before_zeros l n i
