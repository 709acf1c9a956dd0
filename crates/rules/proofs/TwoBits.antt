-- The two-bit law, once for any of the four places, and what follows for a whole map: a slot's state is what was last
-- stored there, and no other slot's changes. Document 01, "Slots and growth". Assumes nothing.
use mathlib.Core.Bool.{Bool, not}
use mathlib.Core.Path.{◌≡◌, refl, ap, subst}
use mathlib.Core.List.{List, [], ◌∷◌, ◌++◌}
use Prim.Native.Nat.{ℕ, zero, suc, ◌+◌, ◌-◌, ◌*◌, ◌/◌, ◌%◌, ◌^◌, ◌<◌, ◌≤◌}
use native.Mathlib.Omega.{arith}
use native.Mathlib.Decide.{ℕ_discrete, dec_lt}
use lib.Dec.{T, T_not, eqb, eqb_refl, ltb, ltb→lt, lit<}
use lib.Bits.{bit_and}
use lib.Count.{ones}
use native.Mathlib.Nat.{zero-div}
use native.Mathlib.Numerals.{add-one}
use lib.ListN.{length, get_or, drop, length-set, drop_of_length-le, get_or-eq_default, get_or-append}
use lib.Seq.{drop-cons, get_or-set_same, get_or-set_other, set_out, set-append_left}
use Rattle.laws.proofs.Below.{agree, both_left, both_right}
use Rattle.laws.proofs.Sums.{sum_below, sum_below_front, sum_below_same, sum_below_ones, sum_set, length-by-count}
use Rattle.laws.specs.Basics.{both, every, count, zeros, basics}
use Rattle.laws.proofs.Stores.{get_or_before_zeros}
use Rattle.rules.specs.Map.{state_in, with_state, state_of, set_state, low_bits, set_low_bits, map_rules}

pub by_place : (P : ℕ → Type 0) → P 0 → P 1 → P 2 → P 3 → (p : ℕ) → p < 4 → P p
by_place P a b c d zero h = a
by_place P a b c d (suc zero) h = b
by_place P a b c d (suc (suc zero)) h = c
by_place P a b c d (suc (suc (suc zero))) h = d
by_place P a b c d (suc (suc (suc (suc p)))) h = absurd (omega arith)

-- ---- one byte

pub state_in_below : (b p : ℕ) → state_in b p < 4
unfolding map_rules
state_in_below b p = omega arith

module _ (b s : ℕ) (small : s < 4) where
  pub stored : (p : ℕ) → p < 4 → state_in (with_state b p s) p ≡ s
  unfolding map_rules
  stored = by_place (λ p. state_in (with_state b p s) p ≡ s) (omega arith) (omega arith) (omega arith) (omega arith)

  abbrev pub Kept : ℕ → ℕ → Type 0
  Kept p q = (q ≡ p → ⊥) → state_in (with_state b p s) q ≡ state_in b q

  pub others_kept : (p q : ℕ) → p < 4 → q < 4 → Kept p q
  unfolding map_rules
  others_kept p q hp hq =
      by_place (λ q. Kept p q)
      (by_place (λ p. Kept p 0) (λ d. omega arith) (λ d. omega arith) (λ d. omega arith) (λ d. omega arith) p hp)
      (by_place (λ p. Kept p 1) (λ d. omega arith) (λ d. omega arith) (λ d. omega arith) (λ d. omega arith) p hp)
      (by_place (λ p. Kept p 2) (λ d. omega arith) (λ d. omega arith) (λ d. omega arith) (λ d. omega arith) p hp)
      (by_place (λ p. Kept p 3) (λ d. omega arith) (λ d. omega arith) (λ d. omega arith) (λ d. omega arith) p hp)
      q
      hq

  pub stays_byte : b < 256 → (p : ℕ) → p < 4 → with_state b p s < 256
  unfolding map_rules
  stays_byte h = by_place (λ p. with_state b p s < 256) (omega arith) (omega arith) (omega arith) (omega arith)

-- ---- what the code computes

-- the bits of a place: a shift by twice the place divides by its unit
pub shifted : (b p : ℕ) → p < 4 → b / 2 ^ (2 * p) % 4 ≡ state_in b p
unfolding map_rules
shifted b = by_place (λ p. b / 2 ^ (2 * p) % 4 ≡ state_in b p) (omega arith) (omega arith) (omega arith) (omega arith)

-- the old bits are taken off the byte, the new ones added
abbrev pub unit : ℕ → ℕ
unit p = 1 * 2 ^ (2 * p) % 256

pub record Exchanged (b p s old : ℕ) : Type 0 where
  pub old_within : old * unit p ≤ b
  pub new_below : s * unit p < 256
  pub sum_below : b - old * unit p + s * unit p < 256
  pub right : b - old * unit p + s * unit p ≡ with_state b p s

pub exchange : (b s old : ℕ) → b < 256 → s < 4 → (p : ℕ) → p < 4 → old ≡ state_in b p → Exchanged b p s old
unfolding map_rules
exchange b s old hb hs =
    by_place (λ p. old ≡ state_in b p → Exchanged b p s old)
    (λ e. record { old_within = omega arith; new_below = omega arith; sum_below = omega arith; right = omega arith })
    (λ e. record { old_within = omega arith; new_below = omega arith; sum_below = omega arith; right = omega arith })
    (λ e. record { old_within = omega arith; new_below = omega arith; sum_below = omega arith; right = omega arith })
    (λ e. record { old_within = omega arith; new_below = omega arith; sum_below = omega arith; right = omega arith })

-- "masked state bytes": the ones of a byte under the mask are its low bits
pub masked_ones : (b : ℕ) → b < 256 → ones (bit_and b 0x55) ≡ low_bits b
unfolding map_rules ones
masked_ones = agree 256 (λ b. ones (bit_and b 0x55)) low_bits tt

pub low_bits_small : (b : ℕ) → low_bits b ≤ 4
unfolding map_rules
low_bits_small b = omega arith

-- ---- the whole map

-- every element is a byte
abbrev pub Bytes : List ℕ → Type 0
Bytes m = (k : ℕ) → get_or m k 0 < 256

pub state_below : (m : List ℕ) (s : ℕ) → state_of m s < 4
unfolding state_of
state_below m s = state_in_below (get_or m (s / 4) 0) (s % 4)

-- past the end every slot is Free
pub state_past : (m : List ℕ) (s : ℕ) → length m ≤ s / 4 → state_of m s ≡ 0
unfolding map_rules
state_past m s h = rw (get_or-eq_default m 0) (omega (arith, zero-div (4 ^ (s % 4))))

pub set-state-length : (m : List ℕ) (s v : ℕ) → length (set_state m s v) ≡ length m
unfolding set_state
set-state-length m s v = simp length-set

module _ (m : List ℕ) (s v : ℕ) (small : v < 4) where
  -- the slot's state is what was stored
  pub state_same : s / 4 < length m → state_of (set_state m s v) s ≡ v
  unfolding state_of set_state
  state_same h = rw get_or-set_same (stored (get_or m (s / 4) 0) v small (s % 4) (omega arith))

  same_byte : (t : ℕ) → (t ≡ s → ⊥) → t / 4 ≡ s / 4 → s / 4 < length m → state_of (set_state m s v) t ≡ state_of m t
  unfolding state_of set_state
  same_byte t d e h =
      rw (e, get_or-set_same) (others_kept (get_or m (s / 4) 0) v small (s % 4) (t % 4) (omega arith) (omega arith) (omega arith))

  -- every other slot's is as it was
  pub state_other : (t : ℕ) → (t ≡ s → ⊥) → state_of (set_state m s v) t ≡ state_of m t
  unfolding state_of set_state
  state_other t d =
      elim (ℕ_discrete (t / 4) (s / 4)) [
        | no n ↦ ap (λ b. state_in b (t % 4)) (get_or-set_other m (s / 4) (t / 4) _ 0 n)
        | yes e ↦
            elim (dec_lt (s / 4) (length m)) [
              | yes h ↦ same_byte t d e h
              | no n ↦ ap (λ l. state_in (get_or l (t / 4) 0) (t % 4)) (set_out m (s / 4) _ (omega arith))
            ]
      ]

  pub stay_bytes : Bytes m → Bytes (set_state m s v)
  unfolding set_state
  stay_bytes h k =
      elim (ℕ_discrete k (s / 4)) [
        | no n ↦ rw (get_or-set_other m (s / 4) k _ 0 n) (h k)
        | yes e ↦
            elim (dec_lt (s / 4) (length m)) [
              | yes l ↦ rw (e, get_or-set_same m (s / 4) _ 0 l) (stays_byte (get_or m (s / 4) 0) v small (h (s / 4)) (s % 4) (omega arith))
              | no n ↦ rw (set_out m (s / 4) _ (omega arith)) (h k)
            ]
      ]

-- ---- the low bits of the map

-- the byte at i, and those after it
low_bits_on : (m : List ℕ) (i : ℕ) → i < length m → set_low_bits (drop i m) ≡ low_bits (get_or m i 0) + set_low_bits (drop (i + 1) m)
unfolding set_low_bits basics
low_bits_on m i h = rw (add-one, drop-cons m i 0)

-- a byte counted
pub record Counted (m : List ℕ) (i r : ℕ) : Type 0 where
  pub at_most : r ≤ 4
  pub left : set_low_bits (drop i m) ≡ r + set_low_bits (drop (i + 1) m)

pub count_byte : (m : List ℕ) (i r : ℕ) → i < length m → r ≡ low_bits (get_or m i 0) → Counted m i r
count_byte m i r h e =
    record { at_most = omega (arith, low_bits_small (get_or m i 0)); left = omega (arith, low_bits_on m i h) }

pub low_bits_done : (m : List ℕ) (i : ℕ) → length m ≤ i → set_low_bits (drop i m) ≡ 0
unfolding set_low_bits basics
low_bits_done m i h = rw (drop_of_length-le m)

-- a byte's low bits, place by place
low_in : ℕ → ℕ → ℕ
low_in b p = state_in b p % 2

one_place : (n : ℕ) → n % 4 % 2 ≡ n % 2
one_place n = omega arith

low_bits_in : (b : ℕ) → low_bits b ≡ low_in b 0 + low_in b 1 + low_in b 2 + low_in b 3
unfolding map_rules low_in
low_bits_in b = rw (one_place (b / 1), one_place (b / 4), one_place (b / 16), one_place (b / 64)) (omega arith)

-- of two bytes
record Total (b c : ℕ) : Type 0 where
  before : low_bits b ≡ low_in b 0 + low_in b 1 + low_in b 2 + low_in b 3
  after : low_bits c ≡ low_in c 0 + low_in c 1 + low_in c 2 + low_in c 3

-- the low bits after a slot's state changed
module _ (b s : ℕ) (small : s < 4) where
  low_same : (p : ℕ) → p < 4 → low_in (with_state b p s) p ≡ s % 2
  unfolding low_in
  low_same p h = ap (λ (x : ℕ). x % 2) (stored b s small p h)

  -- of two places that are not the same
  two : ℕ → ℕ → Bool
  two p q = both (both (ltb p 4) (ltb q 4)) (not (eqb q p))

  low_other : (p q : ℕ) → T (two p q) → low_in (with_state b p s) q ≡ low_in b q
  unfolding low_in two
  low_other p q t =
      let l = both_left (both (ltb p 4) (ltb q 4)) (not (eqb q p)) t in
      let d = both_right (both (ltb p 4) (ltb q 4)) (not (eqb q p)) t in
      ap (λ (x : ℕ). x % 2)
      (others_kept b s small p q
      (ltb→lt p 4 (both_left (ltb p 4) (ltb q 4) l))
      (ltb→lt q 4 (both_right (ltb p 4) (ltb q 4) l))
      (λ e. T_not (eqb q p) d (subst (λ (x : ℕ). T (eqb q x)) e (eqb_refl q))))

  total : (p : ℕ) → Total b (with_state b p s)
  total p = record { before = low_bits_in b; after = low_bits_in (with_state b p s) }

  low_bits_change : (p : ℕ) → p < 4 → low_bits (with_state b p s) + low_in b p ≡ low_bits b + s % 2
  unfolding two
  low_bits_change =
      by_place (λ p. low_bits (with_state b p s) + low_in b p ≡ low_bits b + s % 2)
      (omega (arith, total 0, low_same 0 (lit< tt), low_other 0 1 tt, low_other 0 2 tt, low_other 0 3 tt))
      (omega (arith, total 1, low_same 1 (lit< tt), low_other 1 0 tt, low_other 1 2 tt, low_other 1 3 tt))
      (omega (arith, total 2, low_same 2 (lit< tt), low_other 2 0 tt, low_other 2 1 tt, low_other 2 3 tt))
      (omega (arith, total 3, low_same 3 (lit< tt), low_other 3 0 tt, low_other 3 1 tt, low_other 3 2 tt))

pub set_low_bits_change : (m : List ℕ) (s v : ℕ) → s / 4 < length m → v < 4
    → set_low_bits (set_state m s v) + state_of m s % 2 ≡ set_low_bits m + v % 2
unfolding set_low_bits set_state state_of low_in
set_low_bits_change m s v h small =
    let b = get_or m (s / 4) 0 in
    omega (
      arith,
      sum_set low_bits m (s / 4) (with_state b (s % 4) v) h,
      low_bits_change b v small (s % 4) (omega arith),
    )

-- the map's low bits are those of the slots, of which each byte has four
abbrev pub low_bit : List ℕ → ℕ → ℕ
low_bit m s = state_of m s % 2

next_byte : (b : ℕ) (m : List ℕ) (s : ℕ) → low_bit (b ∷ m) (suc (suc (suc (suc s)))) ≡ low_bit m s
unfolding state_of
next_byte b m s =
    let d : suc (suc (suc (suc s))) / 4 ≡ suc (s / 4) = omega arith in
    let r : suc (suc (suc (suc s))) % 4 ≡ s % 4 = omega arith in
    rw (d, r)

more : (b : ℕ) (m : List ℕ) → set_low_bits m ≡ sum_below (4 * length m) (low_bit m)
    → set_low_bits (b ∷ m) ≡ sum_below (4 * length (b ∷ m)) (low_bit (b ∷ m))
unfolding set_low_bits state_of low_in basics
more b m h =
    let f = low_bit (b ∷ m) in
    let n = 4 * length m in
    let e : 4 * suc (length m) ≡ suc (suc (suc (suc n))) = omega arith in
    rw e (
    omega (
      arith,
      low_bits_in b,
      sum_below_front (suc (suc (suc n))) f,
      sum_below_front (suc (suc n)) (λ k. f (suc k)),
      sum_below_front (suc n) (λ k. f (suc (suc k))),
      sum_below_front n (λ k. f (suc (suc (suc k)))),
      sum_below_same n (λ k. f (suc (suc (suc (suc k))))) (low_bit m) (λ k l. next_byte b m k),
    )
    )

pub by_slots : (m : List ℕ) → set_low_bits m ≡ sum_below (4 * length m) (low_bit m)
unfolding map_rules basics sum_below
by_slots [] = refl
by_slots (b ∷ m) = more b m (by_slots m)

-- "The used count is capacity less the free list; it is also counted from the map's set low bits, and the two are
-- equal": where each slot stands once in the list, or has its low bit set
pub free_and_used : (m free : List ℕ) → T (every (λ s. ltb s (4 * length m)) free)
    → ((s : ℕ) → s < 4 * length m → count s free + low_bit m s ≡ 1)
    → length free + set_low_bits m ≡ 4 * length m
free_and_used m free t h =
    let n = 4 * length m in
    omega (arith, by_slots m, length-by-count n free t, sum_below_ones n (λ s. count s free) (low_bit m) h)

-- ---- more bytes behind the map, which are zero: spare room, or a heap that grew

-- no low bit more than slots
pub set-low_bits-most : (m : List ℕ) → set_low_bits m ≤ 4 * length m
unfolding set_low_bits basics
set-low_bits-most [] = omega arith
set-low_bits-most (b ∷ m) = omega (arith, low_bits_small b, set-low_bits-most m)

pub state_behind : (m : List ℕ) (n s : ℕ) → state_of (m ++ zeros n) s ≡ state_of m s
unfolding state_of
state_behind m n s = ap (λ (b : ℕ). state_in b (s % 4)) (get_or_before_zeros m n (s / 4))

pub set_state_behind : (m z : List ℕ) (s v : ℕ) → s / 4 < length m → set_state (m ++ z) s v ≡ set_state m s v ++ z
unfolding set_state
set_state_behind m z s v h = rw (get_or-append m z 0 (s / 4) h, set-append_left m z (s / 4) (with_state (get_or m (s / 4) 0) (s % 4) v) h)

pub set_low_bits_behind : (m : List ℕ) (n : ℕ) → set_low_bits (m ++ zeros n) ≡ set_low_bits m
unfolding map_rules basics
set_low_bits_behind [] zero = refl
set_low_bits_behind [] (suc n) = omega (arith, set_low_bits_behind [] n)
set_low_bits_behind (b ∷ m) n = omega (arith, set_low_bits_behind m n)
