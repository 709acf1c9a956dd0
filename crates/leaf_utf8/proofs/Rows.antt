-- What a byte does to what is awaited, in the rules' words. Assumes nothing.
use mathlib.Core.Bool.{Bool, false}
use mathlib.Core.Path.{◌≡◌, refl, sym, ◌∙◌, ap}
use mathlib.Core.List.{List, [], ◌∷◌}
use mathlib.Core.Option as Rules
use mathlib.Core.Option.{none, some}
use Rattle.std.specs.Prelude.{Option, Some, None, ◌⊎◌}
use Rattle.std.proofs.Common.{inl, inr}
use Prim.Native.Nat.{ℕ, zero, suc, ◌-◌, ◌+◌, ◌<◌, ◌≤◌}
use native.Mathlib.Numerals.{add-one}
use native.Mathlib.Omega.{arith}
use borrow.Author.Tests.{le-leb, lt-leb}
use lib.Dec.{eqb, eqb-suc-zero}
use lib.ListN.{length, get_or, drop, drop_of_length-le}
use lib.Seq.{drop-cons}
use Rattle.laws.specs.Basics.{both}
use Rattle.rules.specs.Utf8.{Range, ◌to◌, within, follows, utf8_after, utf8}
use Rattle.leaf_utf8.specs.Awaiting.{awaits, ranges, shown, rest_good}
use Rattle.leaf_utf8.specs.declared.Awaited.{Awaited}

-- ---- one more byte

-- what a first byte is followed by decides
follow : Rules.Option (List Range) → List ℕ → Bool
follow o bs = elim o [ none ↦ false | some rs ↦ utf8_after rs bs ]

followed : (r : Option Awaited) (bs : List ℕ) → follow (shown r) bs ≡ rest_good r bs
unfolding follow rest_good
followed None bs = refl
followed (Some n) bs = refl

none_awaited : (b : ℕ) (bs : List ℕ) → utf8_after [] (b ∷ bs) ≡ follow (follows b) bs
unfolding utf8_after follow
none_awaited b bs = refl

-- an awaited byte, of which fewer are left then
awaited : (n b : ℕ) (r : Range) (bs : List ℕ) → (n ≡ 0 → ⊥)
    → utf8_after (awaits n r) (b ∷ bs) ≡ both (within r b) (utf8_after (awaits (n - 1) (0x80 to 0xbf)) bs)
unfolding awaits utf8_after
awaited zero b r bs d = absurd (d refl)
awaited (suc n) b r bs d = let e : suc n - 1 ≡ n = omega arith in rw e refl

module _ (a : Awaited) (b : ℕ) where
  -- a first byte
  pub first_byte : (r : Option Awaited) → a.left ≡ 0 → shown r ≡ follows b → (bs : List ℕ) → utf8_after (ranges a) (b ∷ bs) ≡ rest_good r bs
  unfolding awaits
  first_byte r z e bs = rw z (none_awaited b bs ∙ ap (λ (o : Rules.Option (List Range)). follow o bs) (sym e) ∙ followed r bs)

  -- a later one, out of the range and in it
  pub out_of_range : (a.left ≡ 0 → ⊥) → ((a.low ≤ b) × (a.high < b)) ⊎ (b < a.low) → (bs : List ℕ) → utf8_after (ranges a) (b ∷ bs) ≡ rest_good None bs
  unfolding within rest_good
  out_of_range d (inl (l, h)) bs = awaited a.left b (a.low to a.high) bs d ∙ rw (le-leb a.low b l, lt-leb b a.high h) refl
  out_of_range d (inr h) bs = awaited a.left b (a.low to a.high) bs d ∙ rw (lt-leb a.low b h) refl

  pub in_range : (r : Option Awaited) → (a.left ≡ 0 → ⊥) → a.low ≤ b → b ≤ a.high → r ≡ Some (record { left = a.left - 1; low = 0x80; high = 0xbf })
      → (bs : List ℕ) → utf8_after (ranges a) (b ∷ bs) ≡ rest_good r bs
  unfolding within rest_good
  in_range r d l h e bs = awaited a.left b (a.low to a.high) bs d ∙ rw (le-leb a.low b l, le-leb b a.high h, e) refl

-- ---- the whole

module _ (s : List ℕ) where
  -- before the first byte nothing is awaited
  pub begins : (r : Range) → utf8 s ≡ utf8_after (awaits 0 r) (drop 0 s)
  unfolding utf8 awaits
  begins r = refl

  -- a turn: what was to do is what the next byte leaves to do
  module _ (a : Awaited) (i : ℕ) (r : Option Awaited) (now : utf8 s ≡ utf8_after (ranges a) (drop i s)) (h : i < length s)
      (e : (bs : List ℕ) → utf8_after (ranges a) (get_or s i 0 ∷ bs) ≡ rest_good r bs) where
    turn : utf8 s ≡ rest_good r (drop (i + 1) s)
    turn = now ∙ (rw (add-one, drop-cons s i 0) (e (drop (suc i) s)))

    pub stops : r ≡ None → false ≡ utf8 s
    unfolding rest_good
    stops b = sym (turn ∙ ap (λ (n : Option Awaited). rest_good n (drop (i + 1) s)) b)

    pub goes_on : (n : Awaited) → r ≡ Some n → utf8 s ≡ utf8_after (ranges n) (drop (i + 1) s)
    unfolding rest_good
    goes_on n g = turn ∙ ap (λ (n : Option Awaited). rest_good n (drop (i + 1) s)) g

  -- after the last byte nothing may be awaited
  pub ends : (n i : ℕ) (r : Range) → length s ≤ i → eqb n 0 ≡ utf8_after (awaits n r) (drop i s)
  unfolding awaits utf8_after
  ends n i r h = rw (drop_of_length-le s) (none_left n)
    where
      none_left : (n : ℕ) → eqb n 0 ≡ utf8_after (awaits n r) []
      none_left zero = refl
      none_left (suc n) = eqb-suc-zero n
