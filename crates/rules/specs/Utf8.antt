-- Document 01, "Numbers": "Strings and names are UTF-8 by RFC 3629; a Char is a Unicode scalar value." Assumes nothing.
use Rattle.std.specs.Prelude.{Bool, true, false, List, [], ◌∷◌, ℕ, leb}
use Rattle.std.proofs.Math.Option.{Option, none, some}
use Rattle.laws.specs.Basics.{both, either, between, find, basics}

-- a range of bytes
infix 40 ◌to◌
pub data Range : Type 0 where
  ◌to◌ : ℕ → ℕ → Range

unfoldable pub within : Range → ℕ → Bool
within (a to b) n = between a b n

-- one row of RFC 3629's grammar (section 4): the first byte's range, and those of the bytes after it
pub record Row : Type 0 where
  pub first : Range
  pub rest : List Range

abbrev row : Range → List Range → Row
row f r = record { first = f; rest = r }

abbrev tail : Range
tail = 0x80 to 0xbf

-- UTF8-1, UTF8-2, UTF8-3 and UTF8-4, row by row
unfoldable pub rows : List Row
rows =
    row (0x00 to 0x7f) []
    ∷ row (0xc2 to 0xdf) (tail ∷ [])
    ∷ row (0xe0 to 0xe0) ((0xa0 to 0xbf) ∷ tail ∷ [])
    ∷ row (0xe1 to 0xec) (tail ∷ tail ∷ [])
    ∷ row (0xed to 0xed) ((0x80 to 0x9f) ∷ tail ∷ [])
    ∷ row (0xee to 0xef) (tail ∷ tail ∷ [])
    ∷ row (0xf0 to 0xf0) ((0x90 to 0xbf) ∷ tail ∷ tail ∷ [])
    ∷ row (0xf1 to 0xf3) (tail ∷ tail ∷ tail ∷ [])
    ∷ row (0xf4 to 0xf4) ((0x80 to 0x8f) ∷ tail ∷ tail ∷ [])
    ∷ []

-- the ranges that must follow a first byte; none where no row begins with it
unfoldable pub follows : ℕ → Option (List Range)
unfolding rows within basics
follows b = elim (find (λ (r : Row). within r.first b) rows) [ none ↦ none | some r ↦ some r.rest ]

-- the bytes are UTF-8, where the given ranges are still awaited
unfoldable pub utf8_after : List Range → List ℕ → Bool
unfolding follows within
utf8_after [] [] = true
utf8_after (r ∷ rs) [] = false
utf8_after [] (b ∷ bs) = elim (follows b) [ none ↦ false | some rs ↦ utf8_after rs bs ]
utf8_after (r ∷ rs) (b ∷ bs) = both (within r b) (utf8_after rs bs)

unfoldable pub utf8 : List ℕ → Bool
unfolding utf8_after
utf8 bs = utf8_after [] bs

-- a Unicode scalar value: a code point that is no surrogate
unfoldable pub scalar_value : ℕ → Bool
scalar_value n = either (leb n 0xd7ff) (between 0xe000 0x10ffff n)

unfoldable pub utf8_rules : Unit {0}
unfolding utf8 scalar_value
utf8_rules = tt
