-- The texts of lists in an answer. Assumes nothing.
use Rattle.std.specs.Prelude.{ℕ, ◌/◌, ◌%◌, false, List, [], ◌∷◌, Option, Some}
use Rattle.std.specs.Fmt.{◌++?◌, digit_glyph}
use Rattle.std.specs.List.{flat_map}

-- each item's text, and a blank behind it
abbrev pub spaced : {X : Type 0} → (X → Option (List ℕ)) → List X → Option (List ℕ)
spaced text [] = Some []
spaced text (x ∷ xs) = text x ++? Some (32 ∷ []) ++? spaced text xs

-- a byte's two digits
abbrev pub two_digits : ℕ → List ℕ
two_digits b = digit_glyph false (b / 16) ∷ digit_glyph false (b % 16) ∷ []

abbrev pub hexed : List ℕ → List ℕ
hexed bs = flat_map two_digits bs
