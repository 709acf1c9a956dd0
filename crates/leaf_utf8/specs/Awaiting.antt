-- What the carried numbers mean in the rules' words: the ranges of the bytes that are still awaited. Assumes nothing.
use Rattle.std.specs.Prelude.{Bool, false, List, [], ◌∷◌, ℕ, zero, suc, Option, Some, None}
use Rattle.std.proofs.Math.Option as Math
use Rattle.std.proofs.Math.Option.{none, some}
use Rattle.rules.specs.Utf8.{Range, ◌to◌, utf8_after}
use Rattle.leaf_utf8.specs.declared.Awaited.{Awaited}

-- so many bytes, the next in this range and the others in 0x80 to 0xbf
unfoldable pub awaits : ℕ → Range → List Range
awaits zero r = []
awaits (suc n) r = r ∷ awaits n (0x80 to 0xbf)

abbrev pub ranges : Awaited → List Range
ranges a = awaits a.left (a.low to a.high)

-- what a first byte is followed by
abbrev pub shown : Option Awaited → Math.Option (List Range)
shown None = none
shown (Some a) = some (ranges a)

-- the bytes after it are good
unfoldable pub rest_good : Option Awaited → List ℕ → Bool
rest_good None bs = false
rest_good (Some a) bs = utf8_after (ranges a) bs
