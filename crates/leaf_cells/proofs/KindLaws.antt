-- A Bool as the code's number. Assumes nothing.
use mathlib.Core.Path.{◌≡◌, refl}
use mathlib.Core.Bool.{Bool, true, false}
use mir.Val.{bool_byte}
use Rattle.rules.specs.Cells.{bit}

pub bool_word : (b : Bool) → bool_byte b ≡ bit b
bool_word true = refl
bool_word false = refl
