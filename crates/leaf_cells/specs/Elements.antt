-- What a value means in the rules' words, and where it stands in the element arena's words. Assumes nothing.
use Rattle.std.specs.Prelude.{◌≡◌, List, ℕ, ◌+◌, ◌*◌, get_or}
use Rattle.rules.specs.Cells.{undefined, nil, eof, void, bool, char, number, slot, scalar}
use Rattle.rules.specs.Cells as cells
use Rattle.rules.specs.Layout.{value_words, value_from}
use Rattle.leaf_rooms.specs.Rooms.{stored}
use Rattle.leaf_cells.specs.declared.ElementChange.{ElementChange}
use Rattle.leaf_cells.specs.declared.Value.{Value}
use Rattle.leaf_cells.specs.declared.Value.TheVariants.{Slot, Undefined, Nil, Eof, Void, Bool, Char, Number}

-- the rules' value of each case
abbrev pub value_of : Value → cells.Value
value_of (Slot s) = slot s
value_of Undefined = scalar undefined
value_of Nil = scalar nil
value_of Eof = scalar eof
value_of Void = scalar void
value_of (Bool b) = scalar (bool b)
value_of (Char n) = scalar (char n)
value_of (Number n) = scalar (number n)

-- the element at an index
unfoldable pub loaded_element : List ℕ → ℕ → cells.Value
loaded_element es i = value_from (get_or es (3 * i + 0) 0) (get_or es (3 * i + 1) 0)

-- the elements' words with a value stored at an index
unfoldable pub stored_element : List ℕ → ℕ → cells.Value → List ℕ
stored_element es i v = stored es (3 * i) (value_words v)

-- what a store does and answers
pub record ElementStored (before after : List ℕ) (i : ℕ) (v : Value) (r : ElementChange) : Type 0 where
  pub words : after ≡ stored_element before i (value_of v)
  pub was : value_of r.old ≡ loaded_element before i
  pub is : r.new ≡ v
