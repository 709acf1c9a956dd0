-- The promises go by the rules' cells, values and words; each comes from one answer only, so they determine the answer.
-- Document 01, "How tight the promises are". Assumes nothing.
use mathlib.Core.Path.{◌≡◌, refl, sym, ap, ◌∙◌}
use mathlib.Core.List.{List}
use mathlib.Core.Option.{Option, none, some}
use Rattle.std.specs.Prelude.{Some, None}
use Rattle.std.specs.Prelude as code
use Prim.Native.Nat.{ℕ}
use lib.ListN.{get_or}
use Rattle.rules.specs.Cells.{undefined, nil, eof, void, bool, char, number, slot, scalar, Cell, plain, pair, symbol, string, vector}
use Rattle.rules.specs.Cells as cells
use Rattle.leaf_cells.specs.declared.VCell.{VCell}
use Rattle.leaf_cells.specs.declared.VCell.TheVariants as cell
use Rattle.leaf_cells.specs.declared.Value.{Value}
use Rattle.leaf_cells.specs.declared.Value.TheVariants as value
use Rattle.leaf_cells.specs.declared.Words.{Words}
use Rattle.leaf_cells.specs.declared.Change.{Change}
use Rattle.leaf_cells.specs.declared.ElementChange.{ElementChange}
use Rattle.leaf_cells.specs.Words.{three}
use Rattle.leaf_cells.specs.Cells.{cell_of, lookup_of, Stored}
use Rattle.leaf_cells.specs.Elements.{value_of, ElementStored}

-- ---- cells

from_cell : Cell → VCell
from_cell (plain undefined) = cell.Undefined
from_cell (plain nil) = cell.Nil
from_cell (plain eof) = cell.Eof
from_cell (plain void) = cell.Void
from_cell (plain (bool b)) = cell.Bool b
from_cell (plain (char n)) = cell.Char n
from_cell (plain (number n)) = cell.Number n
from_cell (pair a d) = cell.Pair a d
from_cell (symbol b) = cell.Symbol b.place b.size
from_cell (string b) = cell.String b.place b.size
from_cell (vector b) = cell.Vector b.place b.size

cell_back : (x : VCell) → from_cell (cell_of x) ≡ x
unfolding from_cell
cell_back cell.Undefined = refl
cell_back cell.Nil = refl
cell_back cell.Eof = refl
cell_back cell.Void = refl
cell_back (cell.Bool b) = refl
cell_back (cell.Char n) = refl
cell_back (cell.Number n) = refl
cell_back (cell.Pair a d) = refl
cell_back (cell.Symbol p n) = refl
cell_back (cell.String p n) = refl
cell_back (cell.Vector p n) = refl

pub one_cell : (x y : VCell) → cell_of x ≡ cell_of y → x ≡ y
one_cell x y e = sym (cell_back x) ∙ ap from_cell e ∙ cell_back y

-- ---- a lookup

from_option : Option Cell → code.Option VCell
unfolding from_cell
from_option none = None
from_option (some c) = Some (from_cell c)

lookup_back : (x : code.Option VCell) → from_option (lookup_of x) ≡ x
unfolding from_option
lookup_back (Some c) = ap Some (cell_back c)
lookup_back None = refl

pub one_lookup : (x y : code.Option VCell) → lookup_of x ≡ lookup_of y → x ≡ y
one_lookup x y e = sym (lookup_back x) ∙ ap from_option e ∙ lookup_back y

-- ---- values

from_value : cells.Value → Value
from_value (slot s) = value.Slot s
from_value (scalar undefined) = value.Undefined
from_value (scalar nil) = value.Nil
from_value (scalar eof) = value.Eof
from_value (scalar void) = value.Void
from_value (scalar (bool b)) = value.Bool b
from_value (scalar (char n)) = value.Char n
from_value (scalar (number n)) = value.Number n

value_back : (x : Value) → from_value (value_of x) ≡ x
unfolding from_value
value_back (value.Slot s) = refl
value_back value.Undefined = refl
value_back value.Nil = refl
value_back value.Eof = refl
value_back value.Void = refl
value_back (value.Bool b) = refl
value_back (value.Char n) = refl
value_back (value.Number n) = refl

pub one_value : (x y : Value) → value_of x ≡ value_of y → x ≡ y
one_value x y e = sym (value_back x) ∙ ap from_value e ∙ value_back y

-- ---- words and changes

pub one_words : (x y : Words) → three x ≡ three y → x ≡ y
one_words x y e = λ i. record { kind = get_or (e i) 0 0; first = get_or (e i) 1 0; second = get_or (e i) 2 0 }

module _ (before after : List ℕ) (s : ℕ) where
  pub one_change : (c : VCell) (x y : Change) → Stored before after s c x → Stored before after s c y → x ≡ y
  one_change c x y p q = λ i.
      record { old = one_cell x.old y.old (p.was ∙ sym q.was) i; new = (p.is ∙ sym q.is) i }

  pub one_element_change : (v : Value) (x y : ElementChange) → ElementStored before after s v x → ElementStored before after s v y → x ≡ y
  one_element_change v x y p q = λ i.
      record { old = one_value x.old y.old (p.was ∙ sym q.was) i; new = (p.is ∙ sym q.is) i }
