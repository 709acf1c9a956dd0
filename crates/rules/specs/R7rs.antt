-- The standard beside the Rust: R7RS small, 6.1, `equal?`: true "if and only if the (possibly infinite) unfoldings of its
-- arguments into regular trees are equal as ordered trees"; and the data of document 01, "Equality", on which `equal` is
-- that. Assumes nothing.
use Rattle.std.specs.Prelude.{◌≡◌, ℕ, length}
use mathlib.Core.List.{List, [], ◌∷◌, Memᴰ}
use Rattle.std.proofs.Math.Option.{Option, none, some}
use Rattle.std.proofs.Math.ListN.{get_elem?}
use Rattle.rules.specs.Cells.{Scalar, undefined, nil, eof, void, bool, char, number, Value, slot, scalar, Cell, plain, pair, symbol, string, vector}
use Rattle.rules.specs.Heap.{Heap, cell_at, shown, text_of, elements_of}

-- a step down a tree
pub data Turn : Type 0 where
  to_car to_cdr : Turn
  to_element : ℕ → Turn

-- what a node of the tree shows, apart from what is below it; nothing where the path leaves the tree
pub data Face : Type 0 where
  nothing a_pair : Face
  a_scalar : Scalar → Face
  a_symbol a_string : List ℕ → Face
  a_vector : ℕ → Face

unfoldable pub face : Heap → Cell → Face
face h (plain s) = a_scalar s
face h (pair a d) = a_pair
face h (symbol b) = a_symbol (text_of h b)
face h (string b) = a_string (text_of h b)
face h (vector b) = a_vector (length (elements_of h b))

unfoldable pub below : Heap → Cell → Turn → Option Value
below h (plain s) t = none
below h (pair a d) to_car = some (slot a)
below h (pair a d) to_cdr = some (slot d)
below h (pair a d) (to_element n) = none
below h (symbol b) t = none
below h (string b) t = none
below h (vector b) to_car = none
below h (vector b) to_cdr = none
below h (vector b) (to_element n) = get_elem? (elements_of h b) n

-- the unfolded tree of a value: what stands at each finite path
unfoldable pub unfolded : Heap → Value → List Turn → Face
unfolding face below
unfolded h v [] = face h (shown h v)
unfolded h v (t ∷ ts) = elim (below h (shown h v) t) [ none ↦ nothing | some w ↦ unfolded h w ts ]

-- `equal?`
unfoldable pub SameTree : Heap → Value → Value → Type 0
unfolding unfolded
SameTree h v w = (p : List Turn) → unfolded h v p ≡ unfolded h w p

-- ---- the data that 01 lists

-- a value of the tree
pub data Within (h : Heap) (v : Value) : Value → Type 0 where
  itself : Within h v v
  deeper : {w x : Value} (t : Turn) → Within h v w → below h (shown h w) t ≡ some x → Within h v x

-- "without Void, Undefined, scopes other than 0 or symbols without a table entry": what may stand in the tree
unfoldable pub ListedValue : Heap → Value → Type 0
ListedValue h (scalar undefined) = ⊥
ListedValue h (scalar nil) = Unit {0}
ListedValue h (scalar eof) = Unit {0}
ListedValue h (scalar void) = ⊥
ListedValue h (scalar (bool b)) = Unit {0}
ListedValue h (scalar (char n)) = Unit {0}
ListedValue h (scalar (number n)) = Unit {0}
ListedValue h (slot s) = ListedCell (cell_at h s)
  where
    ListedCell : Cell → Type 0
    ListedCell (plain undefined) = ⊥
    ListedCell (plain nil) = Unit {0}
    ListedCell (plain eof) = Unit {0}
    ListedCell (plain void) = ⊥
    ListedCell (plain (bool b)) = Unit {0}
    ListedCell (plain (char n)) = Unit {0}
    ListedCell (plain (number n)) = Unit {0}
    ListedCell (pair a d) = Unit {0}
    ListedCell (symbol b) = Memᴰ (record { slot = s; scope = 0 }) h.table
    ListedCell (string b) = Unit {0}
    ListedCell (vector b) = Unit {0}

-- "where no pair walk ends in a symbol or vector": no cdr of the tree is one
unfoldable pub WalkEnd : Heap → Cell → Type 0
WalkEnd h (plain s) = Unit {0}
WalkEnd h (pair a d) = AllowedCdr (cell_at h d)
  where
    AllowedCdr : Cell → Type 0
    AllowedCdr (plain s) = Unit {0}
    AllowedCdr (pair a d) = Unit {0}
    AllowedCdr (symbol b) = ⊥
    AllowedCdr (string b) = Unit {0}
    AllowedCdr (vector b) = ⊥
WalkEnd h (symbol b) = Unit {0}
WalkEnd h (string b) = Unit {0}
WalkEnd h (vector b) = Unit {0}

unfoldable pub Listed : Heap → Value → Type 0
unfolding ListedValue WalkEnd
Listed h v = (w : Value) → Within h v w → ListedValue h w × WalkEnd h (shown h w)

unfoldable pub r7rs_rules : Unit {0}
unfolding face below unfolded SameTree ListedValue WalkEnd Listed
r7rs_rules = tt
