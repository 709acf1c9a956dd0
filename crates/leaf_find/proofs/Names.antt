-- The name that a slot's cell says: a symbol's part of the bytes in use, and of any other cell the empty name. Assumes nothing.
use mathlib.Core.Path.{◌≡◌, refl, sym, ap, ◌∙◌}
use mathlib.Core.List.{List, [], ◌∷◌}
use Prim.Native.Nat.{ℕ}
use native.Mathlib.Omega.{arith}
use borrow.Author.Tests.{ne_eqb}
use lib.Dec.{eqb}
use lib.ListN.{length, take, drop}
use Rattle.laws.specs.Basics.{same, basics}
use Rattle.rules.specs.Layout.{layout_rules}
use Rattle.leaf_cells.specs.declared.VCell.{VCell}
use Rattle.leaf_cells.specs.declared.VCell.TheVariants.{Undefined, Nil, Eof, Void, Bool, Char, Number, Pair, Symbol, String, Vector}
use Rattle.leaf_cells.specs.Cells.{cell_of, loaded}
use Rattle.leaf_symbols.specs.Table.{bytes_used, cell_name, name_of}

pub empty_only : (name : List ℕ) → eqb (length name) 0 ≡ same [] name
unfolding basics
empty_only [] = refl
empty_only (y ∷ ys) = ne_eqb (length (y ∷ ys)) 0 (λ e. omega arith)

-- only a symbol has a name
unnamed : (bytes : List ℕ) (x : VCell) → ((p n : ℕ) → x ≡ Symbol p n → ⊥) → cell_name bytes (cell_of x) ≡ []
unfolding cell_name
unnamed bytes Undefined d = refl
unnamed bytes Nil d = refl
unnamed bytes Eof d = refl
unnamed bytes Void d = refl
unnamed bytes (Bool b) d = refl
unnamed bytes (Char n) d = refl
unnamed bytes (Number n) d = refl
unnamed bytes (Pair a b) d = refl
unnamed bytes (Symbol p n) d = absurd (d p n refl)
unnamed bytes (String p n) d = refl
unnamed bytes (Vector p n) d = refl

module _ (ws bytes : List ℕ) (s : ℕ) (x : VCell) (here : cell_of x ≡ loaded ws s) where
  name_here : cell_name (take (bytes_used ws) bytes) (cell_of x) ≡ name_of ws bytes s
  unfolding name_of
  name_here = ap (cell_name (take (bytes_used ws) bytes)) here

  pub no_name : ((p n : ℕ) → x ≡ Symbol p n → ⊥) → [] ≡ name_of ws bytes s
  no_name d = sym (unnamed (take (bytes_used ws) bytes) x d) ∙ name_here

  pub symbol_name : (p n : ℕ) → x ≡ Symbol p n → take n (drop p (take (bytes_used ws) bytes)) ≡ name_of ws bytes s
  unfolding cell_name layout_rules
  symbol_name p n e = sym (ap (λ (c : VCell). cell_name (take (bytes_used ws) bytes) (cell_of c)) e) ∙ name_here
