-- Values and cells, printed by their cases. Assumes nothing.
use mathlib.Core.Path.{◌≡◌, sym, ap, ◌∙◌, subst}
use mathlib.Core.List.{List, ◌∷◌, ◌++◌, append_assoc}
use Prim.Native.Nat.{ℕ, ◌+◌, ◌*◌, ◌≤◌, ◌<◌}
use native.Mathlib.Omega.{arith}
use lib.ListN.{length, length-append}
use Rattle.laws.specs.Basics.{ascii, basics}
use Rattle.laws.proofs.Pointwise.{length_part}
use Rattle.rules.specs.Cells.{block}
use Rattle.rules.specs.Heap.{part_of}
use Rattle.rules.specs.Numbers.{bits64}
use Rattle.rules.specs.Sound.{sound_rules}
use Rattle.rules.specs.Text.{decimal, signed, hex}
use Rattle.rules.specs.Listing.{print_value}
use Rattle.leaf_cells.specs.Cells.{cell_of}
use Rattle.leaf_cells.specs.Elements.{value_of, loaded_element}
use Rattle.leaf_cells.specs.declared.Value.{Value}
use Rattle.leaf_cells.specs.declared.VCell.{VCell}
use Rattle.leaf_cells.specs.declared.VCell.TheVariants as cell
use Rattle.text_numbers.specs.Answers.{Printed}
use Rattle.text_numbers.proofs.PrintLaws.{signed_short, length-hex}
use Rattle.sheet_print.specs.Printing.{most_value, most_cell, Within, listed, element_text, cell_text, ShownIn}
use Rattle.sheet_print.proofs.PrintLaws.{behind, printed_as, bounded, loosened, within_as}

-- ---- parts

module _ {l middle after : List ℕ} {at p r : ℕ} where
  pub number_printed : (n : ℕ) → n < bits64 → Printed l at (ascii "num:") middle p → Printed middle p (signed n) after r → Within 24 l at (ascii "num:" ++ signed n) after r
  unfolding basics
  number_printed n fits f g = record { printed = behind l at f g; short = omega (arith, f.end, g.end, signed_short n fits) }

  pub pair_printed : (a d : ℕ) → Within 25 l at (ascii "pair:" ++ decimal a) middle p → Within 21 middle p (44 ∷ decimal d) after r → Within 46 l at (ascii "pair:" ++ (decimal a ++ (44 ∷ decimal d))) after r
  pair_printed a d f g =
      record {
        printed = printed_as (append_assoc (ascii "pair:") (decimal a) (44 ∷ decimal d)) (behind l at f.printed g.printed);
        short = omega (arith, f.short, g.short);
      }

  pub vector_printed : (t : List ℕ) (k : ℕ) → Printed l at (ascii "vec:") middle p → Within k middle p t after r → Within (4 + k) l at (ascii "vec:" ++ t) after r
  unfolding basics
  vector_printed t k f g = record { printed = behind l at f g.printed; short = omega (arith, f.end, g.short) }

-- ---- values

-- the value is this one, and its text was printed
pub value_as : (v w : Value) (k : ℕ) {l t after : List ℕ} {at r : ℕ} → v ≡ w → t ≡ print_value (value_of w) → k ≤ most_value → Within k l at t after r → Within most_value l at (print_value (value_of v)) after r
value_as v w k e q h p = within_as (q ∙ ap (λ (x : Value). print_value (value_of x)) (sym e)) (loosened most_value h p)

-- ---- a vector's elements

pub element_printed : (es : List ℕ) (place i : ℕ) (v : Value) {l after : List ℕ} {at r : ℕ} → value_of v ≡ loaded_element es (place + i)
    → Within most_value l at (print_value (value_of v)) after r → Within most_value l at (element_text es place i) after r
unfolding element_text
element_printed es place i v e p = within_as (ap print_value e) p

pub all_printed : (f : ℕ → List ℕ) (i n : ℕ) {l after : List ℕ} {at r : ℕ} → i ≤ n → n ≤ i → Within (26 * i) l at (listed f i) after r → Within (26 * n) l at (listed f n) after r
all_printed f i n h k p =
    let e : i ≡ n = omega arith in
    record { printed = printed_as (ap (listed f) e) p.printed; short = omega (arith, p.short) }

-- ---- cells

module _ (bs es : List ℕ) (v : VCell) where
  -- the cell is this one, and its text was printed
  pub cell_as : (w : VCell) (k : ℕ) {l t after : List ℕ} {at r : ℕ} → v ≡ w → t ≡ cell_text bs es (cell_of w) → k ≤ most_cell → Within k l at t after r → Within most_cell l at (cell_text bs es (cell_of v)) after r
  cell_as w k e q h p = within_as (q ∙ ap (λ (x : VCell). cell_text bs es (cell_of x)) (sym e)) (loosened most_cell h p)

  module _ (s : ShownIn (length bs) (length es) (cell_of v)) (p n : ℕ) where
    pub symbol_room : v ≡ cell.Symbol p n → (p + n ≤ length bs) × (n ≤ 4096)
    unfolding sound_rules
    symbol_room e = let q = subst (λ (x : VCell). ShownIn (length bs) (length es) (cell_of x)) e s in (q.text, q.text_short)

    pub string_room : v ≡ cell.String p n → (p + n ≤ length bs) × (n ≤ 4096)
    unfolding sound_rules
    string_room e = let q = subst (λ (x : VCell). ShownIn (length bs) (length es) (cell_of x)) e s in (q.text, q.text_short)

    pub vector_room : v ≡ cell.Vector p n → (3 * (p + n) ≤ length es) × (n ≤ 1024)
    unfolding sound_rules
    vector_room e = let q = subst (λ (x : VCell). ShownIn (length bs) (length es) (cell_of x)) e s in (q.vector, q.vector_short)

-- a text in hex
module _ (bs : List ℕ) (p n : ℕ) (room : (p + n ≤ length bs) × (n ≤ 4096)) (t : List ℕ) (is : t ≡ part_of bs (block p n)) where
  pub text_size : length t ≤ 4096
  text_size = omega (arith, ap length is ∙ length_part bs p n room.0, room.1)

  pub hexed_printed : (key : List ℕ) {l after : List ℕ} {at r : ℕ} → length key ≡ 4 → Printed l at (key ++ hex t) after r → Within 8196 l at (key ++ hex (part_of bs (block p n))) after r
  hexed_printed key h q =
      within_as (ap (λ (t : List ℕ). key ++ hex t) is)
      (bounded 8196 (omega (arith, length-append key (hex t), length-hex t, text_size)) q)
