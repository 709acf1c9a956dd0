-- What a slot of a sound heap shows: its cell as it stands in the lent lists, within the arenas. Assumes nothing.
use mathlib.Core.Path.{◌≡◌, refl, sym, ap, ◌∙◌, subst}
use mathlib.Core.Bool.{Bool, true, false}
use mathlib.Core.List.{List, ◌++◌, map}
use mathlib.Core.Option.{none, some}
use Prim.Native.Nat.{ℕ, ◌+◌, ◌*◌, ◌≤◌}
use native.Mathlib.Omega.{arith}
use borrow.Author.Tests.{leb-true}
use lib.Dec.{leb}
use lib.ListN.{length, get_or, set, length-map, get_or-map}
use Rattle.std.specs.Prelude as std
use Rattle.laws.specs.Basics.{ascii, choose, rising, basics}
use Rattle.laws.proofs.Tests.{both_left}
use Rattle.laws.proofs.Lists.{told_again}
use Rattle.laws.proofs.Pointwise.{get_d_part, length_part}
use Rattle.laws.proofs.Options.{some_value}
use Rattle.rules.specs.Cells.{undefined, scalar, Block, Cell, plain, pair, symbol, string, vector}
use Rattle.rules.specs.Heap.{Heap, cell_at, in_use, part_of, text_of, elements_of}
use Rattle.rules.specs.Layout.{Lent, map_bytes, rooms_of, heap_of, layout_rules}
use Rattle.rules.specs.Sound.{text_block, vector_block, cell_allowed, Sound, sound, sound_rules}
use Rattle.rules.specs.Text.{decimal, hex}
use Rattle.rules.specs.Listing.{print_value, commas, print_cell, print_slot, listing_rules}
use Rattle.rules.proofs.SoundLaws.{clauses, bounds, lists_again, sound_fits}
use Rattle.rules.proofs.Good.{CellGood}
use Rattle.rules.proofs.GoodSound.{sound_good}
use Rattle.rules.proofs.Keeping.{lies_below}
use Rattle.leaf_cells.specs.Cells.{cell_of, lookup_of, looked_up}
use Rattle.leaf_cells.specs.declared.VCell.{VCell}
use Rattle.leaf_cells.proofs.HeapLaws.{looked_up_is, text_is}
use Rattle.leaf_cells.proofs.CallLaws.{load_element_on}
use Rattle.text_numbers.specs.Answers.{Printed}
use Rattle.sheet_print.specs.Printing.{most_line, most_cell, Within, listed, element_text, cell_text, ShownIn, slot_text}
use Rattle.sheet_print.proofs.PrintLaws.{byte_printed, behind, bounded, within_as}

none_some : {A B : Type 0} {a : A} → none ≡ some a → B
none_some e = let z : ◌≡◌ {A = ℕ} 0 1 = cc in absurd (omega arith)

module _ (l : Lent) (is : sound l ≡ true) where
  abbrev h : Heap
  h = heap_of l

  clear : Sound l
  clear = clauses l is

  -- ---- a lookup

  pub look_up_room : (8 ≤ length l.words) × (8 * get_or l.words 1 0 + 8 ≤ length l.words)
  unfolding layout_rules
  look_up_room = let b = bounds l clear in (omega (arith, b.words), omega (arith, b.words, b.capacity))

  looked : (s : ℕ) → looked_up l.words l.map s ≡ choose (in_use h s) (some (cell_at h s)) none
  unfolding layout_rules
  looked s =
      let again = lists_again l clear in
      (λ j. looked_up (sym again j).words (sym again j).map s)
      ∙ looked_up_is (rooms_of l).slots (map_bytes (rooms_of l).slots) h s (sound_fits l clear).slots

  module _ (s : ℕ) (f : std.Option VCell) (told : lookup_of f ≡ looked_up l.words l.map s) where
    pub found_cell : (c : VCell) → f ≡ std.Some c → (in_use h s ≡ true) × (cell_of c ≡ cell_at h s)
    found_cell c e = by (in_use h s) (ap lookup_of (sym e) ∙ told ∙ looked s)
      where
        by : (b : Bool) → some (cell_of c) ≡ choose b (some (cell_at h s)) none → (b ≡ true) × (cell_of c ≡ cell_at h s)
        by true q = (refl, some_value q)
        by false q = none_some (sym q)

    pub not_found : f ≡ std.None → in_use h s ≡ false
    not_found e = by (in_use h s) (ap lookup_of (sym e) ∙ told ∙ looked s)
      where
        by : (b : Bool) → none ≡ choose b (some (cell_at h s)) none → b ≡ false
        by true q = none_some q
        by false q = refl

  -- ---- in the arenas

  text_short : (c : Cell) → cell_allowed h c ≡ true → (text_block c).size ≤ 4096
  unfolding sound_rules
  text_short (plain s) e = omega arith
  text_short (pair a d) e = omega arith
  text_short (symbol b) e = let k = leb-true b.size 255 (both_left (leb b.size 255) _ e) in omega arith
  text_short (string b) e = leb-true b.size 4096 (both_left (leb b.size 4096) _ e)
  text_short (vector b) e = omega arith

  vector_short : (c : Cell) → cell_allowed h c ≡ true → (vector_block c).size ≤ 1024
  unfolding sound_rules
  vector_short (plain s) e = omega arith
  vector_short (pair a d) e = omega arith
  vector_short (symbol b) e = omega arith
  vector_short (string b) e = omega arith
  vector_short (vector b) e = leb-true b.size 1024 e

  bytes_used : length h.bytes ≤ length l.bytes
  unfolding layout_rules
  bytes_used = (sound_fits l clear).bytes

  shown_in : (c : Cell) → CellGood h c → ShownIn (length l.bytes) (length l.elems) c
  shown_in c g =
      let t = lies_below (length h.bytes) (text_block c) g.text_in in
      let v = lies_below (length h.elements) (vector_block c) g.vector_in in
      record {
        text = omega (arith, t, bytes_used);
        text_short = text_short c g.allowed;
        vector = omega (arith, v, (sound_fits l clear).elements, (bounds l clear).elems);
        vector_short = vector_short c g.allowed;
      }

  good_cell : (s : ℕ) → CellGood h (cell_at h s)
  good_cell s = (sound_good l is).cells s

  -- ---- the text

  text_there : (b : Block) → b.place + b.size ≤ length h.bytes → part_of l.bytes b ≡ text_of h b
  unfolding layout_rules
  text_there b k = (λ j. part_of (sym (lists_again l clear) j).bytes b) ∙ text_is (rooms_of l).bytes h b k

  elements_there : (b : Block) → b.place + b.size ≤ length h.elements → listed (element_text l.elems b.place) b.size ≡ commas (map print_value (elements_of h b))
  unfolding listed element_text layout_rules
  elements_there b k =
      let size : length (elements_of h b) ≡ b.size = length_part h.elements b.place b.size k in
      let whole : length (map print_value (elements_of h b)) ≡ b.size = length-map (elements_of h b) print_value ∙ size in
      ap (λ (n : ℕ). commas (map (element_text l.elems b.place) (rising 0 n))) (sym whole)
      ∙ ap commas
      (told_again (print_value (scalar undefined)) (element_text l.elems b.place) (map print_value (elements_of h b))
      (λ i low.
      ap print_value
      (load_element_on (rooms_of l).elements h l.elems (λ j. (sym (lists_again l clear) j).elems) (b.place + i) (omega arith)
      ∙ sym (get_d_part h.elements b.place b.size i (scalar undefined) (omega arith)))
      ∙ sym (get_or-map print_value (elements_of h b) i (scalar undefined))))

  cell_there : (c : Cell) → CellGood h c → cell_text l.bytes l.elems c ≡ print_cell h c
  unfolding cell_text listing_rules
  cell_there c g = by c (lies_below _ (text_block c) g.text_in) (lies_below _ (vector_block c) g.vector_in)
    where
      by : (c : Cell) → (text_block c).place + (text_block c).size ≤ length h.bytes → (vector_block c).place + (vector_block c).size ≤ length h.elements → cell_text l.bytes l.elems c ≡ print_cell h c
      by (plain s) t v = refl
      by (pair a d) t v = refl
      by (symbol b) t v = ap (λ (x : List ℕ). ascii "sym:" ++ hex x) (text_there b t)
      by (string b) t v = ap (λ (x : List ℕ). ascii "str:" ++ hex x) (text_there b t)
      by (vector b) t v = ap (λ (x : List ℕ). ascii "vec:" ++ x) (elements_there b v)

  -- ---- printed

  pub cell_room : (s : ℕ) (c : VCell) → cell_of c ≡ cell_at h s → ShownIn (length l.bytes) (length l.elems) (cell_of c)
  cell_room s c e = subst (λ (x : Cell). ShownIn (length l.bytes) (length l.elems) x) (sym e) (shown_in (cell_at h s) (good_cell s))

  module _ (s : ℕ) {o after : List ℕ} {at r : ℕ} where
    pub shown_printed : (c : VCell) → in_use h s ≡ true → cell_of c ≡ cell_at h s → Within most_cell o at (cell_text l.bytes l.elems (cell_of c)) after r → Within most_cell o at (slot_text h s) after r
    unfolding slot_text
    shown_printed c u e p =
        within_as
        (ap (cell_text l.bytes l.elems) e ∙ cell_there (cell_at h s) (good_cell s)
        ∙ sym (ap (λ (b : Bool). elim b [ true ↦ print_cell h (cell_at h s) | false ↦ ascii "free" ]) u))
        p

    pub free_printed : in_use h s ≡ false → Printed o at (ascii "free") after r → Within most_cell o at (slot_text h s) after r
    unfolding slot_text basics
    free_printed u p =
        within_as (sym (ap (λ (b : Bool). elim b [ true ↦ print_cell h (cell_at h s) | false ↦ ascii "free" ]) u))
        (bounded most_cell (omega arith) p)

-- ---- the line

pub slot_line_is : (h : Heap) (s : ℕ) {l key cell : List ℕ} {p q : ℕ} → Within 24 l 0 (ascii "slot" ++ decimal s) key p → Within most_cell (set key p 61) (p + 1) (slot_text h s) cell q
    → Within most_line l 0 (print_slot h s) (set cell q 10) (q + 1)
unfolding slot_text listing_rules
slot_line_is h s {l = l} {key} {cell} {p} {q} f g =
    record {
      printed = behind l 0 f.printed (behind key p (byte_printed key p 61) (behind (set key p 61) (p + 1) g.printed (byte_printed cell q 10)));
      short = omega (arith, f.short, g.short);
    }
