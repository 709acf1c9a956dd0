-- Sound lists with roots in use can be marked in the scratch that a call asks for, and what is marked then is what the rules mark.
-- Document 01: "every slot that an Allocated cell or its elements name is Allocated". Assumes nothing.
use mathlib.Core.Path.{◌≡◌, refl, sym, ap, ◌∙◌, subst}
use mathlib.Core.Bool.{true}
use mathlib.Core.List.{List, []}
use Prim.Native.Nat.{ℕ, ◌+◌, ◌-◌, ◌≤◌, ◌<◌}
use native.Mathlib.Omega.{arith}
use borrow.Author.Tests.{leb-true, eq-eqb, ne_eqb}
use lib.Dec.{leb}
use lib.ListN.{length, get_or}
use Rattle.laws.specs.Basics.{every, member}
use Rattle.laws.proofs.Tests.{both_left}
use Rattle.laws.proofs.Pointwise.{every_weaker}
use Rattle.laws.proofs.Members.{member_every}
use Rattle.rules.specs.Numbers.{scratch_words}
use Rattle.rules.specs.Map.{Used, state_of, is_allocated, set_low_bits, map_rules}
use Rattle.rules.specs.Cells.{Cell, plain, pair, symbol, string, vector}
use Rattle.rules.specs.Heap.{Heap, capacity, cell_at, in_use}
use Rattle.rules.specs.Collect.{leads_to, marked}
use Rattle.rules.specs.Layout.{Lent, rooms_of, map_bytes, filled, heap_of, layout_rules}
use Rattle.rules.specs.Sound.{vector_block, lies_in, sound, sound_rules}
use Rattle.rules.proofs.TwoBits.{state_behind, set_low_bits_behind, set-low_bits-most}
use Rattle.rules.proofs.SoundLaws.{clauses, bounds, lists_again}
use Rattle.rules.proofs.Good.{Good, used_slot, used_below, settled}
use Rattle.rules.proofs.GoodSound.{sound_good}
use Rattle.heap_sound_rows.specs.Rows.{lists}
use Rattle.heap_sound_rows.proofs.HeapFacts.{cells_length, elements_length}
use Rattle.heap_mark.specs.Marks.{is_marked, linked, leads, Rowed, CanMark}
use Rattle.collect_laws.proofs.Reach.{marked_alike}
use Rattle.collect_laws.proofs.Leading.{leads_used, marked_in_use}

-- ---- sound lists

module _ (words map bytes elems : List ℕ) where
  abbrev l : Lent
  l = lists words map bytes elems

  abbrev held : Heap
  held = heap_of l

  leads_cell : (c : Cell) → leads_to (linked words elems) c ≡ leads_to held c
  unfolding leads_to layout_rules
  leads_cell (plain s) = refl
  leads_cell (pair a d) = refl
  leads_cell (symbol b) = refl
  leads_cell (string b) = refl
  leads_cell (vector b) = refl

  same_cell : (s : ℕ) → cell_at (linked words elems) s ≡ cell_at held s
  unfolding layout_rules
  same_cell s = refl

  leads_same : (s : ℕ) → leads words elems s ≡ leads_to held (cell_at held s)
  leads_same s = leads_cell (cell_at (linked words elems) s) ∙ ap (leads_to held) (same_cell s)

  -- reach looks at nothing but cells and elements
  pub marked_same : (roots : List ℕ) → marked (linked words elems) roots ≡ marked held roots
  marked_same =
      marked_alike (linked words elems) held leads_same (cells_length (lists words [] [] elems) ∙ sym (cells_length l))

  module _ (s : sound l ≡ true) where
    g : Good held
    g = sound_good l s

    -- the lent map is the heap's, and zeros behind it
    pub map_again : map ≡ filled (map_bytes (rooms_of l).slots) held.map
    unfolding layout_rules
    map_again = ap (λ (x : Lent). x.map) (sym (lists_again l (clauses l s)))

    state_again : (x : ℕ) → state_of map x ≡ state_of held.map x
    unfolding filled
    state_again x =
        ap (λ (m : List ℕ). state_of m x) map_again
        ∙ state_behind held.map (map_bytes (rooms_of l).slots - length held.map) x

    used_allocated : (x : ℕ) → in_use held x ≡ true → is_allocated map x ≡ true
    unfolding map_rules
    used_allocated x e = eq-eqb (state_of map x) 1 (state_again x ∙ (used_slot held x e).state)

    allocated_below : (x : ℕ) → is_allocated map x ≡ true → x < get_or words 1 0
    unfolding map_rules
    allocated_below x e =
        subst (λ (n : ℕ). x < n) (cells_length l)
        (used_below held g x (sym (state_again x) ∙ borrow.Author.Tests.eqb-true (state_of map x) 1 e))

    rowed : Rowed words elems
    unfolding layout_rules sound_rules
    rowed =
        let b = bounds l (clauses l s) in
        record {
          rows = omega (arith, b.words, b.capacity);
          elements = omega (arith, b.elems, b.elements);
          vectors = λ x v e.
              let lies : lies_in (length held.elements) v ≡ true =
              ap (λ (c : Cell). lies_in (length held.elements) (vector_block c)) (sym e ∙ same_cell x) ∙ (g.cells x).vector_in
              in
              subst (λ (n : ℕ). v.place + v.size ≤ n) (elements_length l)
              (leb-true (v.place + v.size) (length held.elements) (both_left (leb (v.place + v.size) (length held.elements)) _ lies));
        }

    named_all : (x : ℕ) → every (is_allocated map) (leads words elems x) ≡ true
    named_all x =
        ap (every (is_allocated map)) (leads_same x)
        ∙ member_every (is_allocated map) (leads_to held (cell_at held x))
        (λ t m. used_allocated t (leads_used held (cell_at held x) (g.cells x) t m))

    pub can_mark : (scratch roots : List ℕ) → every (in_use held) roots ≡ true → scratch_words (capacity held) ≤ length scratch → CanMark words map elems scratch roots
    unfolding is_marked filled
    can_mark scratch roots used room =
        record {
          rowed = rowed;
          below = allocated_below;
          named = λ x e. named_all x;
          roots_held = every_weaker (in_use held) (is_allocated map) used_allocated roots used;
          unmarked = λ x. ne_eqb (state_of map x) Used (λ u. omega (arith, state_again x, settled held g x));
          room =
              omega (
                arith,
                ap set_low_bits map_again,
                set_low_bits_behind held.map (map_bytes (rooms_of l).slots - length held.map),
                set-low_bits-most held.map,
                g.map-size,
              );
        }

    -- only slots in use are marked
    pub marked_used : (roots : List ℕ) → every (in_use held) roots ≡ true → (x : ℕ) → member x (marked held roots) ≡ true → state_of held.map x ≡ 1
    marked_used roots used x m = (used_slot held x (marked_in_use held g roots used x m)).state
