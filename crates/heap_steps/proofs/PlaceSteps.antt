-- A value given a slot, and a value's cell copied. Assumes nothing.
use mathlib.Core.Path.{◌≡◌, sym, ap, ◌∙◌}
use mathlib.Core.List.{List, []}
use Prim.Native.Nat.{ℕ, ◌+◌, ◌*◌, ◌≤◌}
use native.Mathlib.Omega.{arith}
use lib.ListN.{length}
use Rattle.rules.specs.Cells.{Value, slot, scalar, Cell}
use Rattle.rules.specs.Heap.{Heap, cell_at, shown, with_cell}
use Rattle.rules.specs.Layout.{words_of}
use Rattle.rules.specs.Put.{making, new_cell, put_rules}
use Rattle.rules.proofs.LentLaws.{words_length}
use Rattle.leaf_cells.specs.Cells.{cell_of, loaded, Stored}
use Rattle.leaf_cells.specs.declared.VCell.{VCell}
use Rattle.leaf_cells.specs.declared.Change.{Change}
use Rattle.leaf_cells.proofs.CallLaws.{load_on, store_on}
use Rattle.heap_steps.specs.Steps.{Open, CellMade}
use Rattle.heap_steps.specs.Places.{at, new, shape_of, SlotOpen, SlotMade, CopyOpen}

at_same : {s t : ℕ} → at s ≡ at t → s ≡ t
at_same e = cc

new_same : {c d : Cell} → new c ≡ new d → c ≡ d
new_same e = cc

at_new : {A : Type 0} {s : ℕ} {c : Cell} → at s ≡ new c → A
at_new e = let z : ◌≡◌ {A = ℕ} 0 1 = cc in absurd (omega arith)

-- ---- in a slot

pub slot_there : (n : ℕ) (h : Heap) (v : Value) (words map : List ℕ) → SlotOpen n h v words map → (s : ℕ) → at s ≡ shape_of v → SlotMade n h v s words map
unfolding put_rules
slot_there n h (slot t) words map o s e = record { slot_is = at_same e; words_are = o.words_are; map_is = o.map_is }
slot_there n h (scalar x) words map o s e = at_new e

pub slot_open : (n : ℕ) (h : Heap) (v : Value) (words map : List ℕ) → SlotOpen n h v words map → (c : Cell) → new c ≡ shape_of v → Open n h words map
slot_open n h v words map o c e = o.room c (sym e)

pub slot_new : (n : ℕ) (h : Heap) (v : Value) (c : Cell) → new c ≡ shape_of v → (s : ℕ) (words map : List ℕ) → CellMade n h c s words map → SlotMade n h v s words map
unfolding put_rules
slot_new n h (slot t) c e s words map k = at_new (sym e)
slot_new n h (scalar x) c e s words map k =
    record {
      slot_is = k.slot_is;
      words_are = k.words_are ∙ ap (λ (d : Cell). words_of n (new_cell d (making h [])).making.heap) (new_same e);
      map_is = k.map_is;
    }

-- ---- copied

module _ (n : ℕ) (h : Heap) (s : ℕ) (v : Value) (words : List ℕ) (o : CopyOpen n h s v words) where
  pub copy_row : 8 * s + 16 ≤ length words
  copy_row = omega (arith, ap length o.words_are ∙ words_length n h, o.slot_below, o.within)

  pub copied_row : (t : ℕ) → at t ≡ shape_of v → 8 * t + 16 ≤ length words
  copied_row t e = omega (arith, ap length o.words_are ∙ words_length n h, o.value_below t (sym e))

  stored_as : (c : VCell) (d : Cell) (after : List ℕ) (r : Change) → cell_of c ≡ d → Stored words after s c r → after ≡ words_of n (with_cell h s d)
  stored_as c d after r e q =
      store_on n h words o.words_are s c after r o.slot_below (omega (arith, o.within)) q
      ∙ ap (λ (x : Cell). words_of n (with_cell h s x)) e

  shown_at : (t : ℕ) (w : Value) → at t ≡ shape_of w → cell_at h t ≡ shown h w
  shown_at t (slot u) e = ap (cell_at h) (at_same e)
  shown_at t (scalar x) e = at_new e

  shown_new : (c : Cell) (w : Value) → new c ≡ shape_of w → c ≡ shown h w
  shown_new c (slot u) e = at_new (sym e)
  shown_new c (scalar x) e = new_same e

  pub copied_at : (t : ℕ) → at t ≡ shape_of v → (c : VCell) → cell_of c ≡ loaded words t → (after : List ℕ) (r : Change) → Stored words after s c r → after ≡ words_of n (with_cell h s (shown h v))
  copied_at t e c l after r q =
      stored_as c (shown h v) after r (l ∙ load_on n h words o.words_are t (o.value_below t (sym e)) ∙ shown_at t v e) q

  pub copied_new : (c : VCell) → new (cell_of c) ≡ shape_of v → (after : List ℕ) (r : Change) → Stored words after s c r → after ≡ words_of n (with_cell h s (shown h v))
  copied_new c e after r q = stored_as c (shown h v) after r (shown_new (cell_of c) v e) q
