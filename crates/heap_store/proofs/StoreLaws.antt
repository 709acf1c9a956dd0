-- A store on sound lists: the row and the element are there, what is loaded is the heap's cell, and what is written is what the
-- layout writes for the heap with the new cell or element. Assumes nothing.
use mathlib.Core.Path.{◌≡◌, refl, sym, ap, ◌∙◌}
use mathlib.Core.Bool.{Bool, true, false}
use mathlib.Core.List.{List, ◌∷◌}
use mathlib.Core.Option.{Option, none, some}
use Prim.Native.Nat.{ℕ, ◌+◌, ◌*◌, ◌^◌, ◌≤◌, ◌<◌}
use native.Mathlib.Omega.{arith}
use borrow.Author.Tests.{ltb-true, leb-true, lt-ltb, le-ltb}
use lib.Dec.{leb, ltb}
use lib.ListN.{length, length-set}
use Rattle.laws.specs.Basics.{choose, every, join, rising}
use Rattle.laws.proofs.Tests.{both_left}
use Rattle.laws.proofs.Pointwise.{every_all}
use Rattle.rules.specs.Refusals.{accepted, refused, wrong_cell, refusals}
use Rattle.rules.specs.Map.{is_allocated}
use Rattle.rules.specs.Cells.{undefined, block, Cell, plain, pair, symbol, string, vector, is_symbol}
use Rattle.rules.specs.Cells as cells
use Rattle.rules.specs.Heap.{Heap, capacity, cell_at, with_element}
use Rattle.rules.specs.Layout.{Lent, rooms_of, row_words, words_of, heap_of, lent_of, layout_rules}
use Rattle.rules.specs.Sound.{vector_block, lies_in, blocks_sound}
use Rattle.rules.specs.Calls.{stored, element_place, store_element}
use Rattle.rules.proofs.SoundLaws.{clauses, bounds, lists_again}
use Rattle.leaf_cells.specs.Cells.{cell_of, loaded, Stored}
use Rattle.leaf_cells.specs.Elements.{value_of, ElementStored}
use Rattle.leaf_cells.specs.declared.VCell.{VCell}
use Rattle.leaf_cells.specs.declared.VCell.TheVariants as vcell
use Rattle.leaf_cells.specs.declared.Value.{Value}
use Rattle.leaf_cells.specs.declared.Change.{Change}
use Rattle.leaf_cells.specs.declared.ElementChange.{ElementChange}
use Rattle.leaf_cells.proofs.CallLaws.{load_on, store_on, store_element_on}
use Rattle.heap_sound_rows.specs.Rows.{lists}
use Rattle.heap_sound_rows.proofs.HeapFacts.{cells_length, elements_length}
use Rattle.heap_store.specs.Stores.{Ready, store_cell}

-- ---- cells by their case

pub no_symbol : (c : VCell) → ((p n : ℕ) → c ≡ vcell.Symbol p n → ⊥) → false ≡ is_symbol (cell_of c)
no_symbol vcell.Undefined y = refl
no_symbol vcell.Nil y = refl
no_symbol vcell.Eof y = refl
no_symbol vcell.Void y = refl
no_symbol (vcell.Bool b) y = refl
no_symbol (vcell.Char x) y = refl
no_symbol (vcell.Number x) y = refl
no_symbol (vcell.Pair a d) y = refl
no_symbol (vcell.Symbol p n) y = absurd (y p n refl)
no_symbol (vcell.String p n) y = refl
no_symbol (vcell.Vector p n) y = refl

pub no_vector : (c : VCell) (k : ℕ) → ((p n : ℕ) → c ≡ vcell.Vector p n → ⊥) → none ≡ element_place (cell_of c) k
unfolding element_place
no_vector vcell.Undefined k y = refl
no_vector vcell.Nil k y = refl
no_vector vcell.Eof k y = refl
no_vector vcell.Void k y = refl
no_vector (vcell.Bool b) k y = refl
no_vector (vcell.Char x) k y = refl
no_vector (vcell.Number x) k y = refl
no_vector (vcell.Pair a d) k y = refl
no_vector (vcell.Symbol p n) k y = refl
no_vector (vcell.String p n) k y = refl
no_vector (vcell.Vector p n) k y = absurd (y p n refl)

module _ (p n k : ℕ) where
  pub element_there : k < n → some (p + k) ≡ element_place (vector (block p n)) k
  unfolding element_place
  element_there h = sym (ap (λ (b : Bool). choose b (some (p + k)) none) (lt-ltb k n h))

  pub element_missing : n ≤ k → none ≡ element_place (vector (block p n)) k
  unfolding element_place
  element_missing h = sym (ap (λ (b : Bool). choose b (some (p + k)) none) (le-ltb k n h))

pub vector_size : (x : VCell) (p n : ℕ) → x ≡ vcell.Vector p n → (vector_block (cell_of x)).place + (vector_block (cell_of x)).size < 2 ^ 64 → p + n < 2 ^ 64
unfolding vector_block
vector_size x p n e h =
    let same : (vector_block (cell_of x)).place + (vector_block (cell_of x)).size ≡ p + n = ap (λ (y : VCell). (vector_block (cell_of y)).place + (vector_block (cell_of y)).size) e in
    omega arith

-- an element that is there lies in the vector's block
place_within : (c : Cell) (k p : ℕ) → some p ≡ element_place c k → p < (vector_block c).place + (vector_block c).size
unfolding element_place vector_block
place_within (plain s) k p e = absurd (let z : ◌≡◌ {A = ℕ} 0 1 = cc in omega arith)
place_within (pair a d) k p e = absurd (let z : ◌≡◌ {A = ℕ} 0 1 = cc in omega arith)
place_within (symbol b) k p e = absurd (let z : ◌≡◌ {A = ℕ} 0 1 = cc in omega arith)
place_within (string b) k p e = absurd (let z : ◌≡◌ {A = ℕ} 0 1 = cc in omega arith)
place_within (vector b) k p e = by (ltb k b.size) refl e
  where
    by : (t : Bool) → ltb k b.size ≡ t → some p ≡ choose t (some (b.place + k)) none → p < b.place + b.size
    by true q r = let same : p ≡ b.place + k = cc in omega (arith, ltb-true k b.size q)
    by false q r = absurd (let z : ◌≡◌ {A = ℕ} 0 1 = cc in omega arith)

-- the words count the elements, and do not show them
words_kept : (n : ℕ) (h : Heap) (k : ℕ) (v : cells.Value) → words_of n h ≡ words_of n (with_element h k v)
unfolding layout_rules
words_kept n h k v =
    ap
    (λ (m : ℕ).
    h.chunk ∷ capacity h ∷ length h.free ∷ length h.table ∷ length h.bytes ∷ m ∷ 1 ∷ 0 ∷ join (row_words h) (rising 0 n))
    (sym (length-set h.elements k v))

-- ---- on sound lists

module _ (l : Lent) (s : ℕ) (r : Ready l s) where
  abbrev h : Heap
  h = heap_of l

  again : l ≡ lent_of (rooms_of l) h
  again = sym (lists_again l (clauses l r.lists_sound))

  below : s < capacity h
  below = ltb-true s (capacity h) (both_left (ltb s (capacity h)) (is_allocated h.map s) r.used)

  lent_slots : capacity h ≤ (rooms_of l).slots
  unfolding layout_rules
  lent_slots = omega (arith, cells_length l, (bounds l (clauses l r.lists_sound)).capacity)

  pub row_there : 8 * s + 16 ≤ length l.words
  row_there = omega (arith, below, lent_slots, (bounds l (clauses l r.lists_sound)).words)

  pub loaded_lent : loaded l.words s ≡ cell_at h s
  unfolding layout_rules
  loaded_lent = load_on (rooms_of l).slots h l.words (ap (λ (x : Lent). x.words) again) s (omega (arith, below, lent_slots))

  -- ---- a cell

  pub symbol_kept : (c : Cell) (x : VCell) → cell_of x ≡ loaded l.words s → is_symbol (cell_of x) ≡ true → stored (refused wrong_cell) l ≡ store_cell l s c
  unfolding store_cell refusals
  symbol_kept c x e t = rw (store_cell, sym (ap is_symbol (e ∙ loaded_lent)) ∙ t)

  pub cell_written : (c x : VCell) (after : List ℕ) (ch : Change) → cell_of x ≡ loaded l.words s → is_symbol (cell_of x) ≡ false → Stored l.words after s c ch → stored (accepted tt) (lists after l.map l.bytes l.elems) ≡ store_cell l s (cell_of c)
  unfolding store_cell refusals layout_rules
  cell_written c x after ch e t p =
      let words = store_on (rooms_of l).slots h l.words (ap (λ (x : Lent). x.words) again) s c after ch below lent_slots p in
      ap (stored (accepted tt)) (λ j. lists (words j) (again j).map (again j).bytes (again j).elems)
      ∙ rw (store_cell, sym (ap is_symbol (e ∙ loaded_lent)) ∙ t)

  -- ---- an element

  block_within : (vector_block (cell_at h s)).place + (vector_block (cell_at h s)).size ≤ length h.elements
  unfolding lies_in blocks_sound
  block_within =
      let c = clauses l r.lists_sound in
      leb-true _ _
      (both_left (leb ((vector_block (cell_at h s)).place + (vector_block (cell_at h s)).size) (length h.elements)) _
      (every_all (λ c. lies_in (length h.elements) (vector_block c)) (plain undefined) h.cells
      (both_left (every (λ c. lies_in (length h.elements) (vector_block c)) h.cells) _ c.vectors) s below))

  elements_lent : 3 * length h.elements ≤ length l.elems
  unfolding layout_rules
  elements_lent =
      let b = bounds l (clauses l r.lists_sound) in
      omega (arith, elements_length l, b.elements, b.elems)

  pub block_small : (x : VCell) → cell_of x ≡ loaded l.words s → (vector_block (cell_of x)).place + (vector_block (cell_of x)).size < 2 ^ 64
  unfolding layout_rules
  block_small x e =
      let b = bounds l (clauses l r.lists_sound) in
      let same : (vector_block (cell_of x)).place + (vector_block (cell_of x)).size ≡ (vector_block (cell_at h s)).place + (vector_block (cell_at h s)).size = ap (λ (y : Cell). (vector_block y).place + (vector_block y).size) (e ∙ loaded_lent) in
      omega (arith, block_within, elements_length l, b.elements, b.element_room)

  module _ (k : ℕ) (x : VCell) (e : cell_of x ≡ loaded l.words s) where
    here : (o : Option ℕ) → o ≡ element_place (cell_of x) k → element_place (cell_at h s) k ≡ o
    here o p = sym (p ∙ ap (λ (y : Cell). element_place y k) (e ∙ loaded_lent))

    pub element_refused : (v : Value) → none ≡ element_place (cell_of x) k → stored (refused wrong_cell) l ≡ store_element l h s k (value_of v)
    unfolding store_element
    element_refused v p = rw (store_element, here none p)

    module _ (at : ℕ) (p : some at ≡ element_place (cell_of x) k) where
      inside : at < length h.elements
      inside = omega (arith, block_within, place_within (cell_at h s) k at (sym (here (some at) p)))

      pub element_row : 3 * at + 3 ≤ length l.elems
      element_row = omega (arith, inside, elements_lent)

      pub element_written : (v : Value) (after : List ℕ) (ch : ElementChange) → ElementStored l.elems after at v ch → stored (accepted tt) (lists l.words l.map l.bytes after) ≡ store_element l h s k (value_of v)
      unfolding store_element layout_rules
      element_written v after ch w =
          let elems = store_element_on (rooms_of l).elements h l.elems (ap (λ (x : Lent). x.elems) again) at inside v after ch w in
          let words = ap (λ (x : Lent). x.words) again ∙ words_kept (rooms_of l).slots h at (value_of v) in
          ap (stored (accepted tt)) (λ j. lists (words j) (again j).map (again j).bytes (elems j))
          ∙ rw (store_element, here (some at) p)
