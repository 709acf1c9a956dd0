-- Two values of a sound heap: what they show in the lent words is what they show in the heap, and the texts in use are the lent
-- ones. Assumes nothing.
use mathlib.Core.Path.{◌≡◌, refl, sym, ap, ◌∙◌}
use mathlib.Core.Bool.{Bool, true, false}
use mathlib.Core.List.{List}
use Prim.Native.Nat.{ℕ, ◌+◌, ◌*◌, ◌≤◌, ◌<◌}
use native.Mathlib.Omega.{arith}
use borrow.Author.Tests.{ltb-true, leb-true}
use lib.Dec.{leb, ltb}
use lib.ListN.{length}
use Rattle.laws.specs.Basics.{either, every, same}
use Rattle.laws.proofs.Tests.{both_left}
use Rattle.laws.proofs.Pointwise.{every_all}
use Rattle.rules.specs.Map.{is_allocated}
use Rattle.rules.specs.Cells.{undefined, Value, slot, scalar, Block, Cell, plain, pair, symbol, string, vector}
use Rattle.rules.specs.Heap.{Heap, capacity, cell_at, in_use, shown, part_of, text_of}
use Rattle.rules.specs.Layout.{Lent, rooms_of, heap_of, lent_of, layout_rules}
use Rattle.rules.specs.Sound.{text_block, lies_in, blocks_sound, sound}
use Rattle.rules.specs.Equal.{eqv_cells, same_slot, eqv}
use Rattle.rules.specs.Calls.{value_in_use}
use Rattle.rules.proofs.SoundLaws.{clauses, bounds, lists_again}
use Rattle.leaf_cells.specs.Cells.{loaded}
use Rattle.leaf_cells.proofs.HeapLaws.{text_is}
use Rattle.leaf_cells.proofs.CallLaws.{load_on}
use Rattle.heap_sound_rows.proofs.HeapFacts.{cells_length, bytes_length}
use Rattle.heap_steps.specs.Places.{at, new, shape_of}
use Rattle.heap_eqv.specs.Eqv.{holding, Within, shown_in, Comparable}

-- ---- what a value shows

pub shape_at : (v : Value) (s : ℕ) → at s ≡ shape_of v → v ≡ slot s
shape_at (slot t) s e = let same : s ≡ t = cc in ap slot (sym same)
shape_at (scalar x) s e = absurd (let z : ◌≡◌ {A = ℕ} 0 1 = cc in omega arith)

pub shows_slot : (ws : List ℕ) (v : Value) (s : ℕ) (c : Cell) → at s ≡ shape_of v → c ≡ loaded ws s → c ≡ shown_in ws v
unfolding shown_in
shows_slot ws v s c e p = p ∙ sym (ap (shown_in ws) (shape_at v s e))

pub shows_scalar : (ws : List ℕ) (v : Value) (c : Cell) → new c ≡ shape_of v → c ≡ shown_in ws v
unfolding shown_in
shows_scalar ws (slot s) c e = absurd (let z : ◌≡◌ {A = ℕ} 0 1 = cc in omega arith)
shows_scalar ws (scalar x) c e = cc

-- ---- on sound lists

module _ (l : Lent) (ok : sound l ≡ true) where
  abbrev h : Heap
  h = heap_of l

  again : l ≡ lent_of (rooms_of l) h
  again = sym (lists_again l (clauses l ok))

  below : (s : ℕ) → in_use h s ≡ true → s < capacity h
  below s u = ltb-true s (capacity h) (both_left (ltb s (capacity h)) (is_allocated h.map s) u)

  lent_slots : capacity h ≤ (rooms_of l).slots
  unfolding layout_rules
  lent_slots = omega (arith, cells_length l, (bounds l (clauses l ok)).capacity)

  pub row_there : (v : Value) → value_in_use h v ≡ true → (s : ℕ) → v ≡ slot s → 8 * s + 16 ≤ length l.words
  unfolding value_in_use
  row_there v u s e =
      let b = below s (sym (ap (value_in_use h) e) ∙ u) in
      omega (arith, b, lent_slots, (bounds l (clauses l ok)).words)

  -- the words show what the heap shows
  pub shown_is : (v : Value) → value_in_use h v ≡ true → shown_in l.words v ≡ shown h v
  unfolding shown_in value_in_use layout_rules
  shown_is (slot s) u =
      load_on (rooms_of l).slots h l.words (ap (λ (x : Lent). x.words) again) s (omega (arith, below s u, lent_slots))
  shown_is (scalar x) u = refl

  -- a text that a value shows is in use
  pub text_used : (v : Value) → value_in_use h v ≡ true → Within (length h.bytes) (shown h v)
  unfolding value_in_use text_block lies_in blocks_sound
  text_used (slot s) u =
      record {
        ends =
            leb-true _ _
            (both_left (leb ((text_block (cell_at h s)).place + (text_block (cell_at h s)).size) (length h.bytes)) _
            (every_all (λ c. lies_in (length h.bytes) (text_block c)) (plain undefined) h.cells
            (both_left (every (λ c. lies_in (length h.bytes) (text_block c)) h.cells) _ (clauses l ok).texts) s (below s u)));
      }
  text_used (scalar x) u = record { ends = omega arith }

  room_used : length h.bytes ≤ length l.bytes
  unfolding layout_rules
  room_used = let room = (bounds l (clauses l ok)).bytes in omega (arith, bytes_length l room, room)

  pub text_there : (v : Value) → value_in_use h v ≡ true → (c : Cell) → c ≡ shown_in l.words v → Within (length l.bytes) c
  text_there v u c e =
      let w = (text_used v u).ends in
      let same : (text_block c).place + (text_block c).size ≡ (text_block (shown h v)).place + (text_block (shown h v)).size = ap (λ (x : Cell). (text_block x).place + (text_block x).size) (e ∙ shown_is v u) in
      record { ends = omega (arith, room_used) }

  text_lent : (b : Block) → b.place + b.size ≤ length h.bytes → part_of l.bytes b ≡ text_of h b
  unfolding layout_rules
  text_lent b fits = ap (λ (x : Lent). part_of x.bytes b) again ∙ text_is (length l.bytes) h b fits

  -- of the heap `eqv` looks at the texts alone
  pub cells_alike : (c d : Cell) → Within (length h.bytes) c → Within (length h.bytes) d → eqv_cells (holding l.bytes) c d ≡ eqv_cells h c d
  unfolding eqv_cells holding text_block
  cells_alike (plain s) d p q = refl
  cells_alike (pair a e) d p q = refl
  cells_alike (symbol b) d p q = refl
  cells_alike (string b) (plain t) p q = refl
  cells_alike (string b) (pair a e) p q = refl
  cells_alike (string b) (symbol c) p q = refl
  cells_alike (string b) (string c) p q = λ j. same (text_lent b p.ends j) (text_lent c q.ends j)
  cells_alike (string b) (vector c) p q = refl
  cells_alike (vector b) d p q = refl

module _ (l : Lent) (v w : Value) (k : Comparable l v w) where
  pub same_eqv : true ≡ same_slot v w → true ≡ eqv (heap_of l) v w
  unfolding eqv
  same_eqv e = ap (λ (b : Bool). either b (eqv_cells (heap_of l) (shown (heap_of l) v) (shown (heap_of l) w))) e

  pub cells_eqv : false ≡ same_slot v w → (c d : Cell) (r : Bool) → c ≡ shown_in l.words v → d ≡ shown_in l.words w → r ≡ eqv_cells (holding l.bytes) c d → r ≡ eqv (heap_of l) v w
  unfolding eqv
  cells_eqv e c d r p q is =
      is ∙ (λ j. eqv_cells (holding l.bytes) ((p ∙ shown_is l k.lists_sound v k.first) j) ((q ∙ shown_is l k.lists_sound w k.second) j))
      ∙ cells_alike l k.lists_sound (shown (heap_of l) v) (shown (heap_of l) w) (text_used l k.lists_sound v k.first) (text_used l k.lists_sound w k.second)
      ∙ ap (λ (b : Bool). either b (eqv_cells (heap_of l) (shown (heap_of l) v) (shown (heap_of l) w))) e
