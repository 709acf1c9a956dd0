-- Packing a heap whose blocks lie in their rooms and are the same or disjoint: every cell is as before but for the place of its
-- block, and the blocks lie in the new rooms and are the same or disjoint again. Document 01: "A collection keeps each block
-- that a surviving slot shows, once, packed by lowest such slot; sharing stays." Assumes nothing.
use mathlib.Core.Path.{◌≡◌, refl, sym, ap, ◌∙◌, subst}
use mathlib.Core.Bool.{Bool, true}
use mathlib.Core.List.{List, [], ◌∷◌, ◌++◌, map}
use Prim.Native.Nat.{ℕ, zero, suc, ◌+◌, ◌≤◌, ◌<◌}
use native.Mathlib.Omega.{arith}
use native.Mathlib.Decide.{dec_lt}
use lib.ListN.{length, get_or, take, length-map, get_or-eq_default}
use lib.Seq.{take-suc, take_all}
use Rattle.laws.specs.Basics.{every}
use Rattle.rules.specs.Cells.{undefined, Block, block, Cell, plain, pair, symbol, string, vector}
use Rattle.rules.specs.Heap.{Heap, capacity, cell_at, part_of}
use Rattle.rules.specs.Collect.{Packing, Packed, pack_block, moved_block, pack_cell, pack_cells, packed_cell, pack, collect_rules}
use Rattle.rules.specs.Sound.{text_block, vector_block, lies_in, sound_rules}
use Rattle.rules.proofs.Good.{apart}
use Rattle.collect_laws.specs.Packs.{none_packed, all_packed, texts_of, vectors_of}
use Rattle.collect_laws.specs.Kept.{AsBefore, same_scalar, same_pair, symbol_moved, string_moved, vector_moved}
use Rattle.collect_laws.proofs.Packings as packing
use Rattle.collect_laws.proofs.Placing as placing
use Rattle.collect_laws.proofs.Order as order

-- ---- the rules' packing of all cells, as packing slot after slot

pack_last : (h : Heap) (cs : List Cell) (c : Cell) (p : Packed) → pack_cells h (cs ++ (c ∷ [])) p ≡ pack_cell h c (pack_cells h cs p)
unfolding collect_rules
pack_last h [] c p = refl
pack_last h (x ∷ cs) c p = pack_last h cs c (pack_cell h x p)

pub text_packed : (h : Heap) (c : Cell) (p : Packed) → (pack_cell h c p).texts ≡ pack_block h.bytes (text_block c) p.texts
unfolding collect_rules sound_rules
text_packed h (plain s) p = refl
text_packed h (pair a d) p = refl
text_packed h (symbol b) p = refl
text_packed h (string b) p = refl
text_packed h (vector b) p = refl

pub vector_packed : (h : Heap) (c : Cell) (p : Packed) → (pack_cell h c p).vectors ≡ pack_block h.elements (vector_block c) p.vectors
unfolding collect_rules sound_rules
vector_packed h (plain s) p = refl
vector_packed h (pair a d) p = refl
vector_packed h (symbol b) p = refl
vector_packed h (string b) p = refl
vector_packed h (vector b) p = refl

pub cell_mapped : (f : Cell → Cell) (cs : List Cell) (s : ℕ) (d : Cell) → f d ≡ d → get_or (map f cs) s d ≡ f (get_or cs s d)
cell_mapped f [] s d e = sym e
cell_mapped f (c ∷ cs) zero d e = refl
cell_mapped f (c ∷ cs) (suc s) d e = cell_mapped f cs s d e

-- one arena: its room, the block that a cell shows there, and its part of a packing
module _ {A : Type 0} (h : Heap) (old : List A) (shows : Cell → Block) (nothing : shows (plain undefined) ≡ block 0 0) (pick : Packed → Packing A) (begins : pick none_packed ≡ record { room = []; moved = [] }) (turns : (c : Cell) (p : Packed) → pick (pack_cell h c p) ≡ pack_block old (shows c) (pick p)) where
  abbrev pub shown_at : ℕ → Block
  shown_at s = shows (cell_at h s)

  -- only slots below the capacity show a block
  few : (s : ℕ) → 0 < (shown_at s).size → s < capacity h
  few s l =
      elim (dec_lt s (capacity h)) [
        | yes k ↦ k
        | no k ↦
            let past : cell_at h s ≡ plain undefined = get_or-eq_default h.cells (plain undefined) (omega arith) in
            absurd (omega (arith, ap (λ (c : Cell). (shows c).size) past, ap (λ (b : Block). b.size) nothing))
      ]

  module _ (apart_all : (s t : ℕ) → apart (shown_at s) (shown_at t) ≡ true) (inside : (s : ℕ) → (shown_at s).place + (shown_at s).size ≤ length old) where
    abbrev packed : ℕ → Packing A
    packed s = packing.packed old shown_at apart_all inside s

    packed_first : (s : ℕ) → s ≤ capacity h → packed s ≡ pick (pack_cells h (take s h.cells) none_packed)
    unfolding packing.packed collect_rules
    packed_first zero l = sym begins
    packed_first (suc s) l =
        ap (pack_block old (shown_at s)) (packed_first s (omega arith))
        ∙ sym (turns (cell_at h s) (pack_cells h (take s h.cells) none_packed))
        ∙ ap pick (sym (pack_last h (take s h.cells) (cell_at h s) none_packed))
        ∙ ap (λ (cs : List Cell). pick (pack_cells h cs none_packed)) (sym (take-suc h.cells s (plain undefined) (omega arith)))

    pub packed_whole : packed (capacity h) ≡ pick (all_packed h)
    packed_whole =
        packed_first (capacity h) (omega arith)
        ∙ ap (λ (cs : List Cell). pick (pack_cells h cs none_packed)) (take_all (capacity h) h.cells (omega arith))

    -- a slot whose block stands at a place afterwards
    pub record ShownAt (p : Packing A) (j : ℕ) : Type 0 where
      pub slot : ℕ
      pub low : (moved_block (shown_at slot) p.moved).place ≤ j
      pub high : j < (moved_block (shown_at slot) p.moved).place + (moved_block (shown_at slot) p.moved).size

    -- where a slot's block stands afterwards
    pub record Moves (p : Packing A) : Type 0 where
      pub no_longer : length p.room ≤ length old
      pub empty : moved_block (block 0 0) p.moved ≡ block 0 0
      pub size : (s : ℕ) → (moved_block (shown_at s) p.moved).size ≡ (shown_at s).size
      pub part : (s : ℕ) → part_of p.room (moved_block (shown_at s) p.moved) ≡ part_of old (shown_at s)
      pub lies : (s : ℕ) → lies_in (length p.room) (moved_block (shown_at s) p.moved) ≡ true
      pub disjoint : (s t : ℕ) → apart (moved_block (shown_at s) p.moved) (moved_block (shown_at t) p.moved) ≡ true
      pub one : (s t : ℕ) → 0 < (shown_at s).size → 0 < (shown_at t).size → moved_block (shown_at s) p.moved ≡ moved_block (shown_at t) p.moved → shown_at s ≡ shown_at t
      pub covered : (j : ℕ) → j < length p.room → ShownAt p j
      pub in_order : (s t : ℕ) → s < t → 0 < (shown_at s).size → 0 < (shown_at t).size → ((r : ℕ) → r < t → shown_at r ≡ shown_at t → ⊥) → (moved_block (shown_at s) p.moved).place + (moved_block (shown_at s) p.moved).size ≤ (moved_block (shown_at t) p.moved).place
      pub every_element : (f : A → Bool) → every f old ≡ true → every f p.room ≡ true

    pub moves : Moves (pick (all_packed h))
    moves =
        subst Moves packed_whole
        (record {
          no_longer = packing.room_small old shown_at apart_all inside (capacity h);
          empty = placing.to_none old shown_at apart_all inside (capacity h) few (block 0 0) refl;
          size = placing.to_size old shown_at apart_all inside (capacity h) few;
          part = placing.to_part old shown_at apart_all inside (capacity h) few;
          lies = placing.to_lies old shown_at apart_all inside (capacity h) few;
          disjoint = placing.to_apart old shown_at apart_all inside (capacity h) few;
          one = placing.to_one old shown_at apart_all inside (capacity h) few;
          covered = λ j l. let x = order.shown_at old shown_at apart_all inside (capacity h) few j l in record { slot = x.slot; low = x.low; high = x.high };
          in_order = order.in_order old shown_at apart_all inside (capacity h) few;
          every_element = λ f e. placing.room_every old shown_at apart_all inside f e (capacity h);
        })

-- ---- both arenas

-- the blocks of a heap: in the room in use, and the same or disjoint
pub record BlocksSound (h : Heap) : Type 0 where
  pub texts : (s t : ℕ) → apart (text_block (cell_at h s)) (text_block (cell_at h t)) ≡ true
  pub texts_in : (s : ℕ) → (text_block (cell_at h s)).place + (text_block (cell_at h s)).size ≤ length h.bytes
  pub vectors : (s t : ℕ) → apart (vector_block (cell_at h s)) (vector_block (cell_at h t)) ≡ true
  pub vectors_in : (s : ℕ) → (vector_block (cell_at h s)).place + (vector_block (cell_at h s)).size ≤ length h.elements

pub no_text : text_block (plain undefined) ≡ block 0 0
unfolding text_block
no_text = refl

pub no_vector : vector_block (plain undefined) ≡ block 0 0
unfolding vector_block
no_vector = refl

module _ (h : Heap) (g : BlocksSound h) where
  abbrev TextsMoved : Type 0
  TextsMoved = Moves h h.bytes text_block no_text (λ p. p.texts) refl (text_packed h) g.texts g.texts_in (texts_of h)

  abbrev VectorsMoved : Type 0
  VectorsMoved = Moves h h.elements vector_block no_vector (λ p. p.vectors) refl (vector_packed h) g.vectors g.vectors_in (vectors_of h)

  pub texts_moved : TextsMoved
  texts_moved = moves h h.bytes text_block no_text (λ p. p.texts) refl (text_packed h) g.texts g.texts_in

  pub vectors_moved : VectorsMoved
  vectors_moved = moves h h.elements vector_block no_vector (λ p. p.vectors) refl (vector_packed h) g.vectors g.vectors_in

  pub cell_packed : (s : ℕ) → cell_at (pack h) s ≡ packed_cell (all_packed h) (cell_at h s)
  unfolding collect_rules
  cell_packed s = cell_mapped (packed_cell (all_packed h)) h.cells s (plain undefined) refl

  pub pack_capacity : capacity (pack h) ≡ capacity h
  unfolding collect_rules
  pack_capacity = length-map h.cells (packed_cell (all_packed h))

  text_goes : (c : Cell) → text_block (packed_cell (all_packed h) c) ≡ moved_block (text_block c) (texts_of h).moved
  unfolding packed_cell sound_rules
  text_goes (plain x) = sym texts_moved.empty
  text_goes (pair a d) = sym texts_moved.empty
  text_goes (symbol b) = refl
  text_goes (string b) = refl
  text_goes (vector b) = sym texts_moved.empty

  vector_goes : (c : Cell) → vector_block (packed_cell (all_packed h) c) ≡ moved_block (vector_block c) (vectors_of h).moved
  unfolding packed_cell sound_rules
  vector_goes (plain x) = sym vectors_moved.empty
  vector_goes (pair a d) = sym vectors_moved.empty
  vector_goes (symbol b) = sym vectors_moved.empty
  vector_goes (string b) = sym vectors_moved.empty
  vector_goes (vector b) = refl

  -- the block that a slot shows afterwards
  pub text_at : (s : ℕ) → text_block (cell_at (pack h) s) ≡ moved_block (text_block (cell_at h s)) (texts_of h).moved
  text_at s = ap text_block (cell_packed s) ∙ text_goes (cell_at h s)

  pub vector_at : (s : ℕ) → vector_block (cell_at (pack h) s) ≡ moved_block (vector_block (cell_at h s)) (vectors_of h).moved
  vector_at s = ap vector_block (cell_packed s) ∙ vector_goes (cell_at h s)

  moved_as_before : (c : Cell) → (moved_block (text_block c) (texts_of h).moved).size ≡ (text_block c).size → part_of (texts_of h).room (moved_block (text_block c) (texts_of h).moved) ≡ part_of h.bytes (text_block c) → (moved_block (vector_block c) (vectors_of h).moved).size ≡ (vector_block c).size → part_of (vectors_of h).room (moved_block (vector_block c) (vectors_of h).moved) ≡ part_of h.elements (vector_block c) → AsBefore h (pack h) c (packed_cell (all_packed h) c)
  unfolding collect_rules sound_rules
  moved_as_before (plain x) m t n v = same_scalar x
  moved_as_before (pair a d) m t n v = same_pair a d
  moved_as_before (symbol b) m t n v = symbol_moved b (moved_block b (texts_of h).moved) m t
  moved_as_before (string b) m t n v = string_moved b (moved_block b (texts_of h).moved) m t
  moved_as_before (vector b) m t n v = vector_moved b (moved_block b (vectors_of h).moved) n v

  pub packed_as_before : (s : ℕ) → AsBefore h (pack h) (cell_at h s) (cell_at (pack h) s)
  packed_as_before s =
      subst (AsBefore h (pack h) (cell_at h s)) (sym (cell_packed s))
      (moved_as_before (cell_at h s) (texts_moved.size s) (texts_moved.part s) (vectors_moved.size s) (vectors_moved.part s))

  pub packed_texts_in : (s : ℕ) → lies_in (length (pack h).bytes) (text_block (cell_at (pack h) s)) ≡ true
  unfolding pack
  packed_texts_in s = ap (lies_in (length (texts_of h).room)) (text_at s) ∙ texts_moved.lies s

  pub packed_vectors_in : (s : ℕ) → lies_in (length (pack h).elements) (vector_block (cell_at (pack h) s)) ≡ true
  unfolding pack
  packed_vectors_in s = ap (lies_in (length (vectors_of h).room)) (vector_at s) ∙ vectors_moved.lies s

  pub packed_texts : (s t : ℕ) → apart (text_block (cell_at (pack h) s)) (text_block (cell_at (pack h) t)) ≡ true
  packed_texts s t = (λ i. apart (text_at s i) (text_at t i)) ∙ texts_moved.disjoint s t

  pub packed_vectors : (s t : ℕ) → apart (vector_block (cell_at (pack h) s)) (vector_block (cell_at (pack h) t)) ≡ true
  packed_vectors s t = (λ i. apart (vector_at s i) (vector_at t i)) ∙ vectors_moved.disjoint s t
