-- The contents' clauses, as the functions answer them. Assumes nothing.
use mathlib.Core.Path.{◌≡◌, refl, sym, ap, ◌∙◌, subst}
use mathlib.Core.Bool.{true}
use mathlib.Core.List.{List}
use Prim.Native.Nat.{ℕ, ◌+◌, ◌≤◌, ◌<◌}
use native.Mathlib.Decide.{dec_lt}
use native.Mathlib.Omega.{arith}
use lib.Dec.{leb}
use lib.ListN.{length, get_or, take, drop}
use Rattle.laws.specs.Basics.{every, every_below, basics}
use Rattle.laws.proofs.Tests.{both_left, both_right, both_true, below_all, all_below}
use Rattle.laws.proofs.Pointwise.{every_all, all_every, get_d_part, length_part}
use Rattle.rules.specs.Utf8.{utf8, utf8_rules}
use Rattle.rules.specs.Cells.{undefined, Value, slot, scalar, Block, Cell, plain, pair, symbol, string, vector}
use Rattle.rules.specs.Heap.{Heap, cell_at, in_use, text_of, elements_of}
use Rattle.rules.specs.Layout.{Lent, heap_of}
use Rattle.rules.specs.Sound.{value_allowed, cell_allowed, cells_allowed, value_named, named_in_use, names_in_use, text_block, vector_block, blocks_sound, sound_rules}
use Rattle.heap_sound_rows.proofs.HeapFacts.{cells_length, elements_length, cell_is, element_at}
use Rattle.heap_sound_blocks.specs.Blocks.{shown, Apart}
use Rattle.heap_sound_blocks.proofs.BlockLaws.{shown_text, shown_vector, apart_sound, sound_apart}
use Rattle.heap_sound_cells.specs.Looked.{used_slot, plain_good, plain_at, value_at, named, text_good, vector_good}
use Rattle.heap_sound_cells.proofs.PlainLaws.{plain_is}
use Rattle.heap_sound.proofs.OutlineLaws.{Ground, in_use_is}

module _ (l : Lent) (g : Ground l) where
  abbrev ws : List ℕ
  ws = l.words

  abbrev cap : ℕ
  cap = get_or l.words 1 0

  abbrev h : Heap
  h = heap_of l

  -- ---- blocks

  pub texts_sound : Apart (shown ws 7 8) (length h.bytes) cap → blocks_sound (length h.bytes) text_block h ≡ true
  texts_sound a = apart_sound h cap (length h.bytes) (cells_length l) text_block (shown ws 7 8) (λ i k. shown_text l i k) a

  pub sound_texts : blocks_sound (length h.bytes) text_block h ≡ true → Apart (shown ws 7 8) (length h.bytes) cap
  sound_texts e = sound_apart h cap (length h.bytes) (cells_length l) text_block (shown ws 7 8) (λ i k. shown_text l i k) e

  pub vectors_sound : Apart (shown ws 10 10) (get_or ws 5 0) cap → blocks_sound (length h.elements) vector_block h ≡ true
  vectors_sound a =
      apart_sound h cap (length h.elements) (cells_length l) vector_block (shown ws 10 10) (λ i k. shown_vector l i k)
      (subst (λ (n : ℕ). Apart (shown ws 10 10) n cap) (sym (elements_length l)) a)

  pub sound_vectors : blocks_sound (length h.elements) vector_block h ≡ true → Apart (shown ws 10 10) (get_or ws 5 0) cap
  sound_vectors e =
      subst (λ (n : ℕ). Apart (shown ws 10 10) n cap) (elements_length l)
      (sound_apart h cap (length h.elements) (cells_length l) vector_block (shown ws 10 10) (λ i k. shown_vector l i k) e)

  -- ---- a cell

  text_at : (b : Block) → (0 < b.size → text_good h.bytes b ≡ true) → utf8 (text_of h b) ≡ true
  unfolding text_good utf8_rules
  text_at b p =
      elim (dec_lt 0 b.size) [
        | yes k ↦ p k
        | no k ↦ let z : b.size ≡ 0 = omega arith in ap (λ (n : ℕ). utf8 (take n (drop b.place h.bytes))) z
      ]

  cell_good : (c : Cell) → plain_good cap l.map c ≡ true → (0 < (text_block c).size → text_good h.bytes (text_block c) ≡ true) → cell_allowed h c ≡ true
  unfolding plain_good sound_rules
  cell_good (plain s) p t = p
  cell_good (pair a d) p t = refl
  cell_good (symbol b) p t = both_true p (text_at b t)
  cell_good (string b) p t = both_true p (text_at b t)
  cell_good (vector b) p t = p

  named_good : (c : Cell) → plain_good cap l.map c ≡ true → every (value_named h) (elements_of h (vector_block c)) ≡ true → named_in_use h c ≡ true
  unfolding plain_good sound_rules
  named_good (plain s) p t = refl
  named_good (pair a d) p t = both_true (in_use_is l g a ∙ both_left (used_slot cap l.map a) _ p) (in_use_is l g d ∙ both_right (used_slot cap l.map a) _ p)
  named_good (symbol b) p t = refl
  named_good (string b) p t = refl
  named_good (vector b) p t = t

  good_plain : (c : Cell) → cell_allowed h c ≡ true → named_in_use h c ≡ true → plain_good cap l.map c ≡ true
  unfolding plain_good sound_rules
  good_plain (plain s) p q = p
  good_plain (pair a d) p q = both_true (sym (in_use_is l g a) ∙ both_left (in_use h a) _ q) (sym (in_use_is l g d) ∙ both_right (in_use h a) _ q)
  good_plain (symbol b) p q = both_left (leb b.size 255) _ p
  good_plain (string b) p q = both_left (leb b.size 4096) _ p
  good_plain (vector b) p q = p

  good_text : (c : Cell) → cell_allowed h c ≡ true → 0 < (text_block c).size → text_good h.bytes (text_block c) ≡ true
  unfolding text_good sound_rules
  good_text (plain s) p k = absurd (omega arith)
  good_text (pair a d) p k = absurd (omega arith)
  good_text (symbol b) p k = both_right (leb b.size 255) _ p
  good_text (string b) p k = both_right (leb b.size 4096) _ p
  good_text (vector b) p k = absurd (omega arith)

  good_named : (c : Cell) → named_in_use h c ≡ true → 0 < (vector_block c).size → every (value_named h) (elements_of h (vector_block c)) ≡ true
  unfolding sound_rules
  good_named (plain s) p k = absurd (omega arith)
  good_named (pair a d) p k = absurd (omega arith)
  good_named (symbol b) p k = absurd (omega arith)
  good_named (string b) p k = absurd (omega arith)
  good_named (vector b) p k = p

  -- ---- a vector's elements

  value_is : (v : Value) → value_named h v ≡ named cap l.map v
  unfolding named sound_rules
  value_is (slot s) = in_use_is l g s
  value_is (scalar s) = refl

  module _ (b : Block) (in_room : b.place + b.size ≤ get_or ws 5 0) where
    part_size : length (elements_of h b) ≡ b.size
    part_size = length_part h.elements b.place b.size (omega (arith, elements_length l))

    value_in : (k : ℕ) → k < b.size → get_or (elements_of h b) k (scalar undefined) ≡ value_at l.elems (b.place + k)
    value_in k low = get_d_part h.elements b.place b.size k (scalar undefined) low ∙ element_at l (b.place + k) (omega arith)

    pub vector_told : vector_good l.elems l.map cap b ≡ true → every (value_named h) (elements_of h b) ≡ true
    unfolding vector_good
    vector_told e =
        all_every (value_named h) (scalar undefined) (elements_of h b)
        (λ k low.
        ap (value_named h) (value_in k (omega (arith, part_size))) ∙ value_is _ ∙ below_all _ b.size e k (omega (arith, part_size)))

    pub vector_back : every (value_named h) (elements_of h b) ≡ true → vector_good l.elems l.map cap b ≡ true
    unfolding vector_good
    vector_back e =
        all_below _ b.size
        (λ k low.
        sym (value_is (value_at l.elems (b.place + k))) ∙ ap (value_named h) (sym (value_in k low))
        ∙ every_all (value_named h) (scalar undefined) (elements_of h b) e k (omega (arith, part_size)))

  -- ---- all cells

  -- what the functions look at
  pub record Seen : Type 0 where
    pub plain : every_below cap (plain_at ws l.map cap) ≡ true
    pub values : every_below (get_or ws 5 0) (λ k. value_allowed (value_at l.elems k)) ≡ true
    pub texts : Apart (shown ws 7 8) (length h.bytes) cap
    pub utf8s : (i : ℕ) → i < cap → 0 < (shown ws 7 8 i).size → text_good h.bytes (shown ws 7 8 i) ≡ true
    pub vectors : Apart (shown ws 10 10) (get_or ws 5 0) cap
    pub names : (i : ℕ) → i < cap → 0 < (shown ws 10 10 i).size → vector_good l.elems l.map cap (shown ws 10 10 i) ≡ true

  plain_of : (i : ℕ) → i < cap → plain_at ws l.map cap i ≡ plain_good cap l.map (cell_at h i)
  plain_of i k = sym (plain_is ws l.map cap i) ∙ ap (plain_good cap l.map) (sym (cell_is l i k))

  pub seen_allowed : Seen → cells_allowed h ≡ true
  unfolding cells_allowed
  seen_allowed s =
      both_true
      (all_every (cell_allowed h) (plain undefined) h.cells
      (λ i k.
      let low : i < cap = omega (arith, cells_length l) in
      cell_good (cell_at h i) (sym (plain_of i low) ∙ below_all _ cap s.plain i low)
      (λ f.
      ap (text_good h.bytes) (sym (shown_text l i low))
      ∙ s.utf8s i low (subst (λ (b : Block). 0 < b.size) (sym (shown_text l i low)) f))))
      (all_every value_allowed (scalar undefined) h.elements
      (λ k j.
      let low : k < get_or ws 5 0 = omega (arith, elements_length l) in
      ap value_allowed (element_at l k low) ∙ below_all _ (get_or ws 5 0) s.values k low))

  vector_every : Seen → (i : ℕ) → i < cap → every (value_named h) (elements_of h (vector_block (cell_at h i))) ≡ true
  unfolding basics
  vector_every s i low =
      ap (λ (b : Block). every (value_named h) (elements_of h b)) (sym (shown_vector l i low))
      ∙ elim (dec_lt 0 (shown ws 10 10 i).size) as (λ _. every (value_named h) (elements_of h (shown ws 10 10 i)) ≡ true) [
        | yes f ↦
            vector_told (shown ws 10 10 i) (Rattle.heap_sound_cells.proofs.FirstLaws.apart_bound (shown ws 10 10) (get_or ws 5 0) cap i s.vectors low)
            (s.names i low f)
        | no f ↦
            let z : (shown ws 10 10 i).size ≡ 0 = omega arith in
            ap (λ (n : ℕ). every (value_named h) (take n (drop (shown ws 10 10 i).place h.elements))) z
      ]

  pub seen_named : Seen → names_in_use h ≡ true
  unfolding names_in_use
  seen_named s =
      all_every (named_in_use h) (plain undefined) h.cells
      (λ i k.
      let low : i < cap = omega (arith, cells_length l) in
      named_good (cell_at h i) (sym (plain_of i low) ∙ below_all _ cap s.plain i low) (vector_every s i low))

  pub sound_seen : cells_allowed h ≡ true → names_in_use h ≡ true → blocks_sound (length h.bytes) text_block h ≡ true
      → blocks_sound (length h.elements) vector_block h ≡ true → Seen
  unfolding cells_allowed names_in_use
  sound_seen a n t v =
      let cell : (i : ℕ) → i < cap → cell_allowed h (cell_at h i) ≡ true =
      λ i k. every_all (cell_allowed h) (plain undefined) h.cells (both_left (every (cell_allowed h) h.cells) _ a) i (omega (arith, cells_length l)) in
      let name : (i : ℕ) → i < cap → named_in_use h (cell_at h i) ≡ true =
      λ i k. every_all (named_in_use h) (plain undefined) h.cells n i (omega (arith, cells_length l)) in
      let apart = sound_vectors v in
      record {
        plain = all_below _ cap (λ i k. plain_of i k ∙ good_plain (cell_at h i) (cell i k) (name i k));
        values =
            all_below _ (get_or ws 5 0)
            (λ k j.
            ap value_allowed (sym (element_at l k j))
            ∙ every_all value_allowed (scalar undefined) h.elements (both_right (every (cell_allowed h) h.cells) _ a) k (omega (arith, elements_length l)));
        texts = sound_texts t;
        utf8s = λ i k f.
            ap (text_good h.bytes) (shown_text l i k) ∙ good_text (cell_at h i) (cell i k) (subst (λ (b : Block). 0 < b.size) (shown_text l i k) f);
        vectors = apart;
        names = λ i k f.
            vector_back (shown ws 10 10 i) (Rattle.heap_sound_cells.proofs.FirstLaws.apart_bound (shown ws 10 10) (get_or ws 5 0) cap i apart k)
            (ap (λ (b : Block). every (value_named h) (elements_of h b)) (shown_vector l i k)
            ∙ good_named (cell_at h i) (name i k) (subst (λ (b : Block). 0 < b.size) (shown_vector l i k) f));
      }
