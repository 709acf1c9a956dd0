-- The free list's steps on the lent words are the rules' steps on the heap: push, grow and pop. Assumes nothing.
use mathlib.Core.Path.{◌≡◌, refl, sym, ap, ◌∙◌}
use mathlib.Core.List.{List, [], ◌∷◌, ◌++◌, reverse, reverse-cons, append_assoc}
use Prim.Native.Nat.{ℕ, zero, suc, ◌+◌, ◌-◌, ◌*◌, ◌≤◌, ◌<◌}
use native.Mathlib.Omega.{arith}
use native.Mathlib.Decide.{ℕ_discrete}
use lib.ListN.{length, get_or, set, replicate, length-append, length-reverse, length-replicate, get_or-eq_default}
use lib.Seq.{get_or-append_seam}
use Rattle.laws.specs.Basics.{rising, basics}
use Rattle.rules.specs.Cells.{Cell, plain, undefined}
use Rattle.rules.specs.Heap.{Heap, capacity, cell_at, grown, grow}
use Rattle.rules.specs.Layout.{header_words, words_of, cell_words, entry_at, layout_rules}
use Rattle.rules.proofs.LentLaws.{cell_width, column_word}
use Rattle.leaf_free.specs.FreeList.{chunk_of, capacity_of, count_of, goal_of, place, pushed, joined, grown_words, popped, top}
use Rattle.leaf_free.proofs.Written.{Written, heads_of, rows_of, written, written_again, head_stored, row_stored, rows_renamed}

-- the heap with another free list
abbrev pub with_free : Heap → List ℕ → Heap
with_free h l =
    record {
      chunk = h.chunk;
      cells = h.cells;
      map = h.map;
      free = l;
      table = h.table;
      bytes = h.bytes;
      elements = h.elements;
    }

-- ---- what a heap's words say

module _ (slots : ℕ) (h : Heap) where
  pub chunk_word : chunk_of (words_of slots h) ≡ h.chunk
  unfolding layout_rules
  chunk_word = (written slots h).heads 0 (omega arith)

  pub capacity_word : capacity_of (words_of slots h) ≡ capacity h
  unfolding layout_rules
  capacity_word = (written slots h).heads 1 (omega arith)

  pub count_word : count_of (words_of slots h) ≡ length h.free
  unfolding layout_rules
  count_word = (written slots h).heads 2 (omega arith)

  pub place_word : (i : ℕ) → i < slots → get_or (words_of slots h) (place i) 0 ≡ get_or (reverse h.free) i 0
  place_word i small =
      let e : place i ≡ 8 + 8 * i + 4 = omega arith in
      ap (λ (n : ℕ). get_or (words_of slots h) n 0) e ∙ (written slots h).rows i 4 small (omega arith) ∙ column_word slots h i 1

-- ---- what another free list changes

-- only the word after `a` and one more
other_word : (a : List ℕ) (u x y : ℕ) (r : List ℕ) (l : ℕ) → (l ≡ length a + 1 → ⊥) → get_or (a ++ (u ∷ x ∷ r)) l 0 ≡ get_or (a ++ (u ∷ y ∷ r)) l 0
other_word [] u x y r zero d = refl
other_word [] u x y r (suc zero) d = absurd (d refl)
other_word [] u x y r (suc (suc l)) d = refl
other_word (b ∷ a) u x y r zero d = refl
other_word (b ∷ a) u x y r (suc l) d = other_word a u x y r l (λ e. d (omega arith))

module _ (h : Heap) (l : List ℕ) where
  other_heads : (k : ℕ) → (k ≡ 2 → ⊥) → heads_of (with_free h l) k ≡ heads_of h k
  unfolding layout_rules
  other_heads zero d = refl
  other_heads (suc zero) d = refl
  other_heads (suc (suc zero)) d = absurd (d refl)
  other_heads (suc (suc (suc k))) d = refl

  other_columns : (i k : ℕ) → (k ≡ 4 → ⊥) → rows_of (with_free h l) i k ≡ rows_of h i k
  unfolding layout_rules
  other_columns i k d = other_word (cell_words (cell_at h i)) 0 _ _ _ k (λ e. d (omega (arith, cell_width (cell_at h i))))

  -- one place changes
  other_rows : (c : ℕ) → ((i : ℕ) → (i ≡ c → ⊥) → get_or (reverse l) i 0 ≡ get_or (reverse h.free) i 0) → (i k : ℕ) → k < 8 → (i ≡ c → k ≡ 4 → ⊥) → rows_of (with_free h l) i k ≡ rows_of h i k
  other_rows c same i k low d =
      elim (ℕ_discrete k 4) [
        | no n ↦ other_columns i k n
        | yes e ↦
            ap (λ (n : ℕ). rows_of (with_free h l) i n) e ∙ column_word 0 (with_free h l) i 1 ∙ same i (λ p. d p e)
            ∙ sym (column_word 0 h i 1) ∙ ap (λ (n : ℕ). rows_of h i n) (sym e)
      ]

-- the last of a list
other_last : (l : List ℕ) (s i : ℕ) → (i ≡ length l → ⊥) → get_or (l ++ (s ∷ [])) i 0 ≡ get_or l i 0
other_last [] s zero d = absurd (d refl)
other_last [] s (suc i) d = refl
other_last (x ∷ l) s zero d = refl
other_last (x ∷ l) s (suc i) d = other_last l s i (λ e. d (ap suc e))

-- the places of a list with s on top
top_place : (s : ℕ) (l : List ℕ) → get_or (reverse (s ∷ l)) (length l) 0 ≡ s
top_place s l =
    ap (λ (m : List ℕ). get_or m (length l) 0) (reverse-cons s l)
    ∙ ap (λ (n : ℕ). get_or (reverse l ++ (s ∷ [])) n 0) (sym (length-reverse l)) ∙ get_or-append_seam (reverse l) s [] 0

lower_places : (s : ℕ) (l : List ℕ) (i : ℕ) → (i ≡ length l → ⊥) → get_or (reverse (s ∷ l)) i 0 ≡ get_or (reverse l) i 0
lower_places s l i d =
    ap (λ (m : List ℕ). get_or m i 0) (reverse-cons s l)
    ∙ other_last (reverse l) s i (λ e. d (e ∙ length-reverse l))

no_place : (l : List ℕ) → get_or (reverse l) (length l) 0 ≡ 0
no_place l = get_or-eq_default (reverse l) 0 (omega (arith, length-reverse l))

-- ---- push

pub push_words : (slots : ℕ) (h : Heap) (s : ℕ) → length h.free < slots → pushed (words_of slots h) s ≡ words_of slots (with_free h (s ∷ h.free))
unfolding pushed header_words
push_words slots h s room =
    let c = length h.free in
    let h' = with_free h (s ∷ h.free) in
    let e : place c ≡ 8 + 8 * c + 4 = omega arith in
    let up : c + 1 ≡ suc c = omega arith in
    let stored : Written slots (heads_of h) (rows_of h') (set (words_of slots h) (8 + 8 * c + 4) s) =
    row_stored (written slots h) c 4 s room (omega arith) (rows_of h') (column_word 0 h' c 1 ∙ top_place s h.free)
    (other_rows h (s ∷ h.free) c (lower_places s h.free))
    in
    (λ i. set (set (words_of slots h) (place (count_word slots h i)) s) 2 (count_word slots h i + 1))
    ∙ (λ i. set (set (words_of slots h) (e i) s) 2 (up i))
    ∙ written_again slots h' _ (head_stored stored 2 (suc c) (omega arith) (heads_of h') refl (other_heads h (s ∷ h.free)))

-- ---- growth

-- n slots more, which hold Undefined
abbrev more_slots : Heap → ℕ → Heap
more_slots h n =
    record {
      chunk = h.chunk;
      cells = h.cells ++ replicate n (plain undefined);
      map = h.map;
      free = h.free;
      table = h.table;
      bytes = h.bytes;
      elements = h.elements;
    }

pub same_cells : (n : ℕ) (l : List Cell) (i : ℕ) → get_or (l ++ replicate n (plain undefined)) i (plain undefined) ≡ get_or l i (plain undefined)
same_cells zero [] i = refl
same_cells (suc n) [] zero = refl
same_cells (suc n) [] (suc i) = same_cells n [] i
same_cells n (x ∷ l) zero = refl
same_cells n (x ∷ l) (suc i) = same_cells n l i

more_capacity : (h : Heap) (n : ℕ) → capacity (more_slots h n) ≡ capacity h + n
more_capacity h n = length-append h.cells _ ∙ ap (λ (m : ℕ). capacity h + m) (length-replicate n (plain undefined))

module _ (h : Heap) (n : ℕ) where
  capacity_heads : (k : ℕ) → (k ≡ 1 → ⊥) → heads_of (more_slots h n) k ≡ heads_of h k
  unfolding layout_rules
  capacity_heads zero d = refl
  capacity_heads (suc zero) d = absurd (d refl)
  capacity_heads (suc (suc k)) d = refl

  capacity_rows : (i k : ℕ) → rows_of (more_slots h n) i k ≡ rows_of h i k
  unfolding layout_rules
  capacity_rows i k =
      ap
      (λ (c : Cell). get_or (cell_words c ++ (0 ∷ get_or (reverse h.free) i 0 ∷ (entry_at h i).slot ∷ (entry_at h i).scope ∷ 0 ∷ [])) k 0)
      (same_cells n h.cells i)

  capacity_stored : (slots goal : ℕ) → goal ≡ capacity h + n → set (words_of slots h) 1 goal ≡ words_of slots (more_slots h n)
  unfolding header_words
  capacity_stored slots goal e =
      written_again slots (more_slots h n) _
      (rows_renamed
      (head_stored (written slots h) 1 goal (omega arith) (heads_of (more_slots h n)) (more_capacity h n ∙ sym e) capacity_heads)
      (rows_of (more_slots h n)) capacity_rows)

joined_words : (n slots : ℕ) (h : Heap) (a : ℕ) → length h.free + n ≤ slots → joined (words_of slots h) a n ≡ words_of slots (with_free h (reverse (rising a n) ++ h.free))
unfolding joined basics
joined_words zero slots h a room = refl
joined_words (suc n) slots h a room =
    (λ i. joined (push_words slots h a (omega arith) i) (suc a) n)
    ∙ joined_words n slots (with_free h (a ∷ h.free)) (suc a) (omega arith)
    ∙ ap (λ (l : List ℕ). words_of slots (with_free h l))
    (sym (append_assoc (reverse (rising (suc a) n)) (a ∷ []) h.free)
    ∙ ap (λ (l : List ℕ). l ++ h.free) (sym (reverse-cons a (rising (suc a) n))))

-- the heap's size after growth
abbrev pub goal : Heap → ℕ
goal h = grown h.chunk (capacity h)

pub goal_word : (slots : ℕ) (h : Heap) → goal_of (words_of slots h) ≡ goal h
goal_word slots h = λ i. grown (chunk_word slots h i) (capacity_word slots h i)

pub grow_words : (slots : ℕ) (h : Heap) → capacity h ≤ goal h → length h.free + (goal h - capacity h) ≤ slots → grown_words (words_of slots h) ≡ words_of slots (grow h)
unfolding grown_words grow layout_rules
grow_words slots h up room =
    let n = goal h - capacity h in
    (λ i. joined (set (words_of slots h) 1 (goal_word slots h i)) (capacity_word slots h i) (goal_word slots h i - capacity_word slots h i))
    ∙ (λ i. joined (capacity_stored h n slots (goal h) (omega arith) i) (capacity h) n)
    ∙ joined_words n slots (more_slots h n) (capacity h) room

-- ---- pop

module _ (slots : ℕ) (h : Heap) (s : ℕ) (rest : List ℕ) (is : h.free ≡ s ∷ rest) (room : length h.free ≤ slots) where
  one_less : count_of (words_of slots h) - 1 ≡ length rest
  one_less = omega (arith, count_word slots h, ap length is)

  rest_fits : length rest < slots
  rest_fits = omega (arith, ap length is)

  pub top_word : top (words_of slots h) ≡ s
  top_word =
      ap (λ (n : ℕ). get_or (words_of slots h) (place n) 0) one_less ∙ place_word slots h (length rest) rest_fits
      ∙ ap (λ (l : List ℕ). get_or (reverse l) (length rest) 0) is ∙ top_place s rest

  pub pop_words : popped (words_of slots h) ≡ words_of slots (with_free h rest)
  unfolding popped header_words
  pop_words =
      let c = length rest in
      let h' = with_free h rest in
      let e : place c ≡ 8 + 8 * c + 4 = omega arith in
      let stored : Written slots (heads_of h) (rows_of h') (set (words_of slots h) (8 + 8 * c + 4) 0) =
      row_stored (written slots h) c 4 0 rest_fits (omega arith) (rows_of h') (column_word 0 h' c 1 ∙ no_place rest)
      (other_rows h rest c
      (λ i d. sym (lower_places s rest i d) ∙ ap (λ (l : List ℕ). get_or (reverse l) i 0) (sym is)))
      in
      (λ i. set (set (words_of slots h) (place (one_less i)) 0) 2 (one_less i))
      ∙ (λ i. set (set (words_of slots h) (e i) 0) 2 c)
      ∙ written_again slots h' _ (head_stored stored 2 c (omega arith) (heads_of h') refl (other_heads h rest))
