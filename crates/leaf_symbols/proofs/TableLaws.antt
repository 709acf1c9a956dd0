-- What the leaf does to the lists is what the rules do to the heap that stands in them: names, finding, a new entry, and
-- entries that leave, for lists that are written by rules' Layout. Assumes nothing.
use mathlib.Core.Path.{◌≡◌, refl, sym, ap, ◌∙◌}
use mathlib.Core.Bool.{Bool}
use mathlib.Core.List.{List, [], ◌∷◌, ◌++◌, map, reverse}
use Prim.Native.Nat.{ℕ, zero, suc, ◌+◌, ◌-◌, ◌*◌, ◌≤◌, ◌<◌}
use native.Mathlib.Omega.{arith}
use native.Mathlib.Decide.{ℕ_discrete, dec_lt}
use borrow.Author.Tests.{eq-eqb, ne_eqb, lt-ltb, le-ltb}
use lib.Dec.{eqb, ltb}
use lib.ListN.{length, get_or, set, take, replicate, length-append, get_or-eq_default, get_or-replicate}
use lib.Seq.{get_or-append_seam}
use Rattle.laws.specs.Basics.{choose, both, find, keep, same, rising}
use Rattle.laws.proofs.Lists.{told_again}
use Rattle.laws.proofs.Finding.{find_same, keep_same, keep_most}
use Rattle.rules.specs.Map.{is_allocated, Allocated}
use Rattle.rules.specs.Heap.{Heap, Entry, cell_at, name_at, found, with_entry}
use Rattle.rules.specs.Collect.{drop_entries}
use Rattle.rules.specs.Layout.{cell_words, entry_at, words_of, filled, layout_rules}
use Rattle.rules.proofs.LentLaws.{cell_width, column_word, take-filled, filled_length, words_length}
use Rattle.rules.proofs.TwoBits.{state_behind}
use Rattle.leaf_cells.proofs.HeapLaws.{loaded_is}
use Rattle.leaf_free.proofs.Written.{Written, heads_of, rows_of, written, written_again, head_stored, row_stored, rows_renamed}
use Rattle.leaf_symbols.specs.Table.{count_of, bytes_used, cell_name, name_of, entry, entry_in, entries_from, entries, Tabled, is_entry, slot_of, found_in, stored_entry, stored_entries, added, kept_entries, cleared, dropped}

-- what stands where there is no entry
abbrev no_entry : Entry
no_entry = entry 0 0

-- ---- what a heap's words say

module _ (n : ℕ) (h : Heap) where
  pub count_word : count_of (words_of n h) ≡ length h.table
  unfolding layout_rules
  count_word = (written n h).heads 3 (omega arith)

  pub bytes_word : bytes_used (words_of n h) ≡ length h.bytes
  unfolding layout_rules
  bytes_word = (written n h).heads 4 (omega arith)

  pub entry_word : (i : ℕ) → i < n → entry_in (words_of n h) i ≡ entry_at h i
  entry_word i small = λ j.
      entry (((written n h).rows i 5 small (omega arith) ∙ column_word n h i 2) j)
      (((written n h).rows i 6 small (omega arith) ∙ column_word n h i 3) j)

  -- a row for one entry more, and rows for those there are
  pub row_left : length h.table < n → 8 * count_of (words_of n h) + 16 ≤ length (words_of n h)
  row_left room = omega (arith, count_word, words_length n h)

  pub rows_there : length h.table ≤ n → 8 * count_of (words_of n h) + 8 ≤ length (words_of n h)
  rows_there room = omega (arith, count_word, words_length n h)

  -- the entries in the words are the table
  pub entries_are : length h.table ≤ n → entries (words_of n h) ≡ h.table
  unfolding entries entries_from entry_at
  entries_are fits =
      ap (λ (m : ℕ). map (entry_in (words_of n h)) (rising 0 m)) count_word
      ∙ told_again no_entry (entry_in (words_of n h)) h.table (λ i small. entry_word i (omega arith))

-- ---- names

cell_named : (h : Heap) (s : ℕ) → cell_name h.bytes (cell_at h s) ≡ name_at h s
unfolding cell_name name_at
cell_named h s = refl

-- the name that the words say is the heap's
pub name_is : (n room : ℕ) (h : Heap) (s : ℕ) → s < n → name_of (words_of n h) (filled room h.bytes) s ≡ name_at h s
unfolding name_of
name_is n room h s small =
    (λ j. cell_name (take (bytes_word n h j) (filled room h.bytes)) (loaded_is n h s small j))
    ∙ ap (λ (l : List ℕ). cell_name l (cell_at h s)) (take-filled room (length h.bytes) h.bytes refl)
    ∙ cell_named h s

-- ---- finding

-- the table is within the lent slots, and so are its entries' slots
pub record TableFits (n : ℕ) (h : Heap) : Type 0 where
  pub rows : length h.table ≤ n
  pub slots : (i : ℕ) → i < length h.table → (entry_at h i).slot < n

-- what finding asks of the words and bytes
pub tabled : (n : ℕ) (h : Heap) → TableFits n h → Tabled (words_of n h)
tabled n h fits =
    let size = words_length n h in
    let many = count_word n h in
    let rows = fits.rows in
    record {
      header = omega arith;
      rows = omega arith;
      slots = λ i small.
          let inside : i < length h.table = omega arith in
          omega (arith, fits.slots i inside, ap (λ (e : Entry). e.slot) (entry_word n h i (omega arith)));
    }

pub bytes_within : (n room : ℕ) (h : Heap) → length h.bytes ≤ room → bytes_used (words_of n h) ≤ length (filled room h.bytes)
bytes_within n room h small = omega (arith, bytes_word n h, filled_length room h.bytes small)

-- the slot that is found is that of the entry found in the heap
pub found_is : (n room : ℕ) (h : Heap) → TableFits n h → (name : List ℕ) (scope : ℕ) → found_in (words_of n h) (filled room h.bytes) name scope ≡ slot_of (found h name scope)
unfolding found_in found is_entry entry_at
found_is n room h fits name scope =
    let ws = words_of n h in
    let bytes = filled room h.bytes in
    ap (λ (l : List Entry). slot_of (find (is_entry ws bytes name scope) l)) (entries_are n h fits.rows)
    ∙ ap slot_of
    (find_same no_entry (is_entry ws bytes name scope)
    (λ (e : Entry). both (eqb e.scope scope) (same (name_at h e.slot) name)) h.table
    (λ i small.
    ap (λ (l : List ℕ). both (eqb (entry_at h i).scope scope) (same l name)) (name_is n room h (entry_at h i).slot (fits.slots i small))))

-- ---- rows with other entries

-- word k of row i, with the entry that T has for each row
row_told : Heap → (ℕ → Entry) → ℕ → ℕ → ℕ
row_told h T i k = get_or (cell_words (cell_at h i) ++ (0 ∷ get_or (reverse h.free) i 0 ∷ (T i).slot ∷ (T i).scope ∷ 0 ∷ [])) k 0

-- only the words after `a` and two more, and three more
other_two : (a : List ℕ) (u v x y x' y' : ℕ) (r : List ℕ) (l : ℕ) → (l ≡ length a + 2 → ⊥) → (l ≡ length a + 3 → ⊥) → get_or (a ++ (u ∷ v ∷ x ∷ y ∷ r)) l 0 ≡ get_or (a ++ (u ∷ v ∷ x' ∷ y' ∷ r)) l 0
other_two [] u v x y x' y' r zero d e = refl
other_two [] u v x y x' y' r (suc zero) d e = refl
other_two [] u v x y x' y' r (suc (suc zero)) d e = absurd (d refl)
other_two [] u v x y x' y' r (suc (suc (suc zero))) d e = absurd (e refl)
other_two [] u v x y x' y' r (suc (suc (suc (suc l)))) d e = refl
other_two (b ∷ a) u v x y x' y' r zero d e = refl
other_two (b ∷ a) u v x y x' y' r (suc l) d e = other_two a u v x y x' y' r l (λ p. d (omega arith)) (λ p. e (omega arith))

module _ (h : Heap) where
  -- the heap with another table
  with_table : List Entry → Heap
  with_table t =
      record {
        chunk = h.chunk;
        cells = h.cells;
        map = h.map;
        free = h.free;
        table = t;
        bytes = h.bytes;
        elements = h.elements;
      }

  told_column : (T : ℕ → Entry) (i k : ℕ) → row_told h T i (3 + k) ≡ get_or (0 ∷ get_or (reverse h.free) i 0 ∷ (T i).slot ∷ (T i).scope ∷ 0 ∷ []) k 0
  unfolding row_told
  told_column T i k =
      ap (λ (m : ℕ). row_told h T i (m + k)) (sym (cell_width (cell_at h i)))
      ∙ lib.Seq.get_or-append-add (cell_words (cell_at h i)) _ k 0

  other_told : (T' T : ℕ → Entry) (i k : ℕ) → (k ≡ 5 → (T' i).slot ≡ (T i).slot) → (k ≡ 6 → (T' i).scope ≡ (T i).scope) → row_told h T' i k ≡ row_told h T i k
  unfolding row_told
  other_told T' T i k p q =
      elim (ℕ_discrete k 5) [
        | yes e ↦ ap (row_told h T' i) e ∙ told_column T' i 2 ∙ p e ∙ sym (told_column T i 2) ∙ ap (row_told h T i) (sym e)
        | no d ↦
            elim (ℕ_discrete k 6) [
              | yes e ↦ ap (row_told h T' i) e ∙ told_column T' i 3 ∙ q e ∙ sym (told_column T i 3) ∙ ap (row_told h T i) (sym e)
              | no f ↦
                  other_two (cell_words (cell_at h i)) _ _ _ _ _ _ _ k
                  (λ e. d (omega (arith, cell_width (cell_at h i))))
                  (λ e. f (omega (arith, cell_width (cell_at h i))))
            ]
      ]

  module _ {n : ℕ} {H : ℕ → ℕ} where
    -- a stored entry
    entry_stored : {T : ℕ → Entry} {ws : List ℕ} → Written n H (row_told h T) ws → (i : ℕ) (e : Entry) → i < n → (T' : ℕ → Entry) → T' i ≡ e → ((j : ℕ) → (j ≡ i → ⊥) → T' j ≡ T j) → Written n H (row_told h T') (stored_entry ws i e)
    unfolding stored_entry
    entry_stored {T} w i e small T' here others =
        let T₁ : ℕ → Entry = λ j. entry (T' j).slot (T j).scope in
        row_stored
        (row_stored w i 5 e.slot small (omega arith) (row_told h T₁) (told_column T₁ i 2 ∙ ap (λ (x : Entry). x.slot) here)
        (λ j l low off. other_told T₁ T j l (λ p. ap (λ (x : Entry). x.slot) (others j (λ q. off q p))) (λ p. refl)))
        i 6 e.scope small (omega arith) (row_told h T') (told_column T' i 3 ∙ ap (λ (x : Entry). x.scope) here)
        (λ j l low off. other_told T' T₁ j l (λ p. refl) (λ p. ap (λ (x : Entry). x.scope) (others j (λ q. off q p))))

    -- stored entries
    entries_stored : (es : List Entry) {T : ℕ → Entry} {ws : List ℕ} → Written n H (row_told h T) ws → (a : ℕ) → a + length es ≤ n → (T' : ℕ → Entry) → ((k : ℕ) → k < length es → T' (a + k) ≡ get_or es k no_entry) → ((j : ℕ) → (a ≤ j → a + length es ≤ j) → T' j ≡ T j) → Written n H (row_told h T') (stored_entries ws a es)
    unfolding stored_entries
    entries_stored [] {T} w a fits T' here others =
        rows_renamed w (row_told h T')
        (λ i k.
        let e = others i (λ p. omega arith) in
        other_told T' T i k (λ p. ap (λ (x : Entry). x.slot) e) (λ p. ap (λ (x : Entry). x.scope) e))
    entries_stored (e ∷ es) {T} w a fits T' here others =
        let T₁ : ℕ → Entry = λ j. choose (eqb j a) e (T j) in
        let first : T' a ≡ e = ap T' (omega arith) ∙ here 0 (omega arith) in
        entries_stored es
        (entry_stored w a e (omega arith) T₁ (ap (λ (b : Bool). choose b e (T a)) (eq-eqb a a refl))
        (λ j d. ap (λ (b : Bool). choose b e (T j)) (ne_eqb j a d)))
        (suc a) (omega arith) T'
        (λ k small.
        let up : suc a + k ≡ a + suc k = omega arith in
        ap T' up ∙ here (suc k) (omega arith))
        (λ j off.
        elim (ℕ_discrete j a) [
          | yes p ↦ ap T' p ∙ first ∙ sym (ap (λ (b : Bool). choose b e (T j)) (eq-eqb j a p))
          | no d ↦ others j (λ q. omega (arith, off (omega arith))) ∙ sym (ap (λ (b : Bool). choose b e (T j)) (ne_eqb j a d))
        ])

  -- another table changes one word of the header
  other_heads : (t : List Entry) (k : ℕ) → (k ≡ 3 → ⊥) → heads_of (with_table t) k ≡ heads_of h k
  unfolding layout_rules with_table
  other_heads t zero d = refl
  other_heads t (suc zero) d = refl
  other_heads t (suc (suc zero)) d = refl
  other_heads t (suc (suc (suc zero))) d = absurd (d refl)
  other_heads t (suc (suc (suc (suc k)))) d = refl

  told_rows : (t : List Entry) (i k : ℕ) → row_told h (λ j. get_or t j no_entry) i k ≡ rows_of (with_table t) i k
  unfolding layout_rules row_told with_table
  told_rows t i k = refl

  -- words that tell a table, and its count
  told_words : (n : ℕ) (t : List Entry) (ws : List ℕ) → Written n (heads_of h) (row_told h (λ j. get_or t j no_entry)) ws → set ws 3 (length t) ≡ words_of n (with_table t)
  unfolding layout_rules with_table
  told_words n t ws w =
      written_again n (with_table t) _
      (head_stored (rows_renamed w (rows_of (with_table t)) (λ i k. sym (told_rows t i k))) 3 (length t) (omega arith)
      (heads_of (with_table t)) refl (other_heads t))

  told_again_here : (n : ℕ) → Written n (heads_of h) (row_told h (λ j. get_or h.table j no_entry)) (words_of n h)
  unfolding layout_rules row_told
  told_again_here n = written n h

-- ---- a new entry

other_last : (t : List Entry) (e : Entry) (i : ℕ) → (i ≡ length t → ⊥) → get_or (t ++ (e ∷ [])) i no_entry ≡ get_or t i no_entry
other_last [] e zero d = absurd (d refl)
other_last [] e (suc i) d = refl
other_last (x ∷ t) e zero d = refl
other_last (x ∷ t) e (suc i) d = other_last t e i (λ p. d (ap suc p))

pub added_is : (n : ℕ) (h : Heap) (e : Entry) → length h.table < n → added (words_of n h) e ≡ words_of n (with_entry h e)
unfolding added with_table
added_is n h e room =
    let t = h.table ++ (e ∷ []) in
    let c = length h.table in
    let up : c + 1 ≡ length t = omega (arith, length-append h.table (e ∷ [])) in
    (λ j. set (stored_entry (words_of n h) (count_word n h j) e) 3 (count_word n h j + 1))
    ∙ ap (λ (m : ℕ). set (stored_entry (words_of n h) c e) 3 m) up
    ∙ told_words h n t _
    (entry_stored h (told_again_here h n) c e room (λ j. get_or t j no_entry) (get_or-append_seam h.table e [] no_entry)
    (other_last h.table e))

-- ---- entries that leave

module _ (n room : ℕ) (h : Heap) (fits : length h.table ≤ n) where
  kept : List Entry
  kept = keep (λ (e : Entry). is_allocated h.map e.slot) h.table

  kept_are : kept_entries (words_of n h) (filled room h.map) ≡ kept
  unfolding kept_entries kept is_allocated filled
  kept_are =
      ap (keep (λ (e : Entry). is_allocated (filled room h.map) e.slot)) (entries_are n h fits)
      ∙ keep_same no_entry (λ (e : Entry). is_allocated (filled room h.map) e.slot) (λ (e : Entry). is_allocated h.map e.slot) h.table
      (λ i small. ap (λ (s : ℕ). eqb s Allocated) (state_behind h.map (room - length h.map) (get_or h.table i no_entry).slot))

  no_more : length kept ≤ length h.table
  unfolding kept
  no_more = keep_most (λ (e : Entry). is_allocated h.map e.slot) h.table

  -- the kept ones, then what the table had
  closed : ℕ → Entry
  closed j = choose (ltb j (length kept)) (get_or kept j no_entry) (get_or h.table j no_entry)

  closed_in : (j : ℕ) → j < length kept → closed j ≡ get_or kept j no_entry
  unfolding closed
  closed_in j small = ap (λ (b : Bool). choose b (get_or kept j no_entry) (get_or h.table j no_entry)) (lt-ltb j (length kept) small)

  closed_past : (j : ℕ) → length kept ≤ j → closed j ≡ get_or h.table j no_entry
  unfolding closed
  closed_past j high = ap (λ (b : Bool). choose b (get_or kept j no_entry) (get_or h.table j no_entry)) (le-ltb j (length kept) high)

  closed_up : Written n (heads_of h) (row_told h closed) (stored_entries (words_of n h) 0 kept)
  closed_up =
      let few = no_more in
      entries_stored h kept (told_again_here h n) 0 (omega arith) closed
      (λ k small. ap closed (omega arith) ∙ closed_in k small)
      (λ j off. closed_past j (omega (arith, off (omega arith))))

  all_told : Written n (heads_of h) (row_told h (λ j. get_or kept j no_entry)) (cleared (stored_entries (words_of n h) 0 kept) (length kept) (length h.table))
  unfolding cleared
  all_told =
      let few = no_more in
      let m = length h.table - length kept in
      let size = lib.ListN.length-replicate m no_entry in
      entries_stored h (replicate m no_entry) closed_up (length kept) (omega arith) (λ j. get_or kept j no_entry)
      (λ k small.
      get_or-eq_default kept no_entry (omega arith) ∙ sym (get_or-replicate m k no_entry no_entry (omega arith)))
      (λ j off.
      elim (dec_lt j (length kept)) [
        | yes low ↦ sym (closed_in j low)
        | no high ↦
            get_or-eq_default kept no_entry (omega arith)
            ∙ sym (get_or-eq_default h.table no_entry (omega (arith, off (omega arith))))
            ∙ sym (closed_past j (omega arith))
      ])

  pub dropped_is : dropped (words_of n h) (filled room h.map) ≡ words_of n (drop_entries h)
  unfolding dropped drop_entries kept with_table
  dropped_is =
      (λ j. set (cleared (stored_entries (words_of n h) 0 (kept_are j)) (length (kept_are j)) (count_word n h j)) 3 (length (kept_are j)))
      ∙ told_words h n kept _ all_told
