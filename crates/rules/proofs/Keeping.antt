-- Each single change of a heap keeps it good: a cell, a text, a block of elements, an element, an entry. What each asks is
-- what a put or a store can show. Document 01, "each accepted call keeps it so". Assumes nothing.
use mathlib.Core.Path.{◌≡◌, refl, sym, ap, ◌∙◌, subst}
use mathlib.Core.Bool.{true, not}
use mathlib.Core.List.{List, [], ◌∷◌, ◌++◌, append-nil}
use mathlib.Core.Logic.{⊎_elim}
use Prim.Native.Nat.{ℕ, ◌+◌, ◌-◌, ◌/◌, ◌≤◌, ◌<◌}
use native.Mathlib.Omega.{arith}
use native.Mathlib.Decide.{dec_lt, ℕ_discrete}
use borrow.Author.Tests.{leb-true, eqb-true, le-leb, eq-eqb}
use lib.Dec.{eqb, leb, ltb}
use lib.ListN.{length, get_or, take, drop, length-append, length-set, get_or-append}
use lib.Seq.{get_or-set_same, get_or-set_other, get_or-append-add, get_or-append_seam, set_out}
use Rattle.laws.specs.Basics.{both, every, same}
use Rattle.laws.proofs.Tests.{both_left, both_right, both_true, either_cases, either_left, either_right}
use Rattle.laws.proofs.Pointwise.{every_at, part_append}
use Rattle.rules.specs.Numbers.{bits32}
use Rattle.rules.specs.Map.{state_of, is_allocated}
use Rattle.rules.specs.Cells.{undefined, Value, slot, scalar, Block, Cell, plain, pair, symbol, string, vector, is_symbol, same_block}
use Rattle.rules.specs.Heap.{Heap, Entry, capacity, cell_at, in_use, text_of, name_at, with_cell, with_element, with_bytes, with_elements, with_entry, heap_rules}
use Rattle.rules.specs.Layout.{entry_at}
use Rattle.rules.specs.Sound.{value_allowed, cell_allowed, value_named, text_block, vector_block, lies_in, same_or_disjoint, entry_sound, entries_differ, sound_rules}
use Rattle.rules.specs.Calls.{cell_in_use, call_rules}
use Rattle.rules.proofs.Growth.{Reached}
use Rattle.rules.proofs.Good.{element_at, apart, CellGood, Good, used_slot}

-- ---- blocks

pub lies_below : (n : ℕ) (b : Block) → lies_in n b ≡ true → b.place + b.size ≤ n
unfolding sound_rules
lies_below n b e = leb-true (b.place + b.size) n (both_left (leb (b.place + b.size) n) _ e)

pub lies_more : (n m : ℕ) (b : Block) → n ≤ m → lies_in n b ≡ true → lies_in m b ≡ true
unfolding sound_rules
lies_more n m b l e =
    both_true (le-leb (b.place + b.size) m (omega (arith, lies_below n b e))) (both_right (leb (b.place + b.size) n) _ e)

pub apart_refl : (b : Block) → apart b b ≡ true
unfolding sound_rules apart
apart_refl b =
    either_right (eqb b.size 0)
    (either_right (eqb b.size 0) (either_left _ (both_true (eq-eqb b.place b.place refl) (eq-eqb b.size b.size refl))))

disjoint_sym : (a b : Block) → same_or_disjoint a b ≡ true → same_or_disjoint b a ≡ true
unfolding sound_rules
disjoint_sym a b e =
    ⊎_elim
    (λ s.
    either_left _
    (both_true (eq-eqb _ _ (sym (eqb-true a.place b.place (both_left (eqb a.place b.place) _ s))))
    (eq-eqb _ _ (sym (eqb-true a.size b.size (both_right (eqb a.place b.place) _ s))))))
    (λ d.
    either_right (same_block b a)
    (⊎_elim (λ l. either_right (leb (b.place + b.size) a.place) l) (λ r. either_left _ r)
    (either_cases (leb (a.place + a.size) b.place) _ d)))
    (either_cases (same_block a b) _ e)

pub apart_sym : (a b : Block) → apart a b ≡ true → apart b a ≡ true
unfolding apart
apart_sym a b e =
    ⊎_elim (λ x. either_right (eqb b.size 0) (either_left _ x))
    (λ d.
    ⊎_elim (λ y. either_left _ y)
    (λ s. either_right (eqb b.size 0) (either_right (eqb a.size 0) (disjoint_sym a b s)))
    (either_cases (eqb b.size 0) _ d))
    (either_cases (eqb a.size 0) _ e)

-- a block after another
pub apart_after : (a b : Block) → b.place + b.size ≤ a.place → apart a b ≡ true
unfolding sound_rules apart
apart_after a b l =
    either_right (eqb a.size 0)
    (either_right (eqb b.size 0)
    (either_right (same_block a b) (either_right (leb (a.place + a.size) b.place) (le-leb (b.place + b.size) a.place l))))

pub apart_empty : (a b : Block) → a.size ≡ 0 → apart a b ≡ true
unfolding apart
apart_empty a b e = either_left _ (eq-eqb a.size 0 e)

-- ---- a heap with more in use

-- slots in use stay so, bytes are added behind, and elements still name slots in use
pub record Wider (h h' : Heap) : Type 0 where
  pub used : (s : ℕ) → in_use h s ≡ true → in_use h' s ≡ true
  pub more : List ℕ
  pub bytes : h'.bytes ≡ h.bytes ++ more
  pub room : length h.elements ≤ length h'.elements
  pub held : (k : ℕ) → k < length h.elements → value_named h (element_at h k) ≡ true → value_named h' (element_at h' k) ≡ true

pub value_wider : (h h' : Heap) → ((s : ℕ) → in_use h s ≡ true → in_use h' s ≡ true) → (v : Value) → value_named h v ≡ true → value_named h' v ≡ true
unfolding sound_rules
value_wider h h' u (slot s) e = u s e
value_wider h h' u (scalar s) e = refl

-- the name that a cell shows
unfoldable name_in : Heap → Cell → List ℕ
name_in h c = elim c [ plain x ↦ [] | pair a d ↦ [] | symbol b ↦ text_of h b | string b ↦ [] | vector b ↦ [] ]

name_is : (h : Heap) (s : ℕ) → name_at h s ≡ name_in h (cell_at h s)
unfolding name_in heap_rules
name_is h s = refl

module _ (h h' : Heap) (w : Wider h h') where
  pub text_kept : (b : Block) → lies_in (length h.bytes) b ≡ true → text_of h' b ≡ text_of h b
  text_kept b l =
      ap (λ (x : List ℕ). take b.size (drop b.place x)) w.bytes
      ∙ part_append h.bytes w.more b.place b.size (lies_below (length h.bytes) b l)

  bytes_more : length h.bytes ≤ length h'.bytes
  bytes_more = omega (arith, ap length w.bytes ∙ length-append h.bytes w.more)

  allowed_kept : (c : Cell) → CellGood h c → cell_allowed h' c ≡ true
  unfolding sound_rules
  allowed_kept (plain s) g = g.allowed
  allowed_kept (pair a d) g = refl
  allowed_kept (symbol b) g =
      rw (text_kept b g.text_in) g.allowed
  allowed_kept (string b) g =
      rw (text_kept b g.text_in) g.allowed
  allowed_kept (vector b) g = g.allowed

  linked_kept : (c : Cell) → cell_in_use h c ≡ true → cell_in_use h' c ≡ true
  unfolding call_rules
  linked_kept (plain s) e = refl
  linked_kept (pair a d) e = both_true (w.used a (both_left (in_use h a) _ e)) (w.used d (both_right (in_use h a) _ e))
  linked_kept (symbol b) e = refl
  linked_kept (string b) e = refl
  linked_kept (vector b) e = refl

  pub cell_kept : (c : Cell) → CellGood h c → CellGood h' c
  cell_kept c g =
      record {
        allowed = allowed_kept c g;
        linked = linked_kept c g.linked;
        held = λ k low high. w.held k (omega (arith, lies_below (length h.elements) (vector_block c) g.vector_in)) (g.held k low high);
        text_in = lies_more (length h.bytes) (length h'.bytes) (text_block c) bytes_more g.text_in;
        vector_in = lies_more (length h.elements) (length h'.elements) (vector_block c) w.room g.vector_in;
      }

  name_in_kept : (c : Cell) → lies_in (length h.bytes) (text_block c) ≡ true → name_in h' c ≡ name_in h c
  unfolding name_in sound_rules
  name_in_kept (plain z) l = refl
  name_in_kept (pair a d) l = refl
  name_in_kept (symbol b) l = text_kept b l
  name_in_kept (string b) l = refl
  name_in_kept (vector b) l = refl

  pub name_kept : (s : ℕ) → CellGood h (cell_at h s) → cell_at h' s ≡ cell_at h s → name_at h' s ≡ name_at h s
  name_kept s g e =
      name_is h' s ∙ ap (name_in h') e ∙ name_in_kept (cell_at h s) g.text_in ∙ sym (name_is h s)

  pub entry_kept : (e : Entry) → cell_at h' e.slot ≡ cell_at h e.slot → entry_sound h e ≡ true → entry_sound h' e ≡ true
  unfolding sound_rules
  entry_kept e q p =
      both_true (w.used e.slot (both_left (in_use h e.slot) _ p))
      (ap (λ (c : Cell). both (is_symbol c) (ltb e.scope bits32)) q ∙ both_right (in_use h e.slot) _ p)

  pub differ_kept : (d e : Entry) → name_at h' d.slot ≡ name_at h d.slot → name_at h' e.slot ≡ name_at h e.slot → entries_differ h d e ≡ true → entries_differ h' d e ≡ true
  unfolding sound_rules
  differ_kept d e p q x =
      (λ i. both (not (eqb d.slot e.slot)) (not (both (eqb d.scope e.scope) (same (p i) (q i))))) ∙ x

  -- the table's entries, where their slots show what they showed
  module _ (g : Good h) (shown : (i : ℕ) → i < length h.table → cell_at h' (entry_at h i).slot ≡ cell_at h (entry_at h i).slot) where
    pub entries_kept : (i : ℕ) → i < length h.table → entry_sound h' (entry_at h i) ≡ true
    entries_kept i l = entry_kept (entry_at h i) (shown i l) (g.entries i l)

    names_kept : (i : ℕ) → i < length h.table → name_at h' (entry_at h i).slot ≡ name_at h (entry_at h i).slot
    names_kept i l = name_kept (entry_at h i).slot (g.cells (entry_at h i).slot) (shown i l)

    pub differs_kept : (i j : ℕ) → i < j → j < length h.table → entries_differ h' (entry_at h i) (entry_at h j) ≡ true
    differs_kept i j l m =
        differ_kept (entry_at h i) (entry_at h j) (names_kept i (omega arith)) (names_kept j m) (g.differ i j l m)

-- ---- a cell

-- the slot is no entry's
abbrev pub Unlisted : Heap → ℕ → Type 0
Unlisted h s = (i : ℕ) → i < length h.table → (entry_at h i).slot ≡ s → ⊥

module _ (h : Heap) (s : ℕ) (c : Cell) where
  pub with_cell_at : s < capacity h → cell_at (with_cell h s c) s ≡ c
  with_cell_at l = get_or-set_same h.cells s c (plain undefined) l

  pub with_cell_other : (t : ℕ) → (t ≡ s → ⊥) → cell_at (with_cell h s c) t ≡ cell_at h t
  with_cell_other t d = get_or-set_other h.cells s t c (plain undefined) d

  pub with_cell_capacity : capacity (with_cell h s c) ≡ capacity h
  with_cell_capacity = length-set h.cells s c

  -- what holds of the cell and of all that were there holds of all that are there
  pub cell_cases : (P : Cell → Type 0) → s < capacity h → P c → ((t : ℕ) → P (cell_at h t)) → (t : ℕ) → P (cell_at (with_cell h s c) t)
  cell_cases P l p q t =
      elim (ℕ_discrete t s) [
        | yes e ↦ subst P (sym (ap (cell_at (with_cell h s c)) e ∙ with_cell_at l)) p
        | no d ↦ subst P (sym (with_cell_other t d)) (q t)
      ]

  pub with_cell_used : (t : ℕ) → in_use (with_cell h s c) t ≡ in_use h t
  with_cell_used t = ap (λ (n : ℕ). both (ltb t n) (is_allocated h.map t)) with_cell_capacity

  pub with_cell_wider : Wider h (with_cell h s c)
  with_cell_wider =
      record {
        used = λ t e. with_cell_used t ∙ e;
        more = [];
        bytes = sym (append-nil h.bytes);
        room = omega arith;
        held = λ k l e. value_wider h (with_cell h s c) (λ t e. with_cell_used t ∙ e) (element_at h k) e;
      }

  pub with_cell_good : Good h → in_use h s ≡ true → Unlisted h s → CellGood h c
      → ((t : ℕ) → apart (text_block c) (text_block (cell_at h t)) ≡ true)
      → ((t : ℕ) → apart (vector_block c) (vector_block (cell_at h t)) ≡ true)
      → Good (with_cell h s c)
  unfolding entry_at
  with_cell_good g u new cg ta va =
      let w = with_cell_wider in
      let us = used_slot h s u in
      let same : (i : ℕ) → i < length h.table → cell_at (with_cell h s c) (entry_at h i).slot ≡ cell_at h (entry_at h i).slot = λ i l. with_cell_other (entry_at h i).slot (new i l) in
      record {
        chunk_least = g.chunk_least;
        chunk_fours = g.chunk_fours;
        growth = subst (Reached h.chunk) (sym with_cell_capacity) g.growth;
        map-size = g.map-size ∙ ap (λ (n : ℕ). n / 4) (sym with_cell_capacity);
        once = λ t l. g.once t (omega (arith, with_cell_capacity));
        past = λ t l. g.past t (omega (arith, with_cell_capacity));
        empty = λ t z. with_cell_other t (λ e. omega (arith, us.state, ap (state_of h.map) e)) ∙ g.empty t z;
        cells =
            cell_cases (CellGood (with_cell h s c)) us.below (cell_kept h (with_cell h s c) w c cg)
            (λ t. cell_kept h (with_cell h s c) w (cell_at h t) (g.cells t));
        texts =
            λ i j.
            cell_cases (λ x. apart (text_block x) (text_block (cell_at (with_cell h s c) j)) ≡ true) us.below
            (cell_cases (λ y. apart (text_block c) (text_block y) ≡ true) us.below (apart_refl (text_block c)) ta j)
            (λ i. cell_cases (λ y. apart (text_block (cell_at h i)) (text_block y) ≡ true) us.below (apart_sym (text_block c) (text_block (cell_at h i)) (ta i)) (g.texts i) j)
            i;
        vectors =
            λ i j.
            cell_cases (λ x. apart (vector_block x) (vector_block (cell_at (with_cell h s c) j)) ≡ true) us.below
            (cell_cases (λ y. apart (vector_block c) (vector_block y) ≡ true) us.below (apart_refl (vector_block c)) va j)
            (λ i. cell_cases (λ y. apart (vector_block (cell_at h i)) (vector_block y) ≡ true) us.below (apart_sym (vector_block c) (vector_block (cell_at h i)) (va i)) (g.vectors i) j)
            i;
        elements = g.elements;
        entries = entries_kept h (with_cell h s c) w g same;
        differ = differs_kept h (with_cell h s c) w g same;
      }

-- ---- a text behind the room in use

module _ (h : Heap) (t : List ℕ) where
  pub with_bytes_wider : Wider h (with_bytes h t)
  with_bytes_wider =
      record {
        used = λ s e. e;
        more = t;
        bytes = refl;
        room = omega arith;
        held = λ k l e. value_wider h (with_bytes h t) (λ s e. e) (element_at h k) e;
      }

  pub with_bytes_good : Good h → Good (with_bytes h t)
  unfolding entry_at
  with_bytes_good g =
      let w = with_bytes_wider in
      record {
        chunk_least = g.chunk_least;
        chunk_fours = g.chunk_fours;
        growth = g.growth;
        map-size = g.map-size;
        once = g.once;
        past = g.past;
        empty = g.empty;
        cells = λ s. cell_kept h (with_bytes h t) w (cell_at h s) (g.cells s);
        texts = g.texts;
        vectors = g.vectors;
        elements = g.elements;
        entries = entries_kept h (with_bytes h t) w g (λ i l. refl);
        differ = differs_kept h (with_bytes h t) w g (λ i l. refl);
      }

-- ---- elements behind the room in use

module _ (h : Heap) (vs : List Value) where
  pub with_elements_at : (k : ℕ) → k < length h.elements → element_at (with_elements h vs) k ≡ element_at h k
  with_elements_at k l = get_or-append h.elements vs (scalar undefined) k l

  pub with_elements_new : (k : ℕ) → length h.elements ≤ k → element_at (with_elements h vs) k ≡ get_or vs (k - length h.elements) (scalar undefined)
  with_elements_new k l =
      let e : k ≡ length h.elements + (k - length h.elements) = omega arith in
      ap (λ (x : ℕ). get_or (h.elements ++ vs) x (scalar undefined)) e
      ∙ get_or-append-add h.elements vs (k - length h.elements) (scalar undefined)

  pub with_elements_wider : Wider h (with_elements h vs)
  with_elements_wider =
      record {
        used = λ s e. e;
        more = [];
        bytes = sym (append-nil h.bytes);
        room = omega (arith, length-append h.elements vs);
        held =
            λ k l e.
            ap (value_named (with_elements h vs)) (with_elements_at k l)
            ∙ value_wider h (with_elements h vs) (λ s e. e) (element_at h k) e;
      }

  pub with_elements_good : Good h → every value_allowed vs ≡ true → Good (with_elements h vs)
  unfolding entry_at sound_rules
  with_elements_good g all =
      let w = with_elements_wider in
      record {
        chunk_least = g.chunk_least;
        chunk_fours = g.chunk_fours;
        growth = g.growth;
        map-size = g.map-size;
        once = g.once;
        past = g.past;
        empty = g.empty;
        cells = λ s. cell_kept h (with_elements h vs) w (cell_at h s) (g.cells s);
        texts = g.texts;
        vectors = g.vectors;
        elements =
            λ k.
            elim (dec_lt k (length h.elements)) [
              | yes l ↦ ap value_allowed (with_elements_at k l) ∙ g.elements k
              | no l ↦
                  ap value_allowed (with_elements_new k (omega arith))
                  ∙ every_at value_allowed (scalar undefined) vs all refl (k - length h.elements)
            ];
        entries = entries_kept h (with_elements h vs) w g (λ i l. refl);
        differ = differs_kept h (with_elements h vs) w g (λ i l. refl);
      }

-- ---- an element

module _ (h : Heap) (k : ℕ) (v : Value) where
  pub with_element_at : k < length h.elements → element_at (with_element h k v) k ≡ v
  with_element_at l = get_or-set_same h.elements k v (scalar undefined) l

  pub with_element_other : (j : ℕ) → (j ≡ k → ⊥) → element_at (with_element h k v) j ≡ element_at h j
  with_element_other j d = get_or-set_other h.elements k j v (scalar undefined) d

  -- what holds of the value and of all that were there holds of all that are there
  pub element_cases : (P : Value → Type 0) → P v → (j : ℕ) → P (element_at h j) → P (element_at (with_element h k v) j)
  element_cases P p j q =
      elim (ℕ_discrete j k) [
        | no d ↦ subst P (sym (with_element_other j d)) q
        | yes e ↦
            elim (dec_lt k (length h.elements)) [
              | yes l ↦ subst P (sym (ap (element_at (with_element h k v)) e ∙ with_element_at l)) p
              | no l ↦ subst (λ (x : List Value). P (get_or x j (scalar undefined))) (sym (set_out h.elements k v (omega arith))) q
            ]
      ]

  pub with_element_wider : value_named h v ≡ true → Wider h (with_element h k v)
  with_element_wider named =
      record {
        used = λ s e. e;
        more = [];
        bytes = sym (append-nil h.bytes);
        room = omega (arith, length-set h.elements k v);
        held =
            λ j l e.
            element_cases (λ x. value_named (with_element h k v) x ≡ true) (value_wider h (with_element h k v) (λ s e. e) v named) j
            (value_wider h (with_element h k v) (λ s e. e) (element_at h j) e);
      }

  pub with_element_good : Good h → value_allowed v ≡ true → value_named h v ≡ true → Good (with_element h k v)
  unfolding entry_at
  with_element_good g allowed named =
      let w = with_element_wider named in
      record {
        chunk_least = g.chunk_least;
        chunk_fours = g.chunk_fours;
        growth = g.growth;
        map-size = g.map-size;
        once = g.once;
        past = g.past;
        empty = g.empty;
        cells = λ s. cell_kept h (with_element h k v) w (cell_at h s) (g.cells s);
        texts = g.texts;
        vectors = g.vectors;
        elements = λ j. element_cases (λ x. value_allowed x ≡ true) allowed j (g.elements j);
        entries = entries_kept h (with_element h k v) w g (λ i l. refl);
        differ = differs_kept h (with_element h k v) w g (λ i l. refl);
      }

-- ---- an entry

module _ (h : Heap) (e : Entry) where
  pub with_entry_at : (i : ℕ) → i < length h.table → entry_at (with_entry h e) i ≡ entry_at h i
  unfolding entry_at
  with_entry_at i l = get_or-append h.table (e ∷ []) (record { slot = 0; scope = 0 }) i l

  pub with_entry_last : (i : ℕ) → i ≡ length h.table → entry_at (with_entry h e) i ≡ e
  unfolding entry_at
  with_entry_last i q =
      ap (λ (x : ℕ). get_or (h.table ++ (e ∷ [])) x (record { slot = 0; scope = 0 })) q
      ∙ get_or-append_seam h.table e [] (record { slot = 0; scope = 0 })

  with_entry_length : length (with_entry h e).table ≡ length h.table + 1
  with_entry_length = length-append h.table (e ∷ [])

  pub with_entry_wider : Wider h (with_entry h e)
  with_entry_wider =
      record {
        used = λ s e. e;
        more = [];
        bytes = sym (append-nil h.bytes);
        room = omega arith;
        held = λ k l q. value_wider h (with_entry h e) (λ s e. e) (element_at h k) q;
      }

  pub with_entry_good : Good h → entry_sound h e ≡ true → ((i : ℕ) → i < length h.table → entries_differ h (entry_at h i) e ≡ true) → Good (with_entry h e)
  with_entry_good g sound new =
      let w = with_entry_wider in
      record {
        chunk_least = g.chunk_least;
        chunk_fours = g.chunk_fours;
        growth = g.growth;
        map-size = g.map-size;
        once = g.once;
        past = g.past;
        empty = g.empty;
        cells = λ s. cell_kept h (with_entry h e) w (cell_at h s) (g.cells s);
        texts = g.texts;
        vectors = g.vectors;
        elements = g.elements;
        entries =
            λ i l.
            elim (dec_lt i (length h.table)) [
              | yes m ↦ ap (entry_sound (with_entry h e)) (with_entry_at i m) ∙ entries_kept h (with_entry h e) w g (λ i l. refl) i m
              | no m ↦ ap (entry_sound (with_entry h e)) (with_entry_last i (omega (arith, with_entry_length))) ∙ entry_kept h (with_entry h e) w e refl sound
            ];
        differ =
            λ i j l m.
            elim (dec_lt j (length h.table)) [
              | yes n ↦
                  (λ x. entries_differ (with_entry h e) (with_entry_at i (omega arith) x) (with_entry_at j n x))
                  ∙ differs_kept h (with_entry h e) w g (λ i l. refl) i j l n
              | no n ↦
                  (λ x. entries_differ (with_entry h e) (with_entry_at i (omega (arith, with_entry_length)) x) (with_entry_last j (omega (arith, with_entry_length)) x))
                  ∙ differ_kept h (with_entry h e) w (entry_at h i) e (name_kept h (with_entry h e) w (entry_at h i).slot (g.cells (entry_at h i).slot) refl) (name_kept h (with_entry h e) w e.slot (g.cells e.slot) refl) (new i (omega (arith, with_entry_length)))
            ];
      }
