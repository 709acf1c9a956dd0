-- What a put leaves of the heap that it began with: slots in use, their cells, texts, elements below a place and entries are
-- as they were, and new entries lead to slots that were not in use. Document 01: "every cell, element and block that was
-- there before is as it was". Assumes nothing.
use mathlib.Core.Path.{◌≡◌, refl, sym, ap, ◌∙◌}
use mathlib.Core.Bool.{Bool, true, false, not}
use mathlib.Core.List.{List, [], ◌∷◌, ◌++◌, append-nil, append_assoc}
use Prim.Native.Nat.{ℕ, ◌+◌, ◌-◌, ◌≤◌, ◌<◌}
use native.Mathlib.Omega.{arith}
use native.Mathlib.Decide.{dec_lt}
use borrow.Author.Tests.{not-true}
use lib.ListN.{length, get_or, length-append, get_or-append}
use lib.Seq.{get_or-append-add}
use Rattle.laws.specs.Basics.{every, basics}
use Rattle.laws.proofs.Tests.{true≢false, both_true, every_append}
use Rattle.laws.proofs.Pointwise.{every_all, every_weaker}
use Rattle.rules.specs.Cells.{undefined, Value, scalar, Block, Cell}
use Rattle.rules.specs.Heap.{Heap, Entry, Given, capacity, cell_at, in_use, used_count, fitting, most_growths, with_cell, with_element, with_bytes, with_elements, with_entry}
use Rattle.rules.specs.Layout.{entry_at}
use Rattle.rules.specs.Sound.{vector_block, value_named}
use Rattle.rules.proofs.Good.{element_at, apart, used_slot}
use Rattle.rules.proofs.Keeping.{value_wider, Unlisted, with_cell_other, with_cell_capacity, with_cell_used, with_cell_wider, cell_cases, with_elements_at, with_elements_wider, with_element_other, with_element_wider}
use Rattle.rules.proofs.Allocate.{Within, inside, over, Took, took_wider}

-- no cell's vector block meets this one but where it is the same
abbrev pub Clear : Block → Heap → Type 0
Clear b h = (t : ℕ) → apart b (vector_block (cell_at h t)) ≡ true

pub record Grows (from : ℕ) (h h' : Heap) : Type 0 where
  pub chunk : h'.chunk ≡ h.chunk
  pub more : capacity h ≤ capacity h'
  pub used : (s : ℕ) → in_use h s ≡ true → in_use h' s ≡ true
  pub cells : (s : ℕ) → in_use h s ≡ true → cell_at h' s ≡ cell_at h s
  pub text : List ℕ
  pub bytes : h'.bytes ≡ h.bytes ++ text
  pub room : length h.elements ≤ length h'.elements
  pub elements : (k : ℕ) → k < from → element_at h' k ≡ element_at h k
  pub held : (k : ℕ) → k < length h.elements → value_named h (element_at h k) ≡ true → value_named h' (element_at h' k) ≡ true
  pub entries : List Entry
  pub table : h'.table ≡ h.table ++ entries
  pub new : every (λ (e : Entry). not (in_use h e.slot)) entries ≡ true
  pub clear : (b : Block) → b.place + b.size ≤ length h.elements → Clear b h → Clear b h'
  pub count : used_count h ≤ used_count h'
  pub within : (lent end : ℕ) → lent ≤ 4096 → Within lent end h → Within lent end h'

-- a slot that is not in use afterwards was not before
pub unused_before : {from : ℕ} {h h' : Heap} → Grows from h h' → (s : ℕ) → in_use h' s ≡ false → in_use h s ≡ false
unused_before {from} {h} {h'} g s e = by (in_use h s) refl
  where
    by : (b : Bool) → in_use h s ≡ b → in_use h s ≡ false
    by true q = absurd (true≢false (sym (g.used s q) ∙ e))
    by false q = q

pub grows_refl : (from : ℕ) (h : Heap) → Grows from h h
unfolding basics
grows_refl from h =
    record {
      chunk = refl;
      more = omega arith;
      used = λ s e. e;
      cells = λ s e. refl;
      text = [];
      bytes = sym (append-nil h.bytes);
      room = omega arith;
      elements = λ k l. refl;
      held = λ k l e. e;
      entries = [];
      table = sym (append-nil h.table);
      new = refl;
      clear = λ b l c. c;
      count = omega arith;
      within = λ lent end l w. w;
    }

pub grows_trans : {m n : ℕ} {h h' h'' : Heap} → Grows m h h' → Grows n h' h'' → m ≤ n → Grows m h h''
grows_trans {m} {n} {h} {h'} {h''} a b l =
    record {
      chunk = b.chunk ∙ a.chunk;
      more = omega (arith, a.more, b.more);
      used = λ s e. b.used s (a.used s e);
      cells = λ s e. b.cells s (a.used s e) ∙ a.cells s e;
      text = a.text ++ b.text;
      bytes = b.bytes ∙ ap (λ (x : List ℕ). x ++ b.text) a.bytes ∙ append_assoc h.bytes a.text b.text;
      room = omega (arith, a.room, b.room);
      elements = λ k s. b.elements k (omega arith) ∙ a.elements k s;
      held = λ k s e. b.held k (omega (arith, a.room)) (a.held k s e);
      entries = a.entries ++ b.entries;
      table = b.table ∙ ap (λ (x : List Entry). x ++ b.entries) a.table ∙ append_assoc h.table a.entries b.entries;
      new =
          every_append (λ (e : Entry). not (in_use h e.slot)) a.entries b.entries a.new
          (every_weaker (λ (e : Entry). not (in_use h' e.slot)) (λ (e : Entry). not (in_use h e.slot))
          (λ e q. ap not (unused_before a e.slot (not-true (in_use h' e.slot) q))) b.entries b.new);
      clear = λ x s c. b.clear x (omega (arith, a.room)) (a.clear x s c);
      count = omega (arith, a.count, b.count);
      within = λ lent end s w. b.within lent end s (a.within lent end s w);
    }

pub grows_less : {m n : ℕ} {h h' : Heap} → m ≤ n → Grows n h h' → Grows m h h'
grows_less {m} {n} {h} {h'} l g = grows_trans (grows_refl m h) g l

-- a slot in use that is no entry's does not become one
pub unlisted_kept : {from : ℕ} {h h' : Heap} → Grows from h h' → (s : ℕ) → in_use h s ≡ true → Unlisted h s → Unlisted h' s
unfolding entry_at
unlisted_kept {from} {h} {h'} g s u un i l e =
    let z : Entry = record { slot = 0; scope = 0 } in
    let size = ap length g.table ∙ length-append h.table g.entries in
    elim (dec_lt i (length h.table)) [
      | yes m ↦
          un i m
          (sym (ap (λ (x : List Entry). (get_or x i z).slot) g.table ∙ ap (λ (x : Entry). x.slot) (get_or-append h.table g.entries z i m)) ∙ e)
      | no m ↦
          let j = i - length h.table in
          let q : i ≡ length h.table + j = omega arith in
          let there : get_or h'.table i z ≡ get_or g.entries j z =
          ap (λ (x : List Entry). get_or x i z) g.table ∙ ap (λ (x : ℕ). get_or (h.table ++ g.entries) x z) q
          ∙ get_or-append-add h.table g.entries j z
          in
          true≢false
          (sym (every_all (λ (e : Entry). not (in_use h e.slot)) z g.entries g.new j (omega arith))
          ∙ ap not (ap (in_use h) (ap (λ (x : Entry). x.slot) (sym there) ∙ e) ∙ u))
    ]

-- ---- the steps

-- the same growth and free list
within_same : (h h' : Heap) → h'.chunk ≡ h.chunk → capacity h' ≡ capacity h → length h'.free ≡ length h.free → (lent end : ℕ) → Within lent end h → Within lent end h'
within_same h h' c k f lent end (inside l e) = inside (omega arith) ((λ i. fitting most_growths (c i) lent (k i)) ∙ e)
within_same h h' c k f lent end (over l) = over (omega arith)

pub grows_took : (from : ℕ) (h : Heap) (t : Given) → Took h t → Grows from h t.heap
unfolding basics
grows_took from h t k =
    record {
      chunk = k.chunk;
      more = k.more;
      used = k.used;
      cells = λ s e. k.cells s;
      text = [];
      bytes = k.bytes ∙ sym (append-nil h.bytes);
      room = omega (arith, ap length k.elements);
      elements = λ j l. ap (λ (x : List Value). get_or x j (scalar undefined)) k.elements;
      held = (took_wider h t k).held;
      entries = [];
      table = k.table ∙ sym (append-nil h.table);
      new = refl;
      clear = λ b l c s. ap (λ (x : Cell). apart b (vector_block x)) (k.cells s) ∙ c s;
      count = omega (arith, k.count);
      within = k.within;
    }

pub grows_bytes : (from : ℕ) (h : Heap) (t : List ℕ) → Grows from h (with_bytes h t)
unfolding basics
grows_bytes from h t =
    record {
      chunk = refl;
      more = omega arith;
      used = λ s e. e;
      cells = λ s e. refl;
      text = t;
      bytes = refl;
      room = omega arith;
      elements = λ k l. refl;
      held = λ k l e. value_wider h (with_bytes h t) (λ s e. e) (element_at h k) e;
      entries = [];
      table = sym (append-nil h.table);
      new = refl;
      clear = λ b l c. c;
      count = omega arith;
      within = λ lent end l w. within_same h (with_bytes h t) refl refl refl lent end w;
    }

pub grows_elements : (from : ℕ) (h : Heap) (vs : List Value) → from ≤ length h.elements → Grows from h (with_elements h vs)
unfolding basics
grows_elements from h vs low =
    record {
      chunk = refl;
      more = omega arith;
      used = λ s e. e;
      cells = λ s e. refl;
      text = [];
      bytes = sym (append-nil h.bytes);
      room = (with_elements_wider h vs).room;
      elements = λ k l. with_elements_at h vs k (omega arith);
      held = (with_elements_wider h vs).held;
      entries = [];
      table = sym (append-nil h.table);
      new = refl;
      clear = λ b l c. c;
      count = omega arith;
      within = λ lent end l w. within_same h (with_elements h vs) refl refl refl lent end w;
    }

pub grows_element : (from : ℕ) (h : Heap) (k : ℕ) (v : Value) → from ≤ k → value_named h v ≡ true → Grows from h (with_element h k v)
unfolding basics
grows_element from h k v low named =
    record {
      chunk = refl;
      more = omega arith;
      used = λ s e. e;
      cells = λ s e. refl;
      text = [];
      bytes = sym (append-nil h.bytes);
      room = (with_element_wider h k v named).room;
      elements = λ j l. with_element_other h k v j (λ e. omega arith);
      held = (with_element_wider h k v named).held;
      entries = [];
      table = sym (append-nil h.table);
      new = refl;
      clear = λ b l c. c;
      count = omega arith;
      within = λ lent end l w. within_same h (with_element h k v) refl refl refl lent end w;
    }

-- a cell in a slot that was not in use at the beginning: a block below the room at the beginning stays clear of it
pub grows_cell : {from : ℕ} {h₀ h : Heap} → Grows from h₀ h → (s : ℕ) (c : Cell) → in_use h₀ s ≡ false → in_use h s ≡ true
    → ((b : Block) → b.place + b.size ≤ length h₀.elements → Clear b h → apart b (vector_block c) ≡ true)
    → Grows from h₀ (with_cell h s c)
grows_cell {from} {h₀} {h} g s c new u apt =
    let size = with_cell_capacity h s c in
    record {
      chunk = g.chunk;
      more = omega (arith, g.more);
      used = λ t e. with_cell_used h s c t ∙ g.used t e;
      cells = λ t e. with_cell_other h s c t (λ q. true≢false (sym e ∙ ap (in_use h₀) q ∙ new)) ∙ g.cells t e;
      text = g.text;
      bytes = g.bytes;
      room = g.room;
      elements = g.elements;
      held = λ k l e. (with_cell_wider h s c).held k (omega (arith, g.room)) (g.held k l e);
      entries = g.entries;
      table = g.table;
      new = g.new;
      clear =
          λ b l x.
          let k = g.clear b l x in
          cell_cases h s c (λ y. apart b (vector_block y) ≡ true) (used_slot h s u).below (apt b l k) k;
      count = omega (arith, g.count);
      within = λ lent end l w. within_same h (with_cell h s c) refl size refl lent end (g.within lent end l w);
    }

pub grows_entry : {from : ℕ} {h₀ h : Heap} → Grows from h₀ h → (e : Entry) → in_use h₀ e.slot ≡ false → Grows from h₀ (with_entry h e)
unfolding basics
grows_entry {from} {h₀} {h} g e new =
    record {
      chunk = g.chunk;
      more = g.more;
      used = g.used;
      cells = g.cells;
      text = g.text;
      bytes = g.bytes;
      room = g.room;
      elements = g.elements;
      held = λ k l q. value_wider h (with_entry h e) (λ s e. e) (element_at h k) (g.held k l q);
      entries = g.entries ++ (e ∷ []);
      table = ap (λ (x : List Entry). x ++ (e ∷ [])) g.table ∙ append_assoc h₀.table g.entries (e ∷ []);
      new = every_append (λ (e : Entry). not (in_use h₀ e.slot)) g.entries (e ∷ []) g.new (both_true (ap not new) refl);
      clear = g.clear;
      count = g.count;
      within = λ lent end l w. within_same h (with_entry h e) refl refl refl lent end (g.within lent end l w);
    }
