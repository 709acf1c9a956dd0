-- The parts of a put: a new cell, a value in a slot, a text, a symbol. Each leaves a good heap, in which what was there is
-- as it was. Document 01, "Slots and growth". Assumes nothing.
use mathlib.Core.Path.{◌≡◌, refl, sym, ap, ◌∙◌, subst}
use mathlib.Core.Bool.{Bool, true, false, not}
use mathlib.Core.List.{List, [], ◌++◌}
use mathlib.Core.Option.{Option, none, some}
use Prim.Native.Nat.{ℕ, ◌+◌, ◌≤◌, ◌<◌}
use native.Mathlib.Omega.{arith}
use native.Mathlib.Decide.{ℕ_discrete}
use borrow.Author.Tests.{eq-eqb, ne_eqb, le-leb, lt-ltb}
use lib.Dec.{eqb}
use lib.ListN.{length, get_or, take, drop, length-append}
use lib.Seq.{drop-append_seam, take-length}
use Rattle.laws.specs.Basics.{choose, both, same}
use Rattle.laws.proofs.Tests.{true≢false, both_left, both_true, either_left, either_right}
use Rattle.laws.proofs.Pointwise.{find_some, find_none}
use Rattle.laws.proofs.Lists.{no_elements}
use Rattle.rules.specs.Numbers.{bits32, most_string, most_name}
use Rattle.rules.specs.Utf8.{utf8}
use Rattle.rules.specs.Cells.{Scalar, Value, slot, scalar, Block, block, Cell, plain, pair, symbol, string, vector, is_symbol}
use Rattle.rules.specs.Heap.{Heap, Entry, Given, cell_at, in_use, shown, text_of, name_at, block_after, with_bytes, with_entry, alloc, found, heap_rules}
use Rattle.rules.specs.Layout.{entry_at}
use Rattle.rules.specs.Sound.{scalar_allowed, value_allowed, value_named, cell_allowed, text_block, vector_block, lies_in, entry_sound, entries_differ, sound_rules}
use Rattle.rules.specs.Calls.{cell_in_use, call_rules}
use Rattle.rules.specs.Put.{Put, Making, Label, making, put_as, new_cell, in_slot, slot_in, put_string, make_symbol, put_symbol}
use Rattle.rules.proofs.Good.{apart, CellGood, Good, used_slot}
use Rattle.rules.proofs.Keeping.{lies_below, apart_sym, apart_after, apart_empty, Wider, cell_kept, name_kept, Unlisted, with_cell_at, with_cell_used, with_cell_good, with_bytes_good, with_entry_good}
use Rattle.rules.proofs.Allocate.{Took, took, took_wider}
use Rattle.rules.proofs.Grows.{Clear, Grows, unused_before, grows_refl, grows_trans, grows_took, grows_bytes, grows_cell, grows_entry}

-- ---- cells that fit

pub record ValueGood (h : Heap) (v : Value) : Type 0 where
  pub allowed : value_allowed v ≡ true
  pub named : value_named h v ≡ true

-- a cell that may stand in any slot that is no entry's
pub record CellFits (h : Heap) (c : Cell) : Type 0 where
  pub good : CellGood h c
  pub texts : (t : ℕ) → apart (text_block c) (text_block (cell_at h t)) ≡ true
  pub vectors : (t : ℕ) → apart (vector_block c) (vector_block (cell_at h t)) ≡ true

-- blocks within the first n elements stay clear of the cell
abbrev pub ClearOf : ℕ → Heap → Cell → Type 0
ClearOf n h c = (b : Block) → b.place + b.size ≤ n → Clear b h → apart b (vector_block c) ≡ true

pub clear_empty : (n : ℕ) (h : Heap) (c : Cell) → (vector_block c).size ≡ 0 → ClearOf n h c
clear_empty n h c e b l x = apart_sym (vector_block c) b (apart_empty (vector_block c) b e)

pub lies_none : (n : ℕ) → lies_in n (block 0 0) ≡ true
unfolding sound_rules
lies_none n = both_true (le-leb 0 n (omega arith)) refl

pub plain_fits : (h : Heap) (s : Scalar) → scalar_allowed s ≡ true → CellFits h (plain s)
unfolding sound_rules call_rules
plain_fits h s e =
    record {
      good =
          record {
            allowed = e;
            linked = refl;
            held = λ k low high. absurd (omega arith);
            text_in = lies_none (length h.bytes);
            vector_in = lies_none (length h.elements);
          };
      texts = λ t. apart_empty (block 0 0) (text_block (cell_at h t)) refl;
      vectors = λ t. apart_empty (block 0 0) (vector_block (cell_at h t)) refl;
    }

pub pair_fits : (h : Heap) (a d : ℕ) → in_use h a ≡ true → in_use h d ≡ true → CellFits h (pair a d)
unfolding sound_rules call_rules
pair_fits h a d p q =
    record {
      good =
          record {
            allowed = refl;
            linked = both_true p q;
            held = λ k low high. absurd (omega arith);
            text_in = lies_none (length h.bytes);
            vector_in = lies_none (length h.elements);
          };
      texts = λ t. apart_empty (block 0 0) (text_block (cell_at h t)) refl;
      vectors = λ t. apart_empty (block 0 0) (vector_block (cell_at h t)) refl;
    }

-- the cell of a slot, or a scalar
pub shown_fits : (h : Heap) → Good h → (v : Value) → ValueGood h v → CellFits h (shown h v)
unfolding sound_rules
shown_fits h g (slot t) v = record { good = g.cells t; texts = g.texts t; vectors = g.vectors t }
shown_fits h g (scalar s) v = plain_fits h s v.allowed

pub shown_clear : (n : ℕ) (h : Heap) (v : Value) → ClearOf n h (shown h v)
unfolding sound_rules
shown_clear n h (slot t) b l c = c t
shown_clear n h (scalar s) b l c = clear_empty n h (plain s) refl b l c

-- ---- blocks behind a room

-- it is empty and at place 0, or it begins where the room ends
pub data Behind (n : ℕ) (b : Block) : Type 0 where
  nothing : b.size ≡ 0 → b.place ≡ 0 → Behind n b
  after : 0 < b.size → b.place ≡ n → Behind n b

pub behind : {A : Type 0} (room : List A) (n : ℕ) → Behind (length room) (block_after room n)
behind room n =
    elim (ℕ_discrete n 0) [
      | yes e ↦ nothing e (ap (λ (b : Bool). choose b 0 (length room)) (eq-eqb n 0 e))
      | no d ↦ after (omega arith) (ap (λ (b : Bool). choose b 0 (length room)) (ne_eqb n 0 d))
    ]

pub behind_apart : (n : ℕ) (b c : Block) → Behind n b → c.place + c.size ≤ n → apart b c ≡ true
behind_apart n b c (nothing e z) l = apart_empty b c e
behind_apart n b c (after p e) l = apart_after b c (omega arith)

pub behind_lies : (n m : ℕ) (b : Block) → Behind n b → n + b.size ≤ m → lies_in m b ≡ true
unfolding sound_rules
behind_lies n m b (nothing e z) l =
    both_true (le-leb (b.place + b.size) m (omega arith)) (either_right (not (eqb b.size 0)) (eq-eqb b.place 0 z))
behind_lies n m b (after p e) l =
    both_true (le-leb (b.place + b.size) m (omega arith)) (either_left _ (ap not (ne_eqb b.size 0 (λ z. omega arith))))

-- a text that was added is read back
pub text_behind : (h : Heap) (t : List ℕ) (b : Block) → b.size ≡ length t → Behind (length h.bytes) b → text_of (with_bytes h t) b ≡ t
text_behind h t b s (nothing e z) =
    ap (λ (n : ℕ). take n (drop b.place (h.bytes ++ t))) e ∙ sym (no_elements t (omega arith))
text_behind h t b s (after p e) =
    (λ i. take (s i) (drop (e i) (h.bytes ++ t))) ∙ ap (take (length t)) (drop-append_seam h.bytes t) ∙ take-length t

-- ---- a new cell

-- what a put came to, with the heap that it began with
pub record Done (from : ℕ) (h₀ : Heap) (p : Put) : Type 0 where
  pub good : Good p.making.heap
  pub grows : Grows from h₀ p.making.heap
  pub value : ValueGood p.making.heap p.value

-- it came to a slot
pub record InSlot (from : ℕ) (h₀ : Heap) (p : Put) : Type 0 where
  pub good : Good p.making.heap
  pub grows : Grows from h₀ p.making.heap
  pub is : p.value ≡ slot (slot_in p)
  pub used : in_use p.making.heap (slot_in p) ≡ true

-- to one that was not in use before, with this cell
pub record New (from : ℕ) (h₀ : Heap) (c : Cell) (p : Put) : Type 0 where
  pub good : Good p.making.heap
  pub grows : Grows from h₀ p.making.heap
  pub is : p.value ≡ slot (slot_in p)
  pub used : in_use p.making.heap (slot_in p) ≡ true
  pub cell : cell_at p.making.heap (slot_in p) ≡ c
  pub fresh : in_use h₀ (slot_in p) ≡ false

pub slot_good : (h : Heap) (v : Value) (s : ℕ) → v ≡ slot s → in_use h s ≡ true → ValueGood h v
unfolding sound_rules
slot_good h v s e u = subst (λ (x : Value). ValueGood h x) (sym e) (record { allowed = refl; named = u })

pub new_done : {from : ℕ} {h₀ : Heap} {c : Cell} {p : Put} → New from h₀ c p → Done from h₀ p
new_done {from} {h₀} {c} {p} n =
    record {
      good = n.good;
      grows = n.grows;
      value = slot_good p.making.heap p.value (slot_in p) n.is n.used;
    }

-- a slot that is not in use is no entry's
unused_unlisted : (h : Heap) → Good h → (s : ℕ) → in_use h s ≡ false → Unlisted h s
unfolding sound_rules
unused_unlisted h g s f i l e =
    true≢false (sym (both_left (in_use h (entry_at h i).slot) _ (g.entries i l)) ∙ ap (in_use h) e ∙ f)

pub took_unlisted : (h : Heap) (t : Given) → Good h → Took h t → Unlisted t.heap t.slot
unfolding entry_at
took_unlisted h t g k i l e =
    unused_unlisted h g t.slot k.fresh i (omega (arith, ap length k.table))
    (ap (λ (x : List Entry). (get_or x i (record { slot = 0; scope = 0 })).slot) (sym k.table) ∙ e)

fits_took : (h : Heap) (t : Given) (c : Cell) → Took h t → CellFits h c → CellFits t.heap c
fits_took h t c k f =
    record {
      good = cell_kept h t.heap (took_wider h t k) c f.good;
      texts = λ s. ap (λ (x : Cell). apart (text_block c) (text_block x)) (k.cells s) ∙ f.texts s;
      vectors = λ s. ap (λ (x : Cell). apart (vector_block c) (vector_block x)) (k.cells s) ∙ f.vectors s;
    }

pub new_cell_done : {from : ℕ} {h₀ : Heap} (m : Making) (c : Cell) → Good m.heap → Grows from h₀ m.heap → CellFits m.heap c → ClearOf (length h₀.elements) m.heap c → New from h₀ c (new_cell c m)
unfolding new_cell slot_in
new_cell_done {from} {h₀} m c g gr f cl =
    let h = m.heap in
    let t = alloc h in
    let k = took h g in
    let ft = fits_took h t c k f in
    let new = unused_before gr t.slot k.fresh in
    let gt = grows_trans gr (grows_took from h t k) (omega arith) in
    record {
      good = with_cell_good t.heap t.slot c k.good k.taken (took_unlisted h t g k) ft.good ft.texts ft.vectors;
      grows =
          grows_cell gt t.slot c new k.taken
          (λ b l x. cl b l (λ s. ap (λ (y : Cell). apart b (vector_block y)) (sym (k.cells s)) ∙ x s));
      is = refl;
      used = with_cell_used t.heap t.slot c t.slot ∙ k.taken;
      cell = with_cell_at t.heap t.slot c (used_slot t.heap t.slot k.taken).below;
      fresh = new;
    }

pub new_cell_table : (m : Making) (c : Cell) → Good m.heap → (new_cell c m).making.heap.table ≡ m.heap.table
unfolding new_cell
new_cell_table m c g = (took m.heap g).table

pub new_cell_bytes : (m : Making) (c : Cell) → Good m.heap → (new_cell c m).making.heap.bytes ≡ m.heap.bytes
unfolding new_cell
new_cell_bytes m c g = (took m.heap g).bytes

-- ---- a value in a slot

-- what was put, with the labels as they were
pub record SlotDone (from : ℕ) (h₀ : Heap) (ls : List Label) (p : Put) : Type 0 where
  pub here : InSlot from h₀ p
  pub labels : p.making.labels ≡ ls

in_slot_by : {from : ℕ} {h₀ : Heap} (v : Value) (m : Making) → Good m.heap → Grows from h₀ m.heap → ValueGood m.heap v → SlotDone from h₀ m.labels (in_slot (put_as v m))
unfolding in_slot slot_in new_cell sound_rules
in_slot_by (slot s) m g gr v =
    record { here = record { good = g; grows = gr; is = refl; used = v.named }; labels = refl }
in_slot_by {from} {h₀} (scalar s) m g gr v =
    let n =
    new_cell_done m (plain s) g gr (plain_fits m.heap s v.allowed) (clear_empty (length h₀.elements) m.heap (plain s) refl)
    in
    record { here = record { good = n.good; grows = n.grows; is = n.is; used = n.used }; labels = refl }

pub in_slot_done : {from : ℕ} {h₀ : Heap} (p : Put) → Done from h₀ p → SlotDone from h₀ p.making.labels (in_slot p)
unfolding in_slot
in_slot_done p d = in_slot_by p.value p.making d.good d.grows d.value

-- ---- texts

-- the cell of a text that was added behind the bytes in use
text_cell_fits : (h : Heap) → Good h → (t : List ℕ) (c : Cell) → text_block c ≡ block_after h.bytes (length t) → vector_block c ≡ block 0 0 → cell_allowed (with_bytes h t) c ≡ true → cell_in_use h c ≡ true → CellFits (with_bytes h t) c
unfolding call_rules
text_cell_fits h g t c e z allowed linked =
    let b = block_after h.bytes (length t) in
    let bh = behind h.bytes (length t) in
    record {
      good =
          record {
            allowed = allowed;
            linked = same_links c linked;
            held = λ k low high. absurd (omega (arith, ap (λ (x : Block). x.place) z, ap (λ (x : Block). x.size) z));
            text_in =
                ap (lies_in (length (h.bytes ++ t))) e
                ∙ behind_lies (length h.bytes) (length (h.bytes ++ t)) b bh (omega (arith, length-append h.bytes t));
            vector_in = ap (lies_in (length h.elements)) z ∙ lies_none (length h.elements);
          };
      texts =
          λ s.
          ap (λ (x : Block). apart x (text_block (cell_at h s))) e
          ∙ behind_apart (length h.bytes) b (text_block (cell_at h s)) bh (lies_below (length h.bytes) (text_block (cell_at h s)) (g.cells s).text_in);
      vectors = λ s. apart_empty (vector_block c) (vector_block (cell_at h s)) (ap (λ (x : Block). x.size) z);
    }
  where
    same_links : (c : Cell) → cell_in_use h c ≡ true → cell_in_use (with_bytes h t) c ≡ true
    same_links (plain s) e = refl
    same_links (pair a d) e = e
    same_links (symbol b) e = refl
    same_links (string b) e = refl
    same_links (vector b) e = refl

text_read : (h : Heap) (t : List ℕ) → utf8 t ≡ true → utf8 (text_of (with_bytes h t) (block_after h.bytes (length t))) ≡ true
text_read h t u = ap utf8 (text_behind h t (block_after h.bytes (length t)) refl (behind h.bytes (length t))) ∙ u

pub record AtomDone (from : ℕ) (m : Making) (p : Put) : Type 0 where
  pub done : Done from m.heap p
  pub labels : p.making.labels ≡ m.labels

pub put_string_done : (from : ℕ) (m : Making) (t : List ℕ) → Good m.heap → utf8 t ≡ true → length t ≤ most_string → AtomDone from m (put_string t m)
unfolding put_string new_cell sound_rules call_rules
put_string_done from m t g u l =
    let h = m.heap in
    let c = string (block_after h.bytes (length t)) in
    let m' = making (with_bytes h t) m.labels in
    let f = text_cell_fits h g t c refl refl (both_true (le-leb (length t) most_string l) (text_read h t u)) refl in
    record {
      done =
          new_done
          (new_cell_done m' c (with_bytes_good h t g) (grows_bytes from h t) f
          (clear_empty (length h.elements) (with_bytes h t) c refl));
      labels = refl;
    }

-- ---- symbols

pub grows_wider : {from : ℕ} {h h' : Heap} → Grows from h h' → Wider h h'
grows_wider g = record { used = g.used; more = g.text; bytes = g.bytes; room = g.room; held = g.held }

symbol_name : (h : Heap) (s : ℕ) (b : Block) → cell_at h s ≡ symbol b → name_at h s ≡ text_of h b
unfolding heap_rules
symbol_name h s b e =
    ap
    (λ (c : Cell). elim c as (λ c. List ℕ) [ plain x ↦ [] | pair a d ↦ [] | symbol b ↦ text_of h b | string b ↦ [] | vector b ↦ [] ])
    e

module _ (from : ℕ) (m : Making) (g : Good m.heap) (name : List ℕ) (scope : ℕ) (u : utf8 name ≡ true) (l : length name ≤ most_name) (small : scope < bits32) where
  cell : Cell
  cell = symbol (block_after m.heap.bytes (length name))

  begun : Making
  begun = making (with_bytes m.heap name) m.labels

  named : Put
  named = new_cell cell begun

  begun_good : Good begun.heap
  unfolding begun
  begun_good = with_bytes_good m.heap name g

  named_new : New from m.heap cell named
  unfolding named begun cell sound_rules call_rules
  named_new =
      let h = m.heap in
      let f = text_cell_fits h g name cell refl refl (both_true (le-leb (length name) most_name l) (text_read h name u)) refl in
      new_cell_done begun cell begun_good (grows_bytes from h name) f (clear_empty (length h.elements) (with_bytes h name) cell refl)

  named_table : named.making.heap.table ≡ m.heap.table
  unfolding named begun
  named_table = new_cell_table begun cell begun_good

  named_text : name_at named.making.heap (slot_in named) ≡ name
  unfolding named begun cell
  named_text =
      let b = block_after m.heap.bytes (length name) in
      symbol_name named.making.heap (slot_in named) b named_new.cell
      ∙ ap (λ (x : List ℕ). take b.size (drop b.place x)) (new_cell_bytes begun cell begun_good)
      ∙ text_behind m.heap name b refl (behind m.heap.bytes (length name))

  named_sound : entry_sound named.making.heap (record { slot = slot_in named; scope = scope }) ≡ true
  unfolding sound_rules cell
  named_sound = both_true named_new.used (both_true (ap is_symbol named_new.cell) (lt-ltb scope bits32 small))

  module _ (NoneFound : found m.heap name scope ≡ none) where
    named_differs : (i : ℕ) → i < length m.heap.table → entries_differ named.making.heap (entry_at m.heap i) (record { slot = slot_in named; scope = scope }) ≡ true
    unfolding heap_rules sound_rules entry_at
    named_differs i k =
        let h = m.heap in
        let e = entry_at h i in
        let u = both_left (in_use h e.slot) _ (g.entries i k) in
        let other = name_kept h named.making.heap (grows_wider named_new.grows) e.slot (g.cells e.slot) (named_new.grows.cells e.slot u) in
        let no = find_none (λ (e : Entry). both (eqb e.scope scope) (same (name_at h e.slot) name)) (record { slot = 0; scope = 0 }) h.table NoneFound i k in
        both_true (ap not (ne_eqb e.slot (slot_in named) (λ q. true≢false (sym u ∙ ap (in_use h) q ∙ named_new.fresh))))
        (ap not ((λ x. both (eqb e.scope scope) (same (other x) (named_text x))) ∙ no))

    differs_here : (i : ℕ) → i < length named.making.heap.table → entries_differ named.making.heap (entry_at named.making.heap i) (record { slot = slot_in named; scope = scope }) ≡ true
    unfolding entry_at
    differs_here i k =
        ap (λ (x : List Entry). entries_differ named.making.heap (get_or x i (record { slot = 0; scope = 0 })) (record { slot = slot_in named; scope = scope })) named_table
        ∙ named_differs i (omega (arith, ap length named_table))

    made : Done from m.heap (make_symbol name scope m)
    unfolding make_symbol named begun cell
    made =
        let e : Entry = record { slot = slot_in named; scope = scope } in
        record {
          good = with_entry_good named.making.heap e named_new.good named_sound differs_here;
          grows = grows_entry named_new.grows e named_new.fresh;
          value = slot_good (with_entry named.making.heap e) named.value (slot_in named) named_new.is named_new.used;
        }

    made_labels : (make_symbol name scope m).making.labels ≡ m.labels
    unfolding make_symbol new_cell
    made_labels = refl

  was : (e : Entry) → found m.heap name scope ≡ some e → Done from m.heap (put_as (slot e.slot) m)
  unfolding heap_rules sound_rules entry_at
  was e q =
      let h = m.heap in
      let z : Entry = record { slot = 0; scope = 0 } in
      let f = find_some (λ (e : Entry). both (eqb e.scope scope) (same (name_at h e.slot) name)) z h.table e q in
      record {
        good = g;
        grows = grows_refl from h;
        value =
            record {
              allowed = refl;
              named =
                  ap (λ (x : Entry). in_use h x.slot) (sym f.is)
                  ∙ both_left (in_use h (get_or h.table f.place z).slot) _ (g.entries f.place f.below);
            };
      }

  pub put_symbol_done : AtomDone from m (put_symbol name scope m)
  unfolding put_symbol
  put_symbol_done = by (found m.heap name scope) refl
    where
      by : (o : Option Entry) → found m.heap name scope ≡ o → AtomDone from m (elim o [ none ↦ make_symbol name scope m | some e ↦ put_as (slot e.slot) m ])
      by none q = record { done = made q; labels = made_labels q }
      by (some e) q = record { done = was e q; labels = refl }
