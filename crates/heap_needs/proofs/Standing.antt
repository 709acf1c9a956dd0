-- Which names stand in the table of a heap in the making: each step but a new entry leaves that as it was, and an entry adds
-- its own name. What each step adds to the slots and rooms in use. Assumes nothing.
use mathlib.Core.Path.{◌≡◌, refl, sym, ap, ◌∙◌}
use mathlib.Core.Bool.{Bool, true, false}
use mathlib.Core.List.{List, [], ◌∷◌, ◌++◌}
use mathlib.Core.Option.{Option, none, some}
use Prim.Native.Nat.{ℕ, ◌+◌, ◌<◌}
use native.Mathlib.Omega.{arith}
use lib.Dec.{eqb}
use lib.ListN.{length, take, drop, replicate, length-append, length-set, length-replicate}
use Rattle.laws.specs.Basics.{both, either, find, any, same, basics}
use Rattle.laws.proofs.Finding.{find_same}
use Rattle.laws.proofs.Tests.{either_false}
use Rattle.rules.specs.Cells.{Value, undefined, scalar, Block, Cell, plain, pair, symbol, string, vector}
use Rattle.rules.specs.Heap.{Heap, Entry, Given, text_of, name_at, used_count, block_after, with_cell, with_element, with_bytes, with_elements, with_entry, alloc, heap_rules}
use Rattle.rules.specs.Layout.{entry_at}
use Rattle.rules.specs.Put.{Making, making, new_cell, slot_in, make_symbol}
use Rattle.rules.proofs.Good.{Good, used_slot}
use Rattle.rules.proofs.Keeping.{name_kept, Unlisted, with_cell_at, with_cell_other, with_cell_capacity, with_cell_wider, with_bytes_wider, with_bytes_good}
use Rattle.rules.proofs.Allocate.{Took, took, took_wider}
use Rattle.rules.proofs.PutCells.{behind, text_behind, took_unlisted}
use Rattle.heap_needs.specs.Needs.{in_table, needs_rules}

-- ---- any

module _ {A : Type 0} (f : A → Bool) where
  pub found_any : (l : List A) → elim (find f l) as (λ o. Bool) [ none ↦ false | some a ↦ true ] ≡ any f l
  unfolding basics
  found_any [] = refl
  found_any (x ∷ l) = by (f x) (found_any l)
    where
      by : (b : Bool) → elim (find f l) as (λ o. Bool) [ none ↦ false | some a ↦ true ] ≡ any f l → elim (elim b as (λ b. Option A) [ true ↦ some x | false ↦ find f l ]) as (λ o. Bool) [ none ↦ false | some a ↦ true ] ≡ either b (any f l)
      by true e = refl
      by false e = e

  pub any_append : (l m : List A) → any f (l ++ m) ≡ either (any f l) (any f m)
  unfolding basics
  any_append [] m = refl
  any_append (x ∷ l) m = by (f x) (any_append l m)
    where
      by : (b : Bool) → any f (l ++ m) ≡ either (any f l) (any f m) → either b (any f (l ++ m)) ≡ either (either b (any f l)) (any f m)
      by true e = refl
      by false e = e

pub either_assoc : (a b c : Bool) → either (either a b) c ≡ either a (either b c)
either_assoc true b c = refl
either_assoc false b c = refl

-- ---- names that stand in a table

-- the entry is of this name and scope
abbrev named : Heap → List ℕ → ℕ → Entry → Bool
named h text scope e = both (eqb e.scope scope) (same (name_at h e.slot) text)

pub in_table_any : (h : Heap) (text : List ℕ) (scope : ℕ) → in_table h text scope ≡ any (named h text scope) h.table
unfolding needs_rules heap_rules
in_table_any h text scope = found_any (named h text scope) h.table

-- the same entries, whose slots show the names that they showed
pub in_table_same : (h h' : Heap) → h'.table ≡ h.table → ((i : ℕ) → i < length h.table → name_at h' (entry_at h i).slot ≡ name_at h (entry_at h i).slot) → (text : List ℕ) (scope : ℕ) → in_table h' text scope ≡ in_table h text scope
unfolding needs_rules heap_rules entry_at
in_table_same h h' e shows text scope =
    ap (λ (l : List Entry). elim (find (named h' text scope) l) as (λ o. Bool) [ none ↦ false | some a ↦ true ]) e
    ∙ ap (λ (o : Option Entry). elim o as (λ o. Bool) [ none ↦ false | some a ↦ true ])
    (find_same (record { slot = 0; scope = 0 }) (named h' text scope) (named h text scope) h.table
    (λ i l. ap (λ (x : List ℕ). both (eqb (entry_at h i).scope scope) (same x text)) (shows i l)))

-- ---- what a step adds

pub record Adds (slots bytes elements : ℕ) (h h' : Heap) : Type 0 where
  pub used : used_count h' ≡ used_count h + slots
  pub texts : length h'.bytes ≡ length h.bytes + bytes
  pub room : length h'.elements ≡ length h.elements + elements
  pub names : (text : List ℕ) (scope : ℕ) → in_table h' text scope ≡ in_table h text scope

pub adds_on : {s b e s' b' e' : ℕ} {h h' h'' : Heap} → Adds s b e h h' → Adds s' b' e' h' h'' → Adds (s + s') (b + b') (e + e') h h''
adds_on p q =
    record {
      used = omega (arith, p.used, q.used);
      texts = omega (arith, p.texts, q.texts);
      room = omega (arith, p.room, q.room);
      names = λ text scope. q.names text scope ∙ p.names text scope;
    }

pub took_adds : (h : Heap) (t : Given) → Good h → Took h t → Adds 1 0 0 h t.heap
took_adds h t g k =
    record {
      used = k.count;
      texts = omega (arith, ap length k.bytes);
      room = omega (arith, ap length k.elements);
      names =
          in_table_same h t.heap k.table
          (λ i l. name_kept h t.heap (took_wider h t k) (entry_at h i).slot (g.cells (entry_at h i).slot) (k.cells (entry_at h i).slot));
    }

pub cell_adds : (h : Heap) (s : ℕ) (c : Cell) → Good h → Unlisted h s → Adds 0 0 0 h (with_cell h s c)
cell_adds h s c g new =
    record {
      used = omega (arith, with_cell_capacity h s c);
      texts = omega arith;
      room = omega arith;
      names =
          in_table_same h (with_cell h s c) refl
          (λ i l. name_kept h (with_cell h s c) (with_cell_wider h s c) (entry_at h i).slot (g.cells (entry_at h i).slot) (with_cell_other h s c (entry_at h i).slot (new i l)));
    }

pub bytes_adds : (h : Heap) (t : List ℕ) → Good h → Adds 0 (length t) 0 h (with_bytes h t)
bytes_adds h t g =
    record {
      used = omega arith;
      texts = length-append h.bytes t;
      room = omega arith;
      names =
          in_table_same h (with_bytes h t) refl
          (λ i l. name_kept h (with_bytes h t) (with_bytes_wider h t) (entry_at h i).slot (g.cells (entry_at h i).slot) refl);
    }

pub elements_adds : (h : Heap) (n : ℕ) → Adds 0 0 n h (with_elements h (replicate n (scalar undefined)))
unfolding heap_rules needs_rules
elements_adds h n =
    record {
      used = omega arith;
      texts = omega arith;
      room = omega (arith, length-append h.elements (replicate n (scalar undefined)), length-replicate n (scalar undefined));
      names = λ text scope. refl;
    }

pub element_adds : (h : Heap) (k : ℕ) (v : Value) → Adds 0 0 0 h (with_element h k v)
unfolding heap_rules needs_rules
element_adds h k v =
    record {
      used = omega arith;
      texts = omega arith;
      room = omega (arith, length-set h.elements k v);
      names = λ text scope. refl;
    }

pub new_cell_adds : (m : Making) (c : Cell) → Good m.heap → Adds 1 0 0 m.heap (new_cell c m).making.heap
unfolding new_cell
new_cell_adds m c g =
    let t = alloc m.heap in
    let k = took m.heap g in
    adds_on (took_adds m.heap t g k) (cell_adds t.heap t.slot c k.good (took_unlisted m.heap t g k))

pub text_adds : (m : Making) (t : List ℕ) (c : Cell) → Good m.heap → Adds 1 (length t) 0 m.heap (new_cell c (making (with_bytes m.heap t) m.labels)).making.heap
text_adds m t c g =
    let a = bytes_adds m.heap t g in
    let b = new_cell_adds (making (with_bytes m.heap t) m.labels) c (with_bytes_good m.heap t g) in
    record {
      used = omega (arith, a.used, b.used);
      texts = omega (arith, a.texts, b.texts);
      room = omega (arith, a.room, b.room);
      names = λ text scope. b.names text scope ∙ a.names text scope;
    }

-- ---- a new symbol

pub in_table_entry : (h : Heap) (e : Entry) (text : List ℕ) (scope : ℕ) → in_table (with_entry h e) text scope ≡ either (in_table h text scope) (named h text scope e)
unfolding basics heap_rules
in_table_entry h e text scope =
    in_table_any (with_entry h e) text scope ∙ any_append (named h text scope) h.table (e ∷ [])
    ∙ (λ i. either (sym (in_table_any h text scope) i) (either_false (named h text scope e) i))

module _ (m : Making) (g : Good m.heap) (name : List ℕ) (scope : ℕ) where
  abbrev room : Block
  room = block_after m.heap.bytes (length name)

  abbrev begun : Making
  begun = making (with_bytes m.heap name) m.labels

  -- the slot's symbol has the name that was written for it
  symbol_named : name_at (new_cell (symbol room) begun).making.heap (slot_in (new_cell (symbol room) begun)) ≡ name
  unfolding new_cell slot_in heap_rules
  symbol_named =
      let t = alloc begun.heap in
      let k = took begun.heap (with_bytes_good m.heap name g) in
      ap
      (λ (c : Cell). elim c as (λ c. List ℕ) [ plain x ↦ [] | pair a d ↦ [] | symbol b ↦ text_of t.heap b | string b ↦ [] | vector b ↦ [] ])
      (with_cell_at t.heap t.slot (symbol room) (used_slot t.heap t.slot k.taken).below)
      ∙ ap (λ (x : List ℕ). take room.size (drop room.place x)) k.bytes
      ∙ text_behind m.heap name room refl (behind m.heap.bytes (length name))

  pub make_symbol_names : (text : List ℕ) (s : ℕ) → in_table (make_symbol name scope m).making.heap text s ≡ either (in_table m.heap text s) (both (eqb scope s) (same name text))
  unfolding make_symbol
  make_symbol_names text s =
      let p = new_cell (symbol room) begun in
      in_table_entry p.making.heap (record { slot = slot_in p; scope = scope }) text s
      ∙ (λ i. either ((text_adds m name (symbol room) g).names text s i) (both (eqb scope s) (same (symbol_named i) text)))
