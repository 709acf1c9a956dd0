-- The pass over the texts, slot by slot. Assumes nothing.
use mathlib.Core.Path.{◌≡◌, refl, sym, ap, ◌∙◌, subst}
use mathlib.Core.Bool.{Bool, true, false, not, true≢false}
use mathlib.Core.List.{List, [], ◌∷◌, ◌++◌, map, append_assoc}
use mathlib.Core.Option.{Option, none, some}
use Prim.Native.Nat.{ℕ, zero, suc, ◌+◌, ◌-◌, ◌≤◌, ◌<◌}
use native.Mathlib.Omega.{arith}
use native.Mathlib.Numerals.{add-one}
use borrow.Author.Tests.{leb-true, eqb-true, eq-eqb}
use lib.Dec.{eqb, leb}
use lib.ListN.{take-append-drop, length, get_or, take, drop, set, length-append, length-drop, length-set}
use lib.Seq.{take_at, drop_at, drop-drop}
use Rattle.laws.specs.Basics.{choose, either}
use Rattle.laws.proofs.Tests.{both_left, both_right}
use Rattle.laws.proofs.Pointwise.{part_append}
use Rattle.rules.specs.Cells.{undefined, Block, block, Cell, plain, pair, symbol, string, vector}
use Rattle.rules.specs.Heap.{Heap, capacity, cell_at, part_of}
use Rattle.rules.specs.Layout.{words_of, filled, layout_rules}
use Rattle.rules.specs.Collect.{Packing, place_of, moved_block, collect_rules}
use Rattle.rules.specs.Sound.{text_block, sound_rules}
use Rattle.rules.proofs.LentLaws.{words_length, filled_length}
use Rattle.leaf_cells.specs.Cells.{loaded, stored_cell}
use Rattle.leaf_cells.proofs.CallLaws.{load_on}
use Rattle.leaf_cells.proofs.HeapLaws.{stored_cell_is}
use Rattle.heap_pack.specs.Moves.{placed, Written, TextMoved, TextReady, TextTurned, no_text, text_goes}
use Rattle.heap_pack.specs.Passes.{text_placed, with_cells, changed, TextsApart, TextsBegin, TextsEnd}
use Rattle.collect_laws.specs.Packs.{texts_of}
use Rattle.collect_laws.proofs.PackedCells.{text_packed, packed_whole, no_text as no_block}
use Rattle.collect_laws.proofs.Packings as packing
use Rattle.heap_pack.proofs.Tables as tables

-- ---- the first cells changed

pub changed_at : (f : Cell → Cell) (s : ℕ) (cs : List Cell) (d : Cell) → get_or (changed f s cs) s d ≡ get_or cs s d
changed_at f zero cs d = refl
changed_at f (suc s) [] d = refl
changed_at f (suc s) (x ∷ cs) d = changed_at f s cs d

pub changed_next : (f : Cell → Cell) (s : ℕ) (cs : List Cell) (c d : Cell) → s < length cs → c ≡ f (get_or cs s d) → set (changed f s cs) s c ≡ changed f (suc s) cs
changed_next f zero [] c d h e = absurd (omega arith)
changed_next f zero (x ∷ cs) c d h e = ap (λ (y : Cell). y ∷ cs) e
changed_next f (suc s) [] c d h e = absurd (omega arith)
changed_next f (suc s) (x ∷ cs) c d h e = ap (λ (l : List Cell). f x ∷ l) (changed_next f s cs c d (omega arith) e)

pub changed_same : (f : Cell → Cell) (s : ℕ) (cs : List Cell) (d : Cell) → s < length cs → f (get_or cs s d) ≡ get_or cs s d → changed f s cs ≡ changed f (suc s) cs
changed_same f zero [] d h e = absurd (omega arith)
changed_same f zero (x ∷ cs) d h e = ap (λ (y : Cell). y ∷ cs) (sym e)
changed_same f (suc s) [] d h e = absurd (omega arith)
changed_same f (suc s) (x ∷ cs) d h e = ap (λ (l : List Cell). f x ∷ l) (changed_same f s cs d (omega arith) e)

pub changed_all : (f : Cell → Cell) (cs : List Cell) → changed f (length cs) cs ≡ map f cs
changed_all f [] = refl
changed_all f (x ∷ cs) = ap (λ (l : List Cell). f x ∷ l) (changed_all f cs)

pub changed_length : (f : Cell → Cell) (s : ℕ) (cs : List Cell) → length (changed f s cs) ≡ length cs
changed_length f zero cs = refl
changed_length f (suc s) [] = refl
changed_length f (suc s) (x ∷ cs) = ap suc (changed_length f s cs)

module _ (h : Heap) (good : TextsApart h) where
  abbrev shows : ℕ → Block
  shows t = text_block (cell_at h t)

  pub inside : (s : ℕ) → (shows s).place + (shows s).size ≤ length h.bytes
  unfolding sound_rules
  inside s = leb-true _ _ (both_left (leb ((shows s).place + (shows s).size) (length h.bytes)) _ (good.lies s))

  abbrev packed : ℕ → Packing ℕ
  packed s = packing.packed h.bytes shows good.apart_all inside s

  pub packed_all : packed (capacity h) ≡ texts_of h
  packed_all = packed_whole h h.bytes text_block no_block (λ p. p.texts) refl (text_packed h) good.apart_all inside

  -- packed texts are no more than they were
  pub no_longer : length (texts_of h).room ≤ length h.bytes
  no_longer =
      omega (
        arith,
        ap (λ (p : Packing ℕ). length p.room) packed_all,
        packing.room_small h.bytes shows good.apart_all inside (capacity h),
      )

  -- ---- how far the pass has come

  abbrev f : Cell → Cell
  f = text_placed (texts_of h).moved

  pub record Going (n room s at : ℕ) (words bytes table : List ℕ) : Type 0 where
    pub words_are : words ≡ words_of n (with_cells h (changed f s h.cells))
    pub long : at ≡ length (packed s).room
    pub bytes_are : bytes ≡ (packed s).room ++ drop at (filled room h.bytes)
    pub listed : tables.Tabled h.bytes shows good.apart_all inside (packed s) table
    pub table_long : length table ≡ 65536

  module _ (n room : ℕ) (words₀ bytes₀ old table₀ : List ℕ) (b : TextsBegin n h room words₀ bytes₀ old table₀) where
    pub going_begins : Going n room 0 0 words₀ bytes₀ table₀
    unfolding packing.packed
    going_begins =
        record {
          words_are = b.words_are;
          long = refl;
          bytes_are = b.bytes_are;
          listed = tables.tabled_none h.bytes shows good.apart_all inside table₀ b.table_clear;
          table_long = b.table_long;
        }

    module _ (s at : ℕ) (words bytes table : List ℕ) (g : Going n room s at words bytes table) (below : s < capacity h) where
      loads : loaded words s ≡ cell_at h s
      loads =
          ap (λ (ws : List ℕ). loaded ws s) g.words_are
          ∙ load_on n (with_cells h (changed f s h.cells)) (words_of n (with_cells h (changed f s h.cells))) refl s (omega (arith, b.rows))
          ∙ changed_at f s h.cells (plain undefined)

      size_is : text_block (loaded words s) ≡ shows s
      size_is = ap text_block loads

      room_long : length bytes ≡ room
      room_long =
          omega (
            arith,
            ap length g.bytes_are,
            length-append (packed s).room (drop at (filled room h.bytes)),
            length-drop at (filled room h.bytes),
            filled_length room h.bytes b.within,
            packing.room_small h.bytes shows good.apart_all inside s,
            b.within,
            g.long,
          )

      pub ready : TextReady words bytes old table at s
      ready =
          record {
            row = omega (arith, ap length g.words_are, words_length n (with_cells h (changed f s h.cells)), b.rows);
            room =
                λ held.
                subst (λ (x : Block). Written table at x.place x.size (length old) (length bytes)) (sym size_is)
                (written (omega (arith, ap (λ (x : Block). x.size) size_is)));
          }
        where
          written : 0 < (shows s).size → Written table at (shows s).place (shows s).size (length old) (length bytes)
          written held =
              record {
                inside = omega (arith, inside s, b.old_long);
                listed = omega (arith, inside s, b.within, b.most, g.table_long);
                fits = λ z. omega (arith, tables.table_fits h.bytes shows good.apart_all inside s table g.listed held z, g.long, b.within, room_long);
                begins = omega (arith, packing.room_small h.bytes shows good.apart_all inside s, g.long, b.within, room_long);
                small = omega (arith, packing.room_small h.bytes shows good.apart_all inside s, g.long, b.within, b.most);
              }

      -- the cell after its turn is the cell with its text where it went
      final : (k : ℕ) → place_of (shows s) (packed (suc s)).moved ≡ some k → moved_block (shows s) (texts_of h).moved ≡ block k (shows s).size
      unfolding collect_rules
      final k e =
          let last : place_of (shows s) (texts_of h).moved ≡ some k =
          ap (λ (p : Packing ℕ). place_of (shows s) p.moved) (sym packed_all)
          ∙ ap (λ (m : ℕ). place_of (shows s) (packed m).moved) (sym up)
          ∙ packing.stays_to h.bytes shows good.apart_all inside (shows s) (suc s) (capacity h - suc s) k e
          in
          ap (λ (o : Option ℕ). elim o as (λ o. Block) [ none ↦ block 0 (shows s).size | some j ↦ block j (shows s).size ]) last
        where
          up : suc s + (capacity h - suc s) ≡ capacity h
          up = omega arith

      -- with nothing to move the cell stays as it is
      nowhere : (shows s).size ≡ 0 → moved_block (shows s) (texts_of h).moved ≡ shows s
      unfolding collect_rules sound_rules
      nowhere e =
          let gone : place_of (shows s) (texts_of h).moved ≡ none =
          ap (λ (p : Packing ℕ). place_of (shows s) p.moved) (sym packed_all)
          ∙ packing.empty_nowhere h.bytes shows good.apart_all inside (shows s) (capacity h) e
          in
          ap (λ (o : Option ℕ). elim o as (λ o. Block) [ none ↦ block 0 (shows s).size | some j ↦ block j (shows s).size ]) gone
          ∙ (λ i. block (sym (at_start (eqb (shows s).size 0) (eqb (shows s).place 0) (eq-eqb (shows s).size 0 e) refl (both_right (leb ((shows s).place + (shows s).size) (length h.bytes)) _ (good.lies s))) i) (shows s).size)
        where
          at_start : (u v : Bool) → u ≡ true → eqb (shows s).place 0 ≡ v → either (not u) v ≡ true → (shows s).place ≡ 0
          at_start true true p q r = eqb-true (shows s).place 0 q
          at_start true false p q r = absurd (true≢false (sym r))
          at_start false v p q r = absurd (true≢false (sym p))

      -- a text's block is its cell's
      symbol_shows : (x : Block) → cell_at h s ≡ symbol x → shows s ≡ x
      unfolding text_block
      symbol_shows x q = ap text_block q

      string_shows : (x : Block) → cell_at h s ≡ string x → shows s ≡ x
      unfolding text_block
      string_shows x q = ap text_block q

      vector_shows : (x : Block) → cell_at h s ≡ vector x → (shows s).size ≡ 0
      unfolding text_block
      vector_shows x q = ap (λ (c : Cell). (text_block c).size) q

      empty_same : (shows s).size ≡ 0 → f (cell_at h s) ≡ cell_at h s
      empty_same e = by (cell_at h s) refl
        where
          by : (c : Cell) → cell_at h s ≡ c → f c ≡ c
          by (plain x) q = refl
          by (pair a d) q = refl
          by (symbol x) q = ap symbol (subst (λ (y : Block). moved_block y (texts_of h).moved ≡ y) (symbol_shows x q) (nowhere e))
          by (string x) q = ap string (subst (λ (y : Block). moved_block y (texts_of h).moved ≡ y) (string_shows x q) (nowhere e))
          by (vector x) q = refl

      placed_is : (k : ℕ) → 0 < (shows s).size → place_of (shows s) (packed (suc s)).moved ≡ some k → placed k (cell_at h s) ≡ f (cell_at h s)
      placed_is k held e = by (cell_at h s) refl
        where
          by : (c : Cell) → cell_at h s ≡ c → placed k c ≡ f c
          by (plain x) q = refl
          by (pair a d) q = refl
          by (symbol x) q = ap symbol (subst (λ (y : Block). block k y.size ≡ moved_block y (texts_of h).moved) (symbol_shows x q) (sym (final k e)))
          by (string x) q = ap string (subst (λ (y : Block). block k y.size ≡ moved_block y (texts_of h).moved) (string_shows x q) (sym (final k e)))
          by (vector x) q = absurd (omega (arith, held, vector_shows x q))

      -- what is written is the room so far and the block behind it
      part_is : part_of old (shows s) ≡ part_of h.bytes (shows s)
      part_is =
          ap (λ (l : List ℕ). part_of l (shows s)) (sym (take-append-drop (length h.bytes) old) ∙ ap (λ (l : List ℕ). l ++ drop (length h.bytes) old) b.old_is)
          ∙ part_append h.bytes (drop (length h.bytes) old) (shows s).place (shows s).size (inside s)

      bytes_on : (t : Bool) → choose t (take at bytes ++ (part_of old (shows s) ++ drop (at + (shows s).size) bytes)) bytes ≡ choose t ((packed s).room ++ part_of h.bytes (shows s)) (packed s).room ++ drop (choose t (at + (shows s).size) at) (filled room h.bytes)
      bytes_on false = g.bytes_are
      bytes_on true =
          let B : List ℕ = filled room h.bytes in
          (λ i. take at (g.bytes_are i) ++ (part_is i ++ drop (at + (shows s).size) (g.bytes_are i)))
          ∙ (λ i. take_at (packed s).room (drop at B) at (sym g.long) i ++ (part_of h.bytes (shows s) ++ rest i))
          ∙ sym (append_assoc (packed s).room (part_of h.bytes (shows s)) (drop (at + (shows s).size) B))
        where
          rest : drop (at + (shows s).size) ((packed s).room ++ drop at (filled room h.bytes)) ≡ drop (at + (shows s).size) (filled room h.bytes)
          rest =
              sym (drop-drop (shows s).size at ((packed s).room ++ drop at (filled room h.bytes)))
              ∙ ap (drop (shows s).size) (drop_at (packed s).room (drop at (filled room h.bytes)) at (sym g.long))
              ∙ drop-drop (shows s).size at (filled room h.bytes)

      next : (words' bytes' table' : List ℕ) (r : ℕ) → TextTurned words bytes old table at s words' bytes' table' r → Going n room (suc s) r words' bytes' table'
      next words' bytes' table' r (no_text z e1 e2 e3 e4) =
          let empty : (shows s).size ≡ 0 = ap (λ (x : Block). x.size) (sym size_is) ∙ z in
          let p = packing.packed_empty h.bytes shows good.apart_all inside s empty in
          record {
            words_are = e1 ∙ g.words_are ∙ ap (λ (cs : List Cell). words_of n (with_cells h cs)) (changed_same f s h.cells (plain undefined) below (empty_same empty));
            long = e4 ∙ g.long ∙ ap (λ (x : Packing ℕ). length x.room) (sym p);
            bytes_are = e2 ∙ g.bytes_are ∙ (λ i. (sym p i).room ++ drop (sym e4 i) (filled room h.bytes));
            listed = subst (λ (x : Packing ℕ). tables.Tabled h.bytes shows good.apart_all inside x table') (sym p) (subst (tables.Tabled h.bytes shows good.apart_all inside (packed s)) (sym e3) g.listed);
            table_long = ap length e3 ∙ g.table_long;
          }
      next words' bytes' table' r (text_goes gone held m w q) =
          record {
            words_are = w ∙ stores;
            long = q ∙ st.long;
            bytes_are =
                at_shows.bytes_are ∙ bytes_on (eqb (get_or table (shows s).place 0) 0)
                ∙ (λ i. sym st.room i ++ drop (sym (q ∙ at_shows.end) i) (filled room h.bytes));
            listed = st.listed;
            table_long = ap length at_shows.table_is ∙ kept (eqb (get_or table (shows s).place 0) 0);
          }
        where
          holds : 0 < (shows s).size
          holds = omega (arith, held, ap (λ (x : Block). x.size) size_is)

          at_shows : TextMoved bytes old table at (shows s).place (shows s).size bytes' table' gone
          at_shows = subst (λ (x : Block). TextMoved bytes old table at x.place x.size bytes' table' gone) size_is m

          st : tables.Stepped h.bytes shows good.apart_all inside s at table gone.to gone.at table'
          st =
              tables.step h.bytes shows good.apart_all inside s at table gone.to gone.at table' g.long g.listed holds
              (omega (arith, holds, inside s, b.within, b.most, g.table_long)) at_shows.to at_shows.end at_shows.table_is

          kept : (t : Bool) → length (choose t (set table (shows s).place (at + 1)) table) ≡ 65536
          kept true = length-set table (shows s).place (at + 1) ∙ g.table_long
          kept false = g.table_long

          stores : stored_cell words s (placed gone.to (loaded words s)) ≡ words_of n (with_cells h (changed f (suc s) h.cells))
          stores =
              (λ i. stored_cell (g.words_are i) s (placed gone.to (loads i)))
              ∙ stored_cell_is n (with_cells h (changed f s h.cells)) s (placed gone.to (cell_at h s)) (omega (arith, changed_length f s h.cells)) (omega (arith, changed_length f s h.cells, b.rows))
              ∙ ap (λ (cs : List Cell). words_of n (with_cells h cs)) (changed_next f s h.cells (placed gone.to (cell_at h s)) (plain undefined) below (placed_is gone.to holds st.goes))

      pub turned : (words' bytes' table' : List ℕ) (r : ℕ) → TextTurned words bytes old table at s words' bytes' table' r → Going n room (s + 1) r words' bytes' table'
      turned words' bytes' table' r t = subst (λ (m : ℕ). Going n room m r words' bytes' table') (sym (add-one s)) (next words' bytes' table' r t)

    -- ---- the end of the pass

    pub ends : (at : ℕ) (words bytes table : List ℕ) → Going n room (capacity h) at words bytes table → TextsEnd n h room words bytes at
    ends at words bytes table g =
        record {
          words_are = g.words_are ∙ ap (λ (cs : List Cell). words_of n (with_cells h cs)) (changed_all f h.cells);
          bytes_are = g.bytes_are ∙ ap (λ (p : Packing ℕ). p.room ++ drop at (filled room h.bytes)) packed_all;
          used = g.long ∙ ap (λ (p : Packing ℕ). length p.room) packed_all;
        }

-- ---- all slots

pub capacity_in : (n : ℕ) (h : Heap) (words : List ℕ) → words ≡ words_of n h → get_or words 1 0 ≡ capacity h
unfolding layout_rules
capacity_in n h words e = ap (λ (l : List ℕ). get_or l 1 0) e

pub header_in : (n : ℕ) (h : Heap) (words : List ℕ) → words ≡ words_of n h → 8 ≤ length words
header_in n h words e = omega (arith, ap length e, words_length n h)

-- the pass so far, whatever heap the lists are
pub SoFar : (words₀ bytes₀ old table₀ words bytes table : List ℕ) (at s : ℕ) → Type 0
SoFar words₀ bytes₀ old table₀ words bytes table at s =
    (n : ℕ) (h : Heap) (room : ℕ) (b : TextsBegin n h room words₀ bytes₀ old table₀) → (s ≤ capacity h) × Going h b.good n room s at words bytes table

module _ (words₀ bytes₀ old table₀ : List ℕ) where
  pub so_far_none : SoFar words₀ bytes₀ old table₀ words₀ bytes₀ table₀ 0 0
  unfolding SoFar
  so_far_none n h room b = (omega arith, going_begins h b.good n room words₀ bytes₀ old table₀ b)

  module _ (words bytes table : List ℕ) (at s : ℕ) (far : SoFar words₀ bytes₀ old table₀ words bytes table at s) where
    pub so_far_ready : (n : ℕ) (h : Heap) (room : ℕ) → TextsBegin n h room words₀ bytes₀ old table₀ → s < get_or words₀ 1 0 → TextReady words bytes old table at s
    unfolding SoFar
    so_far_ready n h room b l =
        ready h b.good n room words₀ bytes₀ old table₀ b s at words bytes table (far n h room b).1
        (omega (arith, l, capacity_in n h words₀ b.words_are))

    pub so_far_on : (words' bytes' table' : List ℕ) (r : ℕ) → s < get_or words₀ 1 0 → TextTurned words bytes old table at s words' bytes' table' r → SoFar words₀ bytes₀ old table₀ words' bytes' table' r (s + 1)
    unfolding SoFar
    so_far_on words' bytes' table' r l t n h room b =
        let below : s < capacity h = omega (arith, l, capacity_in n h words₀ b.words_are) in
        (omega (arith, below), turned h b.good n room words₀ bytes₀ old table₀ b s at words bytes table (far n h room b).1 below words' bytes' table' r t)

    pub so_far_ends : get_or words₀ 1 0 ≤ s → (n : ℕ) (h : Heap) (room : ℕ) → TextsBegin n h room words₀ bytes₀ old table₀ → TextsEnd n h room words bytes at
    unfolding SoFar
    so_far_ends l n h room b =
        let whole : s ≡ capacity h = omega (arith, l, capacity_in n h words₀ b.words_are, (far n h room b).0) in
        ends h b.good n room words₀ bytes₀ old table₀ b at words bytes table
        (subst (λ (k : ℕ). Going h b.good n room k at words bytes table) whole (far n h room b).1)
