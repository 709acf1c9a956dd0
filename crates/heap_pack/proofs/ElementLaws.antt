-- The pass over the elements, slot by slot, three words each. Assumes nothing.
use mathlib.Core.Path.{◌≡◌, refl, sym, ap, ◌∙◌, subst}
use mathlib.Core.Bool.{Bool, true, false, not, true≢false}
use mathlib.Core.List.{List, ◌++◌, append_assoc}
use mathlib.Core.Option.{Option, none, some}
use Prim.Native.Nat.{ℕ, suc, ◌+◌, ◌-◌, ◌*◌, ◌/◌, ◌≤◌, ◌<◌}
use native.Mathlib.Omega.{arith}
use native.Mathlib.Numerals.{add-one}
use borrow.Author.Tests.{leb-true, eqb-true, eq-eqb}
use lib.Dec.{eqb, leb}
use lib.ListN.{take-append-drop, length, get_or, take, drop, set, length-append, length-drop, length-set}
use lib.Seq.{take_at, drop_at, drop-drop}
use Rattle.laws.specs.Basics.{choose, either, join}
use Rattle.laws.proofs.Tests.{both_left, both_right, join_append}
use Rattle.laws.proofs.Pointwise.{part_append}
use Rattle.laws.proofs.Lists.{take-rows, drop-rows}
use Rattle.rules.specs.Cells.{undefined, Value, Block, block, Cell, plain, pair, symbol, string, vector}
use Rattle.rules.specs.Heap.{Heap, capacity, cell_at, part_of}
use Rattle.rules.specs.Layout.{words_of, filled, value_words}
use Rattle.rules.specs.Collect.{Packing, place_of, moved_block, collect_rules}
use Rattle.rules.specs.Sound.{vector_block, sound_rules}
use Rattle.rules.proofs.LentLaws.{value_width, words_length, filled_length, elements_length}
use Rattle.leaf_cells.specs.Cells.{loaded, stored_cell}
use Rattle.leaf_cells.proofs.CallLaws.{load_on}
use Rattle.leaf_cells.proofs.HeapLaws.{stored_cell_is}
use Rattle.heap_pack.specs.Moves.{placed, Written, ElementsMoved, ElementsReady, ElementsTurned, no_vector, vector_goes}
use Rattle.heap_pack.specs.Passes.{value_list, vector_placed, with_cells, changed, VectorsApart, ElementsBegin, ElementsEnd}
use Rattle.collect_laws.specs.Packs.{vectors_of}
use Rattle.collect_laws.proofs.PackedCells.{vector_packed, packed_whole, no_vector as no_block}
use Rattle.collect_laws.proofs.Packings as packing
use Rattle.heap_pack.proofs.Tables as tables
use Rattle.heap_pack.proofs.TextLaws.{changed_at, changed_next, changed_same, changed_all, changed_length, capacity_in}

-- ---- three words an element

part_values : (vs : List Value) (b : Block) → part_of (value_list vs) (block (3 * b.place) (3 * b.size)) ≡ value_list (part_of vs b)
part_values vs b =
    ap (take (3 * b.size)) (drop-rows 3 value_words value_width b.place vs)
    ∙ take-rows 3 value_words value_width b.size (drop b.place vs)

pub values_append : (vs ws : List Value) → value_list (vs ++ ws) ≡ value_list vs ++ value_list ws
values_append vs ws = join_append value_words vs ws

module _ (h : Heap) (good : VectorsApart h) where
  abbrev shows : ℕ → Block
  shows t = vector_block (cell_at h t)

  pub inside : (s : ℕ) → (shows s).place + (shows s).size ≤ length h.elements
  unfolding sound_rules
  inside s = leb-true _ _ (both_left (leb ((shows s).place + (shows s).size) (length h.elements)) _ (good.lies s))

  abbrev packed : ℕ → Packing Value
  packed s = packing.packed h.elements shows good.apart_all inside s

  pub packed_all : packed (capacity h) ≡ vectors_of h
  packed_all = packed_whole h h.elements vector_block no_block (λ p. p.vectors) refl (vector_packed h) good.apart_all inside

  -- packed elements are no more than they were
  pub no_longer : length (vectors_of h).room ≤ length h.elements
  no_longer =
      omega (
        arith,
        ap (λ (p : Packing Value). length p.room) packed_all,
        packing.room_small h.elements shows good.apart_all inside (capacity h),
      )

  -- ---- how far the pass has come

  abbrev f : Cell → Cell
  f = vector_placed (vectors_of h).moved

  pub record Going (n room s at : ℕ) (words elems table : List ℕ) : Type 0 where
    pub words_are : words ≡ words_of n (with_cells h (changed f s h.cells))
    pub long : at ≡ length (packed s).room
    pub elems_are : elems ≡ value_list (packed s).room ++ drop (3 * at) (filled (3 * room) (value_list h.elements))
    pub listed : tables.Tabled h.elements shows good.apart_all inside (packed s) table
    pub table_long : length table ≡ 16384

  module _ (n room : ℕ) (words₀ elems₀ old table₀ : List ℕ) (b : ElementsBegin n h room words₀ elems₀ old table₀) where
    pub going_begins : Going n room 0 0 words₀ elems₀ table₀
    unfolding packing.packed join filled
    going_begins =
        record {
          words_are = b.words_are;
          long = refl;
          elems_are = b.elems_are;
          listed = tables.tabled_none h.elements shows good.apart_all inside table₀ b.table_clear;
          table_long = b.table_long;
        }

    module _ (s at : ℕ) (words elems table : List ℕ) (g : Going n room s at words elems table) (below : s < capacity h) where
      loads : loaded words s ≡ cell_at h s
      loads =
          ap (λ (ws : List ℕ). loaded ws s) g.words_are
          ∙ load_on n (with_cells h (changed f s h.cells)) (words_of n (with_cells h (changed f s h.cells))) refl s (omega (arith, b.rows))
          ∙ changed_at f s h.cells (plain undefined)

      size_is : vector_block (loaded words s) ≡ shows s
      size_is = ap vector_block loads

      room_long : length elems ≡ 3 * room
      room_long =
          omega (
            arith,
            ap length g.elems_are,
            length-append (value_list (packed s).room) (drop (3 * at) (filled (3 * room) (value_list h.elements))),
            elements_length (packed s).room,
            length-drop (3 * at) (filled (3 * room) (value_list h.elements)),
            filled_length (3 * room) (value_list h.elements) (omega (arith, elements_length h.elements, b.within)),
            packing.room_small h.elements shows good.apart_all inside s,
            b.within,
            g.long,
          )

      pub ready : ElementsReady words elems old table at s
      ready =
          record {
            row = omega (arith, ap length g.words_are, words_length n (with_cells h (changed f s h.cells)), b.rows);
            room =
                λ held.
                subst (λ (x : Block). Written table at x.place x.size (length old / 3) (length elems / 3)) (sym size_is)
                (written (omega (arith, ap (λ (x : Block). x.size) size_is)));
          }
        where
          written : 0 < (shows s).size → Written table at (shows s).place (shows s).size (length old / 3) (length elems / 3)
          written held =
              record {
                inside = omega (arith, inside s, b.old_long);
                listed = omega (arith, inside s, b.within, b.most, g.table_long);
                fits = λ z. omega (arith, tables.table_fits h.elements shows good.apart_all inside s table g.listed held z, g.long, b.within, room_long);
                begins = omega (arith, packing.room_small h.elements shows good.apart_all inside s, g.long, b.within, room_long);
                small = omega (arith, packing.room_small h.elements shows good.apart_all inside s, g.long, b.within, b.most);
              }

      -- the cell after its turn is the cell with its block where it went
      final : (k : ℕ) → place_of (shows s) (packed (suc s)).moved ≡ some k → moved_block (shows s) (vectors_of h).moved ≡ block k (shows s).size
      unfolding collect_rules
      final k e =
          let last : place_of (shows s) (vectors_of h).moved ≡ some k =
          ap (λ (p : Packing Value). place_of (shows s) p.moved) (sym packed_all)
          ∙ ap (λ (m : ℕ). place_of (shows s) (packed m).moved) (sym up)
          ∙ packing.stays_to h.elements shows good.apart_all inside (shows s) (suc s) (capacity h - suc s) k e
          in
          ap (λ (o : Option ℕ). elim o as (λ o. Block) [ none ↦ block 0 (shows s).size | some j ↦ block j (shows s).size ]) last
        where
          up : suc s + (capacity h - suc s) ≡ capacity h
          up = omega arith

      -- with nothing to move the cell stays as it is
      nowhere : (shows s).size ≡ 0 → moved_block (shows s) (vectors_of h).moved ≡ shows s
      unfolding collect_rules sound_rules
      nowhere e =
          let gone : place_of (shows s) (vectors_of h).moved ≡ none =
          ap (λ (p : Packing Value). place_of (shows s) p.moved) (sym packed_all)
          ∙ packing.empty_nowhere h.elements shows good.apart_all inside (shows s) (capacity h) e
          in
          ap (λ (o : Option ℕ). elim o as (λ o. Block) [ none ↦ block 0 (shows s).size | some j ↦ block j (shows s).size ]) gone
          ∙ (λ i. block (sym (at_start (eqb (shows s).size 0) (eqb (shows s).place 0) (eq-eqb (shows s).size 0 e) refl (both_right (leb ((shows s).place + (shows s).size) (length h.elements)) _ (good.lies s))) i) (shows s).size)
        where
          at_start : (u v : Bool) → u ≡ true → eqb (shows s).place 0 ≡ v → either (not u) v ≡ true → (shows s).place ≡ 0
          at_start true true p q r = eqb-true (shows s).place 0 q
          at_start true false p q r = absurd (true≢false (sym r))
          at_start false v p q r = absurd (true≢false (sym p))

      -- a vector's block is its cell's
      vector_shows : (x : Block) → cell_at h s ≡ vector x → shows s ≡ x
      unfolding vector_block
      vector_shows x q = ap vector_block q

      symbol_shows : (x : Block) → cell_at h s ≡ symbol x → (shows s).size ≡ 0
      unfolding vector_block
      symbol_shows x q = ap (λ (c : Cell). (vector_block c).size) q

      string_shows : (x : Block) → cell_at h s ≡ string x → (shows s).size ≡ 0
      unfolding vector_block
      string_shows x q = ap (λ (c : Cell). (vector_block c).size) q

      empty_same : (shows s).size ≡ 0 → f (cell_at h s) ≡ cell_at h s
      empty_same e = by (cell_at h s) refl
        where
          by : (c : Cell) → cell_at h s ≡ c → f c ≡ c
          by (plain x) q = refl
          by (pair a d) q = refl
          by (symbol x) q = refl
          by (string x) q = refl
          by (vector x) q = ap vector (subst (λ (y : Block). moved_block y (vectors_of h).moved ≡ y) (vector_shows x q) (nowhere e))

      placed_is : (k : ℕ) → 0 < (shows s).size → place_of (shows s) (packed (suc s)).moved ≡ some k → placed k (cell_at h s) ≡ f (cell_at h s)
      placed_is k held e = by (cell_at h s) refl
        where
          by : (c : Cell) → cell_at h s ≡ c → placed k c ≡ f c
          by (plain x) q = refl
          by (pair a d) q = refl
          by (symbol x) q = absurd (omega (arith, held, symbol_shows x q))
          by (string x) q = absurd (omega (arith, held, string_shows x q))
          by (vector x) q = ap vector (subst (λ (y : Block). block k y.size ≡ moved_block y (vectors_of h).moved) (vector_shows x q) (sym (final k e)))

      -- what is written is the room so far and the block behind it
      part_is : part_of old (block (3 * (shows s).place) (3 * (shows s).size)) ≡ value_list (part_of h.elements (shows s))
      part_is =
          ap (λ (l : List ℕ). part_of l (block (3 * (shows s).place) (3 * (shows s).size))) (sym (take-append-drop (3 * length h.elements) old) ∙ ap (λ (l : List ℕ). l ++ drop (3 * length h.elements) old) b.old_is)
          ∙ part_append (value_list h.elements) (drop (3 * length h.elements) old) (3 * (shows s).place) (3 * (shows s).size) (omega (arith, inside s, elements_length h.elements))
          ∙ part_values h.elements (shows s)

      elems_on : (t : Bool) → choose t (take (3 * at) elems ++ (part_of old (block (3 * (shows s).place) (3 * (shows s).size)) ++ drop (3 * (at + (shows s).size)) elems)) elems ≡ value_list (choose t ((packed s).room ++ part_of h.elements (shows s)) (packed s).room) ++ drop (3 * choose t (at + (shows s).size) at) (filled (3 * room) (value_list h.elements))
      elems_on false = g.elems_are
      elems_on true =
          (λ i. take (3 * at) (g.elems_are i) ++ (part_is i ++ drop (3 * (at + (shows s).size)) (g.elems_are i)))
          ∙ (λ i. take_at (value_list (packed s).room) (drop (3 * at) B) (3 * at) long i ++ (value_list (part_of h.elements (shows s)) ++ rest i))
          ∙ sym (append_assoc (value_list (packed s).room) (value_list (part_of h.elements (shows s))) (drop (3 * (at + (shows s).size)) B))
          ∙ ap (λ (l : List ℕ). l ++ drop (3 * (at + (shows s).size)) B) (sym (values_append (packed s).room (part_of h.elements (shows s))))
        where
          B : List ℕ
          B = filled (3 * room) (value_list h.elements)

          long : length (value_list (packed s).room) ≡ 3 * at
          long = omega (arith, elements_length (packed s).room, g.long)

          upto : 3 * at + 3 * (shows s).size ≡ 3 * (at + (shows s).size)
          upto = omega arith

          rest : drop (3 * (at + (shows s).size)) (value_list (packed s).room ++ drop (3 * at) (filled (3 * room) (value_list h.elements))) ≡ drop (3 * (at + (shows s).size)) (filled (3 * room) (value_list h.elements))
          rest =
              ap (λ (k : ℕ). drop k (value_list (packed s).room ++ drop (3 * at) (filled (3 * room) (value_list h.elements)))) (sym upto)
              ∙ sym (drop-drop (3 * (shows s).size) (3 * at) (value_list (packed s).room ++ drop (3 * at) (filled (3 * room) (value_list h.elements))))
              ∙ ap (drop (3 * (shows s).size)) (drop_at (value_list (packed s).room) (drop (3 * at) (filled (3 * room) (value_list h.elements))) (3 * at) long)
              ∙ drop-drop (3 * (shows s).size) (3 * at) (filled (3 * room) (value_list h.elements))
              ∙ ap (λ (k : ℕ). drop k (filled (3 * room) (value_list h.elements))) upto

      next : (words' elems' table' : List ℕ) (r : ℕ) → ElementsTurned words elems old table at s words' elems' table' r → Going n room (suc s) r words' elems' table'
      next words' elems' table' r (no_vector z e1 e2 e3 e4) =
          let empty : (shows s).size ≡ 0 = ap (λ (x : Block). x.size) (sym size_is) ∙ z in
          let p = packing.packed_empty h.elements shows good.apart_all inside s empty in
          record {
            words_are = e1 ∙ g.words_are ∙ ap (λ (cs : List Cell). words_of n (with_cells h cs)) (changed_same f s h.cells (plain undefined) below (empty_same empty));
            long = e4 ∙ g.long ∙ ap (λ (x : Packing Value). length x.room) (sym p);
            elems_are = e2 ∙ g.elems_are ∙ (λ i. value_list (sym p i).room ++ drop (3 * sym e4 i) (filled (3 * room) (value_list h.elements)));
            listed = subst (λ (x : Packing Value). tables.Tabled h.elements shows good.apart_all inside x table') (sym p) (subst (tables.Tabled h.elements shows good.apart_all inside (packed s)) (sym e3) g.listed);
            table_long = ap length e3 ∙ g.table_long;
          }
      next words' elems' table' r (vector_goes gone held m w q) =
          record {
            words_are = w ∙ stores;
            long = q ∙ st.long;
            elems_are =
                at_shows.elems_are ∙ elems_on (eqb (get_or table (shows s).place 0) 0)
                ∙ (λ i. value_list (sym st.room i) ++ drop (3 * sym (q ∙ at_shows.end) i) (filled (3 * room) (value_list h.elements)));
            listed = st.listed;
            table_long = ap length at_shows.table_is ∙ kept (eqb (get_or table (shows s).place 0) 0);
          }
        where
          holds : 0 < (shows s).size
          holds = omega (arith, held, ap (λ (x : Block). x.size) size_is)

          at_shows : ElementsMoved elems old table at (shows s).place (shows s).size elems' table' gone
          at_shows = subst (λ (x : Block). ElementsMoved elems old table at x.place x.size elems' table' gone) size_is m

          st : tables.Stepped h.elements shows good.apart_all inside s at table gone.to gone.at table'
          st =
              tables.step h.elements shows good.apart_all inside s at table gone.to gone.at table' g.long g.listed holds
              (omega (arith, holds, inside s, b.within, b.most, g.table_long)) at_shows.to at_shows.end at_shows.table_is

          kept : (t : Bool) → length (choose t (set table (shows s).place (at + 1)) table) ≡ 16384
          kept true = length-set table (shows s).place (at + 1) ∙ g.table_long
          kept false = g.table_long

          stores : stored_cell words s (placed gone.to (loaded words s)) ≡ words_of n (with_cells h (changed f (suc s) h.cells))
          stores =
              (λ i. stored_cell (g.words_are i) s (placed gone.to (loads i)))
              ∙ stored_cell_is n (with_cells h (changed f s h.cells)) s (placed gone.to (cell_at h s)) (omega (arith, changed_length f s h.cells)) (omega (arith, changed_length f s h.cells, b.rows))
              ∙ ap (λ (cs : List Cell). words_of n (with_cells h cs)) (changed_next f s h.cells (placed gone.to (cell_at h s)) (plain undefined) below (placed_is gone.to holds st.goes))

      pub turned : (words' elems' table' : List ℕ) (r : ℕ) → ElementsTurned words elems old table at s words' elems' table' r → Going n room (s + 1) r words' elems' table'
      turned words' elems' table' r t = subst (λ (m : ℕ). Going n room m r words' elems' table') (sym (add-one s)) (next words' elems' table' r t)

    -- ---- the end of the pass

    pub ends : (at : ℕ) (words elems table : List ℕ) → Going n room (capacity h) at words elems table → ElementsEnd n h room words elems at
    ends at words elems table g =
        record {
          words_are = g.words_are ∙ ap (λ (cs : List Cell). words_of n (with_cells h cs)) (changed_all f h.cells);
          elems_are = g.elems_are ∙ ap (λ (p : Packing Value). value_list p.room ++ drop (3 * at) (filled (3 * room) (value_list h.elements))) packed_all;
          used = g.long ∙ ap (λ (p : Packing Value). length p.room) packed_all;
        }

-- ---- all slots

-- the pass so far, whatever heap the lists are
pub SoFar : (words₀ elems₀ old table₀ words elems table : List ℕ) (at s : ℕ) → Type 0
SoFar words₀ elems₀ old table₀ words elems table at s =
    (n : ℕ) (h : Heap) (room : ℕ) (b : ElementsBegin n h room words₀ elems₀ old table₀) → (s ≤ capacity h) × Going h b.good n room s at words elems table

module _ (words₀ elems₀ old table₀ : List ℕ) where
  pub so_far_none : SoFar words₀ elems₀ old table₀ words₀ elems₀ table₀ 0 0
  unfolding SoFar
  so_far_none n h room b = (omega arith, going_begins h b.good n room words₀ elems₀ old table₀ b)

  module _ (words elems table : List ℕ) (at s : ℕ) (far : SoFar words₀ elems₀ old table₀ words elems table at s) where
    pub so_far_ready : (n : ℕ) (h : Heap) (room : ℕ) → ElementsBegin n h room words₀ elems₀ old table₀ → s < get_or words₀ 1 0 → ElementsReady words elems old table at s
    unfolding SoFar
    so_far_ready n h room b l =
        ready h b.good n room words₀ elems₀ old table₀ b s at words elems table (far n h room b).1
        (omega (arith, l, capacity_in n h words₀ b.words_are))

    pub so_far_on : (words' elems' table' : List ℕ) (r : ℕ) → s < get_or words₀ 1 0 → ElementsTurned words elems old table at s words' elems' table' r → SoFar words₀ elems₀ old table₀ words' elems' table' r (s + 1)
    unfolding SoFar
    so_far_on words' elems' table' r l t n h room b =
        let below : s < capacity h = omega (arith, l, capacity_in n h words₀ b.words_are) in
        (omega (arith, below), turned h b.good n room words₀ elems₀ old table₀ b s at words elems table (far n h room b).1 below words' elems' table' r t)

    pub so_far_ends : get_or words₀ 1 0 ≤ s → (n : ℕ) (h : Heap) (room : ℕ) → ElementsBegin n h room words₀ elems₀ old table₀ → ElementsEnd n h room words elems at
    unfolding SoFar
    so_far_ends l n h room b =
        let whole : s ≡ capacity h = omega (arith, l, capacity_in n h words₀ b.words_are, (far n h room b).0) in
        ends h b.good n room words₀ elems₀ old table₀ b at words elems table
        (subst (λ (k : ℕ). Going h b.good n room k at words elems table) whole (far n h room b).1)
