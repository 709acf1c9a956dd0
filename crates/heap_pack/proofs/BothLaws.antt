-- Texts, then elements: the rules' packing of both. Assumes nothing.
use mathlib.Core.Path.{◌≡◌, refl, sym, ap, ◌∙◌}
use mathlib.Core.List.{List, [], ◌∷◌, map}
use Prim.Native.Nat.{ℕ, ◌*◌}
use native.Mathlib.Omega.{arith}
use lib.ListN.{length, get_or, length-map}
use Rattle.laws.specs.Basics.{zeros}
use Rattle.laws.proofs.Lists.{length-zeros, get_or_zeros}
use Rattle.rules.specs.Cells.{undefined, Cell, plain, pair, symbol, string, vector}
use Rattle.rules.specs.Heap.{Heap, cell_at}
use Rattle.rules.specs.Layout.{Rooms, words_of, filled}
use Rattle.rules.specs.Collect.{Moved, Packed, pack_block, pack_cell, pack_cells, packed_cell, pack, collect_rules}
use Rattle.rules.specs.Sound.{vector_block, lies_in}
use Rattle.rules.proofs.Good.{apart}
use Rattle.collect_laws.specs.Packs.{none_packed, texts_of, vectors_of}
use Rattle.collect_laws.proofs.PackedCells.{vector_packed, cell_mapped}
use Rattle.heap_pack.specs.Passes.{text_placed, vector_placed, with_texts, with_vectors, value_list, VectorsApart, TextsLent, TextsPacked, ElementsLent, ElementsPacked, TextsGiven, ElementsGiven, AllPacked}

-- room aside, all zero
pub texts_lent : (n : ℕ) (h : Heap) (room : ℕ) (words bytes old table : List ℕ) → length old ≡ 65536 → table ≡ zeros 65536 → TextsGiven n h room words bytes → TextsLent n h room words bytes old table
texts_lent n h room words bytes old table o t g =
    record {
      good = g.good;
      rows = g.rows;
      few = g.few;
      within = g.within;
      most = g.most;
      words_are = g.words_are;
      bytes_are = g.bytes_are;
      old_long = o;
      table_clear = λ k. ap (λ (l : List ℕ). get_or l k 0) t ∙ get_or_zeros 65536 k;
      table_long = ap length t ∙ length-zeros 65536;
    }

pub elements_lent : (n : ℕ) (h : Heap) (room : ℕ) (words elems old table : List ℕ) → length old ≡ 49152 → table ≡ zeros 16384 → ElementsGiven n h room words elems → ElementsLent n h room words elems old table
elements_lent n h room words elems old table o t g =
    record {
      good = g.good;
      rows = g.rows;
      few = g.few;
      within = g.within;
      most = g.most;
      words_are = g.words_are;
      elems_are = g.elems_are;
      old_long = o;
      table_clear = λ k. ap (λ (l : List ℕ). get_or l k 0) t ∙ get_or_zeros 16384 k;
      table_long = ap length t ∙ length-zeros 16384;
    }

-- ---- moving a text leaves a vector's block alone

vector_kept : (ms : List Moved) (c : Cell) → vector_block (text_placed ms c) ≡ vector_block c
unfolding vector_block
vector_kept ms (plain s) = refl
vector_kept ms (pair a d) = refl
vector_kept ms (symbol b) = refl
vector_kept ms (string b) = refl
vector_kept ms (vector b) = refl

module _ (h : Heap) where
  block_kept : (s : ℕ) → vector_block (cell_at (with_texts h) s) ≡ vector_block (cell_at h s)
  block_kept s =
      ap vector_block (cell_mapped (text_placed (texts_of h).moved) h.cells s (plain undefined) refl)
      ∙ vector_kept (texts_of h).moved (cell_at h s)

  apart_kept : VectorsApart h → VectorsApart (with_texts h)
  apart_kept v =
      record {
        apart_all = λ s t. (λ i. apart (block_kept s i) (block_kept t i)) ∙ v.apart_all s t;
        lies = λ s. ap (lies_in (length h.elements)) (block_kept s) ∙ v.lies s;
      }

  pub elements_given : (n room rb : ℕ) (words words₁ bytes₁ elems : List ℕ) → ElementsGiven n h room words elems → TextsPacked n h rb words₁ bytes₁ → ElementsGiven n (with_texts h) room words₁ elems
  elements_given n room rb words words₁ bytes₁ elems g t =
      record {
        good = apart_kept g.good;
        rows = omega (arith, g.rows, length-map h.cells (text_placed (texts_of h).moved));
        few = g.few;
        within = g.within;
        most = g.most;
        words_are = t.words_are;
        elems_are = g.elems_are;
      }

-- ---- the two passes are the rules' packing

-- the vectors are packed alike
vectors_alike : (h h' : Heap) (f : Cell → Cell) → h'.elements ≡ h.elements → ((c : Cell) → vector_block (f c) ≡ vector_block c) → (cs : List Cell) (p p' : Packed) → p'.vectors ≡ p.vectors → (pack_cells h' (map f cs) p').vectors ≡ (pack_cells h cs p).vectors
unfolding collect_rules
vectors_alike h h' f e k [] p p' q = q
vectors_alike h h' f e k (c ∷ cs) p p' q =
    vectors_alike h h' f e k cs (pack_cell h c p) (pack_cell h' (f c) p')
    (vector_packed h' (f c) p' ∙ (λ i. pack_block (e i) (k c i) (q i)) ∙ sym (vector_packed h c p))

packed_both : (p : Packed) (c : Cell) → vector_placed p.vectors.moved (text_placed p.texts.moved c) ≡ packed_cell p c
unfolding collect_rules
packed_both p (plain s) = refl
packed_both p (pair a d) = refl
packed_both p (symbol b) = refl
packed_both p (string b) = refl
packed_both p (vector b) = refl

map_both : (p : Packed) (cs : List Cell) → map (vector_placed p.vectors.moved) (map (text_placed p.texts.moved) cs) ≡ map (packed_cell p) cs
map_both p [] = refl
map_both p (c ∷ cs) = λ i. packed_both p c i ∷ map_both p cs i

module _ (h : Heap) where
  vectors_same : vectors_of (with_texts h) ≡ vectors_of h
  vectors_same =
      vectors_alike h (with_texts h) (text_placed (texts_of h).moved) refl (vector_kept (texts_of h).moved) h.cells none_packed none_packed refl

  pub pack_is : with_vectors (with_texts h) ≡ pack h
  unfolding collect_rules
  pack_is =
      (λ i.
      record {
        chunk = h.chunk;
        cells = map (vector_placed (vectors_same i).moved) (map (text_placed (texts_of h).moved) h.cells);
        map = h.map;
        free = h.free;
        table = h.table;
        bytes = (texts_of h).room;
        elements = (vectors_same i).room;
      })
      ∙ (λ i.
      record {
        chunk = h.chunk;
        cells = map_both (pack_cells h h.cells none_packed) h.cells i;
        map = h.map;
        free = h.free;
        table = h.table;
        bytes = (texts_of h).room;
        elements = (vectors_of h).room;
      })

  pub all_packed : (n : ℕ) (r : Rooms) (words₁ bytes₁ words₂ elems₂ : List ℕ) → TextsPacked n h r.bytes words₁ bytes₁ → ElementsPacked n (with_texts h) r.elements words₂ elems₂ → AllPacked n h r words₂ bytes₁ elems₂
  all_packed n r words₁ bytes₁ words₂ elems₂ t v =
      record {
        words_are = v.words_are ∙ ap (words_of n) pack_is;
        bytes_are = t.bytes_are ∙ ap (λ (x : Heap). filled r.bytes x.bytes) pack_is;
        elems_are = v.elems_are ∙ ap (λ (x : Heap). filled (3 * r.elements) (value_list x.elements)) pack_is;
      }
