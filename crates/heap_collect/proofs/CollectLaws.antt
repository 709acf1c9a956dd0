-- From marking through sweeping to packing: what each finds is what the one before left. Assumes nothing.
use mathlib.Core.Path.{◌≡◌, sym, ap, ◌∙◌, subst}
use mathlib.Core.List.{List}
use Prim.Native.Nat.{ℕ, ◌*◌}
use native.Mathlib.Omega.{arith}
use lib.ListN.{length}
use Rattle.laws.specs.Basics.{zeros}
use Rattle.rules.specs.Cells.{Value}
use Rattle.rules.specs.Heap.{Heap}
use Rattle.rules.specs.Layout.{Lent, rooms_of, heap_of, lent_of, words_of, filled, map_bytes, layout_rules}
use Rattle.rules.specs.Calls.{cleared}
use Rattle.rules.specs.Collect.{collect, collect_rules}
use Rattle.rules.proofs.TwoBits.{Bytes}
use Rattle.rules.proofs.Good.{Good}
use Rattle.rules.proofs.GoodSound.{sound_good}
use Rattle.rules.proofs.SoundLaws.{clauses, bounds, lists_again, sound_fits}
use Rattle.collect_laws.proofs.SweptHeap.{swept_heap, swept_so, swept_blocks, swept_texts_in, swept_vectors_in}
use Rattle.heap_sound_rows.specs.Rows.{lists}
use Rattle.heap_mark.specs.Marks.{CanMark, marked_map}
use Rattle.heap_mark.proofs.SoundMarks.{can_mark}
use Rattle.heap_sweep.specs.Sweeps.{Swept, swept, sweep_dropped, CanDrop}
use Rattle.heap_sweep.proofs.Collected.{can_collect, collected}
use Rattle.heap_pack.specs.Passes.{value_list, PackGiven, AllPacked}
use Rattle.heap_collect.specs.Ready.{Ready}

-- ---- a sound heap, marked and swept, can be packed

module _ (words map bytes elems scratch roots : List ℕ) (k : Ready (lists words map bytes elems) scratch roots) (small : Bytes map) where
  abbrev l : Lent
  l = lists words map bytes elems

  abbrev h : Heap
  h = heap_of l

  abbrev n : ℕ
  n = (rooms_of l).slots

  good : Good h
  good = sound_good l k.lists_sound

  pub can_sweep : (map₁ : List ℕ) → map₁ ≡ marked_map words map elems roots → CanDrop words map₁
  can_sweep map₁ e =
      subst (CanDrop words) (sym e) (can_collect words map bytes elems roots k.lists_sound k.in_use_all small)

  -- what sweeping leaves
  swept_is : (map₁ words₂ map₂ : List ℕ) → map₁ ≡ marked_map words map elems roots → swept words₂ map₂ ≡ sweep_dropped (swept words map₁) → swept words₂ map₂ ≡ swept (words_of n (swept_heap roots h)) (filled (map_bytes n) (swept_heap roots h).map)
  unfolding swept_heap
  swept_is map₁ words₂ map₂ e s =
      s ∙ ap (λ (m : List ℕ). sweep_dropped (swept words m)) e ∙ collected words map bytes elems roots k.lists_sound k.in_use_all small

  can_pack : (map₁ words₂ map₂ : List ℕ) → map₁ ≡ marked_map words map elems roots → swept words₂ map₂ ≡ sweep_dropped (swept words map₁) → PackGiven n (swept_heap roots h) (rooms_of l) words₂ bytes elems
  unfolding layout_rules
  can_pack map₁ words₂ map₂ e s =
      let w = swept_so roots h in
      let blocks = swept_blocks h good roots in
      let f = sound_fits l (clauses l k.lists_sound) in
      let b = bounds l (clauses l k.lists_sound) in
      let again = lists_again l (clauses l k.lists_sound) in
      let words_are : words₂ ≡ words_of n (swept_heap roots h) = ap (λ (x : Swept). x.words) (swept_is map₁ words₂ map₂ e s) in
      record {
        texts =
            record {
              good =
                  record {
                    apart_all = blocks.texts;
                    lies = swept_texts_in h good roots;
                  };
              rows = omega (arith, w.size, f.slots);
              few = b.most;
              within = omega (arith, ap length w.bytes, f.bytes);
              most = b.byte_room;
              words_are = words_are;
              bytes_are = ap (λ (x : Lent). x.bytes) (sym again) ∙ ap (filled (rooms_of l).bytes) (sym w.bytes);
            };
        vectors =
            record {
              good =
                  record {
                    apart_all = blocks.vectors;
                    lies = swept_vectors_in h good roots;
                  };
              rows = omega (arith, w.size, f.slots);
              few = b.most;
              within = omega (arith, ap length w.elements, f.elements);
              most = b.element_room;
              words_are = words_are;
              elems_are = ap (λ (x : Lent). x.elems) (sym again) ∙ ap (λ (vs : List Value). filled (3 * (rooms_of l).elements) (value_list vs)) (sym w.elements);
            };
      }

  -- the elements as they are at hand
  pub pack_given : (map₁ words₂ map₂ elems₂ : List ℕ) → map₁ ≡ marked_map words map elems roots → swept words₂ map₂ ≡ sweep_dropped (swept words map₁) → elems₂ ≡ elems → PackGiven n (swept_heap roots h) (rooms_of l) words₂ bytes elems₂
  pack_given map₁ words₂ map₂ elems₂ e s f =
      subst (λ (es : List ℕ). PackGiven n (swept_heap roots h) (rooms_of l) words₂ bytes es) (sym f) (can_pack map₁ words₂ map₂ e s)

  pub collects : (map₁ words₂ map₂ words₃ bytes₃ elems₃ : List ℕ) → map₁ ≡ marked_map words map elems roots → swept words₂ map₂ ≡ sweep_dropped (swept words map₁) → AllPacked n (swept_heap roots h) (rooms_of l) words₃ bytes₃ elems₃ → lists words₃ map₂ bytes₃ elems₃ ≡ lent_of (rooms_of l) (collect roots h)
  unfolding swept_heap layout_rules collect_rules
  collects map₁ words₂ map₂ words₃ bytes₃ elems₃ e s p =
      λ i.
      record {
        words = p.words_are i;
        map = (swept_is map₁ words₂ map₂ e s i).map;
        bytes = p.bytes_are i;
        elems = p.elems_are i;
      }

pub can_marks : (words map bytes elems scratch roots : List ℕ) → Ready (lists words map bytes elems) scratch roots → CanMark words map elems scratch roots
can_marks words map bytes elems scratch roots k =
    can_mark words map bytes elems k.lists_sound scratch roots k.in_use_all k.room

pub clears : (scratch dirty clean : List ℕ) → length dirty ≡ length scratch → clean ≡ zeros (length dirty) → clean ≡ cleared scratch
unfolding cleared
clears scratch dirty clean n e = e ∙ ap zeros n
