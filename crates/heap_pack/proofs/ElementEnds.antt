-- Before and after the pass over the elements, three words each. Assumes nothing.
use mathlib.Core.Path.{◌≡◌, sym, ap, ◌∙◌}
use mathlib.Core.List.{List}
use Prim.Native.Nat.{ℕ, ◌-◌, ◌*◌, ◌≤◌}
use native.Mathlib.Omega.{arith}
use borrow.Rule.Slice.PartMut.{put_mid, mid_of}
use lib.ListN.{length, get_or, take, set}
use Rattle.laws.specs.Basics.{zeros}
use Rattle.rules.specs.Heap.{Heap}
use Rattle.rules.specs.Layout.{words_of, layout_rules}
use Rattle.rules.proofs.LentLaws.{words_length, filled_length, elements_length}
use Rattle.leaf_rooms.specs.Rooms.{stored}
use Rattle.leaf_cells.proofs.CallLaws.{stored_length}
use Rattle.collect_laws.specs.Packs.{vectors_of}
use Rattle.heap_pack.specs.Passes.{with_vectors, value_list, ElementsBegin, ElementsEnd, ElementsLent, ElementsPacked}
use Rattle.heap_pack.proofs.RoomLaws.{front_is, copied, now_long, cleared_behind}
use Rattle.heap_pack.proofs.ElementLaws.{no_longer}

module _ (n : ℕ) (h : Heap) (room : ℕ) (words elems old table : List ℕ) (l : ElementsLent n h room words elems old table) where
  pub header_there : 8 ≤ length words
  header_there = omega (arith, ap length l.words_are, words_length n h)

  pub count_is : get_or words 5 0 ≡ length h.elements
  unfolding layout_rules
  count_is = ap (λ (ws : List ℕ). get_or ws 5 0) l.words_are

  pub used_is : 3 * get_or words 5 0 ≡ length (value_list h.elements)
  used_is = ap (λ (k : ℕ). 3 * k) count_is ∙ sym (elements_length h.elements)

  pub elems_long : length elems ≡ 3 * room
  elems_long =
      ap length l.elems_are
      ∙ filled_length (3 * room) (value_list h.elements) (omega (arith, elements_length h.elements, l.within))

  pub in_use_is : take (3 * get_or words 5 0) elems ≡ value_list h.elements
  in_use_is =
      ap (take (3 * get_or words 5 0)) l.elems_are ∙ front_is (3 * room) (value_list h.elements) (3 * get_or words 5 0) used_is

  pub begins : (old' : List ℕ) → old' ≡ stored old 0 (take (3 * get_or words 5 0) elems) → ElementsBegin n h room words elems old' table
  begins old' e =
      let w : old' ≡ stored old 0 (value_list h.elements) = e ∙ ap (stored old 0) in_use_is in
      let long = elements_length h.elements in
      record {
        good = l.good;
        rows = l.rows;
        few = l.few;
        within = l.within;
        most = l.most;
        words_are = l.words_are;
        elems_are = l.elems_are;
        old_is =
            ap (take (3 * length h.elements)) w
            ∙ ap (λ (k : ℕ). take k (stored old 0 (value_list h.elements))) (sym long)
            ∙ copied old (value_list h.elements) (omega (arith, long, l.old_long, l.within, l.most));
        old_long = omega (arith, ap length w, stored_length old 0 (value_list h.elements), l.old_long, l.within, l.most);
        table_clear = l.table_clear;
        table_long = l.table_long;
      }

  module _ (words₁ elems₁ : List ℕ) (end : ℕ) (e : ElementsEnd n h room words₁ elems₁ end) where
    pub end_small : 3 * end ≤ 3 * get_or words 5 0
    end_small = omega (arith, e.used, no_longer h l.good, count_is)

    ends : 3 * end ≡ length (value_list (vectors_of h).room)
    ends = ap (λ (k : ℕ). 3 * k) e.used ∙ sym (elements_length (vectors_of h).room)

    pub elems_end : 3 * get_or words 5 0 ≤ length elems₁
    elems_end =
        omega (
          arith,
          now_long (3 * room) (3 * end) (3 * get_or words 5 0) (value_list (vectors_of h).room) (value_list h.elements) elems₁ ends used_is end_small (omega (arith, count_is, l.within)) e.elems_are,
          count_is,
          l.within,
        )

    words_end : (v : ℕ) → v ≡ length (vectors_of h).room → set words₁ 5 v ≡ words_of n (with_vectors h)
    unfolding layout_rules
    words_end v q = λ i. set (e.words_are i) 5 (q i)

    pub packs : (clear : List ℕ) → clear ≡ zeros (length (mid_of (3 * end) (3 * get_or words 5 0 - 3 * end) elems₁)) → ElementsPacked n h room (set words₁ 5 end) (put_mid (3 * end) (3 * get_or words 5 0 - 3 * end) elems₁ clear)
    packs clear c =
        record {
          words_are = words_end end e.used;
          elems_are =
              cleared_behind (3 * room) (3 * end) (3 * get_or words 5 0) (value_list (vectors_of h).room) (value_list h.elements) elems₁ ends used_is end_small (omega (arith, count_is, l.within)) e.elems_are clear c;
        }
