-- Before and after the pass over the texts: the arena copied aside, the rest cleared, the room in use noted. Assumes nothing.
use mathlib.Core.Path.{◌≡◌, ap, ◌∙◌}
use mathlib.Core.List.{List}
use Prim.Native.Nat.{ℕ, ◌-◌, ◌≤◌}
use native.Mathlib.Omega.{arith}
use borrow.Rule.Slice.PartMut.{put_mid, mid_of}
use lib.ListN.{length, get_or, take, set}
use Rattle.laws.specs.Basics.{zeros}
use Rattle.rules.specs.Heap.{Heap}
use Rattle.rules.specs.Layout.{words_of, layout_rules}
use Rattle.rules.proofs.LentLaws.{words_length, filled_length}
use Rattle.leaf_rooms.specs.Rooms.{stored}
use Rattle.leaf_cells.proofs.CallLaws.{stored_length}
use Rattle.collect_laws.specs.Packs.{texts_of}
use Rattle.heap_pack.specs.Passes.{with_texts, TextsBegin, TextsEnd, TextsLent, TextsPacked}
use Rattle.heap_pack.proofs.RoomLaws.{front_is, copied, now_long, cleared_behind}
use Rattle.heap_pack.proofs.TextLaws.{no_longer}

module _ (n : ℕ) (h : Heap) (room : ℕ) (words bytes old table : List ℕ) (l : TextsLent n h room words bytes old table) where
  pub header_there : 8 ≤ length words
  header_there = omega (arith, ap length l.words_are, words_length n h)

  pub used_is : get_or words 4 0 ≡ length h.bytes
  unfolding layout_rules
  used_is = ap (λ (ws : List ℕ). get_or ws 4 0) l.words_are

  pub bytes_long : length bytes ≡ room
  bytes_long = ap length l.bytes_are ∙ filled_length room h.bytes l.within

  pub in_use_is : take (get_or words 4 0) bytes ≡ h.bytes
  in_use_is = ap (take (get_or words 4 0)) l.bytes_are ∙ front_is room h.bytes (get_or words 4 0) used_is

  pub begins : (old' : List ℕ) → old' ≡ stored old 0 (take (get_or words 4 0) bytes) → TextsBegin n h room words bytes old' table
  begins old' e =
      let w : old' ≡ stored old 0 h.bytes = e ∙ ap (stored old 0) in_use_is in
      record {
        good = l.good;
        rows = l.rows;
        few = l.few;
        within = l.within;
        most = l.most;
        words_are = l.words_are;
        bytes_are = l.bytes_are;
        old_is = ap (take (length h.bytes)) w ∙ copied old h.bytes (omega (arith, l.old_long, l.within, l.most));
        old_long = omega (arith, ap length w, stored_length old 0 h.bytes, l.old_long, l.within, l.most);
        table_clear = l.table_clear;
        table_long = l.table_long;
      }

  module _ (words₁ bytes₁ : List ℕ) (end : ℕ) (e : TextsEnd n h room words₁ bytes₁ end) where
    pub end_small : end ≤ get_or words 4 0
    end_small = omega (arith, e.used, no_longer h l.good, used_is)

    pub bytes_end : get_or words 4 0 ≤ length bytes₁
    bytes_end =
        omega (
          arith,
          now_long room end (get_or words 4 0) (texts_of h).room h.bytes bytes₁ e.used used_is end_small (omega (arith, used_is, l.within)) e.bytes_are,
          used_is,
          l.within,
        )

    words_end : (v : ℕ) → v ≡ length (texts_of h).room → set words₁ 4 v ≡ words_of n (with_texts h)
    unfolding layout_rules
    words_end v q = λ i. set (e.words_are i) 4 (q i)

    pub packs : (clear : List ℕ) → clear ≡ zeros (length (mid_of end (get_or words 4 0 - end) bytes₁)) → TextsPacked n h room (set words₁ 4 end) (put_mid end (get_or words 4 0 - end) bytes₁ clear)
    packs clear c =
        record {
          words_are = words_end end e.used;
          bytes_are =
              cleared_behind room end (get_or words 4 0) (texts_of h).room h.bytes bytes₁ e.used used_is end_small (omega (arith, used_is, l.within)) e.bytes_are clear c;
        }
