-- The door of the collection: 20, 19, 14, then the collection behind them. Assumes nothing.
use mathlib.Core.Path.{◌≡◌, refl, sym, ap, ◌∙◌}
use mathlib.Core.Bool.{Bool, true, false, not}
use mathlib.Core.List.{List, [], ◌∷◌}
use Prim.Native.Nat.{ℕ, ◌%◌}
use native.Mathlib.Omega.{arith}
use borrow.Author.Tests.{ltb-false}
use lib.Dec.{ltb}
use lib.ListN.{length, get_or}
use Rattle.laws.specs.Basics.{every, zeros}
use Rattle.rules.specs.Numbers.{scratch_words}
use Rattle.rules.specs.Refusals.{accepted, refused, unsound, short_scratch, no_such_slot, ◌⇒◌, unless, refusals}
use Rattle.rules.specs.Heap.{Heap, in_use}
use Rattle.rules.specs.Layout.{Lent, rooms_of, heap_of, lent_of, header, layout_rules}
use Rattle.rules.specs.Sound.{sound}
use Rattle.rules.specs.Collect.{collect}
use Rattle.rules.specs.Calls.{Left, left, cleared, collect_call}
use Rattle.rules.proofs.SoundLaws.{clauses, capacity_lent, capacity_fours}
use Rattle.heap_sound_rows.specs.Rows.{lists}
use Rattle.heap_collect.specs.Ready.{Ready}
use Rattle.heap_given.proofs.CheckedLaws.{checked_unsound, checked_short, checked_on}

-- the roots are asked of the words and the map alone
pub asked : (words map bytes elems roots : List ℕ) → every (in_use (heap_of (lists words map [] []))) roots ≡ every (in_use (heap_of (lists words map bytes elems))) roots
unfolding layout_rules
asked words map bytes elems roots = refl

pub asked_of : (l l' : Lent) (roots : List ℕ) (b : Bool) → l ≡ l' → {r : Bool} → r ≡ every (in_use (heap_of (lists l.words l.map [] []))) roots → r ≡ b → every (in_use (heap_of l')) roots ≡ b
asked_of l l' roots b e p t =
    sym (ap (λ (x : Lent). every (in_use (heap_of x)) roots) e) ∙ sym (asked l.words l.map l.bytes l.elems roots) ∙ sym p ∙ t

pub fours : (l : Lent) → sound l ≡ true → get_or l.words 1 0 % 4 ≡ 0
unfolding header
fours l e = ap (λ (n : ℕ). n % 4) (sym (capacity_lent l)) ∙ capacity_fours l (clauses l e)

module _ (l : Lent) (scratch roots : List ℕ) where
  abbrev by_roots : Bool → Left (Unit {0})
  by_roots b =
      unless ((not b ⇒ no_such_slot) ∷ [])
      (left (accepted tt) (lent_of (rooms_of l) (collect roots (heap_of l))) (cleared scratch))
      (λ r. left (refused r) l (cleared scratch))

  abbrev behind : Heap → Left (Unit {0})
  behind h =
      unless ((not (every (in_use h) roots) ⇒ no_such_slot) ∷ [])
      (left (accepted tt) (lent_of (rooms_of l) (collect roots h)) (cleared scratch))
      (λ r. left (refused r) l (cleared scratch))

  pub collect_unsound : sound l ≡ false → left (refused unsound) l scratch ≡ collect_call l scratch roots
  unfolding collect_call
  collect_unsound e = checked_unsound l scratch behind e

  module _ (e : sound l ≡ true) where
    pub collect_short : ltb (length scratch) (scratch_words (get_or l.words 1 0)) ≡ true → left (refused short_scratch) l scratch ≡ collect_call l scratch roots
    unfolding collect_call
    collect_short s = checked_short l scratch behind e s

    module _ (s : ltb (length scratch) (scratch_words (get_or l.words 1 0)) ≡ false) where
      passed : by_roots (every (in_use (heap_of l)) roots) ≡ collect_call l scratch roots
      unfolding collect_call
      passed = checked_on l scratch behind e s

      pub collect_no_root : (clean : List ℕ) → every (in_use (heap_of l)) roots ≡ false → clean ≡ zeros (length scratch) → left (refused no_such_slot) l clean ≡ collect_call l scratch roots
      unfolding refusals cleared
      collect_no_root clean q c = ap (left (refused no_such_slot) l) c ∙ ap by_roots (sym q) ∙ passed

      pub collect_ready : every (in_use (heap_of l)) roots ≡ true → Ready l scratch roots
      unfolding header
      collect_ready q =
          record {
            lists_sound = e;
            room = omega (arith, ltb-false (length scratch) (scratch_words (get_or l.words 1 0)) s, capacity_lent l);
            in_use_all = q;
          }

      pub collect_done : (after : Lent) (clean : List ℕ) → every (in_use (heap_of l)) roots ≡ true → after ≡ lent_of (rooms_of l) (collect roots (heap_of l)) → clean ≡ cleared scratch → left (accepted tt) after clean ≡ collect_call l scratch roots
      unfolding refusals
      collect_done after clean q a c = (λ i. left (accepted tt) (a i) (c i)) ∙ ap by_roots (sym q) ∙ passed
