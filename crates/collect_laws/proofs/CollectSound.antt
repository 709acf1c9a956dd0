-- A collection leaves sound lists that hold the heap it leaves, and refused it leaves them as they were. Document 01: "A fresh heap
-- is sound and each accepted call keeps it so", "A refusal answers its number only, and leaves heap and output as they stood".
-- Assumes nothing.
use mathlib.Core.Path.{◌≡◌, refl, sym, ap, ◌∙◌, subst}
use mathlib.Core.Bool.{true, not}
use mathlib.Core.List.{List, [], ◌∷◌}
use Prim.Native.Nat.{ℕ, ◌≤◌}
use native.Mathlib.Omega.{arith}
use borrow.Author.Tests.{not-true, not-false}
use lib.Dec.{ltb}
use lib.ListN.{length}
use Rattle.laws.specs.Basics.{every}
use Rattle.laws.proofs.Tests.{both_left}
use Rattle.rules.specs.Numbers.{scratch_words}
use Rattle.rules.specs.Refusals.{Refusal, unsound, short_scratch, no_such_slot, accepted, refused, ◌⇒◌}
use Rattle.rules.specs.Heap.{capacity, in_use}
use Rattle.rules.specs.Layout.{Lent, rooms_of, heap_of, lent_of, header, layout_rules}
use Rattle.rules.specs.Collect.{collect}
use Rattle.rules.specs.Sound.{sound}
use Rattle.rules.specs.Calls.{Left, left, checked, cleared, collect_call}
use Rattle.rules.proofs.LentLaws.{rooms_lent, heap_lent}
use Rattle.rules.proofs.SoundLaws.{clauses, sound_fits, Numbered, numbered}
use Rattle.rules.proofs.GoodSound.{passed, unless_keeps, sound_good, good_fits, good_sound}
use Rattle.collect_laws.specs.Collects.{Collects}
use Rattle.collect_laws.proofs.Collected.{kept_capacity, kept_chunk, bytes_no_longer, elements_no_longer}
use Rattle.collect_laws.proofs.CollectGood.{collect_good}
use Rattle.collect_laws.proofs.Collecting.{collects}

-- what an accepted collection leaves
pub record CollectAccepted (l : Lent) (roots : List ℕ) (x : Left (Unit {0})) : Type 0 where
  pub answer : x.answer ≡ accepted tt
  pub roots_used : every (in_use (heap_of l)) roots ≡ true
  pub lent : x.lent ≡ lent_of (rooms_of l) (collect roots (heap_of l))
  pub heap : heap_of x.lent ≡ collect roots (heap_of l)
  pub rooms : rooms_of x.lent ≡ rooms_of l
  pub lists_sound : sound x.lent ≡ true
  pub collected : Collects (heap_of l) roots (heap_of x.lent)

pub data CollectLeft (l : Lent) (roots : List ℕ) (x : Left (Unit {0})) : Type 0 where
  accepts : CollectAccepted l roots x → CollectLeft l roots x
  refuses : (r : Refusal) → x.answer ≡ refused r → x.lent ≡ l → CollectLeft l roots x

heap_accepted : (l : Lent) (scratch roots : List ℕ) → sound l ≡ true → every (in_use (heap_of l)) roots ≡ true → CollectAccepted l roots (left (accepted tt) (lent_of (rooms_of l) (collect roots (heap_of l))) (cleared scratch))
unfolding layout_rules
heap_accepted l scratch roots s u =
    let h = heap_of l in
    let g = sound_good l s in
    let k = collect roots h in
    let good = collect_good h g roots u in
    let f = sound_fits l (clauses l s) in
    let slots : capacity k ≤ (rooms_of l).slots = omega (arith, f.slots, kept_capacity h g roots) in
    let bytes : length k.bytes ≤ (rooms_of l).bytes = omega (arith, f.bytes, bytes_no_longer h g roots) in
    let elements : length k.elements ≤ (rooms_of l).elements = omega (arith, f.elements, elements_no_longer h g roots) in
    let fits = good_fits (rooms_of l) k good slots bytes elements in
    record {
      answer = refl;
      roots_used = u;
      lent = refl;
      heap = heap_lent (rooms_of l) k fits;
      rooms = rooms_lent (rooms_of l) k fits;
      lists_sound =
          good_sound (rooms_of l) k good
          (subst (λ (n : ℕ). Numbered (rooms_of l) n) (sym (kept_chunk h g roots)) (numbered (header l 0) l (clauses l s).numbers)) slots
          bytes
          elements;
      collected = subst (Collects h roots) (sym (heap_lent (rooms_of l) k fits)) (collects h g roots u);
    }

-- every collection: refused it leaves the lists as they were; accepted it leaves them sound, with what the roots reach
pub collect_left : (l : Lent) (scratch roots : List ℕ) → CollectLeft l roots (collect_call l scratch roots)
unfolding collect_call checked passed
collect_left l scratch roots =
    unless_keeps (CollectLeft l roots)
    ((not (sound l) ⇒ unsound) ∷ (ltb (length scratch) (scratch_words (capacity (heap_of l))) ⇒ short_scratch) ∷ [])
    _ _
    (λ t.
    unless_keeps (CollectLeft l roots) ((not (every (in_use (heap_of l)) roots) ⇒ no_such_slot) ∷ []) _ _
    (λ v.
    accepts
    (heap_accepted l scratch roots (not-false (sound l) (not-true (not (sound l)) (both_left (not (not (sound l))) _ t)))
    (not-false _ (not-true _ (both_left (not (not (every (in_use (heap_of l)) roots))) _ v)))))
    (λ r. refuses r refl refl))
    (λ r. refuses r refl refl)

-- "each accepted call keeps it so", and each refused one
pub collect_sound : (l : Lent) (scratch roots : List ℕ) → sound l ≡ true → sound (collect_call l scratch roots).lent ≡ true
collect_sound l scratch roots s = by (collect_left l scratch roots)
  where
    by : CollectLeft l roots (collect_call l scratch roots) → sound (collect_call l scratch roots).lent ≡ true
    by (accepts a) = a.lists_sound
    by (refuses r e same) = ap sound same ∙ s
