-- A put leaves sound lists, and refused it leaves them as they were. An accepted put takes slots that were not in use, and
-- every cell, element and text that was there before is as it was. Document 01: "A fresh heap is sound and each accepted
-- call keeps it so", "A refusal answers its number only, and leaves heap and output as they stood". Assumes nothing.
use mathlib.Core.Path.{◌≡◌, refl, sym, ap, ◌∙◌, subst}
use mathlib.Core.Bool.{true, false, not}
use mathlib.Core.List.{List, [], ◌∷◌}
use Prim.Native.Nat.{ℕ, ◌+◌, ◌-◌, ◌≤◌}
use native.Mathlib.Omega.{arith}
use borrow.Author.Tests.{ltb-false, not-true, not-false}
use lib.Dec.{leb, ltb}
use lib.ListN.{length}
use Rattle.laws.specs.Basics.{every, join, distinct}
use Rattle.laws.proofs.Tests.{both_left, both_right}
use Rattle.laws.proofs.Bytes.{all_bytes}
use Rattle.rules.specs.Numbers.{most_nodes, most_labels, scratch_words}
use Rattle.rules.specs.Refusals.{Refusal, unsound, short_scratch, malformed, over_limit, early_label, no_slots, no_room, accepted, refused, Test, ◌⇒◌}
use Rattle.rules.specs.Datum.{Datum, Parse, good, bad, parse, nodes, node_within, label_of, within_limits, early_reference, datum_fits, datum_rules}
use Rattle.rules.specs.Heap.{Heap, capacity, free_count, used_count, fitting, most_growths}
use Rattle.rules.specs.Layout.{Lent, rooms_of, heap_of, lent_of, header, layout_rules}
use Rattle.rules.specs.Sound.{sound}
use Rattle.rules.specs.Put.{put_datum, slot_in, slots_short, room_short, put_rules}
use Rattle.rules.specs.Calls.{Left, left, checked, put_tree, put_call, cleared}
use Rattle.rules.proofs.Datum.{parse_fits}
use Rattle.rules.proofs.LentLaws.{rooms_lent, heap_lent}
use Rattle.rules.proofs.SoundLaws.{clauses, bounds, capacity_lent, Numbered, numbered}
use Rattle.rules.proofs.Growth.{fitting_least, reached_whole}
use Rattle.rules.proofs.Good.{Good, chunk_positive, free_most}
use Rattle.rules.proofs.Allocate.{Within, inside, over}
use Rattle.rules.proofs.Grows.{Grows}
use Rattle.rules.proofs.PutGood.{put_datum_done, Kept, put_kept}
use Rattle.rules.proofs.GoodSound.{passed, unless_keeps, sound_good, good_fits, good_sound}

-- ---- 16: enough slots are enough capacity

pub enough_slots : (lent : ℕ) (h after : Heap) (from : ℕ) → lent ≤ 4096 → capacity h ≤ lent → Good h → Grows from h after → slots_short lent h after ≡ false → capacity after ≤ lent
unfolding put_rules
enough_slots lent h after from small l g gr e =
    by (gr.within lent end small (inside l refl))
  where
    end : ℕ
    end = fitting most_growths h.chunk lent (capacity h)

    by : Within lent end after → capacity after ≤ lent
    by (inside k q) = k
    by (over k) =
        absurd
        (omega (
          arith,
          ltb-false (free_count h + (end - capacity h)) (used_count after - used_count h) e,
          free_most h g,
          fitting_least most_growths h.chunk lent (capacity h) (chunk_positive h g)
              (reached_whole h.chunk (capacity h) (chunk_positive h g) g.growth),
        ))

-- ---- put

-- what an accepted put leaves: `Kept` says what is as it was
pub record PutAccepted (l : Lent) (x : Left ℕ) (d : Datum) : Type 0 where
  pub answer : x.answer ≡ accepted (slot_in (put_datum d (heap_of l)))
  pub lent : x.lent ≡ lent_of (rooms_of l) (put_datum d (heap_of l)).making.heap
  pub lists_sound : sound x.lent ≡ true
  pub heap : heap_of x.lent ≡ (put_datum d (heap_of l)).making.heap
  pub rooms : rooms_of x.lent ≡ rooms_of l
  pub kept : Kept (heap_of l) (put_datum d (heap_of l))

pub data PutLeft (l : Lent) (x : Left ℕ) : Type 0 where
  accepts : (d : Datum) → PutAccepted l x d → PutLeft l x
  refuses : (r : Refusal) → x.answer ≡ refused r → x.lent ≡ l → PutLeft l x

-- 12, 13, 16 and 17
abbrev put_tests : Lent → Datum → Heap → Heap → List Test
put_tests l d before after =
    (not (within_limits d) ⇒ over_limit)
    ∷ (early_reference d ⇒ early_label)
    ∷ (slots_short (rooms_of l).slots before after ⇒ no_slots)
    ∷ (room_short (rooms_of l).bytes after.bytes ⇒ no_room)
    ∷ (room_short (rooms_of l).elements after.elements ⇒ no_room)
    ∷ []

-- what they say where none holds
record Passed (l : Lent) (d : Datum) (before after : Heap) : Type 0 where
  within : every node_within (nodes d) ≡ true
  early : early_reference d ≡ false
  slots : slots_short (rooms_of l).slots before after ≡ false
  bytes : length after.bytes ≤ (rooms_of l).bytes
  elements : length after.elements ≤ (rooms_of l).elements

put_passed : (l : Lent) (d : Datum) (before after : Heap) → passed (put_tests l d before after) ≡ true → Passed l d before after
unfolding passed datum_rules put_rules
put_passed l d before after t =
    let t1 = both_right (not (not (within_limits d))) _ t in
    let t2 = both_right (not (early_reference d)) _ t1 in
    let t3 = both_right (not (slots_short (rooms_of l).slots before after)) _ t2 in
    let t4 = both_right (not (room_short (rooms_of l).bytes after.bytes)) _ t3 in
    let limits = not-false (within_limits d) (not-true (not (within_limits d)) (both_left (not (not (within_limits d))) _ t)) in
    record {
      within =
          both_right (leb (length (distinct (join label_of (nodes d)))) most_labels) _
          (both_right (leb (length (nodes d)) most_nodes) _ limits);
      early = not-true (early_reference d) (both_left (not (early_reference d)) _ t1);
      slots = not-true (slots_short (rooms_of l).slots before after) (both_left (not (slots_short (rooms_of l).slots before after)) _ t2);
      bytes =
          ltb-false (rooms_of l).bytes (length after.bytes)
          (not-true (room_short (rooms_of l).bytes after.bytes) (both_left (not (room_short (rooms_of l).bytes after.bytes)) _ t3));
      elements =
          ltb-false (rooms_of l).elements (length after.elements)
          (not-true (room_short (rooms_of l).elements after.elements) (both_left (not (room_short (rooms_of l).elements after.elements)) _ t4));
    }

module _ (l : Lent) (scratch : List ℕ) (s : sound l ≡ true) where
  abbrev before : Heap
  before = heap_of l

  before_within : capacity before ≤ (rooms_of l).slots
  before_within = let b = bounds l (clauses l s) in omega (arith, b.capacity, capacity_lent l)

  tree_accepted : (d : Datum) → datum_fits d ≡ true → Passed l d before (put_datum d before).making.heap → PutAccepted l (left (accepted (slot_in (put_datum d before))) (lent_of (rooms_of l) (put_datum d before).making.heap) (cleared scratch)) d
  unfolding layout_rules
  tree_accepted d fits t =
      let g = sound_good l s in
      let b = bounds l (clauses l s) in
      let p = put_datum d before in
      let after : Heap = p.making.heap in
      let k = put_datum_done d before g fits t.within t.early in
      let room = enough_slots (rooms_of l).slots before after (length before.elements) b.most before_within g k.grows t.slots in
      let n = numbered (header l 0) l (clauses l s).numbers in
      let f = good_fits (rooms_of l) after k.good room t.bytes t.elements in
      record {
        answer = refl;
        lent = refl;
        lists_sound =
            good_sound (rooms_of l) after k.good (subst (Numbered (rooms_of l)) (sym k.grows.chunk) n) room t.bytes
            t.elements;
        heap = heap_lent (rooms_of l) after f;
        rooms = rooms_lent (rooms_of l) after f;
        kept = put_kept d before g fits t.within t.early;
      }

  tree_left : (d : Datum) → datum_fits d ≡ true → PutLeft l (put_tree l scratch before d)
  unfolding put_tree
  tree_left d fits =
      let after : Heap = (put_datum d before).making.heap in
      unless_keeps (PutLeft l) (put_tests l d before after) _ _
      (λ t. accepts d (tree_accepted d fits (put_passed l d before after t))) (λ r. refuses r refl refl)

  bytes_left : (datum : List ℕ) → all_bytes datum ≡ true → PutLeft l (elim (parse datum) as (λ p. Left ℕ) [ good d ↦ put_tree l scratch before d | bad f n ↦ left (refused (malformed f n)) l (cleared scratch) ])
  bytes_left datum all = by (parse datum) refl
    where
      by : (p : Parse) → parse datum ≡ p → PutLeft l (elim p as (λ p. Left ℕ) [ good d ↦ put_tree l scratch before d | bad f n ↦ left (refused (malformed f n)) l (cleared scratch) ])
      by (good d) e = tree_left d (parse_fits datum d all e)
      by (bad f n) e = refuses (malformed f n) refl refl

-- every put of bytes: refused it leaves the lists as they were; accepted it leaves them sound, with the datum put
pub put_left : (l : Lent) (scratch datum : List ℕ) → all_bytes datum ≡ true → PutLeft l (put_call l scratch datum)
unfolding put_call checked passed
put_left l scratch datum all =
    unless_keeps (PutLeft l) ((not (sound l) ⇒ unsound) ∷ (ltb (length scratch) (scratch_words (capacity (heap_of l))) ⇒ short_scratch) ∷ [])
    _ _
    (λ t.
    bytes_left l scratch (not-false (sound l) (not-true (not (sound l)) (both_left (not (not (sound l))) _ t))) datum all)
    (λ r. refuses r refl refl)

-- "each accepted call keeps it so", and each refused one
pub put_keeps_sound : (l : Lent) (scratch datum : List ℕ) → all_bytes datum ≡ true → sound l ≡ true → sound (put_call l scratch datum).lent ≡ true
put_keeps_sound l scratch datum all s = by (put_left l scratch datum all)
  where
    by : PutLeft l (put_call l scratch datum) → sound (put_call l scratch datum).lent ≡ true
    by (accepts d a) = a.lists_sound
    by (refuses r e same) = ap sound same ∙ s
