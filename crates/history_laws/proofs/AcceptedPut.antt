-- What an accepted put of bytes was: the bytes are a datum, and the lists afterwards hold the heap of its put. Document 01, "What a
-- caller is told". Assumes nothing.
use mathlib.Core.Path.{◌≡◌, refl}
use mathlib.Core.Bool.{true, false, not}
use mathlib.Core.List.{List, [], ◌∷◌}
use Prim.Native.Nat.{ℕ}
use native.Mathlib.Omega.{arith}
use borrow.Author.Tests.{ltb-false, not-true, not-false}
use lib.Dec.{leb, ltb}
use lib.ListN.{length}
use Rattle.laws.specs.Basics.{join, distinct}
use Rattle.laws.proofs.Tests.{both_left, both_right}
use Rattle.rules.specs.Numbers.{most_nodes, most_labels, scratch_words}
use Rattle.rules.specs.Refusals.{Refusal, unsound, short_scratch, malformed, over_limit, early_label, no_slots, no_room, accepted, refused, ◌⇒◌}
use Rattle.rules.specs.Nodes.{bytes, nodes_rules}
use Rattle.rules.specs.Datum.{Datum, Parse, good, bad, parse, nodes, label_of, within_limits, early_reference, datum_fits, datum_rules}
use Rattle.rules.specs.Heap.{Heap, capacity}
use Rattle.rules.specs.Layout.{Lent, rooms_of, heap_of, lent_of}
use Rattle.rules.specs.Sound.{sound}
use Rattle.rules.specs.Put.{put_datum, slot_in, slots_short, room_short, put_rules}
use Rattle.rules.specs.Calls.{Left, left, checked, put_tree, put_call, cleared}
use Rattle.rules.proofs.Datum.{parse_fits}
use Rattle.rules.proofs.LentLaws.{heap_lent}
use Rattle.rules.proofs.SoundLaws.{clauses, bounds, sound_fits}
use Rattle.rules.proofs.PutGood.{put_datum_done, Kept, put_kept}
use Rattle.rules.proofs.GoodSound.{passed, unless_keeps, sound_good, good_fits}
use Rattle.rules.proofs.PutSound.{enough_slots}

pub record AcceptedPut (l : Lent) (datum : List ℕ) (x : Left ℕ) (answer : ℕ) : Type 0 where
  pub tree : Datum
  pub parsed : parse datum ≡ good tree
  pub was_sound : sound l ≡ true
  pub is : answer ≡ slot_in (put_datum tree (heap_of l))
  pub heap : heap_of x.lent ≡ (put_datum tree (heap_of l)).making.heap
  pub kept : Kept (heap_of l) (put_datum tree (heap_of l))

pub not_refused : {A : Type 0} {a : A} {r : Refusal} → refused r ≡ accepted a → ⊥
not_refused e = let z : ◌≡◌ {A = ℕ} 0 1 = cc in omega arith

module _ (l : Lent) (scratch datum : List ℕ) (b : bytes datum ≡ true) where
  abbrev Was : Left ℕ → Type 0
  Was x = (a : ℕ) → x.answer ≡ accepted a → AcceptedPut l datum x a

  abbrev before : Heap
  before = heap_of l

  module _ (s : sound l ≡ true) (d : Datum) (parsed : parse datum ≡ good d) where
    abbrev after : Heap
    after = (put_datum d before).making.heap

    tree_accepted : datum_fits d ≡ true → within_limits d ≡ true → early_reference d ≡ false → slots_short (rooms_of l).slots before after ≡ false → room_short (rooms_of l).bytes after.bytes ≡ false → room_short (rooms_of l).elements after.elements ≡ false → Was (left (accepted (slot_in (put_datum d before))) (lent_of (rooms_of l) after) (cleared scratch))
    unfolding datum_rules put_rules
    tree_accepted fits limits early slots texts vectors a e =
        let g = sound_good l s in
        let within =
        both_right (leb (length (distinct (join label_of (nodes d)))) most_labels) _ (both_right (leb (length (nodes d)) most_nodes) _ limits)
        in
        let k = put_datum_done d before g fits within early in
        let room =
        enough_slots (rooms_of l).slots before after (length before.elements) (bounds l (clauses l s)).most (sound_fits l (clauses l s)).slots g
        k.grows slots
        in
        record {
          tree = d;
          parsed = parsed;
          was_sound = s;
          is = (let q : a ≡ slot_in (put_datum d before) = cc in q);
          heap =
              heap_lent (rooms_of l) after
              (good_fits (rooms_of l) after k.good room (ltb-false (rooms_of l).bytes (length after.bytes) texts)
              (ltb-false (rooms_of l).elements (length after.elements) vectors));
          kept = put_kept d before g fits within early;
        }

    tree_was : Was (put_tree l scratch before d)
    unfolding put_tree passed nodes_rules
    tree_was =
        unless_keeps Was
        ((not (within_limits d) ⇒ over_limit)
        ∷ (early_reference d ⇒ early_label)
        ∷ (slots_short (rooms_of l).slots before after ⇒ no_slots)
        ∷ (room_short (rooms_of l).bytes after.bytes ⇒ no_room)
        ∷ (room_short (rooms_of l).elements after.elements ⇒ no_room)
        ∷ [])
        _ _
        (λ t.
        let t1 = both_right (not (not (within_limits d))) _ t in
        let t2 = both_right (not (early_reference d)) _ t1 in
        let t3 = both_right (not (slots_short (rooms_of l).slots before after)) _ t2 in
        let t4 = both_right (not (room_short (rooms_of l).bytes after.bytes)) _ t3 in
        tree_accepted (parse_fits datum d b parsed)
        (not-false _ (not-true _ (both_left (not (not (within_limits d))) _ t)))
        (not-true _ (both_left (not (early_reference d)) _ t1))
        (not-true _ (both_left (not (slots_short (rooms_of l).slots before after)) _ t2))
        (not-true _ (both_left (not (room_short (rooms_of l).bytes after.bytes)) _ t3))
        (not-true _ (both_left (not (room_short (rooms_of l).elements after.elements)) _ t4)))
        (λ r a e. absurd (not_refused e))

  parsed_was : sound l ≡ true → Was (elim (parse datum) as (λ p. Left ℕ) [ good d ↦ put_tree l scratch before d | bad f n ↦ left (refused (malformed f n)) l (cleared scratch) ])
  parsed_was s = by (parse datum) refl
    where
      by : (p : Parse) → parse datum ≡ p → Was (elim p as (λ p. Left ℕ) [ good d ↦ put_tree l scratch before d | bad f n ↦ left (refused (malformed f n)) l (cleared scratch) ])
      by (good d) e = tree_was s d e
      by (bad f n) e = λ a q. absurd (not_refused q)

  pub put_was : Was (put_call l scratch datum)
  unfolding put_call checked passed
  put_was =
      unless_keeps Was ((not (sound l) ⇒ unsound) ∷ (ltb (length scratch) (scratch_words (capacity (heap_of l))) ⇒ short_scratch) ∷ [])
      _ _
      (λ t. parsed_was (not-false (sound l) (not-true (not (sound l)) (both_left (not (not (sound l))) _ t))))
      (λ r a e. absurd (not_refused e))
