-- What stands in the new room of a packing, and in which order: nothing but blocks of slots, each block before that of any higher
-- slot that is the first to show it. Document 01: "A collection keeps each block that a surviving slot shows, once, packed by
-- lowest such slot". Assumes nothing.
use mathlib.Core.Path.{◌≡◌, sym, ap, ◌∙◌}
use mathlib.Core.Bool.{true}
use mathlib.Core.List.{List}
use mathlib.Core.Option.{none, some}
use Prim.Native.Nat.{ℕ, zero, suc, ◌+◌, ◌-◌, ◌≤◌, ◌<◌}
use native.Mathlib.Omega.{arith}
use native.Mathlib.Decide.{dec_lt}
use native.Mathlib.Nat.{add-zero, add-suc}
use lib.ListN.{length, length-append}
use Rattle.rules.specs.Cells.{Block, block}
use Rattle.rules.specs.Heap.{part_of}
use Rattle.rules.specs.Collect.{Packing, place_of, moved_block}
use Rattle.rules.proofs.Good.{apart}
use Rattle.collect_laws.proofs.Packings.{move, unlike_blocks, place_none, place_new, place_kept, place_other}
use Rattle.collect_laws.proofs.Packings as packing
use Rattle.collect_laws.proofs.Placing as placing

module _ {A : Type 0} (old : List A) (shows : ℕ → Block) (apart_all : (s t : ℕ) → apart (shows s) (shows t) ≡ true) (inside : (s : ℕ) → (shows s).place + (shows s).size ≤ length old) where
  abbrev packed : ℕ → Packing A
  packed s = packing.packed old shows apart_all inside s

  abbrev with_new : ℕ → Packing A → Packing A
  with_new s p = packing.with_new old shows apart_all inside s p

  -- ---- nothing but blocks

  record Covers (p : Packing A) (j : ℕ) : Type 0 where
    slot : ℕ
    place : ℕ
    is : place_of (shows slot) p.moved ≡ some place
    low : place ≤ j
    high : j < place + (shows slot).size

  covers : (s j : ℕ) → j < length (packed s).room → Covers (packed s) j
  covers s j =
      packing.packed_by old shows apart_all inside (λ p. j < length p.room → Covers p j) (λ l. absurd (omega arith))
      (λ t p again some_of_it new l.
      elim (dec_lt j (length p.room)) [
        | yes k ↦
            let c = again k in
            record {
              slot = c.slot;
              place = c.place;
              is = place_kept (shows c.slot) p.moved (move (shows t) (length p.room)) c.place c.is;
              low = c.low;
              high = c.high;
            }
        | no k ↦
            record {
              slot = t;
              place = length p.room;
              is = place_new (shows t) p.moved (length p.room) new;
              low = omega arith;
              high =
                  omega (
                    arith,
                    l,
                    length-append p.room (part_of old (shows t)),
                    packing.part_size old shows apart_all inside t,
                  );
            }
      ])
      s

  -- ---- the order

  -- a block that no slot so far shows has no place
  no_place : (b : Block) (n : ℕ) → ((r : ℕ) → r < n → shows r ≡ b → ⊥) → place_of b (packed n).moved ≡ none
  unfolding packing.packed
  no_place b zero p = place_none b
  no_place b (suc n) p =
      let before = no_place b n (λ r l. p r (omega arith)) in
      packing.turn_by old shows apart_all inside (λ q. place_of b q.moved ≡ none) n (packed n) before
      (λ h e. place_other b (packed n).moved (move (shows n) (length (packed n).room)) (unlike_blocks (shows n) b (p n (omega arith))) ∙ before)

  room_grows : (s n : ℕ) → length (packed s).room ≤ length (packed (s + n)).room
  unfolding packing.packed
  room_grows s zero = omega (arith, ap (λ (m : ℕ). length (packed m).room) (add-zero s))
  room_grows s (suc n) =
      let more : length (packed (s + n)).room ≤ length (packed (suc (s + n))).room =
      packing.turn_by old shows apart_all inside (λ p. length (packed (s + n)).room ≤ length p.room) (s + n) (packed (s + n)) (omega arith)
      (λ h e. omega (arith, length-append (packed (s + n)).room (part_of old (shows (s + n)))))
      in
      omega (arith, room_grows s n, more, ap (λ (m : ℕ). length (packed m).room) (add-suc s n))

  module _ (n : ℕ) (few : (s : ℕ) → 0 < (shows s).size → s < n) where
    abbrev to : ℕ → Block
    to s = moved_block (shows s) (packed n).moved

    -- a slot whose block stands at a place
    pub record ShownAt (j : ℕ) : Type 0 where
      pub slot : ℕ
      pub low : (to slot).place ≤ j
      pub high : j < (to slot).place + (to slot).size

    pub shown_at : (j : ℕ) → j < length (packed n).room → ShownAt j
    shown_at j l =
        let c = covers n j l in
        let is = placing.to_some old shows apart_all inside n few (shows c.slot) c.place c.is in
        record {
          slot = c.slot;
          low = omega (arith, c.low, ap (λ (b : Block). b.place) is);
          high = omega (arith, c.high, ap (λ (b : Block). b.place) is, ap (λ (b : Block). b.size) is);
        }

    -- where a block went, from the turn of its slot on
    to_from : (s k : ℕ) → s < n → place_of (shows s) (packed (suc s)).moved ≡ some k → to s ≡ block k (shows s).size
    to_from s k l e =
        let upto : suc s + (n - suc s) ≡ n = omega arith in
        placing.to_some old shows apart_all inside n few (shows s) k
        (ap (λ (m : ℕ). place_of (shows s) (packed m).moved) (sym upto)
        ∙ packing.stays_to old shows apart_all inside (shows s) (suc s) (n - suc s) k e)

    -- "packed by lowest such slot"
    pub in_order : (s t : ℕ) → s < t → 0 < (shows s).size → 0 < (shows t).size → ((r : ℕ) → r < t → shows r ≡ shows t → ⊥) → (to s).place + (to s).size ≤ (to t).place
    unfolding packing.packed
    in_order s t l h i first =
        let v = placing.goes old shows apart_all inside s h in
        let from = to_from s v.place (few s h) v.is in
        let new = no_place (shows t) t first in
        let here = to_from t (length (packed t).room) (few t i)
        (ap (λ (p : Packing A). place_of (shows t) p.moved) (packing.new_moves old shows apart_all inside t (packed t) i new)
        ∙ place_new (shows t) (packed t).moved (length (packed t).room) new)
        in
        let upto : suc s + (t - suc s) ≡ t = omega arith in
        omega (
          arith,
          (placing.holds old shows apart_all inside (suc s)).in_room (shows s) v.place v.is,
          room_grows (suc s) (t - suc s),
          ap (λ (m : ℕ). length (packed m).room) upto,
          ap (λ (b : Block). b.place + b.size) from,
          ap (λ (b : Block). b.place) here,
        )
