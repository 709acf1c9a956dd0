-- Packing block by block, of any room: what was moved so far, that it fits, and where each block went. Document 01: "A
-- collection keeps each block that a surviving slot shows, once, packed by lowest such slot; sharing stays." Assumes nothing.
use mathlib.Core.Path.{◌≡◌, refl, sym, ap, ◌∙◌, subst}
use mathlib.Core.Bool.{Bool, true, false, true≢false}
use mathlib.Core.List.{List, [], ◌∷◌, ◌++◌, append-nil}
use mathlib.Core.Option.{Option, none, some}
use Prim.Native.Nat.{ℕ, zero, suc, ◌+◌, ◌≤◌, ◌<◌}
use native.Mathlib.Omega.{arith}
use native.Mathlib.Nat.{add-zero, add-suc}
use borrow.Author.Tests.{eqb-true, eqb-false, eq-eqb, ne_eqb, leb-true, ltb-true, ltb-false, lt-ltb}
use lib.Dec.{eqb, leb, ltb}
use lib.ListN.{length, length-append}
use Rattle.laws.specs.Basics.{either, every, count, find, join, rising, basics}
use Rattle.laws.proofs.Tests.{both_left, both_right, both_true, every_append, join_append}
use Rattle.laws.proofs.Lists.{count_rising, count_rising_in, length-rising, get_or_rising}
use Rattle.laws.proofs.Pointwise.{count_append, count_rising_past, all_every, length_part}
use Rattle.laws.proofs.Variants.{positive}
use Rattle.rules.specs.Cells.{Block, same_block}
use Rattle.rules.specs.Heap.{part_of}
use Rattle.rules.specs.Collect.{Moved, Packing, place_of, pack_block}
use Rattle.rules.specs.Sound.{sound_rules}
use Rattle.rules.proofs.Good.{apart, each_once}

-- ---- blocks

-- one of the two
pub data Apart (a b : Block) : Type 0 where
  same : a ≡ b → Apart a b
  before : a.place + a.size ≤ b.place → Apart a b
  after : b.place + b.size ≤ a.place → Apart a b

pub same_blocks : (a b : Block) → same_block a b ≡ true → a ≡ b
same_blocks a b e =
    λ i.
    record {
      place = eqb-true a.place b.place (both_left (eqb a.place b.place) _ e) i;
      size = eqb-true a.size b.size (both_right (eqb a.place b.place) _ e) i;
    }

pub blocks_same : (a b : Block) → a ≡ b → same_block a b ≡ true
blocks_same a b e =
    both_true (eq-eqb a.place b.place (ap (λ (x : Block). x.place) e)) (eq-eqb a.size b.size (ap (λ (x : Block). x.size) e))

pub unlike_blocks : (a b : Block) → (a ≡ b → ⊥) → same_block a b ≡ false
unlike_blocks a b n = by (same_block a b) refl
  where
    by : (t : Bool) → same_block a b ≡ t → t ≡ false
    by true r = absurd (n (same_blocks a b r))
    by false r = refl

pub apart_by : (a b : Block) → 0 < a.size → 0 < b.size → apart a b ≡ true → Apart a b
unfolding apart sound_rules
apart_by a b p q e = go (eqb a.size 0) (eqb b.size 0) (same_block a b) (leb (a.place + a.size) b.place) (leb (b.place + b.size) a.place) refl refl refl refl refl e
  where
    go : (u v w x y : Bool) → eqb a.size 0 ≡ u → eqb b.size 0 ≡ v → same_block a b ≡ w → leb (a.place + a.size) b.place ≡ x → leb (b.place + b.size) a.place ≡ y → either u (either v (either w (either x y))) ≡ true → Apart a b
    go true v w x y e1 e2 e3 e4 e5 t = absurd (omega (arith, eqb-true a.size 0 e1))
    go false true w x y e1 e2 e3 e4 e5 t = absurd (omega (arith, eqb-true b.size 0 e2))
    go false false true x y e1 e2 e3 e4 e5 t = same (same_blocks a b e3)
    go false false false true y e1 e2 e3 e4 e5 t = before (leb-true _ _ e4)
    go false false false false true e1 e2 e3 e4 e5 t = after (leb-true _ _ e5)
    go false false false false false e1 e2 e3 e4 e5 t = absurd (true≢false (sym t))

-- ---- where a block went

abbrev pub move : Block → ℕ → Moved
move b k = record { from = b; place = k }

abbrev place_in : Option Moved → Option ℕ
place_in o = elim o [ none ↦ none | some m ↦ some m.place ]

abbrev first : Block → List Moved → Option Moved
first b ms = find (λ (m : Moved). same_block m.from b) ms

-- a look at the first of the moves
look : (b : Block) (m : Moved) (ms : List Moved) (t : Bool) → same_block m.from b ≡ t → place_of b (m ∷ ms) ≡ elim t [ true ↦ some m.place | false ↦ place_of b ms ]
unfolding place_of basics
look b m ms true e = ap (λ (t : Bool). place_in (elim t as (λ t. Option Moved) [ true ↦ some m | false ↦ first b ms ])) e
look b m ms false e = ap (λ (t : Bool). place_in (elim t as (λ t. Option Moved) [ true ↦ some m | false ↦ first b ms ])) e

pub none_some : {A : Type 0} {k : ℕ} → ◌≡◌ {A = Option ℕ} (some k) none → A
none_some e = let w : ◌≡◌ {A = ℕ} 0 1 = cc in absurd (omega arith)

pub place_none : (b : Block) → place_of b [] ≡ none
unfolding place_of basics
place_none b = refl

-- a move at the end is found where there is none before it
pub place_new : (b : Block) (ms : List Moved) (k : ℕ) → place_of b ms ≡ none → place_of b (ms ++ (move b k ∷ [])) ≡ some k
place_new b [] k e = look b (move b k) [] true (blocks_same b b refl)
place_new b (m ∷ ms) k e = go (place_new b ms k) (same_block m.from b) refl
  where
    go : (place_of b ms ≡ none → place_of b (ms ++ (move b k ∷ [])) ≡ some k) → (t : Bool) → same_block m.from b ≡ t → place_of b (m ∷ (ms ++ (move b k ∷ []))) ≡ some k
    go again true q = none_some (sym (look b m ms true q) ∙ e)
    go again false q = look b m (ms ++ (move b k ∷ [])) false q ∙ again (sym (look b m ms false q) ∙ e)

-- one that was found stays, whatever is moved later
pub place_kept : (b : Block) (ms : List Moved) (m' : Moved) (k : ℕ) → place_of b ms ≡ some k → place_of b (ms ++ (m' ∷ [])) ≡ some k
place_kept b [] m' k e = none_some (sym e ∙ place_none b)
place_kept b (m ∷ ms) m' k e = go (place_kept b ms m' k) (same_block m.from b) refl
  where
    go : (place_of b ms ≡ some k → place_of b (ms ++ (m' ∷ [])) ≡ some k) → (t : Bool) → same_block m.from b ≡ t → place_of b (m ∷ (ms ++ (m' ∷ []))) ≡ some k
    go again true q = look b m (ms ++ (m' ∷ [])) true q ∙ sym (look b m ms true q) ∙ e
    go again false q = look b m (ms ++ (m' ∷ [])) false q ∙ again (sym (look b m ms false q) ∙ e)

-- and of another block nothing changes
pub place_other : (b : Block) (ms : List Moved) (m' : Moved) → same_block m'.from b ≡ false → place_of b (ms ++ (m' ∷ [])) ≡ place_of b ms
place_other b [] m' e = look b m' [] false e
place_other b (m ∷ ms) m' e = go (place_other b ms m' e) (same_block m.from b) refl
  where
    go : place_of b (ms ++ (m' ∷ [])) ≡ place_of b ms → (t : Bool) → same_block m.from b ≡ t → place_of b (m ∷ (ms ++ (m' ∷ []))) ≡ place_of b (m ∷ ms)
    go again true q = look b m (ms ++ (m' ∷ [])) true q ∙ sym (look b m ms true q)
    go again false q = look b m (ms ++ (m' ∷ [])) false q ∙ again ∙ sym (look b m ms false q)

-- ---- the places that were moved, each once

abbrev spots_of : Moved → List ℕ
spots_of m = rising m.from.place m.from.size

abbrev spots : List Moved → List ℕ
spots ms = join spots_of ms

module _ {A : Type 0} (old : List A) (shows : ℕ → Block) (apart_all : (s t : ℕ) → apart (shows s) (shows t) ≡ true) (inside : (s : ℕ) → (shows s).place + (shows s).size ≤ length old) where
  -- what was moved are blocks of slots, none of them empty
  record OfSlot (m : Moved) : Type 0 where
    slot : ℕ
    is : m.from ≡ shows slot
    some_of_it : 0 < m.from.size

  OfSlots : List Moved → Type 0
  OfSlots [] = Unit {0}
  OfSlots (m ∷ ms) = OfSlot m × OfSlots ms

  of_slots_on : (ms : List Moved) (m : Moved) → OfSlots ms → OfSlot m → OfSlots (ms ++ (m ∷ []))
  unfolding OfSlots
  of_slots_on [] m a b = (b, tt)
  of_slots_on (x ∷ ms) m a b = (a.0, of_slots_on ms m a.1 b)

  -- a block that was not moved yet has no place in common with those that were
  no_spot : (s : ℕ) (ms : List Moved) → OfSlots ms → 0 < (shows s).size → place_of (shows s) ms ≡ none → (k : ℕ) → (shows s).place ≤ k → k < (shows s).place + (shows s).size → count k (spots ms) ≡ 0
  unfolding OfSlots basics
  no_spot s [] a p e k l h = refl
  no_spot s (m ∷ ms) a p e k l h =
      count_append k (spots_of m) (spots ms)
      ∙ go (no_spot s ms a.1 p) (same_block m.from (shows s)) refl
    where
      clear : Apart m.from (shows s) → (m.from ≡ shows s → ⊥) → count k (spots_of m) ≡ 0
      clear (same q) unlike = absurd (unlike q)
      clear (before q) unlike = count_rising_past m.from.place m.from.size k (omega arith)
      clear (after q) unlike = count_rising m.from.place m.from.size k (omega arith)

      apart_here : Apart m.from (shows s)
      apart_here =
          apart_by m.from (shows s) a.0.some_of_it p
          (ap (λ (b : Block). apart b (shows s)) a.0.is ∙ apart_all a.0.slot s)

      go : (place_of (shows s) ms ≡ none → (k : ℕ) → (shows s).place ≤ k → k < (shows s).place + (shows s).size → count k (spots ms) ≡ 0) → (t : Bool) → same_block m.from (shows s) ≡ t → count k (spots_of m) + count k (spots ms) ≡ 0
      go again true q = none_some (sym (look (shows s) m ms true q) ∙ e)
      go again false q =
          omega (arith, clear apart_here (λ z. true≢false (sym (blocks_same m.from (shows s) z) ∙ q)), again (sym (look (shows s) m ms false q) ∙ e) k l h)

  -- ---- what is known after each slot

  -- the first slots packed
  unfoldable pub packed : ℕ → Packing A
  packed zero = record { room = []; moved = [] }
  packed (suc s) = pack_block old (shows s) (packed s)

  pub record Known (p : Packing A) : Type 0 where
    of_slots : OfSlots p.moved
    sizes : length p.room ≡ length (spots p.moved)
    once : (k : ℕ) → count k (spots p.moved) ≤ 1
    below : every (λ k. ltb k (length old)) (spots p.moved) ≡ true

  abbrev pub with_new : ℕ → Packing A → Packing A
  with_new s p =
      record { room = p.room ++ part_of old (shows s); moved = p.moved ++ (move (shows s) (length p.room) ∷ []) }

  -- three cases: an empty block, one that was moved, a new one
  abbrev by_case : ℕ → Packing A → Bool → Option ℕ → Packing A
  by_case s p z o = elim z [ true ↦ p | false ↦ elim o [ some k ↦ p | none ↦ with_new s p ] ]

  case_is : (s : ℕ) (p : Packing A) → pack_block old (shows s) p ≡ by_case s p (eqb (shows s).size 0) (place_of (shows s) p.moved)
  unfolding pack_block
  case_is s p = refl

  not_empty : (s : ℕ) → 0 < (shows s).size → eqb (shows s).size 0 ≡ false
  not_empty s h = ne_eqb (shows s).size 0 (λ z. omega (arith, z))

  pub empty_stays : (s : ℕ) (p : Packing A) → (shows s).size ≡ 0 → pack_block old (shows s) p ≡ p
  empty_stays s p e = case_is s p ∙ ap (λ (z : Bool). by_case s p z (place_of (shows s) p.moved)) (eq-eqb (shows s).size 0 e)

  pub known_stays : (s : ℕ) (p : Packing A) (k : ℕ) → 0 < (shows s).size → place_of (shows s) p.moved ≡ some k → pack_block old (shows s) p ≡ p
  known_stays s p k h e = case_is s p ∙ (λ i. by_case s p (not_empty s h i) (e i))

  pub new_moves : (s : ℕ) (p : Packing A) → 0 < (shows s).size → place_of (shows s) p.moved ≡ none → pack_block old (shows s) p ≡ with_new s p
  new_moves s p h e = case_is s p ∙ (λ i. by_case s p (not_empty s h i) (e i))

  pub part_size : (s : ℕ) → length (part_of old (shows s)) ≡ (shows s).size
  part_size s = length_part old (shows s).place (shows s).size (inside s)

  spots_new : (s : ℕ) (p : Packing A) → spots (with_new s p).moved ≡ spots p.moved ++ rising (shows s).place (shows s).size
  unfolding basics
  spots_new s p =
      join_append spots_of p.moved (move (shows s) (length p.room) ∷ [])
      ∙ ap (λ (l : List ℕ). spots p.moved ++ l) (append-nil (rising (shows s).place (shows s).size))

  known_new : (s : ℕ) (p : Packing A) → Known p → 0 < (shows s).size → place_of (shows s) p.moved ≡ none → Known (with_new s p)
  known_new s p g some_of_it e =
      record {
        of_slots = of_slots_on p.moved (move b (length p.room)) g.of_slots (record { slot = s; is = refl; some_of_it = some_of_it });
        sizes =
            length-append p.room (part_of old b)
            ∙ omega (arith, g.sizes, part_size s, ap length (spots_new s p), length-append (spots p.moved) (rising b.place b.size), length-rising b.place b.size);
        once = λ k. omega (arith, ap (count k) (spots_new s p), count_append k (spots p.moved) (rising b.place b.size), counts k);
        below = ap (every (λ k. ltb k (length old))) (spots_new s p) ∙ every_append (λ k. ltb k (length old)) (spots p.moved) (rising b.place b.size) g.below low;
      }
    where
      b : Block
      b = shows s

      counts : (k : ℕ) → count k (spots p.moved) + count k (rising b.place b.size) ≤ 1
      counts k = by (ltb k b.place) (ltb k (b.place + b.size)) refl refl
        where
          by : (u v : Bool) → ltb k b.place ≡ u → ltb k (b.place + b.size) ≡ v → count k (spots p.moved) + count k (rising b.place b.size) ≤ 1
          by true v q r = omega (arith, g.once k, count_rising b.place b.size k (ltb-true _ _ q))
          by false true q r =
              omega (
                arith,
                no_spot s p.moved g.of_slots some_of_it e k (ltb-false _ _ q) (ltb-true _ _ r),
                count_rising_in b.place b.size k (ltb-false _ _ q) (ltb-true _ _ r),
              )
          by false false q r = omega (arith, g.once k, count_rising_past b.place b.size k (ltb-false _ _ r))

      low : every (λ k. ltb k (length old)) (rising b.place b.size) ≡ true
      low =
          all_every (λ k. ltb k (length old)) 0 (rising b.place b.size)
          (λ i h.
          ap (λ (x : ℕ). ltb x (length old)) (get_or_rising b.place b.size i 0 (omega (arith, length-rising b.place b.size)))
          ∙ lt-ltb (b.place + i) (length old) (omega (arith, length-rising b.place b.size, inside s)))

  known_none : Known (record { room = []; moved = [] })
  unfolding OfSlots basics
  known_none = record { of_slots = tt; sizes = refl; once = λ k. omega arith; below = refl }

  -- a slot's turn leaves all as it was, or moves a block that is new and not empty
  pub turn_by : (P : Packing A → Type 0) (s : ℕ) (p : Packing A) → P p → (0 < (shows s).size → place_of (shows s) p.moved ≡ none → P (with_new s p)) → P (pack_block old (shows s) p)
  turn_by P s p stays new = by (eqb (shows s).size 0) (place_of (shows s) p.moved) refl refl
    where
      by : (z : Bool) (o : Option ℕ) → eqb (shows s).size 0 ≡ z → place_of (shows s) p.moved ≡ o → P (pack_block old (shows s) p)
      by true o e q = subst P (sym (empty_stays s p (eqb-true _ _ e))) stays
      by false (some k) e q = subst P (sym (known_stays s p k (positive (shows s).size (eqb-false (shows s).size 0 e)) q)) stays
      by false none e q =
          subst P (sym (new_moves s p (positive (shows s).size (eqb-false (shows s).size 0 e)) q)) (new (positive (shows s).size (eqb-false (shows s).size 0 e)) q)

  pub packed_by : (P : Packing A → Type 0) → P (record { room = []; moved = [] }) → ((s : ℕ) (p : Packing A) → P p → 0 < (shows s).size → place_of (shows s) p.moved ≡ none → P (with_new s p)) → (s : ℕ) → P (packed s)
  unfolding packed
  packed_by P start new zero = start
  packed_by P start new (suc s) =
      let p = packed_by P start new s in turn_by P s (packed s) p (new s (packed s) p)

  pub packs : (s : ℕ) → Known (packed s)
  packs = packed_by Known known_none known_new

  -- a new block fits behind those that were moved
  pub fits : (s : ℕ) → 0 < (shows s).size → place_of (shows s) (packed s).moved ≡ none → length (packed s).room + (shows s).size ≤ length old
  fits s h e =
      let g = known_new s (packed s) (packs s) h e in
      omega (
        arith,
        g.sizes,
        each_once (length old) (spots (with_new s (packed s)).moved) g.below (λ k l. g.once k),
        length-append (packed s).room (part_of old (shows s)),
        part_size s,
      )

  pub room_small : (s : ℕ) → length (packed s).room ≤ length old
  room_small s =
      let g = packs s in
      omega (arith, g.sizes, each_once (length old) (spots (packed s).moved) g.below (λ k l. g.once k))

  -- ---- where a slot's block goes

  -- once it is known it stays
  stays : (b : Block) (s k : ℕ) → place_of b (packed s).moved ≡ some k → place_of b (packed (suc s)).moved ≡ some k
  unfolding packed
  stays b s k e =
      turn_by (λ p. place_of b p.moved ≡ some k) s (packed s) e
      (λ h q. place_kept b (packed s).moved (move (shows s) (length (packed s).room)) k e)

  pub stays_to : (b : Block) (s n k : ℕ) → place_of b (packed s).moved ≡ some k → place_of b (packed (s + n)).moved ≡ some k
  stays_to b s zero k e = ap (λ (m : ℕ). place_of b (packed m).moved) (add-zero s) ∙ e
  stays_to b s (suc n) k e =
      ap (λ (m : ℕ). place_of b (packed m).moved) (add-suc s n) ∙ stays b (s + n) k (stays_to b s n k e)

  -- blocks that begin at one place are one block
  pub one_block : (s t : ℕ) → 0 < (shows s).size → 0 < (shows t).size → (shows t).place ≡ (shows s).place → shows s ≡ shows t
  one_block s t p q e = by (apart_by (shows s) (shows t) p q (apart_all s t))
    where
      by : Apart (shows s) (shows t) → shows s ≡ shows t
      by (same r) = r
      by (before r) = absurd (omega arith)
      by (after r) = absurd (omega arith)

  -- an empty turn changes nothing
  pub packed_empty : (s : ℕ) → (shows s).size ≡ 0 → packed (suc s) ≡ packed s
  unfolding packed
  packed_empty s e = empty_stays s (packed s) e

  -- an empty block is never moved
  none_empty : (b : Block) (ms : List Moved) → OfSlots ms → b.size ≡ 0 → place_of b ms ≡ none
  unfolding OfSlots
  none_empty b [] a e = place_none b
  none_empty b (m ∷ ms) a e =
      look b m ms false (unlike_blocks m.from b (λ z. omega (arith, a.0.some_of_it, ap (λ (x : Block). x.size) z, e)))
      ∙ none_empty b ms a.1 e

  pub empty_nowhere : (b : Block) (s : ℕ) → b.size ≡ 0 → place_of b (packed s).moved ≡ none
  empty_nowhere b s e = none_empty b (packed s).moved (packs s).of_slots e
