-- Where packing puts each block of one room: the part that it held stands there, within the new room, and blocks that were the
-- same or disjoint still are, and no others are one. Document 01: "A collection keeps each block that a surviving slot shows,
-- once, packed by lowest such slot; sharing stays." Assumes nothing.
use mathlib.Core.Path.{◌≡◌, refl, sym, ap, ◌∙◌, subst}
use mathlib.Core.Bool.{Bool, true, false, not}
use mathlib.Core.List.{List, [], ◌∷◌, ◌++◌}
use mathlib.Core.Logic.{◌⊎◌, inl, inr, ⊎_elim}
use mathlib.Core.Option.{Option, none, some}
use Prim.Native.Nat.{ℕ, suc, ◌+◌, ◌-◌, ◌≤◌, ◌<◌}
use native.Mathlib.Omega.{arith}
use native.Mathlib.Decide.{ℕ_discrete}
use borrow.Author.Tests.{ne_eqb, le-leb}
use lib.Dec.{eqb}
use lib.ListN.{length, take, drop, length-append, take-append-drop}
use lib.Seq.{take_all, drop_at}
use Rattle.laws.specs.Basics.{every, basics}
use Rattle.laws.proofs.Tests.{true≢false, both_true, either_left, every_append, every_front, every_back}
use Rattle.laws.proofs.Pointwise.{part_append}
use Rattle.rules.specs.Cells.{Block, block, same_block}
use Rattle.rules.specs.Heap.{part_of}
use Rattle.rules.specs.Collect.{Moved, Packing, place_of, moved_block}
use Rattle.rules.specs.Sound.{lies_in, sound_rules}
use Rattle.rules.proofs.Good.{apart}
use Rattle.rules.proofs.Keeping.{apart_refl, apart_sym, apart_after, apart_empty}
use Rattle.rules.proofs.PutCells.{lies_none}
use Rattle.collect_laws.proofs.Packings.{move, same_blocks, blocks_same, none_some, place_none, place_new, place_kept, place_other}
use Rattle.collect_laws.proofs.Packings as packing

-- ---- a move at the end

-- a block that has a place had it before, or is the one that was moved last
data PlacedBy (b c : Block) (ms : List Moved) (at k : ℕ) : Type 0 where
  older : place_of b ms ≡ some k → PlacedBy b c ms at k
  newest : b ≡ c → k ≡ at → PlacedBy b c ms at k

same_place : {j k : ℕ} → ◌≡◌ {A = Option ℕ} (some j) (some k) → j ≡ k
same_place e = cc

placed_by : (b c : Block) (ms : List Moved) (at k : ℕ) → place_of c ms ≡ none → place_of b (ms ++ (move c at ∷ [])) ≡ some k → PlacedBy b c ms at k
placed_by b c ms at k new e = by (place_of b ms) (same_block c b) refl refl
  where
    by : (o : Option ℕ) (t : Bool) → place_of b ms ≡ o → same_block c b ≡ t → PlacedBy b c ms at k
    by (some j) t q r = older (q ∙ ap some (same_place (sym (place_kept b ms (move c at) j q) ∙ e)))
    by none true q r =
        let is : c ≡ b = same_blocks c b r in
        newest (sym is) (same_place (sym e ∙ ap (λ (x : Block). place_of x (ms ++ (move c at ∷ []))) (sym is) ∙ place_new c ms at new))
    by none false q r = none_some (sym e ∙ place_other b ms (move c at) r ∙ q)

-- ---- what every place has

-- the parts of a list keep a test that its elements keep
part_every : {A : Type 0} (f : A → Bool) (l : List A) (b : Block) → every f l ≡ true → every f (part_of l b) ≡ true
part_every f l b e =
    let front = ap (every f) (take-append-drop b.place l) ∙ e in
    let rest = every_back f (take b.place l) (drop b.place l) front in
    every_front f (take b.size (drop b.place l)) (drop b.size (drop b.place l))
    (ap (every f) (take-append-drop b.size (drop b.place l)) ∙ rest)

module _ {A : Type 0} (old : List A) (shows : ℕ → Block) (apart_all : (s t : ℕ) → apart (shows s) (shows t) ≡ true) (inside : (s : ℕ) → (shows s).place + (shows s).size ≤ length old) where
  abbrev packed : ℕ → Packing A
  packed s = packing.packed old shows apart_all inside s

  abbrev with_new : ℕ → Packing A → Packing A
  with_new s p = packing.with_new old shows apart_all inside s p

  pub record Holds (p : Packing A) : Type 0 where
    pub in_room : (b : Block) (k : ℕ) → place_of b p.moved ≡ some k → k + b.size ≤ length p.room
    pub part : (b : Block) (k : ℕ) → place_of b p.moved ≡ some k → part_of p.room (block k b.size) ≡ part_of old b
    pub disjoint : (b c : Block) (j k : ℕ) → place_of b p.moved ≡ some j → place_of c p.moved ≡ some k → (b ≡ c → ⊥) → (j + b.size ≤ k) ⊎ (k + c.size ≤ j)

  holds_none : Holds (record { room = []; moved = [] })
  holds_none =
      record {
        in_room = λ b k e. none_some (sym e ∙ place_none b);
        part = λ b k e. none_some (sym e ∙ place_none b);
        disjoint = λ b c j k e f d. none_some (sym e ∙ place_none b);
      }

  module _ (s : ℕ) (p : Packing A) (g : Holds p) (new : place_of (shows s) p.moved ≡ none) where
    abbrev at : ℕ
    at = length p.room

    size : length (part_of old (shows s)) ≡ (shows s).size
    size = packing.part_size old shows apart_all inside s

    cases : (b : Block) (k : ℕ) → place_of b (with_new s p).moved ≡ some k → PlacedBy b (shows s) p.moved at k
    cases b k e = placed_by b (shows s) p.moved at k new e

    in_room_new : (b : Block) (k : ℕ) → PlacedBy b (shows s) p.moved at k → k + b.size ≤ length (with_new s p).room
    in_room_new b k (older e) = omega (arith, g.in_room b k e, length-append p.room (part_of old (shows s)))
    in_room_new b k (newest e q) = omega (arith, ap (λ (x : Block). x.size) e, q, size, length-append p.room (part_of old (shows s)))

    part_new : (b : Block) (k : ℕ) → PlacedBy b (shows s) p.moved at k → part_of (with_new s p).room (block k b.size) ≡ part_of old b
    part_new b k (older e) = part_append p.room (part_of old (shows s)) k b.size (g.in_room b k e) ∙ g.part b k e
    part_new b k (newest e q) =
        (λ i. take (e i).size (drop (q i) (p.room ++ part_of old (shows s))))
        ∙ ap (take (shows s).size) (drop_at p.room (part_of old (shows s)) at refl)
        ∙ take_all (shows s).size (part_of old (shows s)) (omega (arith, size))
        ∙ ap (part_of old) (sym e)

    disjoint_new : (b c : Block) (j k : ℕ) → PlacedBy b (shows s) p.moved at j → PlacedBy c (shows s) p.moved at k → (b ≡ c → ⊥) → (j + b.size ≤ k) ⊎ (k + c.size ≤ j)
    disjoint_new b c j k (older e) (older f) d = g.disjoint b c j k e f d
    disjoint_new b c j k (older e) (newest f q) d = inl (omega (arith, g.in_room b j e, q))
    disjoint_new b c j k (newest e q) (older f) d = inr (omega (arith, g.in_room c k f, q))
    disjoint_new b c j k (newest e q) (newest f r) d = absurd (d (e ∙ sym f))

    holds_new : Holds (with_new s p)
    holds_new =
        record {
          in_room = λ b k e. in_room_new b k (cases b k e);
          part = λ b k e. part_new b k (cases b k e);
          disjoint = λ b c j k e f. disjoint_new b c j k (cases b j e) (cases c k f);
        }

  pub holds : (s : ℕ) → Holds (packed s)
  holds = packing.packed_by old shows apart_all inside Holds holds_none (λ s p g some_of_it new. holds_new s p g new)

  -- what every element keeps, every element of the new room keeps
  pub room_every : (f : A → Bool) → every f old ≡ true → (s : ℕ) → every f (packed s).room ≡ true
  unfolding basics
  room_every f e =
      packing.packed_by old shows apart_all inside (λ p. every f p.room ≡ true) refl
      (λ s p g some_of_it new. every_append f p.room (part_of old (shows s)) g (part_every f old (shows s) e))

  -- ---- each slot's block

  pub record Went (n s : ℕ) : Type 0 where
    pub place : ℕ
    pub is : place_of (shows s) (packed n).moved ≡ some place

  pub goes : (s : ℕ) → 0 < (shows s).size → Went (suc s) s
  unfolding packing.packed
  goes s h = by (place_of (shows s) (packed s).moved) refl
    where
      by : (o : Option ℕ) → place_of (shows s) (packed s).moved ≡ o → Went (suc s) s
      by (some k) e =
          record {
            place = k;
            is = ap (λ (p : Packing A). place_of (shows s) p.moved) (packing.known_stays old shows apart_all inside s (packed s) k h e) ∙ e;
          }
      by none e =
          record {
            place = length (packed s).room;
            is =
                ap (λ (p : Packing A). place_of (shows s) p.moved) (packing.new_moves old shows apart_all inside s (packed s) h e)
                ∙ place_new (shows s) (packed s).moved (length (packed s).room) e;
          }

  -- the blocks of all slots below n are packed, and the others are empty
  module _ (n : ℕ) (few : (s : ℕ) → 0 < (shows s).size → s < n) where
    pub went : (s : ℕ) → 0 < (shows s).size → Went n s
    went s h =
        let w = goes s h in
        let upto : suc s + (n - suc s) ≡ n = omega (arith, few s h) in
        record {
          place = w.place;
          is =
              ap (λ (m : ℕ). place_of (shows s) (packed m).moved) (sym upto)
              ∙ packing.stays_to old shows apart_all inside (shows s) (suc s) (n - suc s) w.place w.is;
        }

    abbrev pub to : ℕ → Block
    to s = moved_block (shows s) (packed n).moved

    pub to_some : (b : Block) (k : ℕ) → place_of b (packed n).moved ≡ some k → moved_block b (packed n).moved ≡ block k b.size
    unfolding moved_block
    to_some b k e = ap (λ (o : Option ℕ). elim o as (λ o. Block) [ none ↦ block 0 b.size | some j ↦ block j b.size ]) e

    pub to_none : (b : Block) → b.size ≡ 0 → moved_block b (packed n).moved ≡ block 0 0
    unfolding moved_block
    to_none b e =
        ap (λ (o : Option ℕ). elim o as (λ o. Block) [ none ↦ block 0 b.size | some j ↦ block j b.size ])
        (packing.empty_nowhere old shows apart_all inside b n e)
        ∙ ap (block 0) e

    -- the two cases of a slot's block
    by_size : (P : ℕ → Block → Type 0) (s : ℕ) → ((shows s).size ≡ 0 → P s (block 0 0)) → (0 < (shows s).size → (w : Went n s) → P s (block w.place (shows s).size)) → P s (to s)
    by_size P s none_of_it some_of_it =
        elim (ℕ_discrete (shows s).size 0) [
          | yes z ↦ subst (P s) (sym (to_none (shows s) z)) (none_of_it z)
          | no d ↦
              let h : 0 < (shows s).size = omega arith in
              let w = went s h in subst (P s) (sym (to_some (shows s) w.place w.is)) (some_of_it h w)
        ]

    pub to_size : (s : ℕ) → (to s).size ≡ (shows s).size
    to_size s = by_size (λ t b. b.size ≡ (shows t).size) s (λ z. sym z) (λ h w. refl)

    pub to_part : (s : ℕ) → part_of (packed n).room (to s) ≡ part_of old (shows s)
    to_part s =
        by_size (λ t b. part_of (packed n).room b ≡ part_of old (shows t)) s
        (λ z. ap (λ (k : ℕ). take k (drop (shows s).place old)) (sym z)) (λ h w. (holds n).part (shows s) w.place w.is)

    pub to_lies : (s : ℕ) → lies_in (length (packed n).room) (to s) ≡ true
    unfolding sound_rules
    to_lies s =
        by_size (λ t b. lies_in (length (packed n).room) b ≡ true) s (λ z. lies_none (length (packed n).room))
        (λ h w.
        both_true (le-leb (w.place + (shows s).size) (length (packed n).room) ((holds n).in_room (shows s) w.place w.is))
        (either_left (eqb w.place 0) (ap not (ne_eqb (shows s).size 0 (λ z. omega arith)))))

    -- ---- two slots' blocks

    -- not one block: apart as they stand now
    unlike_apart : (s t : ℕ) → 0 < (shows s).size → 0 < (shows t).size → same_block (shows s) (shows t) ≡ false → ((to t).place + (to t).size ≤ (to s).place) ⊎ ((to s).place + (to s).size ≤ (to t).place)
    unlike_apart s t h i d =
        let v = went s h in
        let w = went t i in
        let p = to_some (shows s) v.place v.is in
        let q = to_some (shows t) w.place w.is in
        subst (λ (b : Block). ((to t).place + (to t).size ≤ b.place) ⊎ (b.place + b.size ≤ (to t).place)) (sym p)
        (subst (λ (b : Block). (b.place + b.size ≤ v.place) ⊎ (v.place + (shows s).size ≤ b.place)) (sym q)
        (⊎_elim (λ l. inr l) (λ l. inl l)
        ((holds n).disjoint (shows s) (shows t) v.place w.place v.is w.is
        (λ e. true≢false (sym (blocks_same (shows s) (shows t) e) ∙ d)))))

    pub to_apart : (s t : ℕ) → apart (to s) (to t) ≡ true
    to_apart s t =
        elim (ℕ_discrete (shows s).size 0) [
          | yes z ↦ apart_empty (to s) (to t) (to_size s ∙ z)
          | no d ↦
              elim (ℕ_discrete (shows t).size 0) [
                | yes z ↦ apart_sym (to t) (to s) (apart_empty (to t) (to s) (to_size t ∙ z))
                | no e ↦ by (omega arith) (omega arith) (same_block (shows s) (shows t)) refl
              ]
        ]
      where
        by : 0 < (shows s).size → 0 < (shows t).size → (x : Bool) → same_block (shows s) (shows t) ≡ x → apart (to s) (to t) ≡ true
        by h i true q =
            ap (λ (b : Block). apart (to s) (moved_block b (packed n).moved)) (sym (same_blocks (shows s) (shows t) q))
            ∙ apart_refl (to s)
        by h i false q =
            ⊎_elim (λ l. apart_after (to s) (to t) l) (λ l. apart_sym (to t) (to s) (apart_after (to t) (to s) l))
            (unlike_apart s t h i q)

    -- no two blocks became one
    pub to_one : (s t : ℕ) → 0 < (shows s).size → 0 < (shows t).size → to s ≡ to t → shows s ≡ shows t
    to_one s t h i e = by (same_block (shows s) (shows t)) refl
      where
        by : (x : Bool) → same_block (shows s) (shows t) ≡ x → shows s ≡ shows t
        by true q = same_blocks (shows s) (shows t) q
        by false q =
            let p = ap (λ (b : Block). b.place) e in
            let m = to_size s in
            let k = to_size t in
            absurd (⊎_elim (λ l. omega arith) (λ l. omega arith) (unlike_apart s t h i q))
