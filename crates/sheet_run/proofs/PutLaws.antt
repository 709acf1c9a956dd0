-- One datum after the other is put. Assumes nothing.
use mathlib.Core.Path.{◌≡◌, refl, sym, ap, ◌∙◌}
use mathlib.Core.Bool.{true, not}
use mathlib.Core.List.{List, [], ◌∷◌, ◌++◌}
use Prim.Native.Nat.{ℕ, zero, suc, ◌+◌, ◌-◌, ◌≤◌, ◌<◌}
use native.Mathlib.Omega.{arith}
use native.Mathlib.Numerals.{add-one}
use lib.Dec.{ltb}
use lib.ListN.{length, get_or, take, drop, set, length-set}
use lib.Seq.{drop-cons, take-suc-set}
use Rattle.laws.specs.Basics.{zeros, basics}
use Rattle.laws.proofs.Tests.{every_take, every_drop}
use Rattle.laws.proofs.Lists.{length-zeros}
use Rattle.laws.proofs.Bytes.{all_bytes}
use Rattle.rules.specs.Numbers.{scratch_words}
use Rattle.rules.specs.Refusals.{unsound, short_scratch, malformed, over_limit, early_label, no_slots, no_room, Answer, accepted, refused, number_of, ◌⇒◌}
use Rattle.rules.specs.Nodes.{nodes_rules}
use Rattle.rules.specs.Datum.{Datum, Parse, good, bad, parse, within_limits, early_reference}
use Rattle.rules.specs.Heap.{capacity}
use Rattle.rules.specs.Layout.{Lent, Rooms, rooms_of, heap_of, lent_of}
use Rattle.rules.specs.Put.{put_datum, slot_in, slots_short, room_short}
use Rattle.rules.specs.Sound.{sound}
use Rattle.rules.specs.Calls.{Left, left, cleared, checked, put_tree, put_call}
use Rattle.rules.specs.Listing.{sheet_slots, refusal_line, put_each}
use Rattle.rules.proofs.GoodSound.{unless_keeps}
use Rattle.rules.proofs.PutSound.{PutLeft, accepts, refuses, put_left}
use Rattle.leaf_nodes.proofs.Laws.{all_small}
use Rattle.std.specs.Prelude.{Ok, Err}
use Rattle.refusals.specs.declared.Refusal as code
use Rattle.refusals.specs.Told.{refusal_of}
use Rattle.sheet_parse.specs.Parsed.{place_before, part_of}
use Rattle.sheet_run.specs.Running.{DataAt, Begun, each_put, EachPut}

-- ---- what a put leaves in the scratch

tree_clears : (l : Lent) (scratch : List ℕ) (d : Datum) → (put_tree l scratch (heap_of l) d).scratch ≡ cleared scratch
unfolding put_tree
tree_clears l scratch d =
    let h = heap_of l in
    let after = (put_datum d h).making.heap in
    unless_keeps (λ (x : Left ℕ). x.scratch ≡ cleared scratch)
    ((not (within_limits d) ⇒ over_limit)
    ∷ (early_reference d ⇒ early_label)
    ∷ (slots_short (rooms_of l).slots h after ⇒ no_slots)
    ∷ (room_short (rooms_of l).bytes after.bytes ⇒ no_room)
    ∷ (room_short (rooms_of l).elements after.elements ⇒ no_room)
    ∷ [])
    (left (accepted (slot_in (put_datum d h))) (lent_of (rooms_of l) after) (cleared scratch))
    (λ r. left (refused r) l (cleared scratch))
    (λ t. refl)
    (λ r. refl)

-- past 20 and 19 the scratch is cleared
put_clears : (l : Lent) (scratch datum : List ℕ) (s : ℕ) → (put_call l scratch datum).answer ≡ accepted s → (put_call l scratch datum).scratch ≡ cleared scratch
unfolding put_call checked
put_clears l scratch datum s e =
    unless_keeps (λ (x : Left ℕ). x.answer ≡ accepted s → x.scratch ≡ cleared scratch)
    ((not (sound l) ⇒ unsound) ∷ (ltb (length scratch) (scratch_words (capacity (heap_of l))) ⇒ short_scratch) ∷ [])
    _ _
    (λ t q. by (parse datum))
    (λ r q. let z : ◌≡◌ {A = ℕ} 0 1 = cc in absurd (omega arith))
    e
  where
    by : (p : Parse) → (elim p as (λ p. Left ℕ) [ good d ↦ put_tree l scratch (heap_of l) d | bad f n ↦ left (refused (malformed f n)) l (cleared scratch) ]).scratch ≡ cleared scratch
    by (good d) = tree_clears l scratch d
    by (bad f n) = refl

-- ---- a part of lent bytes is bytes

part_bytes : (nodes ends : List ℕ) (i : ℕ) → ((k : ℕ) → get_or nodes k 0 < 256) → all_bytes (part_of nodes ends i) ≡ true
unfolding part_of nodes_rules basics
part_bytes nodes ends i small =
    every_take (λ b. ltb b 256) (get_or ends i 0 - place_before ends i) (drop (place_before ends i) nodes)
    (every_drop (λ b. ltb b 256) (place_before ends i) nodes (all_small nodes small))

-- ---- one put more

-- what a put's answer prints: the rest, or its refusal
next : List ℕ → List (List ℕ) → Left ℕ → List ℕ
next rs ds p =
    elim p.answer [ accepted s ↦ put_each (rs ++ (s ∷ [])) p.lent ds | refused r ↦ refusal_line (number_of r) ]

put_next : (rs : List ℕ) (l : Lent) (d : List ℕ) (ds : List (List ℕ)) → put_each rs l (d ∷ ds) ≡ next rs ds (put_call l (zeros (scratch_words sheet_slots)) d)
unfolding put_each next
put_next rs l d ds = refl

pub record Going (l₀ : Lent) (nodes ends : List ℕ) (count i : ℕ) (l : Lent) (scratch roots : List ℕ) : Type 0 where
  pub within : i ≤ count
  pub begun : Begun l scratch
  pub room : count ≤ length roots
  pub same : (ds : List (List ℕ)) → DataAt nodes ends count ds → put_each [] l₀ ds ≡ put_each (take i roots) l (drop i ds)

pub going_begins : (l : Lent) (nodes ends : List ℕ) (count : ℕ) (scratch roots : List ℕ) → Begun l scratch → count ≤ length roots → Going l nodes ends count 0 l scratch roots
going_begins l nodes ends count scratch roots b r =
    record { within = omega arith; begun = b; room = r; same = λ ds at. refl }

module _ (l₀ : Lent) (nodes ends : List ℕ) (count i : ℕ) (l : Lent) (scratch roots : List ℕ) (g : Going l₀ nodes ends count i l scratch roots) (more : i < count) (datum : List ℕ) (is : datum ≡ part_of nodes ends i) (small : (k : ℕ) → get_or nodes k 0 < 256) (a : Answer ℕ) (after : Lent) (end : List ℕ) (e : left a after end ≡ put_call l scratch datum) where
  -- the data from here on
  rest : (ds : List (List ℕ)) → DataAt nodes ends count ds → drop i ds ≡ datum ∷ drop (suc i) ds
  rest ds at =
      drop-cons ds i [] (omega (arith, at.many)) ∙ ap (λ (d : List ℕ). d ∷ drop (suc i) ds) (sym (at.is i more) ∙ sym is)

  prints : (ds : List (List ℕ)) → DataAt nodes ends count ds → put_each [] l₀ ds ≡ next (take i roots) (drop (suc i) ds) (left a after end)
  prints ds at =
      g.same ds at
      ∙ ap (put_each (take i roots) l) (rest ds at)
      ∙ put_next (take i roots) l datum (drop (suc i) ds)
      ∙ ap (λ (t : List ℕ). next (take i roots) (drop (suc i) ds) (put_call l t datum)) (sym g.begun.clear)
      ∙ ap (next (take i roots) (drop (suc i) ds)) (sym e)

  pub stops : (r : code.Refusal) → refused (refusal_of r) ≡ a → (ds : List (List ℕ)) → DataAt nodes ends count ds → EachPut l₀ ds after count roots (Err r)
  unfolding each_put next
  stops r q ds at = record { ends = prints ds at ∙ ap (λ (x : Answer ℕ). next (take i roots) (drop (suc i) ds) (left x after end)) (sym q) }

  module _ (s : ℕ) (z : accepted s ≡ a) where
    took : a ≡ accepted s
    took = sym z

    answered : (put_call l scratch datum).answer ≡ accepted s
    answered = ap (λ (x : Left ℕ). x.answer) (sym e) ∙ took

    all : all_bytes datum ≡ true
    all = ap all_bytes is ∙ part_bytes nodes ends i small

    lent_is : (put_call l scratch datum).lent ≡ after
    lent_is = ap (λ (x : Left ℕ). x.lent) (sym e)

    clean : end ≡ zeros (scratch_words sheet_slots)
    unfolding cleared
    clean =
        ap (λ (x : Left ℕ). x.scratch) e
        ∙ put_clears l scratch datum s answered
        ∙ ap (λ (t : List ℕ). zeros (length t)) g.begun.clear
        ∙ ap zeros (length-zeros (scratch_words sheet_slots))

    begun_on : Begun after end
    begun_on = by (put_left l scratch datum all)
      where
        by : PutLeft l (put_call l scratch datum) → Begun after end
        by (accepts d p) =
            record {
              whole = ap sound (sym lent_is) ∙ p.lists_sound;
              slots = omega (arith, g.begun.slots, ap (λ (x : Lent). (rooms_of x).slots) lent_is, ap (λ (r : Rooms). r.slots) p.rooms);
              clear = clean;
            }
        by (refuses r q same) = let w : ◌≡◌ {A = Answer ℕ} (accepted s) (refused r) = sym answered ∙ q in let y : ◌≡◌ {A = ℕ} 0 1 = cc in absurd (omega arith)

    taken_on : (ds : List (List ℕ)) → DataAt nodes ends count ds → put_each [] l₀ ds ≡ put_each (take (i + 1) (set roots i s)) after (drop (i + 1) ds)
    unfolding next
    taken_on ds at =
        prints ds at
        ∙ ap (λ (x : Answer ℕ). next (take i roots) (drop (suc i) ds) (left x after end)) took
        ∙ ap (λ (rs : List ℕ). put_each rs after (drop (suc i) ds)) (sym (take-suc-set roots i s (omega (arith, g.room))))
        ∙ ap (λ (n : ℕ). put_each (take n (set roots i s)) after (drop n ds)) (sym (add-one i))

    pub goes_on : Going l₀ nodes ends count (i + 1) after end (set roots i s)
    goes_on =
        record {
          within = omega arith;
          begun = begun_on;
          room = omega (arith, g.room, length-set roots i s);
          same = taken_on;
        }

pub ends_put : (l₀ : Lent) (nodes ends : List ℕ) (count i : ℕ) (l : Lent) (scratch roots : List ℕ) → Going l₀ nodes ends count i l scratch roots → count ≤ i → (ds : List (List ℕ)) → DataAt nodes ends count ds → EachPut l₀ ds l count roots (Ok tt)
unfolding each_put put_each
ends_put l₀ nodes ends count i l scratch roots g past ds at =
    let all : i ≡ count = omega (arith, g.within) in
    record {
      ends = (g.same ds at ∙ ap (λ (n : ℕ). put_each (take n roots) l (drop n ds)) all ∙ ap (put_each (take count roots) l) (drop_past ds count (omega (arith, at.many))), g.begun.whole);
    }
  where
    drop_past : (ds : List (List ℕ)) (n : ℕ) → length ds ≤ n → drop n ds ≡ []
    drop_past [] zero h = refl
    drop_past [] (suc n) h = refl
    drop_past (d ∷ ds) zero h = absurd (omega arith)
    drop_past (d ∷ ds) (suc n) h = drop_past ds n (omega arith)
