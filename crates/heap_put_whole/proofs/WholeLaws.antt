-- From a sound heap and a datum that passed the check to what the needs, the tests and the put ask, and from what they answer
-- to the rules' put call. Assumes nothing.
use mathlib.Core.Path.{◌≡◌, refl, sym, ap, ◌∙◌, subst}
use mathlib.Core.Bool.{Bool, true, false, not}
use mathlib.Core.List.{List, [], ◌∷◌, append-nil}
use mathlib.Core.Option.{Option, some}
use Prim.Native.Nat.{ℕ, ◌+◌, ◌-◌, ◌/◌, ◌≤◌}
use native.Mathlib.Omega.{arith}
use borrow.Author.Tests.{lt-ltb, ltb-false, leb-true}
use lib.Dec.{leb, ltb}
use lib.ListN.{length, get_or}
use Rattle.laws.specs.Basics.{every, join, distinct, zeros, basics}
use Rattle.laws.proofs.Tests.{both_left, both_right}
use Rattle.laws.proofs.Pointwise.{all_every}
use Rattle.laws.proofs.Options.{some_value}
use Rattle.rules.specs.Numbers.{most_labels}
use Rattle.rules.specs.Refusals.{Refusal, accepted, refused, malformed, over_limit, early_label, no_slots, no_room, Test, ◌⇒◌, unless, refusals}
use Rattle.rules.specs.Nodes.{nodes_rules}
use Rattle.rules.specs.Datum.{Datum, nodes, node_within, label_of, encode, Parse, good, bad, parse, datum_fits, within_limits, early_reference, datum_rules}
use Rattle.rules.specs.Heap.{Heap, Entry, capacity, in_use, used_count, free_count, fitting, most_growths}
use Rattle.rules.specs.Layout.{Lent, Rooms, rooms_of, heap_of, lent_of, entry_at, layout_rules}
use Rattle.rules.specs.Put.{Making, making, put_datum, in_slot, slot_in, slots_short, room_short, put_rules}
use Rattle.rules.specs.Sound.{Sound, sound_rules}
use Rattle.rules.specs.Calls.{Left, left, cleared, put_tree}
use Rattle.rules.proofs.LentLaws.{Fits}
use Rattle.rules.proofs.Growth.{fitting_least, reached_whole}
use Rattle.rules.proofs.Good.{Good, used_slot, chunk_positive, free_most, table_used}
use Rattle.rules.proofs.GoodSound.{sound_good}
use Rattle.rules.proofs.SoundLaws.{clauses, bounds, lists_again, sound_fits}
use Rattle.rules.proofs.PutLabels.{put_labels}
use Rattle.leaf_free.proofs.SoundGrowing.{sound_growing}
use Rattle.heap_check.proofs.Answers.{Accepted, accepted as passes}
use Rattle.heap_tally.specs.Pass.{limits}
use Rattle.heap_check.specs.Verdict.{verdict, checked_of}
use Rattle.std.specs.Prelude.{Result, Ok, Err}
use Rattle.std.proofs.Common.{Fits as FitsIn, w8}
use Rattle.leaf_nodes.proofs.Laws.{all_small}
use Rattle.refusals.specs.declared.Refusal as told_refusal
use Rattle.refusals.specs.Told.{refusal_of, answer_of}
use Rattle.heap_needs.specs.declared.Needed as code
use Rattle.heap_needs.specs.Needs.{need, no_needs}
use Rattle.heap_needs.specs.Pass.{known_in, needed, DatumThere}
use Rattle.heap_needs.specs.Pass as pass
use Rattle.heap_needs.specs.Lacks.{first_short, short_of, Measured}
use Rattle.heap_needs.proofs.LackLaws.{put_short, unless_short, lent_good, measured_good}
use Rattle.heap_labels.specs.Labels.{labels_in}
use Rattle.heap_atoms.specs.Makings.{Stands, Able, Within}
use Rattle.heap_atoms.specs.Tasks.{SlotTask, SlotDone}
use Rattle.heap_put_whole.specs.Whole.{put_behind, Ready, Outcome}

-- an answer of a step that gives nothing
abbrev Passed : Type 0
Passed = Result (Unit {0}) told_refusal.Refusal

-- ---- what a sound heap gives

module _ (l : Lent) (scratch : List ℕ) (k : Ready l scratch) where
  abbrev h : Heap
  h = heap_of l

  abbrev r : Rooms
  r = rooms_of l

  whole_heap : Good h
  whole_heap = sound_good l k.lists_sound

  sound_clauses : Sound l
  sound_clauses = clauses l k.lists_sound

  again : lent_of r h ≡ l
  again = lists_again l sound_clauses

  fits : Fits r h
  fits = sound_fits l sound_clauses

  -- n: the same lists, lent to be read

  pub needs_open : (n : Lent) → n ≡ l → pass.Lent n.words n.bytes
  unfolding layout_rules
  needs_open n e =
      subst (λ (x : Lent). pass.Lent x.words x.bytes) (again ∙ sym e)
      (lent_good r.slots h r.bytes whole_heap fits.slots fits.bytes)

  pub short_open : (n : Lent) → n ≡ l → Measured n.words (length n.bytes) (length n.elems / 3)
  unfolding layout_rules
  short_open n e =
      let b = bounds l sound_clauses in
      subst (λ (x : Lent). Measured x.words (length x.bytes) (length x.elems / 3)) (sym e)
      (subst (λ (x : Lent). Measured x.words (length l.bytes) (length l.elems / 3)) again
      (measured_good r.slots h r.bytes r.elements whole_heap b.chunk_most b.most fits.slots fits.bytes fits.elements))

  -- ---- a datum that passed the check

  module _ (datum : List ℕ) (a : Accepted datum) where
    abbrev d : Datum
    d = a.tree

    abbrev after : Heap
    after = (put_datum d h).making.heap

    few_nodes : length (nodes d) ≤ 4096
    unfolding datum_rules
    few_nodes = leb-true _ _ (both_left (leb (length (nodes d)) 4096) _ a.within)

    nodes_within : every node_within (nodes d) ≡ true
    unfolding datum_rules
    nodes_within =
        both_right (leb (length (distinct (join label_of (nodes d)))) most_labels) (every node_within (nodes d))
        (both_right (leb (length (nodes d)) 4096) _ a.within)

    pub there : DatumThere datum
    there = record { tree = d; written = sym a.written; fits = a.fits; few = few_nodes }

    abbrev lacking : Passed
    lacking =
        first_short (slots_short r.slots h after) (room_short r.bytes after.bytes) (room_short r.elements after.elements)

    -- the tests of the code are the rules'
    tests : (n : code.Needed) (x : Passed) → ((t : Datum) → datum ≡ encode t → datum_fits t ≡ true → n ≡ needed (need (known_in l.words l.bytes) true t no_needs)) → x ≡ short_of l.words n (length l.bytes) (length l.elems / 3) → x ≡ lacking
    unfolding layout_rules
    tests n x e s =
        s
        ∙ ap (λ (m : code.Needed). short_of l.words m (length l.bytes) (length l.elems / 3)) (e d (sym a.written) a.fits)
        ∙ subst
        (λ (y : Lent). short_of y.words (needed (need (known_in y.words y.bytes) true d no_needs)) (length l.bytes) (length l.elems / 3) ≡ lacking)
        again
        (put_short r.slots r.bytes r.bytes r.elements h d whole_heap fits.slots a.fits nodes_within a.labels)

    pub told : (n : Lent) → n ≡ l → (o : code.Needed) (x : Passed) → ((t : Datum) → datum ≡ encode t → datum_fits t ≡ true → o ≡ needed (need (known_in n.words n.bytes) true t no_needs)) → x ≡ short_of n.words o (length n.bytes) (length n.elems / 3) → x ≡ lacking
    told n same o x =
        subst (λ (y : Lent). ((t : Datum) → datum ≡ encode t → datum_fits t ≡ true → o ≡ needed (need (known_in y.words y.bytes) true t no_needs)) → x ≡ short_of y.words o (length y.bytes) (length y.elems / 3) → x ≡ lacking)
        (sym same) (tests o x)

    -- what the put call comes to
    abbrev ended : Passed → Left ℕ
    ended o = elim o [ Ok u ↦ left (accepted (slot_in (put_datum d h))) (lent_of r after) (cleared scratch) | Err e ↦ left (refused (refusal_of e)) l (cleared scratch) ]

    behind : put_behind l scratch datum ≡ ended lacking
    unfolding put_behind put_tree refusals
    behind =
        ap (λ (p : Parse). elim p as (λ p. Left ℕ) [ good t ↦ put_tree l scratch h t | bad f n ↦ left (refused (malformed f n)) l (cleared scratch) ]) a.parses
        ∙ (λ i.
        unless
        ((not (a.within i) ⇒ over_limit)
        ∷ (a.labels i ⇒ early_label)
        ∷ (slots_short r.slots h after ⇒ no_slots)
        ∷ (room_short r.bytes after.bytes ⇒ no_room)
        ∷ (room_short r.elements after.elements ⇒ no_room)
        ∷ [])
        (left (accepted (slot_in (put_datum d h))) (lent_of r after) (cleared scratch))
        (λ e. left (refused e) l (cleared scratch)))
        ∙ unless_short (slots_short r.slots h after) (room_short r.bytes after.bytes) (room_short r.elements after.elements) _ _

    pub lack_left : (x : Passed) (e : told_refusal.Refusal) → x ≡ Err e → x ≡ lacking → {y : Result ℕ told_refusal.Refusal} → y ≡ Err e → Outcome l scratch datum y l
    lack_left x e p t q =
        subst (λ (y : Result ℕ told_refusal.Refusal). Outcome l scratch datum y l) (sym q) (record { is = ap ended (sym p ∙ t) ∙ sym behind })

    -- ---- nothing is lacking

    abbrev pub limit : ℕ
    limit = fitting most_growths h.chunk r.slots (capacity h)

    abbrev pub begun : Making
    begun = making h []

    record Enough : Type 0 where
      slots : slots_short r.slots h after ≡ false
      bytes : room_short r.bytes after.bytes ≡ false
      elements : room_short r.elements after.elements ≡ false

    enough : Ok tt ≡ lacking → Enough
    enough e = go (slots_short r.slots h after) (room_short r.bytes after.bytes) (room_short r.elements after.elements) refl refl refl e
      where
        go : (x y z : Bool) → slots_short r.slots h after ≡ x → room_short r.bytes after.bytes ≡ y → room_short r.elements after.elements ≡ z → Ok tt ≡ first_short x y z → Enough
        go true y z p q s n = let w : ◌≡◌ {A = ℕ} 0 1 = cc in absurd (omega arith)
        go false true z p q s n = let w : ◌≡◌ {A = ℕ} 0 1 = cc in absurd (omega arith)
        go false false true p q s n = let w : ◌≡◌ {A = ℕ} 0 1 = cc in absurd (omega arith)
        go false false false p q s n = record { slots = p; bytes = q; elements = s }

    stands : Stands r begun 0 l.words l.map l.bytes l.elems scratch
    unfolding layout_rules labels_in
    stands =
        record {
          words_are = ap (λ (x : Lent). x.words) (sym again);
          map_is = ap (λ (x : Lent). x.map) (sym again);
          bytes_are = ap (λ (x : Lent). x.bytes) (sym again);
          elems_are = ap (λ (x : Lent). x.elems) (sym again);
          labels_are = refl;
          labels_room = omega (arith, k.room, (sound_growing l sound_clauses).some);
        }

    able : Able r limit begun
    unfolding sound_rules entry_at
    able =
        record {
          growing = sound_growing l sound_clauses;
          limit_is = refl;
          table_size = omega (arith, table_used h whole_heap);
          table_below =
              all_every (λ (e : Entry). ltb e.slot (capacity h)) (record { slot = 0; scope = 0 }) h.table
              (λ i m. lt-ltb _ _ (used_slot h (entry_at h i).slot (both_left (in_use h (entry_at h i).slot) _ (whole_heap.entries i m))).below);
          labels_below = refl;
        }

    within : Enough → Within r limit (put_datum d h).making
    unfolding put_rules
    within n =
        record {
          used =
              omega (
                arith,
                ltb-false (free_count h + (limit - capacity h)) (used_count after - used_count h) n.slots,
                free_most h whole_heap,
                fitting_least most_growths h.chunk r.slots (capacity h) (chunk_positive h whole_heap)
                    (reached_whole h.chunk (capacity h) (chunk_positive h whole_heap) whole_heap.growth),
              );
          bytes = ltb-false r.bytes (length after.bytes) n.bytes;
          elements = ltb-false r.elements (length after.elements) n.elements;
          labels = put_labels d h a.within a.labels;
        }

    pub task : (x : Passed) → x ≡ Ok tt → x ≡ lacking → SlotTask r limit begun d [] 0 datum l.words l.map l.bytes l.elems scratch
    unfolding in_slot put_datum
    task x e t =
        record {
          stands = stands;
          able = able;
          within = within (enough (sym e ∙ t));
          datum_is = sym a.written ∙ sym (append-nil (encode d));
          fits = a.fits;
        }

    pub slot_left : (x : Passed) → x ≡ Ok tt → x ≡ lacking → (slot size count : ℕ) (words map bytes elems labels : List ℕ) → SlotDone r begun d slot size count words map bytes elems labels → Outcome l scratch datum (Ok slot) (record { words = words; map = map; bytes = bytes; elems = elems })
    unfolding layout_rules put_rules
    slot_left x e t slot size count words map bytes elems labels s =
        record {
          is =
              (λ i.
              left (accepted (s.slot_is i))
              (record {
                words = s.stands.words_are i;
                map = s.stands.map_is i;
                bytes = s.stands.bytes_are i;
                elems = s.stands.elems_are i;
              })
              (cleared scratch))
              ∙ ap ended (sym e ∙ t)
              ∙ sym behind;
        }

-- ---- a datum that did not pass

module _ (l : Lent) (scratch datum : List ℕ) (c : Passed) (is : checked_of c ≡ verdict datum) where
  abbrev refuse : Refusal → Left ℕ
  refuse e = left (refused e) l (cleared scratch)

  limited : (e : Refusal) (w y : Bool) (ts : List Test) (x : Left ℕ) → limits w y ≡ some e → refuse e ≡ unless ((not w ⇒ over_limit) ∷ (y ⇒ early_label) ∷ ts) x refuse
  unfolding limits refusals
  limited e false y ts x z = ap refuse (sym (some_value z))
  limited e true true ts x z = ap refuse (sym (some_value z))
  limited e true false ts x z = let n : ◌≡◌ {A = ℕ} 0 1 = cc in absurd (omega arith)

  by_tree : (e : Refusal) (t : Datum) → limits (within_limits t) (early_reference t) ≡ some e → refuse e ≡ put_tree l scratch (heap_of l) t
  unfolding put_tree
  by_tree e t z =
      let h = heap_of l in
      let after = (put_datum t h).making.heap in
      limited e (within_limits t) (early_reference t)
      ((slots_short (rooms_of l).slots h after ⇒ no_slots)
      ∷ (room_short (rooms_of l).bytes after.bytes ⇒ no_room)
      ∷ (room_short (rooms_of l).elements after.elements ⇒ no_room)
      ∷ [])
      (left (accepted (slot_in (put_datum t h))) (lent_of (rooms_of l) after) (cleared scratch))
      z

  -- a refusal of the check is the put call's
  stopped : (e : Refusal) → checked_of c ≡ some e → refuse e ≡ put_behind l scratch datum
  unfolding put_behind verdict
  stopped e q = go (parse datum) (sym is ∙ q)
    where
      go : (p : Parse) → ◌≡◌ {A = Option Refusal} (elim p [ good t ↦ limits (within_limits t) (early_reference t) | bad f n ↦ some (malformed f n) ]) (some e) → refuse e ≡ elim p as (λ p. Left ℕ) [ good t ↦ put_tree l scratch (heap_of l) t | bad f n ↦ refuse (malformed f n) ]
      go (good t) z = by_tree e t z
      go (bad f n) z = ap refuse (sym (some_value z))

  -- a datum that passed
  pub passed : ((i : ℕ) → FitsIn w8 (get_or datum i 0)) → c ≡ Ok tt → Accepted datum
  unfolding nodes_rules basics
  passed small e = passes datum c (all_small datum (λ i. omega (arith, small i))) is e

  pub refused_left : (e : told_refusal.Refusal) → c ≡ Err e → {y : Result ℕ told_refusal.Refusal} → y ≡ Err e → Outcome l scratch datum y l
  refused_left e q p =
      subst (λ (y : Result ℕ told_refusal.Refusal). Outcome l scratch datum y l) (sym p) (record { is = stopped (refusal_of e) (ap checked_of q) })

-- the scratch cleared ends the call
pub cleared_left : (l after : Lent) (scratch dirty clean datum : List ℕ) (r : Result ℕ told_refusal.Refusal) → Outcome l scratch datum r after → clean ≡ zeros (length dirty) → length dirty ≡ length scratch → left (answer_of r) after clean ≡ put_behind l scratch datum
unfolding cleared
cleared_left l after scratch dirty clean datum r o e n =
    ap (λ (s : List ℕ). left (answer_of r) after s) (e ∙ ap zeros n) ∙ o.is
