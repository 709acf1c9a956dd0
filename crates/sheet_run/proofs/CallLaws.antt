-- Setup before the puts, and what the whole prints. Assumes nothing.
use mathlib.Core.Path.{◌≡◌, refl, sym, ap, ◌∙◌, subst}
use mathlib.Core.Bool.{Bool, true, false}
use mathlib.Core.List.{List, [], ◌++◌}
use mathlib.Core.Option.{Option, none, some}
use Prim.Native.Nat.{ℕ, ◌+◌, ◌-◌, ◌*◌, ◌/◌, ◌≤◌, ◌<◌}
use native.Mathlib.Omega.{arith}
use borrow.Author.Tests.{lt-ltb, le-ltb}
use lib.Dec.{eqb, leb, ltb}
use lib.ListN.{length, take}
use lib.Seq.{length-take-le, take_at}
use Rattle.laws.specs.Basics.{both, between}
use Rattle.laws.proofs.Lists.{length-zeros}
use Rattle.rules.specs.Numbers.{least_slots, most_slots, most_bytes, most_elements, chunk_allowed}
use Rattle.rules.specs.Refusals.{Answer, accepted, refused, bad_setup, number_of}
use Rattle.rules.specs.Heap.{fresh}
use Rattle.rules.specs.Layout.{Lent, Rooms, rooms_of, heap_of, lent_of, map_bytes, layout_rules}
use Rattle.rules.specs.Sound.{sound, setup_numbers}
use Rattle.rules.specs.Sheet as rules
use Rattle.rules.specs.Calls.{SetUp, setup}
use Rattle.rules.specs.Listing.{sheet_slots, sheet_rooms, blank, listing, refusal_line, put_each, run_sheet, printed}
use Rattle.rules.proofs.SoundLaws.{setup_sound, setup_refuses}
use Rattle.heap_sound_rows.specs.Rows.{lists}
use Rattle.doors.specs.Answers.{set_up}
use Rattle.refusals.specs.Told.{answer_of, refusal_of}
use Rattle.sheet_parse.specs.Parsed.{sheet_of, Parsed, data_in}
use Rattle.sheet_parse.specs.declared.Sheet.{Sheet}
use Rattle.sheet_parse.proofs.SheetLaws.{bad_sheet, good_sheet, IsSheet}
use Rattle.sheet_parse.proofs.DatumLaws.{datum_within, datum_is}
use Rattle.std.specs.Prelude as std
use Rattle.std.specs.Prelude.{None, Result, Ok, Err}
use Rattle.refusals.specs.declared.Refusal.{Refusal}
use Rattle.sheet_run.specs.declared.Refused.TheVariants as refused_as
use Rattle.sheet_run.specs.Running.{DataAt, Begun, each_put, EachPut, Lends, called, FilledIn, RoomsLent, heap_lent, ran_so, RanSo}

-- ---- setup, then the puts

module _ (chunk : ℕ) (l : Lent) (r : Result (Unit {0}) Refusal) (after : Lent) (e : set_up (answer_of r) after ≡ setup chunk l) where
  abbrev goes : List (List ℕ) → SetUp → List ℕ
  goes ds u = elim u.answer [ accepted x ↦ put_each [] u.lent ds | refused n ↦ refusal_line (number_of n) ]

  called_is : (ds : List (List ℕ)) → called chunk l ds ≡ goes ds (set_up (answer_of r) after)
  unfolding called
  called_is ds = ap (goes ds) (sym e)

  pub refused_setup : (n : Refusal) → r ≡ Err n → (ds : List (List ℕ)) (last : Lent) (count : ℕ) (roots : List ℕ) → FilledIn chunk l ds last count roots (Err n)
  unfolding each_put
  refused_setup n q ds last count roots =
      record { ends = called_is ds ∙ ap (λ (x : Result (Unit {0}) Refusal). goes ds (set_up (answer_of x) after)) q }

  module _ (q : r ≡ Ok tt) where
    called_done : (ds : List (List ℕ)) → called chunk l ds ≡ put_each [] after ds
    called_done ds = called_is ds ∙ ap (λ (x : Result (Unit {0}) Refusal). goes ds (set_up (answer_of x) after)) q

    -- it was accepted by its numbers
    allowed : setup_numbers chunk l ≡ true
    allowed = by (setup_numbers chunk l) refl
      where
        by : (b : Bool) → setup_numbers chunk l ≡ b → setup_numbers chunk l ≡ true
        by true p = p
        by false p =
            let w : ◌≡◌ {A = Answer (Unit {0})} (accepted tt) (refused bad_setup) = ap answer_of (sym q) ∙ ap (λ (u : SetUp). u.answer) e ∙ (setup_refuses chunk l p).0 in
            let z : ◌≡◌ {A = ℕ} 0 1 = cc in
            absurd (omega arith)

    pub begun : (scratch : List ℕ) → Lends l scratch → length after.words ≡ length l.words → Begun after scratch
    unfolding layout_rules
    begun scratch k n =
        record {
          whole = ap (λ (u : SetUp). sound u.lent) e ∙ setup_sound chunk l allowed;
          slots = omega (arith, k.slots, ap (λ (m : ℕ). (m - 8) / 8) n);
          clear = k.clear;
        }

    pub filled_in : (ds : List (List ℕ)) (last : Lent) (count : ℕ) (roots : List ℕ) (p : Result (Unit {0}) Refusal) → EachPut after ds last count roots p → FilledIn chunk l ds last count roots p
    filled_in ds last count roots p x =
        record { ends = subst (λ (t : List ℕ). each_put t last count roots p) (sym (called_done ds)) x.ends }

-- ---- setup looks only at the sizes

abbrev numbers_at : ℕ → ℕ → ℕ → ℕ → ℕ → Bool
numbers_at chunk w m b e =
    both
    (both (eqb w (8 + 8 * ((w - 8) / 8))) (both (eqb m (((w - 8) / 8 + 3) / 4)) (eqb e (3 * (e / 3)))))
    (both (between least_slots most_slots ((w - 8) / 8))
    (both (leb b most_bytes) (both (leb (e / 3) most_elements) (chunk_allowed ((w - 8) / 8) chunk))))

numbers_by : (chunk : ℕ) (l : Lent) → setup_numbers chunk l ≡ numbers_at chunk (length l.words) (length l.map) (length l.bytes) (length l.elems)
unfolding setup_numbers layout_rules
numbers_by chunk l = refl

-- the same sizes
pub record Alike (l l' : Lent) : Type 0 where
  pub words : length l.words ≡ length l'.words
  pub map : length l.map ≡ length l'.map
  pub bytes : length l.bytes ≡ length l'.bytes
  pub elems : length l.elems ≡ length l'.elems

module _ (chunk : ℕ) (l l' : Lent) (k : Alike l l') (ds : List (List ℕ)) where
  same_numbers : setup_numbers chunk l ≡ setup_numbers chunk l'
  same_numbers =
      numbers_by chunk l
      ∙ (λ i. numbers_at chunk (k.words i) (k.map i) (k.bytes i) (k.elems i))
      ∙ sym (numbers_by chunk l')

  same_rooms : rooms_of l ≡ rooms_of l'
  unfolding rooms_of
  same_rooms = λ i. record { slots = (k.words i - 8) / 8; bytes = k.bytes i; elements = k.elems i / 3 }

  abbrev set-by : Lent → Bool → List ℕ
  set-by x b =
      elim b [ true ↦ put_each [] (lent_of (rooms_of x) (fresh chunk)) ds | false ↦ refusal_line (number_of bad_setup) ]

  called_by : (x : Lent) → called chunk x ds ≡ set-by x (setup_numbers chunk x)
  unfolding called setup
  called_by x = by (setup_numbers chunk x)
    where
      by : (b : Bool) → (let u = elim b as (λ b. SetUp) [ true ↦ record { answer = accepted tt; lent = lent_of (rooms_of x) (fresh chunk) } | false ↦ record { answer = refused bad_setup; lent = x } ] in elim u.answer as (λ a. List ℕ) [ accepted y ↦ put_each [] u.lent ds | refused r ↦ refusal_line (number_of r) ]) ≡ set-by x b
      by true = refl
      by false = refl

  same_set : (b : Bool) → set-by l b ≡ set-by l' b
  same_set true = ap (λ (r : Rooms). put_each [] (lent_of r (fresh chunk)) ds) same_rooms
  same_set false = refl

  pub called_alike : called chunk l ds ≡ called chunk l' ds
  called_alike = called_by l ∙ ap (set-by l) same_numbers ∙ same_set (setup_numbers chunk l') ∙ sym (called_by l')

-- ---- what the program prints

-- a sheet that is good text: more than 192 slots, or the calls
abbrev by_slots : rules.Sheet → Bool → List ℕ
by_slots s b = elim b [ true ↦ refusal_line 10 | false ↦ run_sheet s ]

abbrev by_text : Option rules.Sheet → List ℕ
by_text x = elim x [ none ↦ refusal_line 11 | some s ↦ by_slots s (ltb sheet_slots s.slots) ]

abbrev by_size : List ℕ → Bool → List ℕ
by_size text b = elim b [ true ↦ refusal_line 12 | false ↦ by_text (rules.sheet text) ]

printed_by : (text : List ℕ) → printed text ≡ by_size text (ltb 32768 (length text))
unfolding printed
printed_by text = refl

pub prints_12 : (text words map bytes elems roots : List ℕ) → 32768 < length text → RanSo text words map bytes elems roots (Err refused_as.TooLong)
unfolding ran_so
prints_12 text words map bytes elems roots long =
    record { is = printed_by text ∙ ap (by_size text) (lt-ltb 32768 (length text) long) }

module _ (text : List ℕ) (fits : length text ≤ 32768) where
  printed_fits : printed text ≡ by_text (rules.sheet text)
  printed_fits = printed_by text ∙ ap (by_size text) (le-ltb 32768 (length text) fits)

  module _ {out₀ ends₀ out ends : List ℕ} {r : std.Option Sheet} (p : Parsed text out₀ ends₀ out ends r) where
    pub prints_11 : (words map bytes elems roots : List ℕ) → r ≡ None → RanSo text words map bytes elems roots (Err refused_as.BadText)
    unfolding ran_so
    prints_11 words map bytes elems roots e = record { is = printed_fits ∙ ap by_text (bad_sheet p e) }

    module _ (chunk slots count : ℕ) (e : r ≡ sheet_of chunk slots count) where
      pub known : IsSheet text chunk slots count
      known = good_sheet p chunk slots count e

      printed_good : printed text ≡ by_slots known.of (ltb sheet_slots known.of.slots)
      printed_good = printed_fits ∙ ap by_text known.is

      pub prints_10 : (words map bytes elems roots : List ℕ) → 192 < slots → RanSo text words map bytes elems roots (Err refused_as.TooManySlots)
      unfolding ran_so
      prints_10 words map bytes elems roots many =
          record {
            is = printed_good ∙ ap (by_slots known.of) (lt-ltb sheet_slots known.of.slots (omega (arith, known.slots_is)));
          }

      pub data_there : DataAt out ends count (rules.data_of known.of)
      data_there =
          record {
            many = known.count_is;
            there = λ i m. datum_within p known.of known.is i (omega (arith, known.count_is));
            is = λ i m. datum_is p known.of known.is i (omega (arith, known.count_is));
          }

      pub few_roots : length ends₀ ≡ 6554 → count ≤ 6554
      unfolding data_in
      few_roots n =
          omega (arith, n, known.count_is, p.few, ap (λ (x : Option rules.Sheet). length (data_in x)) known.is)

      module _ (few : slots ≤ 192) where
        printed_called : (l : Lent) → Alike l (blank (sheet_rooms slots)) → printed text ≡ called chunk l (rules.data_of known.of)
        unfolding run_sheet called
        printed_called l k =
            printed_good
            ∙ ap (by_slots known.of) (le-ltb sheet_slots known.of.slots (omega (arith, known.slots_is)))
            ∙ (λ i. called (sym known.chunk_is i) (blank (sheet_rooms (sym known.slots_is i))) (rules.data_of known.of))
            ∙ sym (called_alike chunk l (blank (sheet_rooms slots)) k (rules.data_of known.of))

        -- the part of the lent room that a heap of so many slots takes
        module _ (words map bytes elems scratch nodes roots : List ℕ) (k : RoomsLent words map bytes elems scratch nodes ends₀ roots) where
          abbrev lent : Lent
          lent = lists (take (8 + 8 * slots) words) (take ((slots + 3) / 4) map) bytes elems

          pub rows_long : length (take (8 + 8 * slots) words) ≡ 8 + 8 * slots
          rows_long = length-take-le (8 + 8 * slots) words (omega (arith, k.rows))

          pub states_long : length (take ((slots + 3) / 4) map) ≡ (slots + 3) / 4
          states_long = length-take-le ((slots + 3) / 4) map (omega (arith, k.states))

          alike : Alike lent (blank (sheet_rooms slots))
          unfolding blank layout_rules
          alike =
              record {
                words = rows_long ∙ sym (length-zeros (8 + 8 * slots));
                map = states_long ∙ sym (length-zeros ((slots + 3) / 4));
                bytes = k.texts ∙ sym (length-zeros 8192);
                elems = k.values ∙ sym (length-zeros 6144);
              }

          pub lends : Lends lent scratch
          unfolding layout_rules
          lends =
              let n : (length (take (8 + 8 * slots) words) - 8) / 8 ≡ slots = omega (arith, rows_long) in
              record {
                words = rows_long ∙ ap (λ (m : ℕ). 8 + 8 * m) (sym n);
                map = states_long ∙ ap (λ (m : ℕ). (m + 3) / 4) (sym n);
                bytes = k.texts;
                elems = k.values;
                slots = omega (arith, n);
                clear = k.clear;
              }

          module _ (after : Lent) (kept : List ℕ) (x : Result (Unit {0}) Refusal) (f : FilledIn chunk lent (rules.data_of known.of) after count kept x) where
            pub prints_refusal : (n : Refusal) (ws ms bs es : List ℕ) → x ≡ Err n → RanSo text ws ms bs es kept (Err (refused_as.ByCall n))
            unfolding ran_so each_put
            prints_refusal n ws ms bs es q =
                record {
                  is = printed_called lent alike ∙ subst (each_put (called chunk lent (rules.data_of known.of)) after count kept) q f.ends;
                }

            pub prints_listing : (ws ms bs es : List ℕ) → x ≡ Ok tt → heap_lent slots ws ms bs es ≡ after → count ≤ length kept → RanSo text ws ms bs es kept (Ok (record { slots = slots; count = count }))
            unfolding ran_so each_put
            prints_listing ws ms bs es q h room =
                let g = subst (each_put (called chunk lent (rules.data_of known.of)) after count kept) q f.ends in
                record {
                  is =
                      (printed_called lent alike ∙ g.0 ∙ ap (λ (y : Lent). listing (take count kept) (heap_of y)) (sym h), ap sound h ∙ g.1, few, room);
                }

-- the parts that were lent on stand at the start again
pub parts_again : (slots : ℕ) (ws ms bs es rest rest' : List ℕ) → length ws ≡ 8 + 8 * slots → length ms ≡ (slots + 3) / 4 → heap_lent slots (ws ++ rest) (ms ++ rest') bs es ≡ lists ws ms bs es
unfolding map_bytes
parts_again slots ws ms bs es rest rest' p q = λ i. lists (take_at ws rest (8 + 8 * slots) p i) (take_at ms rest' ((slots + 3) / 4) q i) bs es
