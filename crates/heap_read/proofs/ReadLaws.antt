-- A read whole, by the rules' reading: what the two passes of the build tell and leave. Document 01, "Reading back", and rows 12
-- and 18 of "What a caller is told". Assumes nothing.
use mathlib.Core.Path.{◌≡◌, refl, sym, ap, ◌∙◌, subst}
use mathlib.Core.Bool.{Bool, true, false}
use mathlib.Core.List.{List, [], ◌∷◌, ◌++◌}
use mathlib.Core.Option.{Option, none, some}
use Rattle.std.specs.Prelude as code
use Rattle.std.specs.Prelude.{Some, None, Result, Ok, Err}
use Prim.Native.Nat.{ℕ, ◌*◌, ◌/◌, ◌%◌, ◌≤◌, ◌<◌}
use native.Mathlib.Omega.{arith}
use borrow.Author.Tests.{le-leb, lt-leb, lt-ltb, le-ltb, ne_eqb}
use lib.Dec.{eqb, ltb}
use lib.ListN.{length, get_or, drop}
use lib.Seq.{sets-eq}
use Rattle.laws.specs.Basics.{choose, member, zeros, basics}
use Rattle.laws.proofs.Lists.{get_or_zeros, length-zeros, no_elements}
use Rattle.rules.specs.Numbers.{most_nodes, most_labels, scratch_words}
use Rattle.rules.specs.Refusals.{accepted, refused, Refusal, over_limit, no_such_slot, short_output, unless, ◌⇒◌, refusals}
use Rattle.rules.specs.Cells.{Value, slot, scalar}
use Rattle.rules.specs.Datum.{Datum, encode}
use Rattle.rules.specs.Heap.{Heap, capacity}
use Rattle.rules.specs.Layout.{Rooms, Lent, rooms_of, heap_of, layout_rules}
use Rattle.rules.specs.Sound.{value_named, sound, sound_rules}
use Rattle.rules.specs.Calls.{ReadLeft, cleared, value_in_use, read_value, call_rules}
use Rattle.rules.specs.Read.{Built, labels_for, build, reading_of, reading}
use Rattle.rules.proofs.SoundLaws.{clauses, bounds, sound_fits, lists_again}
use Rattle.rules.proofs.GoodSound.{sound_good}
use Rattle.rules.proofs.StoreSound.{named_value}
use Rattle.leaf_rooms.specs.Rooms.{stored}
use Rattle.leaf_write.specs.declared.Page.{Page}
use Rattle.heap_walk.specs.Walks.{whole_walk}
use Rattle.heap_walk.specs.Marks.{state_word, mark}
use Rattle.heap_walk.specs.Tasks.{LabelTask, LabelDone}
use Rattle.heap_build.specs.Drafts.{Draft, draft}
use Rattle.heap_build.specs.Tasks.{LeftBy}
use Rattle.heap_build.proofs.DraftLaws.{drawn, draft_drawn}
use Rattle.heap_build.proofs.StepLaws.{gave_up, On, went_on}
use Rattle.refusals.specs.declared.Refusal as code_refusal
use Rattle.refusals.specs.declared.Refusal.TheVariants.{OverLimit, ShortOutput}
use Rattle.heap_read.specs.Whole.{read_left, Held, BlankTask, MarkedTask, blank_draft, ValueTask, ValueDone, told, Answered}

-- ---- the reading by the draft

module _ (h : Heap) (v : Value) where
  abbrev labels : List ℕ
  labels = labels_for h v

  abbrev whole : Option Draft
  whole = draft most_nodes h labels v blank_draft

  abbrev tree : Option (Built Datum)
  tree = build most_nodes h labels v (record { left = most_nodes; begun = [] })

  drawn_whole : whole ≡ drawn encode blank_draft tree
  drawn_whole = draft_drawn most_nodes h labels v blank_draft

  reading_is : length labels ≤ most_labels → reading h v ≡ reading_of tree
  unfolding reading
  reading_is few =
      ap (λ (b : Bool). elim b as (λ b. Option Datum) [ false ↦ none | true ↦ reading_of tree ]) (le-leb (length labels) most_labels few)

  pub reading_many : most_labels < length labels → reading h v ≡ none
  unfolding reading
  reading_many many =
      ap (λ (b : Bool). elim b as (λ b. Option Datum) [ false ↦ none | true ↦ reading_of tree ]) (lt-leb (length labels) most_labels many)

  reading_none : length labels ≤ most_labels → whole ≡ none → reading h v ≡ none
  unfolding drawn reading_of
  reading_none few e = reading_is few ∙ go tree (sym drawn_whole ∙ e)
    where
      go : (o : Option (Built Datum)) → drawn encode blank_draft o ≡ none → reading_of o ≡ none
      go none q = refl
      go (some b) q = let z : ◌≡◌ {A = ℕ} 0 1 = cc in absurd (omega arith)

  record Given (d : Draft) : Type 0 where
    datum : Datum
    is : reading h v ≡ some datum
    text : d.text ≡ encode datum

  reading_some : length labels ≤ most_labels → (d : Draft) → whole ≡ some d → Given d
  unfolding drawn reading_of
  reading_some few d e = go tree refl (sym drawn_whole ∙ e)
    where
      go : (o : Option (Built Datum)) → tree ≡ o → drawn encode blank_draft o ≡ some d → Given d
      go none q r = let z : ◌≡◌ {A = ℕ} 0 1 = cc in absurd (omega arith)
      go (some b) q r =
          record {
            datum = b.made;
            is = reading_is few ∙ ap reading_of q;
            text = sym (ap (λ (o : Option Draft). elim o as (λ o. List ℕ) [ none ↦ [] | some d ↦ d.text ]) r);
          }

-- ---- the two passes

-- a part of no bytes, put back before the rest
pub none_before : (part l : List ℕ) → length part ≡ 0 → part ++ l ≡ l
none_before part l e = ap (λ (x : List ℕ). x ++ l) (no_elements part e)

module _ (r : Rooms) (h : Heap) (v : Value) (words bytes elems marks out : List ℕ) (t : MarkedTask r h v words bytes elems marks) where
  pub count_task : ValueTask r h (labels_for h v) v words bytes elems marks
  count_task = record { held = t.held; marked = t.marked }

  module _ (start : List ℕ) (counted : code.Option Page) (marks₁ part : List ℕ) (d : ValueDone h (labels_for h v) v start counted marks₁ part) where
    pub over_answer : counted ≡ None → (after : List ℕ) → after ≡ out → Answered h v out (Err OverLimit) after
    unfolding told
    over_answer e after same =
        record {
          by_reading =
              subst (λ (o : Option Datum). told o out (Err OverLimit) after)
              (sym
              (reading_none h v t.few
              (gave_up (labels_for h v) start most_nodes (draft most_nodes h (labels_for h v) v blank_draft) counted marks₁ part d.left e)))
              (refl, same);
        }

    module _ (p : Page) (on : counted ≡ Some p) where
      pass : On (labels_for h v) start most_nodes (draft most_nodes h (labels_for h v) v blank_draft) counted marks₁ part d.left p
      pass = went_on (labels_for h v) start most_nodes (draft most_nodes h (labels_for h v) v blank_draft) counted marks₁ part d.left p on

      given : Given h v pass.draft
      given = reading_some h v t.few pass.draft pass.is

      size : p.at ≡ length (encode given.datum)
      size = pass.made.shows.at_is ∙ ap length given.text

      pub short_answer : length out < p.at → (after : List ℕ) → after ≡ out → Answered h v out (Err ShortOutput) after
      unfolding told
      short_answer short after same =
          record {
            by_reading =
                subst (λ (o : Option Datum). told o out (Err ShortOutput) after) (sym given.is) (refl, omega (arith, size, short), same);
          }

      -- the labels stay where no definition has begun any more
      pub second_task : (marks₂ : List ℕ) → ((s : ℕ) → get_or marks₂ s 0 ≡ get_or marks₁ s 0 / 4 * 4) → length marks₂ ≡ length marks → ValueTask r h (labels_for h v) v words bytes elems marks₂
      unfolding basics
      second_task marks₂ freed same =
          record {
            held =
                record {
                  stands = t.held.stands;
                  bytes_are = t.held.bytes_are;
                  named = t.held.named;
                  room = omega (arith, t.held.room, same);
                };
            marked =
                record {
                  labels_are = λ s. ap (λ (m : ℕ). m / 4) (freed s) ∙ quarter (get_or marks₁ s 0) ∙ pass.made.shows.marks_are.labels_are s;
                  begun_are = λ s. ap (λ (m : ℕ). eqb (m % 4) 2) (freed s) ∙ ne_eqb (get_or marks₁ s 0 / 4 * 4 % 4) 2 (λ e. omega arith);
                };
          }
        where
          quarter : (m : ℕ) → m / 4 * 4 / 4 ≡ m / 4
          quarter m = omega arith

      pub length-answer : p.at ≤ length out → (start₂ : List ℕ) (written : code.Option Page) (marks₃ out₃ : List ℕ) → ValueDone h (labels_for h v) v start₂ written marks₃ out₃ → start₂ ≡ out → Answered h v out (Ok p.at) out₃
      unfolding told LeftBy stored
      length-answer fits start₂ written marks₃ out₃ e same =
          let d = given.datum in
          record {
            by_reading =
                subst (λ (o : Option Datum). told o out (Ok p.at) out₃) (sym given.is) (
                  size,
                  omega (arith, size, fits),
                  out_is written (subst (λ (o : Option Draft). LeftBy (labels_for h v) start₂ most_nodes o written marks₃ out₃) pass.is e.left)
                      ∙ (λ i. lib.Seq.sets (same i) 0 (given.text i))
                      ∙ sets-eq (encode d) out 0 (omega (arith, size, fits))
                      ∙ ap (λ (n : ℕ). encode d ++ drop n out) (native.Mathlib.Nat.zero-add (length (encode d))),
                );
          }
        where
          out_is : (r : code.Option Page) → LeftBy (labels_for h v) start₂ most_nodes (some pass.draft) r marks₃ out₃ → out₃ ≡ lib.Seq.sets start₂ 0 pass.draft.text
          out_is None l = absurd l
          out_is (Some q) l = l.shows.out_is

-- ---- from the walk on

-- with no path a slot is met or not
state_low : (met : List ℕ) (s : ℕ) → state_word [] met s ≤ 1
unfolding state_word basics
state_low met s = go (member s met)
  where
    go : (b : Bool) → choose b 1 0 ≤ 1
    go true = omega arith
    go false = omega arith

module _ (r : Rooms) (h : Heap) (v : Value) (words bytes elems scratch : List ℕ) (t : BlankTask r h v words bytes elems scratch) where
  pub label_task : LabelTask r h v words elems scratch
  label_task = record { stands = t.held.stands; named = t.held.named; blank = t.blank; room = t.held.room }

  module _ (known : ℕ) (marks : List ℕ) (d : LabelDone h v known marks) where
    pub many_answer : 64 < known → (out : List ℕ) → Answered h v out (Err OverLimit) out
    unfolding told
    many_answer many out =
        record {
          by_reading =
              subst (λ (o : Option Datum). told o out (Err OverLimit) out) (sym (reading_many h v (omega (arith, d.count_is, many)))) (refl, refl);
        }

    pub marked_task : known ≤ 64 → length marks ≡ length scratch → MarkedTask r h v words bytes elems marks
    unfolding mark whole_walk labels_for basics
    marked_task few same =
        record {
          held =
              record {
                stands = t.held.stands;
                bytes_are = t.held.bytes_are;
                named = t.held.named;
                room = omega (arith, t.held.room, same);
              };
          marked =
              record {
                labels_are = λ s. omega (arith, d.marks_are s, state_low (whole_walk h v).met s);
                begun_are = λ s. ne_eqb (get_or marks s 0 % 4) 2 (λ e. omega (arith, d.marks_are s, state_low (whole_walk h v).met s));
              };
          few = omega (arith, d.count_is, few);
        }

-- ---- the call

pub blank_task : (r : Rooms) (h : Heap) (v : Value) (n : ℕ) (words bytes elems scratch : List ℕ) → Held r h v n words bytes elems → scratch ≡ zeros n → BlankTask r h v words bytes elems scratch
blank_task r h v n words bytes elems scratch t e =
    record {
      held =
          record {
            stands = t.stands;
            bytes_are = t.bytes_are;
            named = t.named;
            room = omega (arith, t.room, ap length e ∙ length-zeros n);
          };
      blank = λ s. ap (λ (l : List ℕ). get_or l s 0) e ∙ get_or_zeros n s;
    }

module _ (h : Heap) (scratch out : List ℕ) where
  abbrev stop : Refusal → ReadLeft
  stop n = record { answer = refused n; scratch = cleared scratch; out = out }

  abbrev by : Option Datum → ReadLeft
  by o =
      elim o as (λ o. ReadLeft) [
        | none ↦ stop over_limit
        | some d ↦
            unless ((ltb (length out) (length (encode d)) ⇒ short_output) ∷ [])
            (record
            { answer = accepted (length (encode d)); scratch = cleared scratch; out = encode d ++ drop (length (encode d)) out })
            stop
      ]

  read_by : (v : Value) → value_named h v ≡ true → read_value h scratch out v ≡ by (reading h v)
  unfolding call_rules sound_rules refusals
  read_by (slot s) e =
      ap (λ (b : Bool). elim b as (λ b. ReadLeft) [ false ↦ stop no_such_slot | true ↦ by (reading h (slot s)) ]) e
  read_by (scalar x) e = refl

  answered : (o : Option Datum) (a : Result ℕ code_refusal.Refusal) (after : List ℕ) → told o out a after → read_left a (cleared scratch) after ≡ by o
  unfolding told refusals
  answered none a after t = λ i. read_left (t.0 i) (cleared scratch) (t.1 i)
  answered (some d) (Ok n) after t =
      (λ i. record { answer = accepted (t.0 i); scratch = cleared scratch; out = t.2 i })
      ∙ ap
      (λ (b : Bool).
      unless ((b ⇒ short_output) ∷ [])
      (record { answer = accepted (length (encode d)); scratch = cleared scratch; out = encode d ++ drop (length (encode d)) out })
      stop)
      (sym (le-ltb (length out) (length (encode d)) t.1))
  answered (some d) (Err r) after t =
      (λ i. read_left (Err (t.0 i)) (cleared scratch) (t.2 i))
      ∙ ap
      (λ (b : Bool).
      unless ((b ⇒ short_output) ∷ [])
      (record { answer = accepted (length (encode d)); scratch = cleared scratch; out = encode d ++ drop (length (encode d)) out })
      stop)
      (sym (lt-ltb (length out) (length (encode d)) t.1))

  pub read_answered : (v : Value) → value_named h v ≡ true → (a : Result ℕ code_refusal.Refusal) (after scratch' : List ℕ) → Answered h v out a after → scratch' ≡ zeros (length scratch) → read_left a scratch' after ≡ read_value h scratch out v
  unfolding cleared
  read_answered v e a after scratch' t zero' =
      ap (λ (l : List ℕ). read_left a l after) zero' ∙ answered (reading h v) a after t.by_reading ∙ sym (read_by v e)

-- ---- from lent lists that are sound, for the door

pub sound_held : (l : Lent) → sound l ≡ true → (v : Value) → value_in_use (heap_of l) v ≡ true → (n : ℕ) → scratch_words (capacity (heap_of l)) ≤ n → Held (rooms_of l) (heap_of l) v n l.words l.bytes l.elems
unfolding layout_rules
sound_held l e v used n room =
    let c = clauses l e in
    let b = bounds l c in
    let f = sound_fits l c in
    let again = lists_again l c in
    record {
      stands =
          record {
            good = sound_good l e;
            slots = f.slots;
            most = b.most;
            elements = f.elements;
            words_are = ap (λ (x : Lent). x.words) (sym again);
            elems_are = ap (λ (x : Lent). x.elems) (sym again);
          };
      bytes_are = ap (λ (x : Lent). x.bytes) (sym again);
      named = named_value (heap_of l) v used;
      room = omega (arith, room);
    }
