-- Where sound lists show the same of what is in use in both, a caller is told the same of it. Document 01, "Reading back",
-- "Equality", "What a caller is told". Assumes nothing.
use mathlib.Core.Path.{◌≡◌, refl, sym, ap, ◌∙◌, transport}
use mathlib.Core.Bool.{Bool, true, false, not}
use mathlib.Core.List.{List, [], ◌∷◌, ◌++◌}
use mathlib.Core.Option.{Option, none, some}
use Prim.Native.Nat.{ℕ, ◌≤◌}
use native.Mathlib.Omega.{arith}
use borrow.Author.Tests.{le-ltb}
use lib.Dec.{ltb}
use lib.ListN.{length, drop}
use Rattle.laws.specs.Basics.{both}
use Rattle.rules.specs.Numbers.{scratch_words}
use Rattle.rules.specs.Refusals.{Refusal, unsound, short_scratch, no_such_slot, over_limit, short_output, Answer, accepted, refused, told, ◌⇒◌, unless, refusals}
use Rattle.rules.specs.Cells.{Value, Block, Cell}
use Rattle.rules.specs.Datum.{Datum, encode}
use Rattle.rules.specs.Heap.{Heap, capacity, cell_at, in_use, text_of}
use Rattle.rules.specs.Layout.{Lent, heap_of}
use Rattle.rules.specs.Sound.{sound}
use Rattle.rules.specs.Read.{reading}
use Rattle.rules.specs.Equal.{eqv, Equal}
use Rattle.rules.specs.Calls.{cleared, ReadLeft, read_value, read_call, eqv_call, EqualLeft, EqualValues, EqualCall, text_in, text_call, text_part, text_told, of_answer, given_value, value_in_use}
use Rattle.collect_laws.specs.Kept.{AsBefore, same_scalar, same_pair, symbol_moved, string_moved, vector_moved}
use Rattle.history_laws.specs.Histories.{Slots}
use Rattle.history_laws.specs.Lines.{Enough, Held, no_slot, at_slot, SameValues, SameAnswers}

-- ---- what sound lists tell of values in use

module _ (l : Lent) (z : sound l ≡ true) where
  abbrev here : Heap
  here = heap_of l

  enough_tested : (scratch : List ℕ) → Enough l scratch → ltb (length scratch) (scratch_words (capacity here)) ≡ false
  enough_tested scratch e = le-ltb (length scratch) (scratch_words (capacity here)) e

  read_told : (scratch out : List ℕ) (kind a : ℕ) (v : Value) → given_value kind a ≡ accepted v → Enough l scratch → read_call l scratch out kind a ≡ read_value here scratch out v
  unfolding read_call refusals of_answer
  read_told scratch out kind a v given enough =
      λ i.
      unless ((not (z i) ⇒ unsound) ∷ (enough_tested scratch enough i ⇒ short_scratch) ∷ [])
      (of_answer (given i) (read_value here scratch out) (λ r. record { answer = refused r; scratch = cleared scratch; out = out }))
      (λ r. record { answer = refused r; scratch = scratch; out = out })

  module _ (kind a kind' a' : ℕ) (v w : Value) (given : given_value kind a ≡ accepted v) (given' : given_value kind' a' ≡ accepted w)
      (u : value_in_use here v ≡ true) (u' : value_in_use here w ≡ true) where
    eqv_told : eqv_call l kind a kind' a' ≡ accepted (eqv here v w)
    unfolding eqv_call refusals of_answer
    eqv_told =
        (λ i.
        unless ((not (z i) ⇒ unsound) ∷ [])
        (of_answer (given i)
        (λ v.
        of_answer (given' i)
        (λ w.
        unless ((not (both (value_in_use here v) (value_in_use here w)) ⇒ no_such_slot) ∷ []) (accepted (eqv here v w)) (λ r. refused r))
        (λ r. refused r))
        (λ r. refused r))
        (λ r. refused r))
        ∙ (λ i. unless ((not (both (u i) (u' i)) ⇒ no_such_slot) ∷ []) (accepted (eqv here v w)) (λ r. refused r))

    -- a truth that `Equal` says
    abbrev Says : List ℕ → EqualLeft → Type 0
    Says scratch r = (truth : Bool) × Equal here v w truth × (r ≡ record { answer = accepted truth; scratch = cleared scratch })

    equal_told : (scratch : List ℕ) → Enough l scratch → (r : EqualLeft) → EqualCall l scratch kind a kind' a' r ≡ Says scratch r
    unfolding EqualCall EqualValues refusals of_answer
    equal_told scratch enough r =
        (λ i.
        unless ((not (z i) ⇒ unsound) ∷ (enough_tested scratch enough i ⇒ short_scratch) ∷ [])
        (of_answer (given i)
        (λ v.
        of_answer (given' i) (λ w. EqualValues here scratch v w r) (λ n. r ≡ record { answer = refused n; scratch = cleared scratch }))
        (λ n. r ≡ record { answer = refused n; scratch = cleared scratch }))
        (λ n. r ≡ record { answer = refused n; scratch = scratch }))
        ∙ (λ i.
        unless ((not (both (u i) (u' i)) ⇒ no_such_slot) ∷ []) (Says scratch r) (λ n. r ≡ record { answer = refused n; scratch = cleared scratch }))

  text_known : (s : ℕ) → in_use here s ≡ true → text_call l s ≡ text_in (cell_at here s)
  unfolding text_call refusals
  text_known s u = λ i. unless ((not (z i) ⇒ unsound) ∷ (not (u i) ⇒ no_such_slot) ∷ []) (text_in (cell_at here s)) (λ r. refused r)

-- ---- reading: by whether the value is in use, and what it reads as

read_by : List ℕ → List ℕ → Bool → Option Datum → ReadLeft
unfolding refusals
read_by scratch out used d =
    let stop : Refusal → ReadLeft = λ r. record { answer = refused r; scratch = cleared scratch; out = out } in
    elim used [
      | false ↦ stop no_such_slot
      | true ↦
          elim d [
            | none ↦ stop over_limit
            | some d ↦
                unless ((ltb (length out) (length (encode d)) ⇒ short_output) ∷ [])
                (record
                { answer = accepted (length (encode d)); scratch = cleared scratch; out = encode d ++ drop (length (encode d)) out })
                stop
          ]
    ]

read_is : (h : Heap) (scratch out : List ℕ) (v : Value) → read_value h scratch out v ≡ read_by scratch out (value_in_use h v) (reading h v)
unfolding read_value read_by
read_is h scratch out v = refl

-- ---- text: by the cell

text_same : (h k : Heap) {c d : Cell} → AsBefore h k c d → of_answer (text_in d) (λ b. text_of k b) (λ r. []) ≡ of_answer (text_in c) (λ b. text_of h b) (λ r. [])
unfolding of_answer text_in
text_same h k (same_scalar x) = refl
text_same h k (same_pair a d) = refl
text_same h k (symbol_moved b c n t) = t
text_same h k (string_moved b c n t) = t
text_same h k (vector_moved b c n t) = refl

told_same : (h k : Heap) {c d : Cell} → AsBefore h k c d → told (text_in d) ≡ told (text_in c)
unfolding refusals text_in
told_same h k (same_scalar x) = refl
told_same h k (same_pair a d) = refl
told_same h k (symbol_moved b c n t) = refl
told_same h k (string_moved b c n t) = refl
told_same h k (vector_moved b c n t) = refl

-- ---- the same answers

module _ (set : Slots) (l l' : Lent) (z : sound l ≡ true) (z' : sound l' ≡ true) (more : capacity (heap_of l) ≤ capacity (heap_of l'))
    (used : (s : ℕ) → set s → in_use (heap_of l) s ≡ true) (used' : (s : ℕ) → set s → in_use (heap_of l') s ≡ true)
    (same : SameValues set (heap_of l) (heap_of l')) where
  held : (h : Heap) → ((s : ℕ) → set s → in_use h s ≡ true) → (v : Value) → Held set v → value_in_use h v ≡ true
  unfolding value_in_use
  held h p v no_slot = refl
  held h p v (at_slot {s} x) = p s x

  first : (v : Value) → Held set v → value_in_use (heap_of l) v ≡ true
  first = held (heap_of l) used

  second : (v : Value) → Held set v → value_in_use (heap_of l') v ≡ true
  second = held (heap_of l') used'

  before : (scratch : List ℕ) → Enough l' scratch → Enough l scratch
  before scratch e = omega (arith, more)

  text_alike : (s : ℕ) → set s → text_part l' s ≡ text_part l s
  unfolding text_part
  text_alike s x =
      ap (λ (a : Answer Block). of_answer a (λ b. text_of (heap_of l') b) (λ r. [])) (text_known l' z' s (used' s x))
      ∙ text_same (heap_of l) (heap_of l') (same.shows s x)
      ∙ sym (ap (λ (a : Answer Block). of_answer a (λ b. text_of (heap_of l) b) (λ r. [])) (text_known l z s (used s x)))

  told_alike : (s : ℕ) → set s → text_told l' s ≡ text_told l s
  unfolding text_told
  told_alike s x =
      ap told (text_known l' z' s (used' s x)) ∙ told_same (heap_of l) (heap_of l') (same.shows s x) ∙ sym (ap told (text_known l z s (used s x)))

  read_alike : (scratch out : List ℕ) (v : Value) → Held set v → read_value (heap_of l') scratch out v ≡ read_value (heap_of l) scratch out v
  read_alike scratch out v x =
      read_is (heap_of l') scratch out v
      ∙ (λ i. read_by scratch out ((second v x ∙ sym (first v x)) i) (same.reads v x i))
      ∙ sym (read_is (heap_of l) scratch out v)

  pub same_answers : SameAnswers set l l'
  same_answers =
      record {
        reads =
            λ scratch out kind a v given x enough.
            read_told l' z' scratch out kind a v given enough ∙ read_alike scratch out v x
            ∙ sym (read_told l z scratch out kind a v given (before scratch enough));
        eqvs =
            λ kind a kind' a' v w given given' x y.
            eqv_told l' z' kind a kind' a' v w given given' (second v x) (second w y) ∙ ap accepted (same.compares v w x y)
            ∙ sym (eqv_told l z kind a kind' a' v w given given' (first v x) (first w y));
        equals =
            λ scratch kind a kind' a' v w given given' x y enough r.
            let p = equal_told l' z' kind a kind' a' v w given given' (second v x) (second w y) scratch enough r in
            let q = equal_told l z kind a kind' a' v w given given' (first v x) (first w y) scratch (before scratch enough) r in (
              λ e. let t = transport p e in transport (sym q) (t.0, (same.equals v w x y t.0).0 t.1, t.2),
              λ e. let t = transport q e in transport (sym p) (t.0, (same.equals v w x y t.0).1 t.1, t.2),
            );
        texts = text_alike;
        told = told_alike;
      }
