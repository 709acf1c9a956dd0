-- An accepted read wrote a datum that put's check accepts, for lists of 64-bit words and a field of 64 bits, which every caller
-- lends. Assumes nothing.
use mathlib.Core.Path.{◌≡◌, refl, sym, ap, subst, ◌∙◌}
use mathlib.Core.Bool.{Bool, true, false, not}
use mathlib.Core.List.{List, [], ◌∷◌, ◌++◌}
use mathlib.Core.Option.{Option, none, some}
use Prim.Native.Nat.{ℕ, zero, suc, ◌≤◌, ◌<◌}
use native.Mathlib.Omega.{arith}
use borrow.Author.Tests.{lt-ltb, ltb-false}
use lib.Dec.{eqb, ltb}
use lib.ListN.{length, take, drop}
use lib.Seq.{take-append-le, take-length}
use Rattle.laws.specs.Basics.{choose}
use Rattle.rules.specs.Numbers.{bits64, scratch_words}
use Rattle.rules.specs.Refusals.{Refusal, malformed, bad_char, Answer, accepted, refused, unsound, short_scratch, no_such_slot, over_limit, short_output, ◌⇒◌, unless, refusals}
use Rattle.rules.specs.Utf8.{scalar_value}
use Rattle.rules.specs.Cells.{Scalar, char, Value, slot, scalar}
use Rattle.rules.specs.Nodes.{scalar_fits}
use Rattle.rules.specs.Datum.{Datum, parse, encode}
use Rattle.rules.specs.Heap.{Heap, capacity}
use Rattle.rules.specs.Layout.{Lent, rooms_of, heap_of, slot_kind}
use Rattle.rules.specs.Sound.{sound}
use Rattle.rules.specs.Read.{reading}
use Rattle.rules.specs.Calls.{ReadLeft, cleared, given_scalar, given_value, of_answer, value_in_use, read_value, read_call, call_rules}
use Rattle.read_laws.proofs.Written.{value_fits}
use Rattle.read_laws.proofs.Accepted.{Accepted}
use Rattle.heap_read.proofs.ReadLaws.{sound_held}
use Rattle.heap_read.proofs.AcceptedLaws.{Words64, read_accepted}
use Rattle.doors_read.specs.PutAgain.{Puttable}

-- ---- two answers that are not the same

was_accepted : {A : Type 0} {a b : A} → accepted a ≡ accepted b → a ≡ b
was_accepted e = cc

not_accepted : {A : Type 0} {r : Refusal} {a : A} → refused r ≡ accepted a → ⊥
not_accepted e = let z : ◌≡◌ {A = ℕ} 0 1 = cc in omega arith

-- ---- a given value fits a node

char_fits : (n : ℕ) (b : Bool) → scalar_value n ≡ b → (s : Scalar) → choose b (accepted (char n)) (refused (malformed bad_char 0)) ≡ accepted s → scalar_fits s ≡ true
unfolding scalar_fits
char_fits n true e s p = subst (λ (x : Scalar). scalar_fits x ≡ true) (was_accepted p) e
char_fits n false e s p = absurd (not_accepted p)

scalar_given : (kind a : ℕ) → a < bits64 → (s : Scalar) → given_scalar kind a ≡ accepted s → scalar_fits s ≡ true
unfolding call_rules scalar_fits
scalar_given zero a small s p = subst (λ (x : Scalar). scalar_fits x ≡ true) (was_accepted p) refl
scalar_given (suc zero) a small s p = subst (λ (x : Scalar). scalar_fits x ≡ true) (was_accepted p) refl
scalar_given (suc (suc zero)) a small s p = subst (λ (x : Scalar). scalar_fits x ≡ true) (was_accepted p) refl
scalar_given (suc (suc (suc zero))) a small s p = subst (λ (x : Scalar). scalar_fits x ≡ true) (was_accepted p) refl
scalar_given (suc (suc (suc (suc zero)))) zero small s p = subst (λ (x : Scalar). scalar_fits x ≡ true) (was_accepted p) refl
scalar_given (suc (suc (suc (suc zero)))) (suc zero) small s p = subst (λ (x : Scalar). scalar_fits x ≡ true) (was_accepted p) refl
scalar_given (suc (suc (suc (suc zero)))) (suc (suc a)) small s p = absurd (not_accepted p)
scalar_given (suc (suc (suc (suc (suc zero))))) a small s p = char_fits a (scalar_value a) refl s p
scalar_given (suc (suc (suc (suc (suc (suc zero)))))) a small s p = subst (λ (x : Scalar). scalar_fits x ≡ true) (was_accepted p) (lt-ltb a bits64 small)
scalar_given (suc (suc (suc (suc (suc (suc (suc kind))))))) a small s p = absurd (not_accepted p)

value_given : (kind a : ℕ) → a < bits64 → (v : Value) → given_value kind a ≡ accepted v → value_fits v ≡ true
unfolding call_rules value_fits
value_given kind a small v = by (eqb kind slot_kind)
  where
    by_scalar : (x : Answer Scalar) → given_scalar kind a ≡ x → of_answer x (λ s. accepted (scalar s)) (λ r. refused r) ≡ accepted v → value_fits v ≡ true
    by_scalar (accepted s) q p = subst (λ (x : Value). value_fits x ≡ true) (was_accepted p) (scalar_given kind a small s q)
    by_scalar (refused r) q p = absurd (not_accepted p)

    by : (b : Bool) → elim b as (λ (b : Bool). Answer Value) [ true ↦ accepted (slot a) | false ↦ of_answer (given_scalar kind a) (λ s. accepted (scalar s)) (λ r. refused r) ] ≡ accepted v → value_fits v ≡ true
    by true p = subst (λ (x : Value). value_fits x ≡ true) (was_accepted p) refl
    by false p = by_scalar (given_scalar kind a) refl p

-- ---- what was written

-- the answer and the output of a read that came so far
abbrev Wrote : ReadLeft → ℕ → Type 0
Wrote x n = x.answer ≡ accepted n → Puttable (take n x.out)

abbrev stopped : Refusal → List ℕ → List ℕ → ReadLeft
stopped r scratch out = record { answer = refused r; scratch = scratch; out = out }

puttable : (d : Datum) → Accepted d → (bytes : List ℕ) → bytes ≡ encode d → Puttable bytes
puttable d k bytes e =
    record { datum = d; parses = ap parse e ∙ k.parses; within = k.within; not_early = k.early }

module _ (l : Lent) (ok : sound l ≡ true) (w : Words64 l.words) (e : Words64 l.elems) (scratch out : List ℕ) (n : ℕ) where
  abbrev h : Heap
  h = heap_of l

  module _ (v : Value) (fits : value_fits v ≡ true) (used : value_in_use h v ≡ true) (room : scratch_words (capacity h) ≤ length scratch) where
    written : (d : Datum) → reading h v ≡ some d → (x : ReadLeft) → x.answer ≡ accepted (length (encode d)) → x.out ≡ encode d ++ drop (length (encode d)) out → Wrote x n
    written d is x a o p =
        puttable d
        (read_accepted (rooms_of l) h v (length scratch) l.words l.bytes l.elems (sound_held l ok v used (length scratch) room) w e fits d is)
        (take n x.out)
        ((λ j. take (was_accepted (sym p ∙ a) j) (o j))
        ∙ take-append-le (length (encode d)) (encode d) (drop (length (encode d)) out) (omega arith)
        ∙ take-length (encode d))

    abbrev stop : Refusal → ReadLeft
    stop r = stopped r (cleared scratch) out

    abbrev done : Datum → ReadLeft
    done d =
        record
        { answer = accepted (length (encode d)); scratch = cleared scratch; out = encode d ++ drop (length (encode d)) out }

    by_room : (d : Datum) → reading h v ≡ some d → (b : Bool) → Wrote (unless ((b ⇒ short_output) ∷ []) (done d) stop) n
    unfolding refusals
    by_room d is true p = absurd (not_accepted p)
    by_room d is false p = written d is (done d) refl refl p

    by_reading : (o : Option Datum) → reading h v ≡ o → Wrote (elim o as (λ (o : Option Datum). ReadLeft) [ none ↦ stop over_limit | some d ↦ unless ((ltb (length out) (length (encode d)) ⇒ short_output) ∷ []) (done d) stop ]) n
    by_reading none is p = absurd (not_accepted p)
    by_reading (some d) is p = by_room d is (ltb (length out) (length (encode d))) p

  module _ (v : Value) (fits : value_fits v ≡ true) (room : scratch_words (capacity h) ≤ length scratch) where
    by_use : (b : Bool) → value_in_use h v ≡ b → Wrote (elim b as (λ (b : Bool). ReadLeft) [ false ↦ stopped no_such_slot (cleared scratch) out | true ↦ elim (reading h v) [ none ↦ stopped over_limit (cleared scratch) out | some d ↦ unless ((ltb (length out) (length (encode d)) ⇒ short_output) ∷ []) (record { answer = accepted (length (encode d)); scratch = cleared scratch; out = encode d ++ drop (length (encode d)) out }) (λ r. stopped r (cleared scratch) out) ] ]) n
    by_use false q p = absurd (not_accepted p)
    by_use true q p = by_reading v fits q room (reading h v) refl p

    value_wrote : Wrote (read_value h scratch out v) n
    unfolding read_value
    value_wrote p = by_use (value_in_use h v) refl p

  module _ (kind a : ℕ) (small : a < bits64) where
    abbrev given : Answer Value → ReadLeft
    given x = of_answer x (read_value h scratch out) (λ r. stopped r (cleared scratch) out)

    by_given : scratch_words (capacity h) ≤ length scratch → (x : Answer Value) → given_value kind a ≡ x → Wrote (given x) n
    unfolding of_answer
    by_given room (accepted v) q p = value_wrote v (value_given kind a small v q) room p
    by_given room (refused r) q p = absurd (not_accepted p)

    by_tests : (s t : Bool) → ltb (length scratch) (scratch_words (capacity h)) ≡ t → Wrote (unless ((not s ⇒ unsound) ∷ (t ⇒ short_scratch) ∷ []) (given (given_value kind a)) (λ r. stopped r scratch out)) n
    unfolding refusals
    by_tests false t q p = absurd (not_accepted p)
    by_tests true true q p = absurd (not_accepted p)
    by_tests true false q p = by_given (ltb-false (length scratch) (scratch_words (capacity h)) q) (given_value kind a) refl p

    -- what an accepted read wrote, n bytes of it, put refuses by none of 11, 12 and 13
    pub put_again : (read_call l scratch out kind a).answer ≡ accepted n → Puttable (take n (read_call l scratch out kind a).out)
    unfolding read_call
    put_again p = by_tests (sound l) (ltb (length scratch) (scratch_words (capacity h))) refl p
