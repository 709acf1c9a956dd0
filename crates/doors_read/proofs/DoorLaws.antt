-- The door of reading: 20, then 19, then 11, then 14, then the read behind them. Assumes nothing.
use mathlib.Core.Path.{◌≡◌, sym, ap, ◌∙◌}
use mathlib.Core.Bool.{Bool, true, false}
use mathlib.Core.List.{List, [], ◌∷◌, ◌++◌}
use mathlib.Core.Option.{none, some}
use Prim.Native.Nat.{ℕ}
use native.Mathlib.Omega.{arith}
use borrow.Author.Tests.{ltb-false}
use lib.Dec.{ltb}
use lib.ListN.{length, get_or, drop}
use Rattle.laws.specs.Basics.{zeros}
use Rattle.rules.specs.Numbers.{scratch_words}
use Rattle.rules.specs.Refusals.{Answer, accepted, refused, Refusal, unsound, short_scratch, over_limit, no_such_slot, short_output, ◌⇒◌, unless, refusals}
use Rattle.rules.specs.Cells.{Value}
use Rattle.rules.specs.Datum.{encode}
use Rattle.rules.specs.Heap.{Heap}
use Rattle.rules.specs.Read.{reading}
use Rattle.rules.specs.Layout.{Lent, rooms_of, heap_of}
use Rattle.rules.specs.Sound.{sound}
use Rattle.rules.specs.Calls.{ReadLeft, cleared, given_value, of_answer, value_in_use, read_value, read_call}
use Rattle.heap_sound_rows.proofs.HeapFacts.{cells_length}
use Rattle.heap_sound_cells.specs.Looked.{named}
use Rattle.heap_given.proofs.GivenLaws.{value_used}
use Rattle.heap_given.proofs.HeaderLaws.{short_by_header}
use Rattle.heap_read.specs.Whole.{Held}
use Rattle.heap_read.proofs.ReadLaws.{sound_held}

-- what is left where nothing but the scratch is touched
abbrev stopped : Refusal → List ℕ → List ℕ → ReadLeft
stopped r scratch out = record { answer = refused r; scratch = scratch; out = out }

module _ (l : Lent) (scratch out : List ℕ) (kind a : ℕ) where
  abbrev given : Answer Value → ReadLeft
  given x = of_answer x (read_value (heap_of l) scratch out) (λ r. stopped r (cleared scratch) out)

  -- 20
  pub read_unsound : sound l ≡ false → stopped unsound scratch out ≡ read_call l scratch out kind a
  unfolding read_call refusals
  read_unsound e = rw e

  module _ (ok : sound l ≡ true) where
    -- 19
    pub read_short : ltb (length scratch) (scratch_words (get_or l.words 1 0)) ≡ true → stopped short_scratch scratch out ≡ read_call l scratch out kind a
    unfolding read_call refusals
    read_short e = rw (ok, short_by_header l scratch true e)

    module _ (long : ltb (length scratch) (scratch_words (get_or l.words 1 0)) ≡ false) where
      passed : given (given_value kind a) ≡ read_call l scratch out kind a
      unfolding read_call refusals
      passed = rw (ok, short_by_header l scratch false long)

      -- 11
      pub read_malformed : (r : Refusal) → refused r ≡ given_value kind a → (after : List ℕ) → after ≡ zeros (length scratch) → stopped r after out ≡ read_call l scratch out kind a
      unfolding of_answer cleared
      read_malformed r p after c = ap (λ (x : List ℕ). stopped r x out) c ∙ ap given p ∙ passed

      pub read_accepted : (v : Value) → accepted v ≡ given_value kind a → read_value (heap_of l) scratch out v ≡ read_call l scratch out kind a
      unfolding of_answer
      read_accepted v p = ap given p ∙ passed

-- ---- behind them

module _ (l : Lent) (ok : sound l ≡ true) (scratch out : List ℕ) (v : Value) where
  used_by : (b : Bool) → named (get_or l.words 1 0) l.map v ≡ b → value_in_use (heap_of l) v ≡ b
  used_by b e = sym (value_used l ok v) ∙ e

  -- 14
  pub read_free : named (get_or l.words 1 0) l.map v ≡ false → (after : List ℕ) → after ≡ zeros (length scratch) → stopped no_such_slot after out ≡ read_value (heap_of l) scratch out v
  unfolding read_value cleared
  read_free e after c = ap (λ (x : List ℕ). stopped no_such_slot x out) c ∙ rw (read_value, used_by false e)

  -- what the read asks
  pub held : named (get_or l.words 1 0) l.map v ≡ true → ltb (length scratch) (scratch_words (get_or l.words 1 0)) ≡ false → Held (rooms_of l) (heap_of l) v (length scratch) l.words l.bytes l.elems
  held e long =
      sound_held l ok v (used_by true e) (length scratch)
      (omega (arith, ltb-false (length scratch) (scratch_words (get_or l.words 1 0)) long, cells_length l))

-- of the scratch a read takes only the length
abbrev by_clean : Heap → List ℕ → List ℕ → Value → ReadLeft
by_clean h clean out v =
    elim (value_in_use h v) [
      | false ↦ stopped no_such_slot clean out
      | true ↦
          elim (reading h v) [
            | none ↦ stopped over_limit clean out
            | some d ↦
                unless ((ltb (length out) (length (encode d)) ⇒ short_output) ∷ [])
                (record { answer = accepted (length (encode d)); scratch = clean; out = encode d ++ drop (length (encode d)) out })
                (λ r. stopped r clean out)
          ]
    ]

pub same_scratch : (h : Heap) (s s' out : List ℕ) (v : Value) → length s ≡ length s' → read_value h s out v ≡ read_value h s' out v
unfolding read_value cleared refusals
same_scratch h s s' out v e = ap (λ (n : ℕ). by_clean h (zeros n) out v) e
