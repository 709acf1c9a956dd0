-- From cleared scratch to the answer. Assumes nothing.
use mathlib.Core.Path.{◌≡◌, sym, ap, ◌∙◌, subst}
use mathlib.Core.Bool.{Bool, false}
use mathlib.Core.List.{List, [], ◌∷◌}
use Prim.Native.Nat.{ℕ, ◌+◌, ◌*◌, ◌≤◌, ◌<◌}
use native.Mathlib.Omega.{arith}
use lib.ListN.{length, get_or}
use Rattle.laws.specs.Basics.{zeros}
use Rattle.laws.proofs.Lists.{length-zeros}
use Rattle.rules.specs.Cells.{Value}
use Rattle.rules.specs.Heap.{Heap, capacity}
use Rattle.rules.specs.Layout.{Lent, heap_of}
use Rattle.rules.specs.Equal.{alike, Equal}
use Rattle.rules.specs.Calls.{cleared}
use Rattle.rules.proofs.SoundLaws.{clauses, bounds}
use Rattle.heap_sound_rows.proofs.HeapFacts.{cells_length}
use Rattle.heap_eqv.specs.Eqv.{Comparable}
use Rattle.std.specs.Prelude.{Some, None}
use Rattle.std.specs.Prelude as code
use Rattle.heap_equal.specs.Boards.{Ready, Moved, Refuted, NextTold, Decides, Room, Clear, Answered}
use Rattle.heap_equal.proofs.Moves.{clear_shape, clear_board, fails_equal}

module _ (l : Lent) (sc : List ℕ) (v w : Value) (pre : Comparable l v w × (Room l sc × Clear sc)) where
  abbrev h : Heap
  h = heap_of l

  abbrev c : ℕ
  c = get_or l.words 1 0

  slots_are : c ≡ capacity h
  slots_are = sym (cells_length l)

  long : 8 * c + 128 ≤ length sc
  long = subst (λ (n : ℕ). 8 * n + 128 ≤ length sc) (sym slots_are) pre.1.0.long

  pub header_there : 1 < length l.words
  header_there = omega (arith, (bounds l (clauses l pre.0.lists_sound)).words)

  pub first_asks : Ready l c sc 0 × Comparable l v w
  first_asks =
      (record { lists_sound = pre.0.lists_sound; shape = clear_shape h c sc pre.1.1 long slots_are }, pre.0)

  module _ (sc' : List ℕ) (r : code.Option ℕ) (told : NextTold h c (alike v w ∷ []) sc 0 sc' r) where
    module _ (k : ℕ) (e : r ≡ Some k) where
      moved : Moved h c (alike v w ∷ []) sc 0 [] sc' k
      unfolding NextTold
      moved = subst (λ (z : code.Option ℕ). NextTold h c (alike v w ∷ []) sc 0 sc' z) e told

      pub compare_asks : Ready l c sc' k
      compare_asks = record { lists_sound = pre.0.lists_sound; shape = moved.shape }

      pub compared : (answer : Bool) → Decides h c sc' k answer → Equal h v w answer
      compared answer d = d.decided v w (moved.runs (alike v w) [] (clear_board h c sc pre.1.1 long (alike v w)))

    pub differs : r ≡ None → Equal h v w false
    unfolding NextTold
    differs e =
        let f : Refuted h c (alike v w ∷ []) sc 0 = subst (λ (z : code.Option ℕ). NextTold h c (alike v w ∷ []) sc 0 sc' z) e told in
        fails_equal h v w (f.refuted (alike v w) [] (clear_board h c sc pre.1.1 long (alike v w)))

module _ (l : Lent) (sc : List ℕ) (v w : Value) (pre : Comparable l v w × Room l sc) (sc' : List ℕ) (zeroed : sc' ≡ zeros (length sc)) where
  zeroed_size : length sc' ≡ length sc
  zeroed_size = ap length zeroed ∙ length-zeros (length sc)

  pub decide_asks : Comparable l v w × (Room l sc' × Clear sc')
  decide_asks = (
    pre.0,
    (
      record { long = omega (arith, pre.1.long, zeroed_size) },
      record { all_zero = zeroed ∙ ap zeros (sym zeroed_size) },
    ),
  )

  pub answered : (r : Bool) → Equal (heap_of l) v w r → (sc₂ sc₃ : List ℕ) → length sc₂ ≡ length sc' → sc₃ ≡ zeros (length sc₂) → Answered (heap_of l) sc v w sc₃ r
  unfolding cleared
  answered r e sc₂ sc₃ same z = record { answer = e; scratch_is = z ∙ ap zeros (same ∙ zeroed_size) }
