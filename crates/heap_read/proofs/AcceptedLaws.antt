-- What a read writes is a datum that put's check accepts, for a heap that stands in lists of 64-bit words. Assumes nothing.
use mathlib.Core.Path.{◌≡◌, subst}
use mathlib.Core.Bool.{true}
use mathlib.Core.List.{List}
use mathlib.Core.Option.{some}
use Prim.Native.Nat.{ℕ, ◌<◌}
use lib.ListN.{get_or}
use Rattle.rules.specs.Numbers.{bits64}
use Rattle.rules.specs.Cells.{Value}
use Rattle.rules.specs.Datum.{Datum}
use Rattle.rules.specs.Heap.{Heap}
use Rattle.rules.specs.Layout.{Rooms}
use Rattle.rules.specs.Read.{reading}
use Rattle.read_laws.proofs.Written.{value_fits}
use Rattle.read_laws.proofs.Accepted.{Accepted, narrow, reading_accepted}
use Rattle.heap_read.specs.Whole.{Held}

-- each word of a list is of 64 bits
abbrev pub Words64 : List ℕ → Type 0
Words64 l = (i : ℕ) → get_or l i 0 < bits64

pub read_accepted : (r : Rooms) (h : Heap) (v : Value) (n : ℕ) (words bytes elems : List ℕ) → Held r h v n words bytes elems → Words64 words → Words64 elems → value_fits v ≡ true → (d : Datum) → reading h v ≡ some d → Accepted d
read_accepted r h v n words bytes elems t w e f d is =
    reading_accepted h t.stands.good
    (narrow r h t.stands.good t.stands.slots (λ i. subst (λ (l : List ℕ). get_or l i 0 < bits64) t.stands.words_are (w i))
    (λ i. subst (λ (l : List ℕ). get_or l i 0 < bits64) t.stands.elems_are (e i)))
    v f d is
