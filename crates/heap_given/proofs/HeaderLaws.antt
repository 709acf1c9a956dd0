-- A sound heap's header: it is there, its capacity is small, and it tells the scratch that is enough. Assumes nothing.
use mathlib.Core.Path.{◌≡◌, ap, ◌∙◌}
use mathlib.Core.Bool.{Bool, true}
use mathlib.Core.List.{List}
use Prim.Native.Nat.{ℕ, ◌≤◌}
use native.Mathlib.Omega.{arith}
use lib.Dec.{ltb}
use lib.ListN.{length, get_or}
use Rattle.rules.specs.Numbers.{scratch_words}
use Rattle.rules.specs.Heap.{capacity}
use Rattle.rules.specs.Layout.{Lent, heap_of, header}
use Rattle.rules.specs.Sound.{sound}
use Rattle.rules.proofs.SoundLaws.{clauses, bounds}
use Rattle.heap_sound_rows.proofs.HeapFacts.{cells_length}

module _ (l : Lent) (e : sound l ≡ true) where
  pub header_there : 8 ≤ length l.words
  header_there = omega (arith, (bounds l (clauses l e)).words)

  pub capacity_small : get_or l.words 1 0 ≤ 4096
  unfolding header
  capacity_small = omega (arith, (bounds l (clauses l e)).capacity, (bounds l (clauses l e)).most)

-- scratch is measured by the capacity that the header tells
pub short_by_header : (l : Lent) (scratch : List ℕ) (b : Bool) → ltb (length scratch) (scratch_words (get_or l.words 1 0)) ≡ b → ltb (length scratch) (scratch_words (capacity (heap_of l))) ≡ b
short_by_header l scratch b e = ap (λ (n : ℕ). ltb (length scratch) (scratch_words n)) (cells_length l) ∙ e
