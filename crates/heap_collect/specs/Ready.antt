-- What the collection finds: 20, 19 and 14 do not apply. Assumes nothing.
use Rattle.std.specs.Prelude.{◌≡◌, true, List, ℕ, ◌≤◌, length}
use Rattle.laws.specs.Basics.{every}
use Rattle.rules.specs.Numbers.{scratch_words}
use Rattle.rules.specs.Heap.{capacity, in_use}
use Rattle.rules.specs.Layout.{Lent, heap_of}
use Rattle.rules.specs.Sound.{sound}

pub record Ready (l : Lent) (scratch roots : List ℕ) : Type 0 where
  pub lists_sound : sound l ≡ true
  pub room : scratch_words (capacity (heap_of l)) ≤ length scratch
  pub in_use_all : every (in_use (heap_of l)) roots ≡ true
