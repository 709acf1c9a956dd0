-- What is kept is read as before: a smaller set too, and what a collection's roots reach. Document 01, "Reading back", "Equality".
-- Assumes nothing.
use mathlib.Core.List.{List}
use Prim.Native.Nat.{ℕ}
use Rattle.rules.specs.Cells.{Value}
use Rattle.rules.specs.Heap.{Heap}
use Rattle.rules.specs.Collect.{Reached}
use Rattle.collect_laws.specs.Kept as Kept
use Rattle.collect_laws.specs.Kept.{ReachedValue}
use Rattle.collect_laws.specs.Collects.{Collects}
use Rattle.history_laws.specs.Histories.{Slots}
use Rattle.history_laws.specs.Lines.{Held, no_slot, at_slot, SameValues}

pub same_fewer : {set fewer : Slots} {h k : Heap} → SameValues set h k → ((s : ℕ) → fewer s → set s) → SameValues fewer h k
same_fewer {set} {fewer} x p =
    record {
      shows = λ s y. x.shows s (p s y);
      reads = λ v y. x.reads v (held v y);
      compares = λ v w y z. x.compares v w (held v y) (held w z);
      equals = λ v w y z. x.equals v w (held v y) (held w z);
    }
  where
    held : (v : Value) → Held fewer v → Held set v
    held v no_slot = no_slot
    held v (at_slot {s} y) = at_slot (p s y)

pub collected_same : {h k : Heap} {roots : List ℕ} → Collects h roots k → SameValues (Reached h roots) h k
collected_same {h} {k} {roots} c =
    record {
      shows = c.kept;
      reads = λ v y. c.reads v (reached v y);
      compares = λ v w y z. c.compares v w (reached v y) (reached w z);
      equals = λ v w y z. c.equals v w (reached v y) (reached w z);
    }
  where
    reached : (v : Value) → Held (Reached h roots) v → ReachedValue h roots v
    reached v no_slot = Kept.no_slot
    reached v (at_slot r) = Kept.at_slot r
