-- What a put keeps from one part of a datum to the next: a good heap and a slot in use for each label begun. Assumes nothing.
use mathlib.Core.Path.{ap, ◌∙◌}
use mathlib.Core.List.{List, ◌∷◌}
use Prim.Native.Nat.{ℕ}
use Rattle.rules.specs.Heap.{in_use, alloc}
use Rattle.rules.specs.Put.{Put, Making, Label, in_slot, slot_of, labelled}
use Rattle.rules.proofs.Good.{Good}
use Rattle.rules.proofs.Allocate.{took}
use Rattle.rules.proofs.Grows.{grows_refl}
use Rattle.rules.proofs.PutCells.{in_slot_done}
use Rattle.rules.proofs.PutGood.{Labels, PutDone, first_labels}

-- a good heap, and the labels begun with slots in use
pub record Going (begun : List ℕ) (m : Making) : Type 0 where
  pub good : Good m.heap
  pub labels : Labels begun m

-- a part was put where a slot is wanted
pub slot_going : {from : ℕ} {begun : List ℕ} {m : Making} (p : Put) → PutDone from begun m p → Going begun (in_slot p).making
slot_going {from} {begun} {m} p d =
    let h = p.making.heap in
    let s = in_slot_done {from = from} {h₀ = h} p (record { good = d.done.good; grows = grows_refl from h; value = d.done.value }) in
    record {
      good = s.here.good;
      labels =
          λ l e.
          ap (λ (x : List Label). in_use (in_slot p).making.heap (slot_of l x)) s.labels
          ∙ s.here.grows.used (slot_of l p.making.labels) (d.labels l e);
    }

-- a label was begun
pub label_going : (l : ℕ) (begun : List ℕ) (m : Making) → Going begun m → Going (l ∷ begun) (labelled l (alloc m.heap) m)
unfolding labelled
label_going l begun m go =
    record { good = (took m.heap go.good).good; labels = first_labels l m go.good begun go.labels }
