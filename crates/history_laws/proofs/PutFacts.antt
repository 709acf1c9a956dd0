-- What a put does to the slots: in use afterwards are those that were and those that the written rule tells, none of which was in
-- use, and what was in use shows and reads as before. Document 01, "Slots and growth", "Reading back". Assumes nothing.
use mathlib.Core.Path.{◌≡◌, sym, ap, ◌∙◌, subst}
use mathlib.Core.Bool.{true}
use mathlib.Core.List.{List, []}
use mathlib.Core.Logic.{◌↔◌, ◌⊎◌, ⊎_elim}
use Prim.Native.Nat.{ℕ, ◌+◌, ◌≤◌}
use lib.ListN.{length}
use Rattle.laws.specs.Basics.{count, member}
use Rattle.rules.specs.Refusals.{accepted}
use Rattle.rules.specs.Nodes.{bytes}
use Rattle.rules.specs.Datum.{Datum, Parse, good, bad, parse}
use Rattle.rules.specs.Heap.{Heap, capacity, cell_at, in_use, used_count}
use Rattle.rules.specs.Layout.{Lent, heap_of}
use Rattle.rules.specs.Put.{put_datum, slot_in}
use Rattle.rules.specs.Calls.{put_call}
use Rattle.rules.proofs.Good.{Good}
use Rattle.rules.proofs.Monotone.{put_datum_more}
use Rattle.rules.proofs.PutGood.{Kept}
use Rattle.rules.proofs.GoodSound.{sound_good}
use Rattle.history_laws.specs.Taken.{slots_given, datum_taken, slots_taken}
use Rattle.history_laws.specs.Lines.{SameValues}
use Rattle.history_laws.proofs.Supplies.{allocs, same_used, same_count, next_given, gave}
use Rattle.history_laws.proofs.TakenSlots.{datum_takes}
use Rattle.history_laws.proofs.AcceptedPut.{put_was}
use Rattle.history_laws.proofs.ReadAfterPut.{grown_same}

pub record Puts (h : Heap) (new : List ℕ) (answer : ℕ) (k : Heap) : Type 0 where
  pub exactly : (s : ℕ) → (in_use k s ≡ true) ↔ ((in_use h s ≡ true) ⊎ (member s new ≡ true))
  pub fresh : (s : ℕ) → member s new ≡ true → in_use h s ≡ true → ⊥
  pub once : (s : ℕ) → count s new ≤ 1
  pub next : new ≡ slots_given (length new) h
  pub grown : capacity h ≤ capacity k
  pub counted : used_count k ≡ used_count h + length new
  pub answered : in_use k answer ≡ true
  pub cells : (s : ℕ) → in_use h s ≡ true → cell_at k s ≡ cell_at h s
  pub same : SameValues (λ s. in_use h s ≡ true) h k

put_does : (h : Heap) → Good h → (d : Datum) → Kept h (put_datum d h) → Puts h (datum_taken d h) (slot_in (put_datum d h)) (put_datum d h).making.heap
put_does h g d k =
    let after : Heap = (put_datum d h).making.heap in
    let new = datum_taken d h in
    let t = datum_takes d h in
    let v = gave g t.slots in
    let used = same_used (allocs new h) after t.left in
    record {
      exactly = λ s. (λ u. v.only s (sym (used s) ∙ u), ⊎_elim (k.used s) (λ m. used s ∙ v.given s m));
      fresh = v.fresh;
      once = v.once;
      next = next_given t.slots;
      grown = (put_datum_more d h).capacities;
      counted = same_count (allocs new h) after t.left ∙ v.counted;
      answered = k.answer;
      cells = k.cells;
      same = grown_same h after g (put_datum_more d h).capacities k.cells k.texts k.vectors;
    }

taken_parsed : (datum : List ℕ) (d : Datum) (h : Heap) → parse datum ≡ good d → slots_taken datum h ≡ datum_taken d h
unfolding slots_taken
taken_parsed datum d h e = ap (λ (p : Parse). elim p [ good d ↦ datum_taken d h | bad f n ↦ [] ]) e

-- an accepted put of bytes does this
pub put_puts : (l : Lent) (scratch datum : List ℕ) → bytes datum ≡ true → (answer : ℕ) → (put_call l scratch datum).answer ≡ accepted answer → Puts (heap_of l) (slots_taken datum (heap_of l)) answer (heap_of (put_call l scratch datum).lent)
put_puts l scratch datum b answer e =
    let h = heap_of l in
    let a = put_was l scratch datum b answer e in
    let p = put_does h (sound_good l a.was_sound) a.tree a.kept in
    subst (λ (k : Heap). Puts h (slots_taken datum h) answer k) (sym a.heap)
    (subst (λ (n : ℕ). Puts h (slots_taken datum h) n (put_datum a.tree h).making.heap) (sym a.is)
    (subst (λ (new : List ℕ). Puts h new (slot_in (put_datum a.tree h)) (put_datum a.tree h).making.heap)
    (sym (taken_parsed datum a.tree h a.parsed)) p))
