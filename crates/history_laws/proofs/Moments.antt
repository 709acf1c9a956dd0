-- Each call keeps it so that the lists are sound and the slots in use are the set: one step of a history. Document 01: "A fresh heap
-- is sound and each accepted call keeps it so." Assumes nothing.
use mathlib.Core.Path.{◌≡◌, refl, sym, ap, ◌∙◌, subst}
use mathlib.Core.Bool.{true}
use mathlib.Core.List.{List, [], ◌∷◌}
use mathlib.Core.Logic.{◌↔◌, inl, inr, ⊎_elim}
use Prim.Native.Nat.{ℕ}
use lib.Dec.{ltb}
use lib.ListN.{length}
use Rattle.laws.specs.Basics.{both}
use Rattle.rules.specs.Refusals.{Answer, accepted, refused}
use Rattle.rules.specs.Nodes.{bytes, nodes_rules}
use Rattle.rules.specs.Map.{is_allocated}
use Rattle.rules.specs.Heap.{capacity, in_use}
use Rattle.rules.specs.Layout.{Lent, heap_of}
use Rattle.rules.specs.Sound.{sound}
use Rattle.rules.specs.Calls as Calls
use Rattle.rules.specs.Calls.{Stored, put_call, collect_call, of_answer}
use Rattle.rules.proofs.GoodSound.{sound_good}
use Rattle.rules.proofs.PutSound.{put_keeps_sound}
use Rattle.rules.proofs.StoreSound as StoreSound
use Rattle.rules.proofs.StoreSound.{StoreLeft, cell_store_left, element_store_left, cell_store_keeps_sound, element_store_keeps_sound}
use Rattle.collect_laws.proofs.CollectSound as CollectSound
use Rattle.collect_laws.proofs.CollectSound.{CollectAccepted, CollectLeft, collect_left}
use Rattle.history_laws.specs.Taken.{slots_taken}
use Rattle.history_laws.specs.Histories.{Call, setup, put, collect, cell_store, element_store, read, eqv, equal, text, Slots, no_slots, with_slots, reached_of, Moment, moment, lists_after, set_after, after, after_all, Refuses, setup_refused, put_refused, collect_refused}
use Rattle.history_laws.specs.Histories as Histories
use Rattle.history_laws.specs.Lines.{heap_at}
use Rattle.history_laws.proofs.AcceptedPut.{not_refused}
use Rattle.history_laws.proofs.ReadAfterPut.{reached_used}
use Rattle.history_laws.proofs.PutFacts.{put_puts}
use Rattle.history_laws.proofs.StoredParts.{cell_stored, element_stored}
use Rattle.history_laws.proofs.Refused.{refused_same}
use Rattle.history_laws.proofs.FreshLists.{fresh_lists}

-- what goes from moment to moment
pub record Holds (m : Moment) : Type 0 where
  pub lists_sound : sound m.lent ≡ true
  pub used : (s : ℕ) → (in_use (heap_at m) s ≡ true) ↔ m.set s

-- ---- the set after an accepted call

module _ (m : Moment) where
  pub emptied : (chunk : ℕ) → (Calls.setup chunk m.lent).answer ≡ accepted tt → (after (setup chunk) m).set ≡ no_slots
  unfolding after set_after
  emptied chunk e = ap (λ (x : Answer (Unit {0})). of_answer x (λ a. no_slots) (λ r. m.set)) e

  pub added : (scratch datum : List ℕ) (b : bytes datum ≡ true) (answer : ℕ) → (put_call m.lent scratch datum).answer ≡ accepted answer → (after (put scratch datum b) m).set ≡ with_slots m.set (slots_taken datum (heap_at m))
  unfolding after set_after
  added scratch datum b answer e =
      ap (λ (x : Answer ℕ). of_answer x (λ a. with_slots m.set (slots_taken datum (heap_at m))) (λ r. m.set)) e

  pub reduced : (scratch roots : List ℕ) → (collect_call m.lent scratch roots).answer ≡ accepted tt → (after (collect scratch roots) m).set ≡ reached_of m.set (heap_at m) roots
  unfolding after set_after
  reduced scratch roots e =
      ap (λ (x : Answer (Unit {0})). of_answer x (λ a. reached_of m.set (heap_at m) roots) (λ r. m.set)) e

-- an accepted collection, with what it leaves
pub collect_was : (l : Lent) (scratch roots : List ℕ) → (collect_call l scratch roots).answer ≡ accepted tt → CollectAccepted l roots (collect_call l scratch roots)
collect_was l scratch roots e = by (collect_left l scratch roots)
  where
    by : CollectLeft l roots (collect_call l scratch roots) → CollectAccepted l roots (collect_call l scratch roots)
    by (CollectSound.accepts a) = a
    by (CollectSound.refuses r q same) = absurd (not_refused (sym q ∙ e))

-- ---- accepted calls

-- the lists with this set, where the set is known
known_set : (c : Call) (m : Moment) (set : Slots) → (after c m).set ≡ set → Holds (moment (lists_after c m.lent) set) → Holds (after c m)
unfolding after
known_set c m set e = subst (λ (x : Slots). Holds (moment (lists_after c m.lent) x)) (sym e)

-- a setup needs nothing of what was before
pub setup_holds : (m : Moment) (chunk : ℕ) → (Calls.setup chunk m.lent).answer ≡ accepted tt → Holds (after (setup chunk) m)
unfolding lists_after
setup_holds m chunk e =
    let f = fresh_lists chunk m.lent e in
    known_set (setup chunk) m no_slots (emptied m chunk e) (record { lists_sound = f.lists_sound; used = λ s. (f.none_used s, λ x. absurd x) })

module _ (m : Moment) (z : Holds m) where
  put_holds : (scratch datum : List ℕ) (b : bytes datum ≡ true) (answer : ℕ) → (put_call m.lent scratch datum).answer ≡ accepted answer → Holds (after (put scratch datum b) m)
  unfolding lists_after nodes_rules
  put_holds scratch datum b answer e =
      let p = put_puts m.lent scratch datum b answer e in
      known_set (put scratch datum b) m (with_slots m.set (slots_taken datum (heap_at m))) (added m scratch datum b answer e)
      (record {
        lists_sound = put_keeps_sound m.lent scratch datum b z.lists_sound;
        used =
            λ s. (
              λ u. ⊎_elim (λ x. inl ((z.used s).0 x)) (λ x. inr x) ((p.exactly s).0 u),
              ⊎_elim (λ x. (p.exactly s).1 (inl ((z.used s).1 x))) (λ x. (p.exactly s).1 (inr x)),
            );
      })

  collect_holds : (scratch roots : List ℕ) → (collect_call m.lent scratch roots).answer ≡ accepted tt → Holds (after (collect scratch roots) m)
  unfolding lists_after
  collect_holds scratch roots e =
      let a = collect_was m.lent scratch roots e in
      known_set (collect scratch roots) m (reached_of m.set (heap_at m) roots) (reduced m scratch roots e)
      (record {
        lists_sound = a.lists_sound;
        used =
            λ s. (
              λ u.
                  let r = (a.collected.exactly s).0 u in
                  ((z.used s).0 (reached_used (heap_at m) (sound_good m.lent z.lists_sound) roots a.roots_used s r), r),
              λ x. (a.collected.exactly s).1 x.1,
            );
      })

  -- a call that leaves the set, and every slot in use as it was
  same_holds : (l : Lent) → sound l ≡ true → ((s : ℕ) → in_use (heap_of l) s ≡ in_use (heap_at m) s) → Holds (moment l m.set)
  same_holds l sounds same =
      record { lists_sound = sounds; used = λ s. (λ u. (z.used s).0 (sym (same s) ∙ u), λ x. same s ∙ (z.used s).1 x) }

  -- refused a store leaves the lists; accepted it leaves capacity and map
  store_used : (x : Stored) → StoreLeft m.lent x → (x.answer ≡ accepted tt → (capacity (heap_of x.lent) ≡ capacity (heap_at m)) × ((heap_of x.lent).map ≡ (heap_at m).map)) → (t : ℕ) → in_use (heap_of x.lent) t ≡ in_use (heap_at m) t
  store_used x (StoreSound.accepts h e y k w) same t = let p = same e in λ i. both (ltb t (p.0 i)) (is_allocated (p.1 i) t)
  store_used x (StoreSound.refuses r e stays) same t = ap (λ (l : Lent). in_use (heap_of l) t) stays

  cell_store_holds : (s kind a b : ℕ) → Holds (after (cell_store s kind a b) m)
  unfolding after lists_after set_after
  cell_store_holds s kind a b =
      let x = Calls.cell_store m.lent s kind a b in
      same_holds x.lent (cell_store_keeps_sound m.lent s kind a b z.lists_sound)
      (store_used x (cell_store_left m.lent s kind a b)
      (λ e. let c = cell_stored m.lent s kind a b e in (c.size, c.rest.map)))

  element_store_holds : (s i kind a : ℕ) → Holds (after (element_store s i kind a) m)
  unfolding after lists_after set_after
  element_store_holds s i kind a =
      let x = Calls.element_store m.lent s i kind a in
      same_holds x.lent (element_store_keeps_sound m.lent s i kind a z.lists_sound)
      (store_used x (element_store_left m.lent s i kind a)
      (λ e. let c = element_stored m.lent s i kind a e in (ap length c.cells, c.rest.map)))

  -- ---- every call

  refused_holds : (c : Call) → Refuses m.lent c → Holds (after c m)
  refused_holds c r = subst Holds (sym (refused_same m c r)) z

  pub call_holds : (c : Call) → Holds (after c m)
  unfolding after lists_after set_after
  call_holds (setup chunk) = by (Calls.setup chunk m.lent).answer refl
    where
      by : (x : Answer (Unit {0})) → (Calls.setup chunk m.lent).answer ≡ x → Holds (after (setup chunk) m)
      by (accepted a) e = setup_holds m chunk e
      by (refused r) e = refused_holds (setup chunk) (setup_refused r e)
  call_holds (put scratch datum b) = by (put_call m.lent scratch datum).answer refl
    where
      by : (x : Answer ℕ) → (put_call m.lent scratch datum).answer ≡ x → Holds (after (put scratch datum b) m)
      by (accepted a) e = put_holds scratch datum b a e
      by (refused r) e = refused_holds (put scratch datum b) (put_refused r e)
  call_holds (collect scratch roots) = by (collect_call m.lent scratch roots).answer refl
    where
      by : (x : Answer (Unit {0})) → (collect_call m.lent scratch roots).answer ≡ x → Holds (after (collect scratch roots) m)
      by (accepted a) e = collect_holds scratch roots e
      by (refused r) e = refused_holds (collect scratch roots) (collect_refused r e)
  call_holds (cell_store s kind a b) = cell_store_holds s kind a b
  call_holds (element_store s i kind a) = element_store_holds s i kind a
  call_holds (read scratch out kind a) = z
  call_holds (eqv kind a kind' a') = z
  call_holds (equal scratch kind a kind' a') = z
  call_holds (text s) = z
  call_holds Histories.capacity = z
  call_holds Histories.free_count = z
  call_holds Histories.used_count = z

pub all_hold : (cs : List Call) (m : Moment) → Holds m → Holds (after_all cs m)
unfolding after_all
all_hold [] m z = z
all_hold (c ∷ cs) m z = all_hold cs (after c m) (call_holds m z c)
