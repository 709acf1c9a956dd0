-- The free list after a collection: the slots that are no longer in use, the highest on top, and below them the list as it was.
-- Document 01: "It frees, in rising order, what is not reached, writes Undefined there, and puts each on top of the list." Assumes
-- nothing.
use mathlib.Core.Path.{◌≡◌, refl, sym, ap, ◌∙◌}
use mathlib.Core.Bool.{Bool, true, false, not}
use mathlib.Core.List.{List, ◌∷◌, ◌++◌, reverse, reverse_aux, reverse_aux-eq}
use Prim.Native.Nat.{ℕ, zero, suc, ◌<◌}
use native.Mathlib.Omega.{arith}
use borrow.Author.Tests.{lt-ltb}
use lib.Dec.{eqb}
use lib.ListN.{get_or}
use Rattle.laws.specs.Basics.{choose, both, every, keep, member, rising, basics}
use Rattle.laws.proofs.Lists.{length-rising, get_or_rising}
use Rattle.laws.proofs.Finding.{keep_same}
use Rattle.rules.specs.Map.{Free, is_allocated}
use Rattle.rules.specs.Heap.{Heap, capacity, in_use}
use Rattle.rules.specs.Collect.{marked, free_slot, sweep, collect, collect_rules}
use Rattle.rules.proofs.TwoBits.{state_other}
use Rattle.rules.proofs.Good.{Good}
use Rattle.collect_laws.proofs.Collected.{used_is}

-- the slots that a sweep frees
abbrev goes : List ℕ → Heap → ℕ → Bool
goes ms h s = both (is_allocated h.map s) (not (member s ms))

-- freeing one slot leaves the others' states
goes_same : (ms : List ℕ) (a : ℕ) (h : Heap) (s : ℕ) → (s ≡ a → ⊥) → goes ms (free_slot a h) s ≡ goes ms h s
unfolding free_slot is_allocated
goes_same ms a h s d = ap (λ (x : ℕ). both (eqb x 1) (not (member s ms))) (state_other h.map a Free (omega arith) s d)

sweep_free : (ms : List ℕ) (n a : ℕ) (h : Heap) → (sweep ms (rising a n) h).free ≡ reverse_aux (keep (goes ms h) (rising a n)) h.free
unfolding sweep free_slot basics
sweep_free ms zero a h = refl
sweep_free ms (suc n) a h = by (sweep_free ms n (suc a)) (goes ms h a)
  where
    later : keep (goes ms (free_slot a h)) (rising (suc a) n) ≡ keep (goes ms h) (rising (suc a) n)
    later =
        keep_same 0 (goes ms (free_slot a h)) (goes ms h) (rising (suc a) n)
        (λ i l.
        goes_same ms a h (get_or (rising (suc a) n) i 0)
        (λ e. omega (arith, get_or_rising (suc a) n i 0 (omega (arith, length-rising (suc a) n)), e)))

    by : ((h : Heap) → (sweep ms (rising (suc a) n) h).free ≡ reverse_aux (keep (goes ms h) (rising (suc a) n)) h.free) → (b : Bool) → (sweep ms (rising (suc a) n) (elim b [ true ↦ free_slot a h | false ↦ h ])).free ≡ reverse_aux (choose b (a ∷ keep (goes ms h) (rising (suc a) n)) (keep (goes ms h) (rising (suc a) n))) h.free
    by again true = again (free_slot a h) ∙ ap (λ (l : List ℕ). reverse_aux l (a ∷ h.free)) later
    by again false = again h

module _ (h : Heap) (g : Good h) (roots : List ℕ) (u : every (in_use h) roots ≡ true) where
  -- a slot below the capacity goes when it was in use and is so no longer
  goes_when : (s : ℕ) → s < capacity h → goes (marked h roots) h s ≡ both (in_use h s) (not (in_use (collect roots h) s))
  goes_when s l =
      λ i. both (both (sym (lt-ltb s (capacity h) l) i) (is_allocated h.map s)) (not (sym (used_is h g roots u s) i))

  pub freed_order : (collect roots h).free ≡ reverse (keep (λ s. both (in_use h s) (not (in_use (collect roots h) s))) (rising 0 (capacity h))) ++ h.free
  unfolding collect_rules
  freed_order =
      sweep_free (marked h roots) (capacity h) 0 h
      ∙ reverse_aux-eq (keep (goes (marked h roots) h) (rising 0 (capacity h))) h.free
      ∙ ap (λ (l : List ℕ). reverse l ++ h.free)
      (keep_same 0 (goes (marked h roots) h) (λ s. both (in_use h s) (not (in_use (collect roots h) s))) (rising 0 (capacity h))
      (λ i l. goes_when (get_or (rising 0 (capacity h)) i 0) (omega (arith, length-rising 0 (capacity h), get_or_rising 0 (capacity h) i 0 (omega (arith, length-rising 0 (capacity h)))))))
