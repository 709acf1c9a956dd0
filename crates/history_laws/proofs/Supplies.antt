-- What allocation looks at: chunk, capacity, map and free list. Heaps that are alike in these give the same slots, one after the
-- other, and are alike afterwards; and in a good heap a slot that is given was not in use, and is from then on. Document 01,
-- "Slots and growth". Assumes nothing.
use mathlib.Core.Path.{◌≡◌, refl, sym, ap, ◌∙◌}
use mathlib.Core.Bool.{true}
use mathlib.Core.List.{List, [], ◌∷◌, ◌++◌, reverse}
use mathlib.Core.Logic.{◌⊎◌, inl, inr, ⊎_elim}
use Prim.Native.Nat.{ℕ, ◌+◌, ◌-◌, ◌/◌, ◌≤◌}
use native.Mathlib.Omega.{arith}
use native.Mathlib.Decide.{ℕ_discrete}
use lib.Dec.{ltb}
use lib.ListN.{length, replicate, length-append, length-replicate}
use Rattle.laws.specs.Basics.{both, count, member, rising, zeros, basics}
use Rattle.laws.proofs.Tests.{true≢false}
use Rattle.laws.proofs.Members.{member_cases, first_member, later_member}
use Rattle.laws.proofs.Pointwise.{count_here, count_other}
use Rattle.rules.specs.Map.{is_allocated, set_state, Allocated}
use Rattle.rules.specs.Cells.{undefined, plain}
use Rattle.rules.specs.Heap.{Heap, capacity, in_use, used_count, grown, grow, alloc, heap_rules}
use Rattle.rules.proofs.Good.{Good}
use Rattle.rules.proofs.Allocate.{pop_by, prepared_by, took}
use Rattle.history_laws.specs.Taken.{slots_given}

-- ---- the parts that allocation looks at

pub record Supply : Type 0 where
  pub chunk : ℕ
  pub size : ℕ
  pub map : List ℕ
  pub free : List ℕ

abbrev pub supply_of : Heap → Supply
supply_of h = record { chunk = h.chunk; size = capacity h; map = h.map; free = h.free }

-- growing and taking, on these parts alone
grown_supply : Supply → Supply
grown_supply p =
    let new = grown p.chunk p.size - p.size in
    record {
      chunk = p.chunk;
      size = p.size + new;
      map = p.map ++ zeros (new / 4);
      free = reverse (rising p.size new) ++ p.free;
    }

abbrev ready_by : Supply → List ℕ → Supply
ready_by p l = elim l [ [] ↦ grown_supply p | s ∷ rest ↦ p ]

abbrev slot_by : List ℕ → ℕ
slot_by l = elim l [ [] ↦ 0 | s ∷ rest ↦ s ]

abbrev left_by : Supply → List ℕ → Supply
left_by p l =
    elim l [
      | [] ↦ p
      | s ∷ rest ↦ record { chunk = p.chunk; size = p.size; map = set_state p.map s Allocated; free = rest }
    ]

slot_from : Supply → ℕ
slot_from p = slot_by (ready_by p p.free).free

left_from : Supply → Supply
left_from p = left_by (ready_by p p.free) (ready_by p p.free).free

grow_supply : (h : Heap) → supply_of (grow h) ≡ grown_supply (supply_of h)
unfolding grow grown_supply
grow_supply h =
    let new = grown h.chunk (capacity h) - capacity h in
    let size : capacity (grow h) ≡ capacity h + new = omega (arith, length-append h.cells (replicate new (plain undefined)), length-replicate new (plain undefined)) in
    λ i. record { chunk = h.chunk; size = size i; map = h.map ++ zeros (new / 4); free = reverse (rising (capacity h) new) ++ h.free }

prepared_supply : (h : Heap) (l : List ℕ) → supply_of (prepared_by h l) ≡ ready_by (supply_of h) l
prepared_supply h [] = grow_supply h
prepared_supply h (s ∷ rest) = refl

pop_slot : (h : Heap) (l : List ℕ) → (pop_by h l).slot ≡ slot_by l
pop_slot h [] = refl
pop_slot h (s ∷ rest) = refl

pop_supply : (h : Heap) (l : List ℕ) → supply_of (pop_by h l).heap ≡ left_by (supply_of h) l
pop_supply h [] = refl
pop_supply h (s ∷ rest) = refl

alloc_slot : (h : Heap) → (alloc h).slot ≡ slot_from (supply_of h)
unfolding heap_rules slot_from
alloc_slot h =
    pop_slot (prepared_by h h.free) (prepared_by h h.free).free
    ∙ ap (λ (p : Supply). slot_by p.free) (prepared_supply h h.free)

alloc_supply : (h : Heap) → supply_of (alloc h).heap ≡ left_from (supply_of h)
unfolding heap_rules left_from
alloc_supply h =
    pop_supply (prepared_by h h.free) (prepared_by h h.free).free
    ∙ ap (λ (p : Supply). left_by p p.free) (prepared_supply h h.free)

module _ (h k : Heap) (same : supply_of k ≡ supply_of h) where
  pub same_slot : (alloc k).slot ≡ (alloc h).slot
  same_slot = alloc_slot k ∙ ap slot_from same ∙ sym (alloc_slot h)

  pub same_left : supply_of (alloc k).heap ≡ supply_of (alloc h).heap
  same_left = alloc_supply k ∙ ap left_from same ∙ sym (alloc_supply h)

  pub same_used : (s : ℕ) → in_use k s ≡ in_use h s
  same_used s = ap (λ (p : Supply). both (ltb s p.size) (is_allocated p.map s)) same

  pub same_count : used_count k ≡ used_count h
  same_count = ap (λ (p : Supply). p.size - length p.free) same

-- ---- one slot after the other

-- as many allocations as there are slots in the list
unfoldable pub allocs : List ℕ → Heap → Heap
allocs [] h = h
allocs (s ∷ ss) h = allocs ss (alloc h).heap

-- the list has the next slots, in the order in which they are given
pub data NextSlots : Heap → List ℕ → Type 0 where
  no_more : {h : Heap} → NextSlots h []
  one_next : {h : Heap} {s : ℕ} {ss : List ℕ} → s ≡ (alloc h).slot → NextSlots (alloc h).heap ss → NextSlots h (s ∷ ss)

pub next_given : {h : Heap} {ss : List ℕ} → NextSlots h ss → ss ≡ slots_given (length ss) h
unfolding slots_given
next_given no_more = refl
next_given (one_next e r) = λ i. e i ∷ next_given r i

next_same : {h k : Heap} {ss : List ℕ} → supply_of k ≡ supply_of h → NextSlots k ss → NextSlots h ss
next_same {h = h} {k = k} p no_more = no_more
next_same {h = h} {k = k} p (one_next e r) = one_next (e ∙ same_slot h k p) (next_same {h = (alloc h).heap} {k = (alloc k).heap} (same_left h k p) r)

allocs_same : (ss : List ℕ) (h k : Heap) → supply_of k ≡ supply_of h → supply_of (allocs ss k) ≡ supply_of (allocs ss h)
unfolding allocs
allocs_same [] h k p = p
allocs_same (s ∷ ss) h k p = allocs_same ss (alloc h).heap (alloc k).heap (same_left h k p)

-- from one heap to another just these slots were taken, in this order
pub record Takes (h : Heap) (new : List ℕ) (k : Heap) : Type 0 where
  pub left : supply_of k ≡ supply_of (allocs new h)
  pub slots : NextSlots h new

pub takes_none : {h k : Heap} → supply_of k ≡ supply_of h → Takes h [] k
unfolding allocs
takes_none p = record { left = p; slots = no_more }

-- the next slot, by an allocation in a heap that is alike
pub takes_next : (h h' : Heap) {k : Heap} → supply_of h' ≡ supply_of h → supply_of k ≡ supply_of (alloc h').heap → Takes h ((alloc h).slot ∷ []) k
unfolding allocs
takes_next h h' p q = record { left = q ∙ same_left h h' p; slots = one_next refl no_more }

pub takes_on : {h k j : Heap} {a b : List ℕ} → Takes h a k → Takes k b j → Takes h (a ++ b) j
unfolding allocs
takes_on {h} {k} {j} {a} {b} x y = record { left = y.left ∙ behind a h x.left; slots = by x.slots x.left }
  where
    behind : (a : List ℕ) (h : Heap) → supply_of k ≡ supply_of (allocs a h) → supply_of (allocs b k) ≡ supply_of (allocs (a ++ b) h)
    behind [] h p = allocs_same b h k p
    behind (s ∷ a) h p = behind a (alloc h).heap p

    by : {h : Heap} {a : List ℕ} → NextSlots h a → supply_of k ≡ supply_of (allocs a h) → NextSlots h (a ++ b)
    by no_more p = next_same p y.slots
    by (one_next e r) p = one_next e (by r p)

pub takes_to : {h k j : Heap} {a : List ℕ} → Takes h a k → supply_of j ≡ supply_of k → Takes h a j
takes_to x p = record { left = p ∙ x.left; slots = x.slots }

-- ---- in a good heap

pub count_none : (s : ℕ) (l : List ℕ) → (member s l ≡ true → ⊥) → count s l ≡ 0
unfolding basics
count_none s [] p = refl
count_none s (x ∷ l) p =
    elim (ℕ_discrete s x) [
      | yes e ↦ absurd (p (ap (λ (y : ℕ). member s (y ∷ l)) (sym e) ∙ first_member s l))
      | no d ↦ count_other s x l d ∙ count_none s l (λ m. p (later_member s x l m))
    ]

-- what giving these slots comes to
pub record Gave (h : Heap) (new : List ℕ) (k : Heap) : Type 0 where
  pub good : Good k
  pub used : (s : ℕ) → in_use h s ≡ true → in_use k s ≡ true
  pub given : (s : ℕ) → member s new ≡ true → in_use k s ≡ true
  pub only : (s : ℕ) → in_use k s ≡ true → (in_use h s ≡ true) ⊎ (member s new ≡ true)
  pub fresh : (s : ℕ) → member s new ≡ true → in_use h s ≡ true → ⊥
  pub once : (s : ℕ) → count s new ≤ 1
  pub counted : used_count k ≡ used_count h + length new

pub gave : {h : Heap} {new : List ℕ} → Good h → NextSlots h new → Gave h new (allocs new h)
unfolding allocs basics
gave g no_more =
    record {
      good = g;
      used = λ s u. u;
      given = λ s m. absurd (true≢false (sym m));
      only = λ s u. inl u;
      fresh = λ s m. absurd (true≢false (sym m));
      once = λ s. omega arith;
      counted = omega arith;
    }
gave {h} g (one_next {s = x} {ss = ss} e r) =
    let t = took h g in
    let k = gave t.good r in
    let taken : in_use (alloc h).heap x ≡ true = ap (in_use (alloc h).heap) e ∙ t.taken in
    record {
      good = k.good;
      used = λ s u. k.used s (t.used s u);
      given = λ s m. ⊎_elim (λ q. k.used s (ap (in_use (alloc h).heap) q ∙ taken)) (k.given s) (member_cases s x ss m);
      only =
          λ s u.
          ⊎_elim
          (λ o.
          elim (ℕ_discrete s x) [
            | yes q ↦ inr (ap (λ (y : ℕ). member s (y ∷ ss)) (sym q) ∙ first_member s ss)
            | no d ↦ inl (t.others s o (λ q. d (q ∙ sym e)))
          ])
          (λ m. inr (later_member s x ss m)) (k.only s u);
      fresh =
          λ s m u.
          ⊎_elim (λ q. true≢false (sym u ∙ ap (in_use h) (q ∙ e) ∙ t.fresh)) (λ n. k.fresh s n (t.used s u)) (member_cases s x ss m);
      once =
          λ s.
          elim (ℕ_discrete s x) [
            | yes q ↦
                omega (
                  arith,
                  count_here s x ss q,
                  count_none s ss (λ n. k.fresh s n (ap (in_use (alloc h).heap) q ∙ taken)),
                )
            | no d ↦ omega (arith, count_other s x ss d, k.once s)
          ];
      counted = omega (arith, k.counted, t.count);
    }
