-- Sound lists hold a good heap, and a good heap that fits is written as sound lists; a fresh heap is good; a call's tests in
-- their order. Document 01, "A fresh heap is sound and each accepted call keeps it so". Assumes nothing.
use mathlib.Core.Path.{◌≡◌, refl, sym, ap, ◌∙◌}
use mathlib.Core.Bool.{Bool, true, false, not}
use mathlib.Core.List.{List, [], ◌∷◌}
use Prim.Native.Nat.{◌/◌, ◌%◌, ℕ, ◌≤◌}
use native.Mathlib.Omega.{arith}
use borrow.Author.Tests.{leb-true}
use lib.Dec.{leb}
use lib.ListN.{length, length-replicate}
use Rattle.laws.specs.Basics.{both}
use Rattle.laws.proofs.Tests.{both_left, both_right}
use Rattle.laws.proofs.Lists.{length-zeros}
use Rattle.rules.specs.Numbers.{least_slots, most_slots}
use Rattle.rules.specs.Refusals.{Refusal, Test, ◌⇒◌, unless, refusals}
use Rattle.rules.specs.Cells.{plain, undefined}
use Rattle.rules.specs.Heap.{fresh, heap_rules, Heap, capacity}
use Rattle.rules.specs.Layout.{Lent, Rooms, heap_of, lent_of, header, layout_rules}
use Rattle.rules.specs.Sound.{setup_numbers, counts_within, heap_sound, sound, sound_rules}
use Rattle.rules.proofs.LentLaws.{Fits}
use Rattle.rules.proofs.SoundLaws.{fresh_sound, clauses, bounds, sound_fits, Numbered, written_sound}
use Rattle.rules.proofs.Good.{Good, good as GoodOf, heap_sound_of, free_most, table_most}

-- ---- sound lists hold a good heap, and a good heap that fits is written as sound lists

pub sound_good : (l : Lent) → sound l ≡ true → Good (heap_of l)
unfolding sound_rules layout_rules
sound_good l e =
    let s = clauses l e in
    let b = bounds l s in
    GoodOf (heap_of l) b.chunk_least b.chunk_fours (sound_fits l s).map
    (both_left (heap_sound (heap_of l)) _ (both_right (counts_within l) _ (both_right (setup_numbers (header l 0) l) _ e)))

pub good_fits : (r : Rooms) (h : Heap) → Good h → capacity h ≤ r.slots → length h.bytes ≤ r.bytes → length h.elements ≤ r.elements → Fits r h
good_fits r h g s b e =
    record {
      slots = s;
      free = omega (arith, free_most h g);
      table = omega (arith, table_most h g);
      bytes = b;
      elements = e;
      map = g.map-size;
    }

pub good_sound : (r : Rooms) (h : Heap) → Good h → Numbered r h.chunk → capacity h ≤ r.slots → length h.bytes ≤ r.bytes → length h.elements ≤ r.elements → sound (lent_of r h) ≡ true
good_sound r h g n s b e =
    let most = leb-true r.slots most_slots (both_right (leb least_slots r.slots) _ n.slots) in
    written_sound r h (good_fits r h g s b e) n (free_most h g) (table_most h g) (heap_sound_of h (omega arith) g)

-- ---- a fresh heap

pub fresh_good : (chunk : ℕ) → 4 ≤ chunk → chunk % 4 ≡ 0 → Good (fresh chunk)
unfolding heap_rules
fresh_good chunk least fours =
    GoodOf (fresh chunk) least fours
    (length-zeros (chunk / 4) ∙ ap (λ (n : ℕ). n / 4) (sym (length-replicate chunk (plain undefined)))) (fresh_sound chunk)

-- ---- tests in their order

-- no test holds
unfoldable pub passed : List Test → Bool
passed [] = true
passed ((b ⇒ r) ∷ ts) = both (not b) (passed ts)

-- what holds of the answer where no test holds, and of each refusal, holds
pub unless_keeps : {A : Type 0} (P : A → Type 0) (ts : List Test) (a : A) (refuse : Refusal → A) → (passed ts ≡ true → P a) → ((r : Refusal) → P (refuse r)) → P (unless ts a refuse)
unfolding passed refusals
unless_keeps P [] a refuse p q = p refl
unless_keeps P ((true ⇒ r) ∷ ts) a refuse p q = q r
unless_keeps P ((false ⇒ r) ∷ ts) a refuse p q = unless_keeps P ts a refuse p q
