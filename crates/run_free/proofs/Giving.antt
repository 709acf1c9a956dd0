-- A run that takes every slot there is: while one can be taken, alloc can be called. Assumes nothing.
use mathlib.Core.Path.{◌≡◌, sym, ap, ◌∙◌, subst}
use mathlib.Core.List.{List}
use Prim.Native.Nat.{ℕ, ◌+◌, ◌-◌, ◌*◌, ◌%◌, ◌≤◌, ◌<◌}
use native.Mathlib.Omega.{arith}
use lib.ListN.{length, length-replicate}
use Rattle.laws.specs.Basics.{zeros}
use Rattle.laws.proofs.Lists.{length-zeros, length-rising}
use Rattle.rules.specs.Cells.{plain, undefined}
use Rattle.rules.specs.Heap.{Heap, alloc, fresh, fitting, most_growths}
use Rattle.rules.specs.Layout.{words_of, map_bytes, filled}
use Rattle.rules.proofs.LentLaws.{words_length}
use Rattle.leaf_free.specs.FreeList.{ready, fresh_words, CanStart, CanAlloc, Popped}
use Rattle.rules.proofs.Growth.{one_whole, fitting_least}
use Rattle.leaf_free.proofs.Allocating.{Growing, Room, available, room, can_alloc, alloc_given, alloc_growing, alloc_available, lent_map_length}
use Rattle.leaf_free.proofs.FreshWords.{can_start, fresh_given, fresh_map, fresh_growing}

-- the lists are a heap's, of which so many slots can still be taken
pub record Giving (lent left : ℕ) (ws map : List ℕ) : Type 0 where
  pub heap : Heap
  pub words_are : ws ≡ words_of lent heap
  pub map_is : map ≡ filled (map_bytes lent) heap.map
  pub growing : Growing lent heap
  pub left_is : available lent heap ≡ left

-- all slots up to where growth ends can be taken from a fresh heap
all_available : (lent chunk : ℕ) → 0 < chunk → chunk ≤ lent → available lent (fresh chunk) ≡ fitting most_growths chunk lent chunk
unfolding fresh
all_available lent chunk p h =
    let size = length-replicate chunk (plain undefined) in
    let e = ap (fitting most_growths chunk lent) size in
    omega (arith, length-rising 0 chunk, fitting_least most_growths chunk lent chunk p (one_whole chunk))

module _ (lent chunk : ℕ) (ws map : List ℕ) (words_zero : ws ≡ zeros (8 + 8 * lent)) (map_zero : map ≡ zeros (map_bytes lent)) (least : 4 ≤ chunk) (fours : chunk % 4 ≡ 0) (within : chunk ≤ lent) (few : lent ≤ 4096) where
  pub starts : CanStart ws chunk
  starts = subst (λ (l : List ℕ). CanStart l chunk) (sym words_zero) (can_start lent chunk within)

  pub begins : (ws' : List ℕ) (left : ℕ) → ws' ≡ fresh_words ws chunk → left ≡ fitting most_growths chunk lent chunk → Giving lent left ws' map
  begins ws' left e l =
      record {
        heap = fresh chunk;
        words_are = e ∙ ap (λ (m : List ℕ). fresh_words m chunk) words_zero ∙ fresh_given lent chunk within;
        map_is = map_zero ∙ sym (fresh_map lent chunk within fours);
        growing = fresh_growing lent chunk within few least fours;
        left_is = all_available lent chunk (omega arith) within ∙ sym l;
      }

  pub as_long : (ws' map' : List ℕ) (left : ℕ) → Giving lent left ws' map' → length ws' ≡ length ws
  as_long ws' map' left g =
      ap length g.words_are ∙ words_length lent g.heap ∙ sym (ap length words_zero ∙ length-zeros (8 + 8 * lent))

  pub map_as_long : (ws' map' : List ℕ) (left : ℕ) → Giving lent left ws' map' → length map' ≡ length map
  map_as_long ws' map' left g =
      ap length g.map_is ∙ lent_map_length lent g.heap g.growing
      ∙ sym (ap length map_zero ∙ length-zeros (map_bytes lent))

module _ (lent left : ℕ) (ws map : List ℕ) (g : Giving lent left ws map) (some : 0 < left) where
  has_room : Room lent g.heap
  has_room = room lent g.heap g.growing (omega (arith, g.left_is))

  pub gives : CanAlloc ws map
  gives =
      subst (λ (l : List ℕ). CanAlloc l map) (sym g.words_are)
      (subst (λ (m : List ℕ). CanAlloc (words_of lent g.heap) m) (sym g.map_is)
      (can_alloc lent g.heap g.growing has_room))

  pub gives_on : (slot fewer : ℕ) (ws' map' : List ℕ) → fewer ≡ left - 1 → Popped (ready ws) map slot ws' map' → Giving lent fewer ws' map'
  gives_on slot fewer ws' map' e p =
      let given = alloc_given lent g.heap g.growing has_room ws map slot ws' map' g.words_are g.map_is p in
      record {
        heap = (alloc g.heap).heap;
        words_are = given.words_given;
        map_is = given.map-given;
        growing = alloc_growing lent g.heap g.growing has_room;
        left_is = omega (arith, alloc_available lent g.heap g.growing has_room, g.left_is, e);
      }
