-- Lists that were cleared, with a first chunk's header and free list, are those of the rules' fresh heap. Assumes nothing.
use mathlib.Core.Path.{◌≡◌, sym, ap, ◌∙◌, subst}
use mathlib.Core.Bool.{true}
use mathlib.Core.List.{List}
use Prim.Native.Nat.{ℕ, ◌+◌, ◌-◌, ◌*◌, ◌/◌}
use native.Mathlib.Omega.{arith}
use lib.ListN.{length}
use Rattle.laws.specs.Basics.{zeros, basics}
use Rattle.rules.specs.Heap.{fresh, heap_rules}
use Rattle.rules.specs.Layout.{Lent, rooms_of, words_of, map_bytes, filled, lent_of, layout_rules}
use Rattle.rules.specs.Sound.{setup_numbers}
use Rattle.rules.specs.Calls.{cleared}
use Rattle.leaf_free.specs.FreeList.{fresh_words, CanStart}
use Rattle.leaf_free.proofs.FreshWords.{can_start, fresh_given, fresh_map}
use Rattle.heap_sound_rows.specs.Rows.{lists}
use Rattle.heap_sound_rows.proofs.NumberLaws.{numbers_told}

module _ (chunk : ℕ) (l : Lent) (allowed : setup_numbers chunk l ≡ true) where
  abbrev slots : ℕ
  slots = (length l.words - 8) / 8

  words_zero : cleared l.words ≡ zeros (8 + 8 * slots)
  unfolding cleared
  words_zero = ap zeros (numbers_told chunk l allowed).words

  pub starts : CanStart (cleared l.words) chunk
  starts =
      subst (λ (ws : List ℕ). CanStart ws chunk) (sym words_zero) (can_start slots chunk (numbers_told chunk l allowed).lent)

  fresh_words_are : fresh_words (cleared l.words) chunk ≡ words_of slots (fresh chunk)
  fresh_words_are =
      ap (λ (ws : List ℕ). fresh_words ws chunk) words_zero ∙ fresh_given slots chunk (numbers_told chunk l allowed).lent

  fresh_map_is : cleared l.map ≡ filled (map_bytes slots) (fresh chunk).map
  unfolding cleared map_bytes
  fresh_map_is =
      let n = numbers_told chunk l allowed in
      ap zeros n.map ∙ sym (fresh_map slots chunk n.lent n.fours)

  pub fresh_lists : lists (fresh_words (cleared l.words) chunk) (cleared l.map) (cleared l.bytes) (cleared l.elems) ≡ lent_of (rooms_of l) (fresh chunk)
  unfolding cleared layout_rules heap_rules basics
  fresh_lists =
      let b : length l.bytes ≡ length l.bytes - 0 = omega arith in
      let e : length l.elems ≡ 3 * (length l.elems / 3) - 0 = omega (arith, (numbers_told chunk l allowed).elems) in
      λ i. record { words = fresh_words_are i; map = fresh_map_is i; bytes = zeros (b i); elems = zeros (e i) }

-- the same of lists at hand that are known by equations
module _ (chunk : ℕ) (w m b e : List ℕ) (allowed : setup_numbers chunk (lists w m b e) ≡ true) (w1 : List ℕ) (words_cleared : w1 ≡ zeros (length w)) where
  pub starts_on : CanStart w1 chunk
  unfolding cleared
  starts_on = subst (λ (ws : List ℕ). CanStart ws chunk) (sym words_cleared) (starts chunk (lists w m b e) allowed)

  pub fresh_on : (w2 m1 b1 e1 : List ℕ) → w2 ≡ fresh_words w1 chunk → m1 ≡ zeros (length m) → b1 ≡ zeros (length b) → e1 ≡ zeros (length e) → lists w2 m1 b1 e1 ≡ lent_of (rooms_of (lists w m b e)) (fresh chunk)
  unfolding cleared
  fresh_on w2 m1 b1 e1 p q r s =
      (λ i. lists ((p ∙ ap (λ (ws : List ℕ). fresh_words ws chunk) words_cleared) i) (q i) (r i) (s i))
      ∙ fresh_lists chunk (lists w m b e) allowed
