-- Sound lists after marking and sweeping: the words and the map are those of the rules' sweep of the heap that they held, with
-- its table closed up. Assumes nothing.
use mathlib.Core.Path.{◌≡◌, sym, ap, ◌∙◌, subst}
use mathlib.Core.Bool.{true}
use mathlib.Core.List.{List}
use Prim.Native.Nat.{ℕ, ◌-◌, ◌≤◌, ◌<◌}
use native.Mathlib.Omega.{arith}
use lib.ListN.{length, get_or}
use Rattle.laws.specs.Basics.{every, rising}
use Rattle.laws.proofs.Stores.{get_or_before_zeros}
use Rattle.rules.specs.Map.{Used}
use Rattle.rules.specs.Heap.{Heap, capacity, in_use}
use Rattle.rules.specs.Collect.{marked, sweep, drop_entries}
use Rattle.rules.specs.Layout.{Lent, rooms_of, map_bytes, words_of, filled, heap_of, layout_rules}
use Rattle.rules.specs.Sound.{sound}
use Rattle.rules.proofs.TwoBits.{Bytes}
use Rattle.rules.proofs.SoundLaws.{clauses, lists_again, sound_fits}
use Rattle.rules.proofs.Good.{Good, table_most}
use Rattle.rules.proofs.GoodSound.{sound_good}
use Rattle.heap_sound_rows.specs.Rows.{lists}
use Rattle.heap_mark.specs.Marks.{set_states, marked_map}
use Rattle.heap_mark.proofs.SoundMarks.{marked_same, map_again, marked_used}
use Rattle.heap_sweep.specs.Sweeps.{swept, sweep_dropped, CanDrop}
use Rattle.heap_sweep.proofs.HeapSweep.{Between, marked_between, can_drop_too, swept_dropped}

module _ (words map bytes elems roots : List ℕ) (s : sound (lists words map bytes elems) ≡ true) (u : every (in_use (heap_of (lists words map bytes elems))) roots ≡ true) (small : Bytes map) where
  abbrev l : Lent
  l = lists words map bytes elems

  abbrev h : Heap
  h = heap_of l

  abbrev n : ℕ
  n = (rooms_of l).slots

  g : Good h
  g = sound_good l s

  words_again : words ≡ words_of n h
  unfolding layout_rules
  words_again = ap (λ (x : Lent). x.words) (sym (lists_again l (clauses l s)))

  abbrev left : List ℕ
  left = marked_map words map elems roots

  left_is : left ≡ set_states (filled (map_bytes n) h.map) (marked h roots) Used
  left_is = λ i. set_states (map_again words map bytes elems s i) (marked_same words map bytes elems roots i) Used

  heap_bytes : Bytes h.map
  unfolding layout_rules
  heap_bytes k =
      subst (λ (x : ℕ). x < 256)
      (ap (λ (m : List ℕ). get_or m k 0) (map_again words map bytes elems s)
      ∙ get_or_before_zeros h.map (map_bytes n - length h.map) k)
      (small k)

  between : Between n (map_bytes n) (marked h roots) 0 h left
  unfolding layout_rules
  between =
      let f = sound_fits l (clauses l s) in
      subst (λ (m : List ℕ). Between n (map_bytes n) (marked h roots) 0 h m) (sym left_is)
      (marked_between n (map_bytes n) (marked h roots) h g f.slots (omega (arith, f.map, f.slots)) heap_bytes
      (marked_used words map bytes elems s roots u))

  table : length h.table ≤ n
  table = omega (arith, table_most h g, (sound_fits l (clauses l s)).slots)

  -- what marking leaves can be swept
  pub can_collect : CanDrop words left
  can_collect =
      subst (λ (ws : List ℕ). CanDrop ws left) (sym words_again) (can_drop_too n (map_bytes n) (marked h roots) h left between table)

  pub collected : sweep_dropped (swept words left) ≡ swept (words_of n (drop_entries (sweep (marked h roots) (rising 0 (capacity h)) h))) (filled (map_bytes n) (drop_entries (sweep (marked h roots) (rising 0 (capacity h)) h)).map)
  collected =
      ap (λ (ws : List ℕ). sweep_dropped (swept ws left)) words_again
      ∙ swept_dropped n (map_bytes n) (marked h roots) h left between table
