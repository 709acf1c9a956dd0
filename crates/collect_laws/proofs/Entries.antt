-- The symbol table after a collection: the entries whose slots were kept, in their order, each as sound as before. Document 01: "A
-- swept symbol leaves the table", "one entry a (name, scope), each leading to an Allocated slot with that name, no two to the
-- same slot". Assumes nothing.
use mathlib.Core.Path.{◌≡◌, refl, sym, ap, ◌∙◌, subst}
use mathlib.Core.Bool.{Bool, true, false, not}
use mathlib.Core.List.{List, []}
use Prim.Native.Nat.{ℕ, ◌<◌}
use native.Mathlib.Omega.{arith}
use borrow.Author.Tests.{eqb-true, eq-eqb, ne_eqb}
use lib.Dec.{eqb}
use lib.ListN.{length, get_or}
use Rattle.laws.specs.Basics.{both, every, member, keep, same, rising}
use Rattle.laws.proofs.Tests.{both_left, both_right, both_true}
use Rattle.laws.proofs.Members.{keep_same, keep_each, keep_pairs}
use Rattle.rules.specs.Map.{state_of, is_allocated, map_rules}
use Rattle.rules.specs.Cells.{Cell, plain, pair, symbol, string, vector, is_symbol}
use Rattle.rules.specs.Heap.{Heap, Entry, capacity, cell_at, in_use, text_of, name_at}
use Rattle.rules.specs.Layout.{entry_at}
use Rattle.rules.specs.Collect.{marked, collect, collect_rules}
use Rattle.rules.specs.Sound.{entry_sound, entries_differ}
use Rattle.rules.proofs.Good.{Good}
use Rattle.collect_laws.specs.Kept.{AsBefore, same_scalar, same_pair, symbol_moved, string_moved, vector_moved}
use Rattle.collect_laws.proofs.Sweeping.{sweeps}
use Rattle.collect_laws.proofs.SweptHeap.{swept_heap, unmarked_free, marked_allocated}
use Rattle.collect_laws.proofs.Collected.{marked_used, used_is, marked_as_before}

-- ---- the name of a cell as before

module _ (h k : Heap) where
  same_symbol : {c d : Cell} → AsBefore h k c d → is_symbol d ≡ is_symbol c
  same_symbol (same_scalar x) = refl
  same_symbol (same_pair a d) = refl
  same_symbol (symbol_moved b c n t) = refl
  same_symbol (string_moved b c n t) = refl
  same_symbol (vector_moved b c n t) = refl

  abbrev name_in : Heap → Cell → List ℕ
  name_in x c = elim c [ plain y ↦ [] | pair a d ↦ [] | symbol b ↦ text_of x b | string b ↦ [] | vector b ↦ [] ]

  cell_name : {c d : Cell} → AsBefore h k c d → name_in k d ≡ name_in h c
  cell_name (same_scalar x) = refl
  cell_name (same_pair a d) = refl
  cell_name (symbol_moved b c n t) = t
  cell_name (string_moved b c n t) = refl
  cell_name (vector_moved b c n t) = refl

  same_name : (s : ℕ) → AsBefore h k (cell_at h s) (cell_at k s) → name_at k s ≡ name_at h s
  unfolding name_at
  same_name s a = cell_name a

-- ---- the table of a collection

module _ (h : Heap) (g : Good h) (roots : List ℕ) (u : every (in_use h) roots ≡ true) where
  abbrev k : Heap
  k = collect roots h

  abbrev stays : Entry → Bool
  stays e = is_allocated (swept_heap roots h).map e.slot

  abbrev none : Entry
  none = record { slot = 0; scope = 0 }

  collect_table : (collect roots h).table ≡ keep stays h.table
  unfolding collect_rules swept_heap
  collect_table = ap (keep stays) (sweeps (marked h roots) (rising 0 (capacity h)) h).table

  -- an entry that stays leads to a marked slot
  stays_marked : (e : Entry) → stays e ≡ true → member e.slot (marked h roots) ≡ true
  unfolding map_rules
  stays_marked e q = by (member e.slot (marked h roots)) refl
    where
      by : (b : Bool) → member e.slot (marked h roots) ≡ b → b ≡ true
      by true m = refl
      by false m = absurd (omega (arith, eqb-true (state_of (swept_heap roots h).map e.slot) 1 q, unmarked_free h g roots e.slot m))

  entry_stays : (e : Entry) → entry_sound h e ≡ true → stays e ≡ true → entry_sound k e ≡ true
  unfolding entry_sound
  entry_stays e s q =
      let m = stays_marked e q in
      let rest = both_right (in_use h e.slot) _ s in
      both_true (marked_used h g roots u e.slot m)
      (both_true (same_symbol h k (marked_as_before h g roots u e.slot m) ∙ both_left (is_symbol (cell_at h e.slot)) _ rest)
      (both_right (is_symbol (cell_at h e.slot)) _ rest))

  differ_stay : (d e : Entry) → entries_differ h d e ≡ true → stays d ≡ true → stays e ≡ true → entries_differ k d e ≡ true
  unfolding entries_differ
  differ_stay d e s p q =
      let x = same_name h k d.slot (marked_as_before h g roots u d.slot (stays_marked d p)) in
      let y = same_name h k e.slot (marked_as_before h g roots u e.slot (stays_marked e q)) in
      (λ i. both (not (eqb d.slot e.slot)) (not (both (eqb d.scope e.scope) (same (x i) (y i))))) ∙ s

  pub entries_sound : (i : ℕ) → i < length (collect roots h).table → entry_sound k (entry_at k i) ≡ true
  unfolding entry_at
  entries_sound =
      subst (λ (t : List Entry). (i : ℕ) → i < length t → entry_sound k (get_or t i none) ≡ true) (sym collect_table)
      (keep_each stays none (λ e. entry_sound k e ≡ true) h.table (λ i l q. entry_stays (get_or h.table i none) (g.entries i l) q))

  pub entries_unlike : (i j : ℕ) → i < j → j < length (collect roots h).table → entries_differ k (entry_at k i) (entry_at k j) ≡ true
  unfolding entry_at
  entries_unlike =
      subst (λ (t : List Entry). (i j : ℕ) → i < j → j < length t → entries_differ k (get_or t i none) (get_or t j none) ≡ true) (sym collect_table)
      (keep_pairs stays none (λ d e. entries_differ k d e ≡ true) h.table
      (λ i j m l p q. differ_stay (get_or h.table i none) (get_or h.table j none) (g.differ i j m l) p q))

  still_used : (s : ℕ) → is_allocated (swept_heap roots h).map s ≡ in_use (collect roots h) s
  unfolding map_rules
  still_used s = by (member s (marked h roots)) refl
    where
      by : (b : Bool) → member s (marked h roots) ≡ b → is_allocated (swept_heap roots h).map s ≡ in_use (collect roots h) s
      by true m = eq-eqb (state_of (swept_heap roots h).map s) 1 (marked_allocated h g roots u s m) ∙ sym (used_is h g roots u s ∙ m)
      by false m =
          ne_eqb (state_of (swept_heap roots h).map s) 1 (λ e. omega (arith, unmarked_free h g roots s m)) ∙ sym (used_is h g roots u s ∙ m)

  -- the entries whose slots are still in use, in their order
  pub kept_table : (collect roots h).table ≡ keep (λ (e : Entry). in_use (collect roots h) e.slot) h.table
  kept_table = collect_table ∙ keep_same stays (λ (e : Entry). in_use (collect roots h) e.slot) (λ e. still_used e.slot) h.table
