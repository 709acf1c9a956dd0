-- The symbol table's clause, entry by entry. Assumes nothing.
use mathlib.Core.Path.{◌≡◌, refl, sym, ap, ◌∙◌, subst}
use mathlib.Core.Bool.{Bool, true, false, not}
use mathlib.Core.List.{List, []}
use Prim.Native.Nat.{ℕ, zero, suc, ◌+◌, ◌*◌, ◌<◌}
use native.Mathlib.Omega.{arith}
use borrow.Author.Tests.{eqb-true, eq-eqb, ne_eqb, not-true}
use lib.Dec.{eqb, ltb}
use lib.ListN.{length, get_or}
use Rattle.laws.specs.Basics.{both, every, same}
use Rattle.laws.proofs.Tests.{true≢false, both_left, both_right, both_true, below_all, all_below, same_equal, same_refl}
use Rattle.laws.proofs.Pointwise.{every_all, all_every}
use Rattle.laws.proofs.Checks.{refuted}
use Rattle.rules.specs.Cells.{Cell, block, symbol, is_symbol}
use Rattle.rules.specs.Heap.{Heap, Entry, cell_at, in_use, text_of, name_at}
use Rattle.rules.specs.Layout.{Lent, cell_from, entry_at, heap_of, layout_rules}
use Rattle.rules.specs.Sound.{entry_sound, entries_differ, table_sound}
use Rattle.heap_sound_rows.specs.Rows.{word}
use Rattle.heap_sound_rows.proofs.HeapFacts.{table_length, cell_is, entry_is}
use Rattle.heap_sound_cells.specs.Looked.{used_slot}
use Rattle.heap_sound_table.specs.Entries.{entry_good, name_of, TableGood}
use Rattle.heap_sound_table.proofs.TableLaws.{entry_low, entry_kind, used_low}
use Rattle.heap_sound.proofs.OutlineLaws.{Ground, in_use_is}

symbol_kind : (k a b : ℕ) → eqb k 8 ≡ is_symbol (cell_from k a b)
unfolding layout_rules
symbol_kind zero a b = refl
symbol_kind (suc zero) a b = refl
symbol_kind (suc (suc zero)) a b = refl
symbol_kind (suc (suc (suc zero))) a b = refl
symbol_kind (suc (suc (suc (suc zero)))) a b = refl
symbol_kind (suc (suc (suc (suc (suc zero))))) a b = refl
symbol_kind (suc (suc (suc (suc (suc (suc zero)))))) a b = refl
symbol_kind (suc (suc (suc (suc (suc (suc (suc zero))))))) a b = refl
symbol_kind (suc (suc (suc (suc (suc (suc (suc (suc zero)))))))) a b = refl
symbol_kind (suc (suc (suc (suc (suc (suc (suc (suc (suc zero))))))))) a b = refl
symbol_kind (suc (suc (suc (suc (suc (suc (suc (suc (suc (suc zero)))))))))) a b = refl
symbol_kind (suc (suc (suc (suc (suc (suc (suc (suc (suc (suc (suc k))))))))))) a b =
    ne_eqb (suc (suc (suc (suc (suc (suc (suc (suc (suc (suc (suc k))))))))))) 8 (λ e. omega arith)

symbol_name : (h : Heap) (s k a b : ℕ) → k ≡ 8 → cell_at h s ≡ cell_from k a b → name_at h s ≡ text_of h (block a b)
unfolding layout_rules name_at
symbol_name h s k a b e c = ap (λ (x : Cell). name_of_cell h x) (c ∙ ap (λ (n : ℕ). cell_from n a b) e)
  where
    name_of_cell : Heap → Cell → List ℕ
    name_of_cell h x =
        elim x [
          | Rattle.rules.specs.Cells.plain y ↦ []
          | Rattle.rules.specs.Cells.pair y d ↦ []
          | symbol y ↦ text_of h y
          | Rattle.rules.specs.Cells.string y ↦ []
          | Rattle.rules.specs.Cells.vector y ↦ []
        ]

module _ (l : Lent) (g : Ground l) where
  abbrev ws : List ℕ
  ws = l.words

  abbrev cap : ℕ
  cap = get_or l.words 1 0

  abbrev h : Heap
  h = heap_of l

  abbrev n : ℕ
  n = get_or l.words 3 0

  -- an entry
  entry_is_good : (i : ℕ) → i < n → entry_good ws l.map cap i ≡ entry_sound h (entry_at h i)
  unfolding entry_good entry_sound
  entry_is_good i low =
      under (used_slot cap l.map (word ws i 5)) refl
      ∙ ap (λ (b : Bool). both b (both (is_symbol (cell_at h (word ws i 5))) (ltb (word ws i 6) 4294967296))) (sym (in_use_is l g (word ws i 5)))
      ∙ ap (λ (e : Entry). both (in_use h e.slot) (both (is_symbol (cell_at h e.slot)) (ltb e.scope 4294967296))) (sym (entry_is l i low))
    where
      under : (b : Bool) → used_slot cap l.map (word ws i 5) ≡ b
          → both b (both (eqb (get_or ws (8 + 8 * word ws i 5) 0) 8) (ltb (word ws i 6) 4294967296))
          ≡ both b (both (is_symbol (cell_at h (word ws i 5))) (ltb (word ws i 6) 4294967296))
      under true e =
          let s = used_low ws l.map cap i (word ws i 5) e in
          ap (λ (b : Bool). both b (ltb (word ws i 6) 4294967296))
          (symbol_kind (get_or ws (8 + 8 * word ws i 5) 0) (word ws (word ws i 5) 1) (word ws (word ws i 5) 2)
          ∙ ap is_symbol (sym (cell_is l (word ws i 5) s)))
      under false e = refl

  name_is : (i : ℕ) → entry_good ws l.map cap i ≡ true → name_at h (word ws i 5) ≡ name_of ws h.bytes i
  name_is i e =
      symbol_name h (word ws i 5) (get_or ws (8 + 8 * word ws i 5) 0) (word ws (word ws i 5) 1) (word ws (word ws i 5) 2)
      (entry_kind ws l.map cap i e) (cell_is l (word ws i 5) (entry_low ws l.map cap i e))

  -- two entries
  module _ (i j : ℕ) (hi : i < n) (hj : j < n) (gi : entry_good ws l.map cap i ≡ true) (gj : entry_good ws l.map cap j ≡ true) where
    differ_words : entries_differ h (entry_at h i) (entry_at h j)
        ≡ both (not (eqb (word ws i 5) (word ws j 5)))
        (not (both (eqb (word ws i 6) (word ws j 6)) (same (name_of ws h.bytes i) (name_of ws h.bytes j))))
    unfolding entries_differ
    differ_words =
        (λ k.
        both (not (eqb (entry_is l i hi k).slot (entry_is l j hj k).slot))
        (not
        (both (eqb (entry_is l i hi k).scope (entry_is l j hj k).scope)
        (same (name_at h (entry_is l i hi k).slot) (name_at h (entry_is l j hj k).slot)))))
        ∙ (λ k.
        both (not (eqb (word ws i 5) (word ws j 5)))
        (not (both (eqb (word ws i 6) (word ws j 6)) (same (name_is i gi k) (name_is j gj k)))))

    differ_told : entries_differ h (entry_at h i) (entry_at h j) ≡ true
        → (word ws i 5 ≡ word ws j 5 → ⊥) × (word ws i 6 ≡ word ws j 6 → name_of ws h.bytes i ≡ name_of ws h.bytes j → ⊥)
    differ_told e =
        let d = sym differ_words ∙ e in (
          λ q. true≢false (sym (eq-eqb _ _ q) ∙ not-true _ (both_left (not (eqb (word ws i 5) (word ws j 5))) _ d)),
          λ p q.
              true≢false
              (sym (both_true (eq-eqb _ _ p) (subst (λ (x : List ℕ). same (name_of ws h.bytes i) x ≡ true) q (same_refl (name_of ws h.bytes i))))
              ∙ not-true _ (both_right (not (eqb (word ws i 5) (word ws j 5))) _ d)),
        )

    differ_back : (word ws i 5 ≡ word ws j 5 → ⊥) → (word ws i 6 ≡ word ws j 6 → name_of ws h.bytes i ≡ name_of ws h.bytes j → ⊥)
        → entries_differ h (entry_at h i) (entry_at h j) ≡ true
    differ_back s m =
        differ_words
        ∙ both_true (ap not (ne_eqb _ _ s))
        (ap not
        (sym
        (refuted _
        (λ e.
        m (eqb-true _ _ (both_left (eqb (word ws i 6) (word ws j 6)) _ e))
        (same_equal _ _ (both_right (eqb (word ws i 6) (word ws j 6)) _ e))))))

  pub table_told : table_sound h ≡ true → TableGood ws l.map h.bytes cap n
  unfolding table_sound entry_at
  table_told e =
      let good : (i : ℕ) → i < n → entry_good ws l.map cap i ≡ true =
      λ i k.
      entry_is_good i k
      ∙ every_all (entry_sound h) (record { slot = 0; scope = 0 }) h.table (both_left (every (entry_sound h) h.table) _ e) i (omega (arith, table_length l)) in
      let two : (i j : ℕ) → i < j → j < n → entries_differ h (entry_at h i) (entry_at h j) ≡ true =
      λ i j k m. below_all _ j (below_all _ (length h.table) (both_right (every (entry_sound h) h.table) _ e) j (omega (arith, table_length l))) i k in
      record {
        good = good;
        slots = λ i j k m q. (differ_told i j (omega arith) m (good i (omega arith)) (good j m) (two i j k m)).0 q;
        names = λ i j k m p q. (differ_told i j (omega arith) m (good i (omega arith)) (good j m) (two i j k m)).1 p q;
      }

  pub table_back : TableGood ws l.map h.bytes cap n → table_sound h ≡ true
  unfolding table_sound entry_at
  table_back t =
      both_true
      (all_every (entry_sound h) (record { slot = 0; scope = 0 }) h.table
      (λ i k. let low : i < n = omega (arith, table_length l) in sym (entry_is_good i low) ∙ t.good i low))
      (all_below _ (length h.table)
      (λ j k.
      let low : j < n = omega (arith, table_length l) in
      all_below _ j
      (λ i m. differ_back i j (omega arith) low (t.good i (omega arith)) (t.good j low) (t.slots i j m low) (t.names i j m low))))
