-- The table's entries: each by itself, their keys as copied, and no two alike. Assumes nothing.
use mathlib.Core.Path.{◌≡◌, refl, sym, ap, ◌∙◌, subst}
use mathlib.Core.Bool.{Bool, true, false}
use mathlib.Core.List.{List}
use Prim.Native.Nat.{ℕ, ◌+◌, ◌*◌, ◌≤◌, ◌<◌}
use native.Mathlib.Decide.{ℕ_discrete, dec_lt}
use native.Mathlib.Nat.{zero-add}
use native.Mathlib.Omega.{arith}
use borrow.Author.Tests.{eqb-true, eq-eqb, ne_eqb, ltb-true}
use lib.Dec.{eqb, ltb}
use lib.ListN.{length, get_or, set, get_or-eq_default}
use lib.Seq.{get_or-set_same, get_or-set_other, ext_get_or}
use Rattle.std.specs.Bool.{MatchBool}
use Rattle.std.specs.List.{range_with_len, AllWithin, HoldsAt}
use Rattle.std.proofs.lemmas.List.FromFn.{length-range_with_len, get_or-range_with_len}
use Rattle.laws.specs.Basics.{every_below, rising}
use Rattle.laws.proofs.Tests.{true≢false, both_left, both_right, below_all, all_below}
use Rattle.laws.proofs.Lists.{length-rising, get_or_rising}
use Rattle.laws.proofs.Checks.{pass, fail}
use Rattle.leaf_names.specs.declared.Key as code
use Rattle.leaf_names.specs.Keys.{stored, key_in, key_of, Goes, neighbours_differ}
use Rattle.leaf_names.specs.Ordering.{Key}
use Rattle.leaf_sort.specs.Arranged.{Arranged}
use Rattle.leaf_sort.proofs.Arranging.{one_each, two_clash}
use Rattle.heap_sound_rows.specs.Rows.{word}
use Rattle.heap_sound_cells.specs.Looked.{used_slot}
use Rattle.heap_sound_cells.proofs.FirstLaws.{read_bound, apart_bound}
use Rattle.heap_sound_blocks.specs.Blocks.{shown, Apart}
use Rattle.heap_sound_blocks.proofs.PaintLaws.{shown_is}
use Rattle.heap_sound_free.specs.Marks.{new_at, column_of}
use Rattle.heap_sound_free.proofs.TallyLaws.{tally_none, none_tally, new_is, new_of}
use Rattle.heap_sound_table.specs.Entries.{entry_good, name_of, Keyed, KeysDiffer, Leading, NamesDiffer, Decided, TableGood}

-- ---- a test of every number below n, as `all` over a range answers it

pub every_by : (f : ℕ → Bool) (n : ℕ) (r : Bool)
    → MatchBool r (AllWithin (λ i. f i ≡ true) (range_with_len 0 n) 0 (length (range_with_len 0 n)))
    ((k : ℕ) × (k < length (range_with_len 0 n)) × HoldsAt (λ i. f i ≡ false) (range_with_len 0 n) k)
    → r ≡ every_below n f
every_by f n true h =
    sym (all_below f n (λ i l.
    ap f (sym (get_or-range_with_len 0 n i 0 l ∙ zero-add i)) ∙ h i 0 (omega arith) (omega (arith, length-range_with_len 0 n))))
every_by f n false h = none (every_below n f) refl
  where
    low : h.0 < n
    low = omega (arith, h.1, length-range_with_len 0 n)

    none : (t : Bool) → every_below n f ≡ t → false ≡ every_below n f
    none true e =
        absurd (true≢false (sym (below_all f n e h.0 low) ∙ ap f (sym (get_or-range_with_len 0 n h.0 0 low ∙ zero-add h.0)) ∙ h.2 0))
    none false e = sym e

-- ---- an entry

module _ (ws m : List ℕ) (capacity i : ℕ) where
  pub entry_unused : used_slot capacity m (word ws i 5) ≡ false → false ≡ entry_good ws m capacity i
  unfolding entry_good
  entry_unused e = fail (used_slot capacity m (word ws i 5)) _ e

  pub entry_unnamed : used_slot capacity m (word ws i 5) ≡ true → (get_or ws (8 + 8 * word ws i 5) 0 ≡ 8 → ⊥) → false ≡ entry_good ws m capacity i
  unfolding entry_good
  entry_unnamed u d = pass u (fail (eqb (get_or ws (8 + 8 * word ws i 5) 0) 8) _ (ne_eqb _ _ d))

  pub entry_scoped : used_slot capacity m (word ws i 5) ≡ true → get_or ws (8 + 8 * word ws i 5) 0 ≡ 8 → ltb (word ws i 6) 4294967296 ≡ entry_good ws m capacity i
  unfolding entry_good
  entry_scoped u e = pass u (pass (eq-eqb _ _ e) refl)

  pub used_low : (s : ℕ) → used_slot capacity m s ≡ true → s < capacity
  unfolding used_slot
  used_low s e = ltb-true s capacity (both_left (ltb s capacity) _ e)

  pub entry_low : entry_good ws m capacity i ≡ true → word ws i 5 < capacity
  unfolding entry_good
  entry_low e = used_low (word ws i 5) (both_left (used_slot capacity m (word ws i 5)) _ e)

  pub entry_kind : entry_good ws m capacity i ≡ true → get_or ws (8 + 8 * word ws i 5) 0 ≡ 8
  unfolding entry_good
  entry_kind e =
      eqb-true _ 8 (both_left (eqb (get_or ws (8 + 8 * word ws i 5) 0) 8) _ (both_right (used_slot capacity m (word ws i 5)) _ e))

-- ---- the keys, as they are copied

module _ (ws : List ℕ) where
  pub keyed_none : (keys : List code.Key) → Keyed ws keys 0
  keyed_none keys = record { at = λ e h. absurd (omega arith) }

  pub keyed_more : (keys : List code.Key) (i : ℕ) (k : code.Key) → i < length keys → Keyed ws keys i
      → k ≡ record { place = word ws (word ws i 5) 1; size = word ws (word ws i 5) 2; scope = word ws i 6 } → Keyed ws (set keys i k) (i + 1)
  keyed_more keys i k room before e =
      record {
        at = λ j h.
            elim (ℕ_discrete j i) [
              | yes x ↦ ap (stored (set keys i k)) x ∙ get_or-set_same keys i k _ room ∙ e ∙ ap (λ (n : ℕ). entry_key ws n) (sym x)
              | no d ↦ get_or-set_other keys i j k _ d ∙ before.at j (omega arith)
            ];
      }
    where
      entry_key : List ℕ → ℕ → code.Key
      entry_key ws n = record { place = word ws (word ws n 5) 1; size = word ws (word ws n 5) 2; scope = word ws n 6 }

  -- the keys have room for each entry with a name or a scope, since past them `stored` has neither
  pub keyed_room : (keys : List code.Key) (n : ℕ) → Keyed ws keys n → (e : ℕ) → e < n → 0 < word ws (word ws e 5) 2 + word ws e 6 → e < length keys
  keyed_room keys n k e h some =
      elim (dec_lt e (length keys)) [
        | yes l ↦ l
        | no l ↦
            let past = sym (k.at e h) ∙ get_or-eq_default keys _ {n = e} (omega arith) in
            absurd (omega (arith, ap (λ (x : code.Key). x.size + x.scope) past))
      ]

-- ---- the entries listed

pub listed_more : (l : List ℕ) (i : ℕ) → i < length l → ((j : ℕ) → j < i → get_or l j 0 ≡ j) → (j : ℕ) → j < i + 1 → get_or (set l i i) j 0 ≡ j
listed_more l i h p j k =
    elim (ℕ_discrete j i) [
      | yes e ↦ ap (λ (n : ℕ). get_or (set l i i) n 0) e ∙ get_or-set_same l i i 0 h ∙ sym e
      | no d ↦ get_or-set_other l i j i 0 d ∙ p j (omega arith)
    ]

pub listed_all : (l : List ℕ) (n : ℕ) → length l ≡ n → ((j : ℕ) → j < n → get_or l j 0 ≡ j) → l ≡ rising 0 n
listed_all l n e p =
    ext_get_or 0 l (rising 0 n) (e ∙ sym (length-rising 0 n))
    (λ j h. p j (omega arith) ∙ sym (get_or_rising 0 n j 0 (omega arith) ∙ zero-add j))

-- ---- sorted, and neighbours looked at

pub keys_decided : (keys : List code.Key) (bytes : List ℕ) (n : ℕ) (xs ys : List ℕ) (r : Bool) → xs ≡ rising 0 n → Arranged (Goes keys bytes) xs ys
    → r ≡ neighbours_differ keys bytes ys → Decided (KeysDiffer keys bytes n) r
keys_decided keys bytes n xs ys r l b e =
    let a = subst (λ (x : List ℕ). Arranged (Goes keys bytes) x ys) l b in
    record {
      holds = λ t. record { differ = λ d f hd hf q. one_each keys bytes n ys a (sym e ∙ t) d f hd hf q };
      fails = λ t k.
          let c = two_clash keys bytes n ys a (sym e ∙ t) in
          c.apart (k.differ c.first c.second c.first_in c.second_in c.one_key);
    }

-- ---- names

module _ (ws bytes : List ℕ) (n : ℕ) (keys : List code.Key) (k : Keyed ws keys n) where
  key_is : (e : ℕ) → e < n → key_of keys bytes e ≡ record { name = name_of ws bytes e; scope = word ws e 6 }
  key_is e h = ap (key_in bytes) (k.at e h)

  pub names_decided : (r : Bool) (count : ℕ) → count ≡ n → Decided (KeysDiffer keys bytes count) r → Decided (NamesDiffer ws bytes n) r
  names_decided r count whole decided =
      let d = subst (λ (c : ℕ). Decided (KeysDiffer keys bytes c) r) whole decided in
      record {
        holds = λ t.
            record {
              differ = λ a b ha hb p q.
                  (d.holds t).differ a b ha hb (key_is a ha ∙ (λ j. record { name = q j; scope = p j }) ∙ sym (key_is b hb));
            };
        fails = λ t m.
            d.fails t
            (record {
              differ = λ a b ha hb q.
                  let e = sym (key_is a ha) ∙ q ∙ key_is b hb in
                  m.differ a b ha hb (ap (λ (x : Key). x.scope) e) (ap (λ (x : Key). x.name) e);
            });
      }

-- ---- the table

module _ (ws m bytes : List ℕ) (capacity n : ℕ) where
  pub table_bad : every_below n (entry_good ws m capacity) ≡ false → Decided (TableGood ws m bytes capacity n) false
  table_bad e =
      record {
        holds = λ t. absurd (true≢false (sym t));
        fails = λ _ g. true≢false (sym (all_below _ n g.good) ∙ e);
      }

  module _ (good : every_below n (entry_good ws m capacity) ≡ true) where
    low : (e : ℕ) → e < n → word ws e 5 < capacity
    low e h = entry_low ws m capacity e (below_all _ n good e h)

    pub leading : 8 + 8 * capacity ≤ length ws → (m : ℕ) → m ≡ n → Leading ws m
    leading room m q = record { row = λ e h. omega (arith, low e (omega arith)) }

    -- where the texts lie apart, each name lies within the bytes
    pub leading_names : Apart (shown ws 7 8) (length bytes) capacity → (e : ℕ) → e < n → word ws (word ws e 5) 1 + word ws (word ws e 5) 2 ≤ length bytes
    leading_names a e h =
        let k = entry_kind ws m capacity e (below_all _ n good e h) in
        let s = shown_is ws 7 8 (word ws e 5) (omega (arith, k)) (omega (arith, k)) in
        read_bound (shown ws 7 8 (word ws e 5)) (word ws (word ws e 5) 1) (word ws (word ws e 5) 2) (length bytes) s
        (apart_bound (shown ws 7 8) (length bytes) capacity (word ws e 5) a (low e h))

    pub slots_bad : every_below n (new_at (column_of ws 5) capacity) ≡ false → Decided (TableGood ws m bytes capacity n) false
    slots_bad e =
        record {
          holds = λ t. absurd (true≢false (sym t));
          fails = λ _ g.
              true≢false
              (sym
              (all_below _ n
              (λ j h. new_of (column_of ws 5) capacity j (low j h) (none_tally (column_of ws 5) j (word ws j 5) (λ i l q. g.slots i j l h q))))
              ∙ e);
        }

    pub table_decided : every_below n (new_at (column_of ws 5) capacity) ≡ true → (r : Bool) (count : ℕ) → count ≡ n
        → Decided (NamesDiffer ws bytes count) r → Decided (TableGood ws m bytes capacity n) r
    table_decided new r count whole decided =
        let d = subst (λ (c : ℕ). Decided (NamesDiffer ws bytes c) r) whole decided in
        record {
          holds = λ t.
              record {
                good = below_all _ n good;
                slots = λ i j l h q. tally_none (column_of ws 5) j (word ws j 5) (new_is (column_of ws 5) capacity j (below_all _ n new j h)) i l q;
                names = λ i j l h p q. omega (arith, (d.holds t).differ i j (omega arith) h p q);
              };
          fails = λ t g. d.fails t (record { differ = λ a b ha hb p q. one a b ha hb p q g });
        }
      where
        one : (a b : ℕ) → a < n → b < n → word ws a 6 ≡ word ws b 6 → name_of ws bytes a ≡ name_of ws bytes b → TableGood ws m bytes capacity n → a ≡ b
        one a b ha hb p q g =
            elim (dec_lt a b) [
              | yes h ↦ absurd (g.names a b h hb p q)
              | no h ↦
                  elim (dec_lt b a) [
                    | yes k ↦ absurd (g.names b a k ha (sym p) (sym q))
                    | no k ↦ omega arith
                  ]
            ]
