-- Entries by their keys: `Goes` is a total order, and what a sorted list's neighbours say of the whole list. Assumes nothing.
use mathlib.Core.Path.{◌≡◌, refl, sym, ap, ◌∙◌}
use mathlib.Core.Bool.{Bool, true, false, not}
use mathlib.Core.List.{List, [], ◌∷◌}
use Prim.Native.Nat.{ℕ, zero, suc, ◌<◌}
use native.Mathlib.Omega.{arith}
use borrow.Author.Tests.{not-true}
use lib.ListN.{length, get_or}
use lib.Dec.{eqb}
use Rattle.laws.specs.Basics.{both, same}
use Rattle.laws.specs.Sorting.{Sorted}
use Rattle.laws.proofs.Tests.{true≢false, both_left, both_right}
use Rattle.leaf_names.specs.Ordering.{Standing, before, level, after, is_level, not_after, flip, then, number_compare, name_compare, Key, key_compare}
use Rattle.leaf_names.specs.declared.Key as code
use Rattle.leaf_names.specs.Keys.{key_of, Goes, alike, neighbours_differ}
use Rattle.leaf_names.proofs.Ordered.{level_is, after_is, key_flip, key_level, key_level_is, key_chain, key_antisym, then_not_after, number_same, same_level}

module _ (keys : List code.Key) (bytes : List ℕ) where
  -- ---- the order of entries

  pub goes_refl : (d : ℕ) → Goes keys bytes d d
  goes_refl d = record { goes = ap not_after (key_level (key_of keys bytes d) (key_of keys bytes d) refl) }

  pub goes_trans : (d e f : ℕ) → Goes keys bytes d e → Goes keys bytes e f → Goes keys bytes d f
  goes_trans d e f p q =
      record {
        goes = ap not_after (key_chain (key_of keys bytes d) (key_of keys bytes e) (key_of keys bytes f) p.goes q.goes)
            ∙ then_not_after (key_compare (key_of keys bytes d) (key_of keys bytes e))
            (key_compare (key_of keys bytes e) (key_of keys bytes f)) p.goes q.goes;
      }

  -- what does not go before another goes after it
  pub goes_back : (d e : ℕ) → not_after (key_compare (key_of keys bytes d) (key_of keys bytes e)) ≡ false → Goes keys bytes e d
  goes_back d e h =
      let a : key_compare (key_of keys bytes d) (key_of keys bytes e) ≡ after = after_is (key_compare (key_of keys bytes d) (key_of keys bytes e)) h in
      record { goes = ap not_after (key_flip (key_of keys bytes d) (key_of keys bytes e) ∙ ap flip a) }

  -- each before the other: one key
  pub goes_both : (d e : ℕ) → Goes keys bytes d e → Goes keys bytes e d → key_of keys bytes d ≡ key_of keys bytes e
  goes_both d e p q = key_antisym (key_of keys bytes d) (key_of keys bytes e) p.goes q.goes

  -- ---- one key for two

  pub alike_key : (d e : ℕ) → alike keys bytes d e ≡ true → key_of keys bytes d ≡ key_of keys bytes e
  unfolding alike
  alike_key d e h = key_level_is (key_of keys bytes d) (key_of keys bytes e) (level_is _ h)

  -- the same scope and the same name, as tests
  pub alike_parts : (d e : ℕ)
      → alike keys bytes d e
      ≡ both (eqb (key_of keys bytes d).scope (key_of keys bytes e).scope) (same (key_of keys bytes d).name (key_of keys bytes e).name)
  unfolding alike key_compare
  alike_parts d e =
      by (name_compare (key_of keys bytes d).name (key_of keys bytes e).name) (number_compare (key_of keys bytes d).scope (key_of keys bytes e).scope)
      ∙ (λ i. both (sym (number_same (key_of keys bytes d).scope (key_of keys bytes e).scope) i) (sym (same_level (key_of keys bytes d).name (key_of keys bytes e).name) i))
    where
      by : (s t : Standing) → is_level (then s t) ≡ both (is_level t) (is_level s)
      by before before = refl
      by before level = refl
      by before after = refl
      by level before = refl
      by level level = refl
      by level after = refl
      by after before = refl
      by after level = refl
      by after after = refl

  pub key_alike : (d e : ℕ) → key_of keys bytes d ≡ key_of keys bytes e → alike keys bytes d e ≡ true
  unfolding alike
  key_alike d e h = ap is_level (key_level (key_of keys bytes d) (key_of keys bytes e) h)

  -- two places of the list have entries under one key
  pub record Twice (l : List ℕ) : Type 0 where
    pub early : ℕ
    pub late : ℕ
    pub rising : early < late
    pub inside : late < length l
    pub one_key : key_of keys bytes (get_or l early 0) ≡ key_of keys bytes (get_or l late 0)

  neighbours_at : (l : List ℕ) → neighbours_differ keys bytes l ≡ true → (i : ℕ) → suc i < length l
      → alike keys bytes (get_or l i 0) (get_or l (suc i) 0) ≡ false
  unfolding neighbours_differ
  neighbours_at [] h i k = absurd (omega arith)
  neighbours_at (d ∷ []) h i k = absurd (omega arith)
  neighbours_at (d ∷ e ∷ l) h zero k = not-true (alike keys bytes d e) (both_left (not (alike keys bytes d e)) _ h)
  neighbours_at (d ∷ e ∷ l) h (suc i) k = neighbours_at (e ∷ l) (both_right (not (alike keys bytes d e)) _ h) i (omega arith)

  -- of a sorted list: no neighbours alike, no two alike
  pub distinct_all : (l : List ℕ) → Sorted (Goes keys bytes) l → neighbours_differ keys bytes l ≡ true → Twice l → ⊥
  distinct_all l s h t =
      true≢false (sym (key_alike (get_or l i 0) (get_or l (suc i) 0) near) ∙ neighbours_at l h i (omega (arith, t.rising, t.inside)))
    where
      i : ℕ
      i = t.early

      onward : Goes keys bytes (get_or l (suc i) 0) (get_or l t.late 0)
      onward = s.rises (suc i) t.late (omega (arith, t.rising)) t.inside

      back : Goes keys bytes (get_or l (suc i) 0) (get_or l i 0)
      back =
          record {
            goes = ap (λ (k : Key). not_after (key_compare (key_of keys bytes (get_or l (suc i) 0)) k)) t.one_key ∙ onward.goes;
          }

      near : key_of keys bytes (get_or l i 0) ≡ key_of keys bytes (get_or l (suc i) 0)
      near = goes_both (get_or l i 0) (get_or l (suc i) 0)
          (s.rises i (suc i) (omega arith) (omega (arith, t.rising, t.inside))) back

  -- of any list: neighbours alike are two alike
  pub distinct_twice : (l : List ℕ) → neighbours_differ keys bytes l ≡ false → Twice l
  unfolding neighbours_differ
  distinct_twice [] h = absurd (true≢false h)
  distinct_twice (d ∷ []) h = absurd (true≢false h)
  distinct_twice (d ∷ e ∷ l) h = by (alike keys bytes d e) refl h (λ k. distinct_twice (e ∷ l) k)
    where
      by : (t : Bool) → alike keys bytes d e ≡ t → both (not t) (neighbours_differ keys bytes (e ∷ l)) ≡ false
          → (neighbours_differ keys bytes (e ∷ l) ≡ false → Twice (e ∷ l)) → Twice (d ∷ e ∷ l)
      by true a h rest = record { early = 0; late = 1; rising = omega arith; inside = omega arith; one_key = alike_key d e a }
      by false a h rest =
          let t : Twice (e ∷ l) = rest h in
          record {
            early = suc t.early;
            late = suc t.late;
            rising = omega (arith, t.rising);
            inside = omega (arith, t.inside);
            one_key = t.one_key;
          }

  -- and so, of a sorted list, each answer exactly where it is right
  pub none_twice : (l : List ℕ) → (Twice l → ⊥) → neighbours_differ keys bytes l ≡ true
  none_twice l n = by (neighbours_differ keys bytes l) refl
    where
      by : (t : Bool) → neighbours_differ keys bytes l ≡ t → t ≡ true
      by true e = refl
      by false e = absurd (n (distinct_twice l e))

  pub some_twice : (l : List ℕ) → Sorted (Goes keys bytes) l → Twice l → neighbours_differ keys bytes l ≡ false
  some_twice l s t = by (neighbours_differ keys bytes l) refl
    where
      by : (b : Bool) → neighbours_differ keys bytes l ≡ b → b ≡ false
      by true e = absurd (distinct_all l s e t)
      by false e = refl
