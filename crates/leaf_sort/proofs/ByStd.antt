-- What std's sort and windows promise, in the rules' words. Assumes nothing.
use mathlib.Core.Path.{◌≡◌, refl, sym, ap, ◌∙◌, subst}
use mathlib.Core.Bool.{Bool, true, false, not}
use mathlib.Core.List.{List, [], ◌∷◌}
use Prim.Native.Nat.{ℕ, zero, suc, ◌+◌, ◌<◌, ◌≤◌}
use native.Mathlib.Nat.{zero-add}
use native.Mathlib.Omega.{arith}
use denote.Ref.{Bor}
use denote.Param.Members.{Mut}
use borrow.Author.Tests.{not-true, not-false}
use lib.Dec.{eqb}
use lib.ListN.{length, get_or}
use Rattle.std.specs.declared.cmp.Ordering.{Ordering}
use Rattle.std.specs.declared.cmp.Ordering.TheVariants.{Less, Equal, Greater}
use Rattle.std.specs.Ordering.{is_lt}
use Rattle.std.specs.Cmp.{IsStrictWeakOrder}
use Rattle.std.specs.Fn.{Called, ComparesAs}
use Rattle.std.specs.Bool.{MatchBool, IsTrue}
use Rattle.std.specs.Iterator.Runs.{Run, IsWindowsRun, CallKeepsClosure, AllItemsGive, AnyItemGives}
use Rattle.std.specs.Prelude as std_words
use Rattle.std.specs.Prelude.{Some, None}
use Rattle.std.specs.Option.{option_map, IfSome, IsSomeAnd}
use Rattle.std.specs.Slice.Iter.{windows_rest, windows_size, windows_steps}
use Rattle.std.specs.declared.slice.Windows.{Windows}
use Rattle.std.proofs.lemmas.Option.{none-some}
use Rattle.std.specs.List.{fold, sum_by, IsSubsliceAt}
use Rattle.std.specs.List.Sorted.{IsPermutation, IsSortedBy}
use Rattle.std.proofs.lemmas.Fn.{always_returns_same}
use Rattle.std.proofs.lemmas.List.Sorted.{sorted_far, sum_by-IsPermutation}
use Rattle.laws.specs.Sorting.{Permuted, Sorted}
use Rattle.laws.specs.Basics.{choose, both, count, basics}
use Rattle.laws.proofs.Tests.{both_false}
use Rattle.leaf_names.specs.declared.Key as code
use Rattle.leaf_names.specs.Keys.{key_of, Goes, alike, neighbours_differ}
use Rattle.leaf_names.specs.Ordering.{shown, flip, not_after, key_compare}
use Rattle.leaf_names.proofs.Ordered.{key_flip}
use Rattle.leaf_names.proofs.Keyed.{goes_back, goes_trans}

-- a number is as often in a list as in one that has the same elements
counted_once : (n : ℕ) (xs : List ℕ) → count n xs ≡ sum_by (λ x. choose (eqb n x) 1 0) xs
unfolding basics
counted_once n xs = sym (zero-add (count n xs)) ∙ from 0 xs
  where
    from : (a : ℕ) (l : List ℕ) → a + count n l ≡ fold (λ b x. b + choose (eqb n x) 1 0) a l
    from a [] = omega arith
    from a (x ∷ l) = omega (arith, from (a + choose (eqb n x) 1 0) l)

pub permuted_by : (xs ys : List ℕ) → IsPermutation xs ys → length ys ≡ length xs → Permuted xs ys
permuted_by xs ys p l =
    record {
      size = l;
      counts = λ n. counted_once n ys ∙ sum_by-IsPermutation (λ x. choose (eqb n x) 1 0) xs ys p ∙ sym (counted_once n xs);
    }

-- std's windows of two
pub windows_of : (p : Run (windows_steps {A = ℕ})) (s : Windows ℕ) (xs : List ℕ) → p.from ≡ s → windows_size s ≡ 2 → windows_rest s ≡ xs
    → (0 < windows_size p.from → IsWindowsRun p (windows_size p.from) (windows_rest p.from)) → IsWindowsRun p 2 xs
windows_of p s xs e q r w =
    let size = ap windows_size e ∙ q in
    subst (λ (n : ℕ). IsWindowsRun p n xs) size (subst (λ (l : List ℕ). IsWindowsRun p (windows_size p.from) l) (ap windows_rest e ∙ r) (w (omega (arith, size))))

module _ (keys : List code.Key) (bytes : List ℕ) where
  -- strictly before: the other does not go
  abbrev goes_first : ℕ → ℕ → Bool
  goes_first d e = not (not_after (key_compare (key_of keys bytes e) (key_of keys bytes d)))

  not_first : (d e : ℕ) → goes_first d e ≡ false → Goes keys bytes e d
  not_first d e h = record { goes = not-false _ h }

  goes_weak : IsStrictWeakOrder goes_first
  goes_weak =
      record {
        one_way = λ d e h. ap not (goes_back keys bytes e d (not-true _ h)).goes;
        chain = λ d e f p q. ap not (goes_trans keys bytes f e d (not_first e f q) (not_first d e p)).goes;
      }

  less_first : (o : Ordering) (d e : ℕ) → shown o ≡ key_compare (key_of keys bytes d) (key_of keys bytes e) → is_lt o ≡ goes_first d e
  less_first o d e h = by o ∙ ap (λ s. not (not_after (flip s))) h ∙ ap (λ s. not (not_after s)) (sym (key_flip (key_of keys bytes d) (key_of keys bytes e)))
    where
      by : (o : Ordering) → is_lt o ≡ not (not_after (flip (shown o)))
      by Less = refl
      by Equal = refl
      by Greater = refl

  pub sorted_by : {F : Type 0} {g : Mut F (Bor ℕ × (Bor ℕ × Unit {0})) Ordering} {f : F} (xs : List ℕ)
      → ((lt : ℕ → ℕ → Bool) → IsStrictWeakOrder lt → ComparesAs g lt f → IsSortedBy lt xs)
      → ((a : Bor ℕ × (Bor ℕ × Unit {0})) (r : Ordering) (f' : F) → Called g f a r f'
      → (shown r ≡ key_compare (key_of keys bytes a.0.now) (key_of keys bytes a.1.0.now)) × (f' ≡ f))
      → Sorted (Goes keys bytes) xs
  sorted_by {F} {g} {f} xs up calls =
      record {
        rises = λ i j h k.
            not_first _ _
            (sorted_far goes_first goes_weak xs
            (up goes_first goes_weak
            (always_returns_same g (λ a r. is_lt r ≡ goes_first a.0.now a.1.0.now) f
            (λ a r f' k. (less_first r a.0.now a.1.0.now (calls a r f' k).0, (calls a r f' k).1))))
            i j 0 h k);
      }

  -- no two neighbours alike, by their places
  next_to : List ℕ → ℕ → Bool
  next_to xs k = alike keys bytes (get_or xs k 0) (get_or xs (k + 1) 0)

  next_past : (d : ℕ) (xs : List ℕ) (k : ℕ) → next_to (d ∷ xs) (suc k) ≡ next_to xs k
  unfolding next_to
  next_past d xs k =
      let up : suc k + 1 ≡ suc (k + 1) = omega arith in
      ap (λ (m : ℕ). alike keys bytes (get_or xs k 0) (get_or (d ∷ xs) m 0)) up

  all_differ : (xs : List ℕ) → ((k : ℕ) → k + 1 < length xs → next_to xs k ≡ false) → true ≡ neighbours_differ keys bytes xs
  unfolding neighbours_differ next_to
  all_differ [] h = refl
  all_differ (d ∷ []) h = refl
  all_differ (d ∷ e ∷ xs) h =
      let rest = all_differ (e ∷ xs) (λ k l. sym (next_past d (e ∷ xs) k) ∙ h (suc k) (omega arith)) in
      rest ∙ sym (ap (λ b. both (not b) (neighbours_differ keys bytes (e ∷ xs))) (h 0 (omega arith)))

  one_alike : (xs : List ℕ) (k : ℕ) → k + 1 < length xs → next_to xs k ≡ true → false ≡ neighbours_differ keys bytes xs
  unfolding neighbours_differ next_to
  one_alike [] k l h = absurd (omega arith)
  one_alike (d ∷ []) k l h = absurd (omega arith)
  one_alike (d ∷ e ∷ xs) zero l h = sym (ap (λ b. both (not b) (neighbours_differ keys bytes (e ∷ xs))) h)
  one_alike (d ∷ e ∷ xs) (suc k) l h =
      let rest = one_alike (e ∷ xs) k (omega arith) (sym (next_past d (e ∷ xs) k) ∙ h) in
      sym (ap (both (not (alike keys bytes d e))) (sym rest) ∙ both_false (not (alike keys bytes d e)))

  pair_at : (xs ys : List ℕ) (k : ℕ) → IsSubsliceAt 2 xs k ys → alike keys bytes (get_or ys 0 0) (get_or ys 1 0) ≡ next_to xs k
  unfolding next_to
  pair_at xs ys k s =
      let here : k + 0 ≡ k = omega arith in
      λ i. alike keys bytes ((s.2 0 0 (omega arith) ∙ ap (λ (m : ℕ). get_or xs m 0) here) i) (s.2 1 0 (omega arith) i)

  -- what a run over the windows of two answers
  module _ {F : Type 0} (p : Run (windows_steps {A = ℕ})) (g : Mut F (Bor (List ℕ) × Unit {0}) Bool) (f : F) (xs : List ℕ)
      (w : IsWindowsRun p 2 xs) (keeps : CallKeepsClosure g f)
      (says : (x : Bor (List ℕ)) (b : Bool) → Called g f (x, tt) b f → b ≡ not (alike keys bytes (get_or x.now 0 0) (get_or x.now 1 0))) where
    passed : (k : ℕ) (o : std_words.Option (Bor (List ℕ))) → IfSome o (λ x. (length x.now ≡ 2) × (k + 2 ≤ length xs) × IsSubsliceAt 2 xs k x.now)
        → IfSome o (λ x. Called g f (x, tt) true f) → option_map (λ x. get_or x.now 0 0) o ≡ Some (get_or xs k 0) → next_to xs k ≡ false
    passed k None is called e = absurd (none-some _ e)
    passed k (Some x) is called e = sym (pair_at xs x.now k is.2) ∙ not-true _ (sym (says x true called))

    failed : (k : ℕ) (o : std_words.Option (Bor (List ℕ))) → IfSome o (λ x. (length x.now ≡ 2) × (k + 2 ≤ length xs) × IsSubsliceAt 2 xs k x.now)
        → IsSomeAnd o (λ x. Called g f (x, tt) false f) → (k + 1 < length xs) × (next_to xs k ≡ true)
    failed k None is called = absurd called
    failed k (Some x) is called = (omega (arith, is.1), sym (pair_at xs x.now k is.2) ∙ not-false _ (sym (says x false called)))

    pub windows_differ : (r : Bool) → MatchBool r (IsTrue p.whole × AllItemsGive p g f true) (AnyItemGives p g f false) → r ≡ neighbours_differ keys bytes xs
    windows_differ true h = all_differ xs (λ k l. passed k (p.at k) (w.2 k) (h.1 keeps k) (w.3 k 0 (omega (arith, w.1 h.0))))
    windows_differ false h =
        let k = (h keeps).0 in
        let at = failed k (p.at k) (w.2 k) (h keeps).2 in
        one_alike xs k at.0 at.1
