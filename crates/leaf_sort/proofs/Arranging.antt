-- What the arranged list says of the entries: where no two share a key it is one list, and its neighbours tell whether two do.
-- Document 01: "the symbol table has one entry a (name, scope)". Assumes nothing.
use mathlib.Core.Path.{◌≡◌, sym, ap, ◌∙◌}
use mathlib.Core.Bool.{true, false}
use mathlib.Core.List.{List}
use Prim.Native.Nat.{ℕ, ◌<◌}
use native.Mathlib.Omega.{arith}
use lib.ListN.{length, get_or}
use Rattle.laws.specs.Basics.{count, rising}
use Rattle.laws.proofs.Lists.{length-rising, get_or_rising, count_rising_in}
use Rattle.laws.proofs.Sorting.{counted_twice, Stands, stands, permuted_all, permuted_sym, permuted_trans, sorted_determined}
use Rattle.leaf_names.specs.declared.Key as code
use Rattle.leaf_names.specs.Keys.{key_of, Goes, neighbours_differ}
use Rattle.leaf_names.proofs.Ordered.{Trichotomy, less, equal, more, trichotomy}
use Rattle.leaf_names.proofs.Keyed.{goes_both, Twice, distinct_all, distinct_twice}
use Rattle.leaf_sort.specs.Arranged.{Arranged}

module _ (keys : List code.Key) (bytes : List ℕ) where
  -- where no two entries share a key, the arranged list is one
  pub sort_determined : {xs ys zs : List ℕ} → Arranged (Goes keys bytes) xs ys → Arranged (Goes keys bytes) xs zs
      → ((d e : ℕ) → 0 < count d xs → 0 < count e xs → key_of keys bytes d ≡ key_of keys bytes e → d ≡ e) → ys ≡ zs
  sort_determined {xs} {ys} {zs} a b once =
      sorted_determined (Goes keys bytes) ys zs (permuted_trans (permuted_sym a.permuted) b.permuted) a.sorted b.sorted
      (λ d e p q g h. once d e (omega (arith, a.permuted.counts d)) (omega (arith, a.permuted.counts e)) (goes_both keys bytes d e g h))

  -- ---- "one entry a (name, scope)": the entries 0, 1, .., n of them, sorted, and their neighbours looked at

  module _ (n : ℕ) (ys : List ℕ) (a : Arranged (Goes keys bytes) (rising 0 n) ys) where
    place : (e : ℕ) → e < n → Stands e ys
    place e h = stands e ys (omega (arith, a.permuted.counts e, count_rising_in 0 n e (omega arith) (omega arith)))

    entry : (k : ℕ) → k < length ys → get_or ys k 0 < n
    entry =
        permuted_all (λ e. e < n) a.permuted
        (λ k h. omega (arith, length-rising 0 n, get_or_rising 0 n k 0 (omega (arith, length-rising 0 n))))

    pub one_each : neighbours_differ keys bytes ys ≡ true → (d e : ℕ) → d < n → e < n
        → key_of keys bytes d ≡ key_of keys bytes e → d ≡ e
    one_each h d e hd he q = by (trichotomy p.at r.at)
      where
        p : Stands d ys
        p = place d hd

        r : Stands e ys
        r = place e he

        keyed : key_of keys bytes (get_or ys p.at 0) ≡ key_of keys bytes (get_or ys r.at 0)
        keyed = ap (key_of keys bytes) p.there ∙ q ∙ sym (ap (key_of keys bytes) r.there)

        by : Trichotomy p.at r.at → d ≡ e
        by (less l) =
            absurd
            (distinct_all keys bytes ys a.sorted h
            (record { early = p.at; late = r.at; rising = l; inside = r.inside; one_key = keyed }))
        by (equal l) = sym p.there ∙ ap (λ (k : ℕ). get_or ys k 0) l ∙ r.there
        by (more l) =
            absurd
            (distinct_all keys bytes ys a.sorted h
            (record { early = r.at; late = p.at; rising = l; inside = p.inside; one_key = sym keyed }))

    -- two different entries under one key
    pub record Clash : Type 0 where
      pub first : ℕ
      pub second : ℕ
      pub first_in : first < n
      pub second_in : second < n
      pub apart : first ≡ second → ⊥
      pub one_key : key_of keys bytes first ≡ key_of keys bytes second

    pub two_clash : neighbours_differ keys bytes ys ≡ false → Clash
    two_clash h =
        record {
          first = get_or ys t.early 0;
          second = get_or ys t.late 0;
          first_in = entry t.early (omega (arith, t.rising, t.inside));
          second_in = entry t.late t.inside;
          apart = apart;
          one_key = t.one_key;
        }
      where
        t : Twice keys bytes ys
        t = distinct_twice keys bytes ys h

        apart : get_or ys t.early 0 ≡ get_or ys t.late 0 → ⊥
        apart e =
            omega (
              arith,
              counted_twice ys t.early t.late t.rising t.inside e,
              a.permuted.counts (get_or ys t.late 0),
              count_rising_in 0 n (get_or ys t.late 0) (omega arith) (omega (arith, entry t.late t.inside)),
            )
