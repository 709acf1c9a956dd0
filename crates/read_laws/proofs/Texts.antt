-- Bytes that are UTF-8 are bytes: every range of RFC 3629's grammar ends below 256. Document 01: "Strings and names are UTF-8
-- by RFC 3629". Assumes nothing.
use mathlib.Core.Path.{◌≡◌, refl, sym, ap, ◌∙◌}
use mathlib.Core.Bool.{Bool, true, false}
use mathlib.Core.List.{List, [], ◌∷◌}
use mathlib.Core.Option.{Option, none, some}
use Prim.Native.Nat.{ℕ}
use native.Mathlib.Omega.{arith}
use borrow.Author.Tests.{leb-true, lt-ltb}
use lib.Dec.{leb, ltb}
use Rattle.laws.specs.Basics.{both, every, find, basics}
use Rattle.laws.proofs.Tests.{true≢false, both_left, both_right, both_true}
use Rattle.laws.proofs.Pointwise.{every_all, find_some}
use Rattle.laws.proofs.Options.{some_value, none_some}
use Rattle.rules.specs.Utf8.{Range, ◌to◌, Row, rows, within, follows, utf8, utf8_after, utf8_rules}
use Rattle.rules.specs.Nodes.{bytes, nodes_rules}

range_small : Range → Bool
range_small (a to b) = leb b 255

row_small : Row → Bool
row_small r = both (range_small r.first) (every range_small r.rest)

rows_small : every row_small rows ≡ true
unfolding row_small range_small rows basics
rows_small = refl

in_range : (r : Range) (b : ℕ) → range_small r ≡ true → within r b ≡ true → ltb b 256 ≡ true
unfolding range_small within
in_range (x to y) b s w =
    lt-ltb b 256 (omega (arith, leb-true y 255 s, leb-true b y (both_right (leb x b) _ w)))

-- a first byte is small, and so are the ranges that must follow it
record First (b : ℕ) (rs : List Range) : Type 0 where
  small : ltb b 256 ≡ true
  after : every range_small rs ≡ true

first : (b : ℕ) (rs : List Range) → follows b ≡ some rs → First b rs
unfolding follows row_small basics
first b rs e = go (find (λ (r : Row). within r.first b) rows) refl e
  where
    no_row : Row
    no_row = record { first = 0 to 0; rest = [] }

    go : (o : Option Row) → find (λ (r : Row). within r.first b) rows ≡ o → elim o as (λ o. Option (List Range)) [ none ↦ none | some r ↦ some r.rest ] ≡ some rs → First b rs
    go none q e = absurd (none_some e)
    go (some r) q e =
        let f = find_some (λ (r : Row). within r.first b) no_row rows r q in
        let s : row_small r ≡ true = ap row_small (sym f.is) ∙ every_all row_small no_row rows rows_small f.place f.below in
        record {
          small = in_range r.first b (both_left (range_small r.first) _ s) f.holds;
          after = ap (every range_small) (sym (some_value e)) ∙ both_right (range_small r.first) _ s;
        }

after_bytes : (rs : List Range) (bs : List ℕ) → every range_small rs ≡ true → utf8_after rs bs ≡ true → bytes bs ≡ true
unfolding utf8_after nodes_rules basics
after_bytes [] [] s h = refl
after_bytes (r ∷ rs) [] s h = refl
after_bytes [] (b ∷ bs) s h = go (follows b) refl (λ rs s h. after_bytes rs bs s h) h
  where
    go : (o : Option (List Range)) → follows b ≡ o → ((rs : List Range) → every range_small rs ≡ true → utf8_after rs bs ≡ true → bytes bs ≡ true) → elim o as (λ o. Bool) [ none ↦ false | some rs ↦ utf8_after rs bs ] ≡ true → bytes (b ∷ bs) ≡ true
    go none q again h = absurd (true≢false (sym h))
    go (some rs) q again h = let f = first b rs q in both_true f.small (again rs f.after h)
after_bytes (r ∷ rs) (b ∷ bs) s h =
    both_true (in_range r b (both_left (range_small r) _ s) (both_left (within r b) _ h))
    (after_bytes rs bs (both_right (range_small r) _ s) (both_right (within r b) _ h))

pub utf8_bytes : (bs : List ℕ) → utf8 bs ≡ true → bytes bs ≡ true
unfolding utf8_rules basics
utf8_bytes bs h = after_bytes [] bs refl h
