-- What a read writes is a datum that put's check accepts: its fields are in their widths and keep 11's rules, it is within
-- 12's numbers, no label is referred to early (13), and its bytes parse back to it. Assumes nothing.
use mathlib.Core.Path.{◌≡◌, refl, sym, ap, ◌∙◌, subst}
use mathlib.Core.Bool.{Bool, true, false}
use mathlib.Core.List.{List, [], append-nil}
use mathlib.Core.Option.{Option, none, some}
use Prim.Native.Nat.{ℕ, ◌+◌, ◌*◌, ◌≤◌, ◌<◌}
use native.Mathlib.Omega.{arith}
use native.Mathlib.Decide.{dec_lt}
use borrow.Author.Tests.{leb-true, le-leb, lt-ltb}
use lib.Dec.{leb, ltb}
use lib.ListN.{length, get_or, get_or-append, get_or-eq_default}
use Rattle.laws.specs.Basics.{every, join, distinct, basics}
use Rattle.laws.proofs.Tests.{both_left, both_right, both_true}
use Rattle.laws.proofs.Lists.{get_d_rows}
use Rattle.laws.proofs.Pointwise.{every_weaker}
use Rattle.laws.proofs.Options.{some_value, none_some}
use Rattle.rules.specs.Numbers.{bits64, most_nodes, most_labels}
use Rattle.rules.specs.Cells.{Scalar, undefined, nil, eof, void, bool, char, number, Value, slot, scalar, Cell, plain, pair, symbol, string, vector}
use Rattle.rules.specs.Nodes.{Node, node_fits, scalar_fits, nodes_rules}
use Rattle.rules.specs.Datum.{Datum, nodes, encode, parse, good, node_within, label_of, refers_early, datum_fits, within_limits, early_reference, datum_rules}
use Rattle.rules.specs.Heap.{Heap, capacity, cell_at}
use Rattle.rules.specs.Layout.{Rooms, cell_words, value_words, words_of, filled, layout_rules}
use Rattle.rules.specs.Sound.{scalar_allowed, cell_allowed, value_allowed, sound_rules}
use Rattle.rules.specs.Read.{Room, Built, labels_for, build, reading_of, reading}
use Rattle.rules.proofs.Datum.{parse_encode}
use Rattle.rules.proofs.LentLaws.{value_width, word_at, cell_word, elements_length}
use Rattle.rules.proofs.Good.{element_at, Good}
use Rattle.read_laws.proofs.Limits.{distinct_below, every_join}
use Rattle.read_laws.proofs.Written.{value_fits, cell_fits, Narrow, node_fine, Written, build_written}

-- ---- what the lent lists hold is in 64 bits

scalar_narrow : (x : Scalar) → scalar_allowed x ≡ true → ((n : ℕ) → x ≡ number n → n < bits64) → scalar_fits x ≡ true
unfolding sound_rules nodes_rules
scalar_narrow undefined a f = refl
scalar_narrow nil a f = refl
scalar_narrow eof a f = refl
scalar_narrow void a f = refl
scalar_narrow (bool b) a f = refl
scalar_narrow (char n) a f = a
scalar_narrow (number n) a f = lt-ltb n bits64 (f n refl)

cell_narrow : (h : Heap) (c : Cell) → cell_allowed h c ≡ true → ((n : ℕ) → c ≡ plain (number n) → n < bits64) → cell_fits c ≡ true
unfolding cell_fits sound_rules
cell_narrow h (plain x) a f = scalar_narrow x a (λ n e. f n (ap plain e))
cell_narrow h (pair x y) a f = refl
cell_narrow h (symbol b) a f = refl
cell_narrow h (string b) a f = refl
cell_narrow h (vector b) a f = refl

value_narrow : (v : Value) → value_allowed v ≡ true → ((n : ℕ) → v ≡ scalar (number n) → n < bits64) → value_fits v ≡ true
unfolding value_fits sound_rules
value_narrow (slot s) a f = refl
value_narrow (scalar x) a f = scalar_narrow x a (λ n e. f n (ap scalar e))

module _ (r : Rooms) (h : Heap) (g : Good h) (fits : capacity h ≤ r.slots) (words : (i : ℕ) → get_or (words_of r.slots h) i 0 < bits64) (elems : (i : ℕ) → get_or (filled (3 * r.elements) (join value_words h.elements)) i 0 < bits64) where
  cell_number : (s n : ℕ) → cell_at h s ≡ plain (number n) → n < bits64
  unfolding layout_rules
  cell_number s n e =
      elim (dec_lt s (capacity h)) [
        | yes low ↦
            let w : get_or (words_of r.slots h) (8 + 8 * s + 1) 0 ≡ n =
            word_at r.slots h s 1 (omega (arith, fits)) (omega arith) ∙ cell_word r.slots h s 1 (omega arith)
            ∙ ap (λ (c : Cell). get_or (cell_words c) 1 0) e
            in
            omega (arith, words (8 + 8 * s + 1), w)
        | no high ↦
            let u : plain undefined ≡ plain (number n) = sym (get_or-eq_default h.cells (plain undefined) (omega arith)) ∙ e in
            let z : ◌≡◌ {A = ℕ} 0 1 = cc in
            absurd (omega arith)
      ]

  element_number : (k n : ℕ) → element_at h k ≡ scalar (number n) → n < bits64
  unfolding layout_rules
  element_number k n e =
      elim (dec_lt k (length h.elements)) [
        | yes low ↦
            let l = join value_words h.elements in
            let w : get_or (filled (3 * r.elements) l) (3 * k + 1) 0 ≡ n =
            get_or-append l _ 0 (3 * k + 1) (omega (arith, elements_length h.elements))
            ∙ get_d_rows 3 value_words value_width h.elements k 1 (scalar undefined) low (omega arith)
            ∙ ap (λ (v : Value). get_or (value_words v) 1 0) e
            in
            omega (arith, elems (3 * k + 1), w)
        | no high ↦
            let u : scalar undefined ≡ scalar (number n) =
            sym (get_or-eq_default h.elements (scalar undefined) (omega arith)) ∙ e
            in
            let z : ◌≡◌ {A = ℕ} 0 1 = cc in
            absurd (omega arith)
      ]

  -- a good heap that stands in lists of 64-bit words
  pub narrow : Narrow h
  narrow =
      record {
        cells = λ s. cell_narrow h (cell_at h s) (g.cells s).allowed (cell_number s);
        elements = λ k. value_narrow (element_at h k) (g.elements k) (element_number k);
      }

-- ---- a reading

-- what put's check asks of a datum, and that the bytes of this one are those of no other
pub record Accepted (d : Datum) : Type 0 where
  pub fits : datum_fits d ≡ true
  pub within : within_limits d ≡ true
  pub early : early_reference d ≡ false
  pub parses : parse (encode d) ≡ good d

fine_fits : (m : ℕ) (n : Node) → node_fine m n ≡ true → node_fits n ≡ true
unfolding node_fine
fine_fits m n e = both_left (node_fits n) _ e

fine_within : (m : ℕ) (n : Node) → node_fine m n ≡ true → node_within n ≡ true
unfolding node_fine
fine_within m n e = both_left (node_within n) _ (both_right (node_fits n) _ e)

fine_labels : (m : ℕ) (n : Node) → node_fine m n ≡ true → every (λ l. ltb l m) (label_of n) ≡ true
unfolding node_fine
fine_labels m n e = both_right (node_within n) _ (both_right (node_fits n) _ e)

written_accepted : (labels : List ℕ) (r : Room) (d : Datum) → length labels ≤ most_labels → Written labels (record { left = most_nodes; begun = [] }) (nodes d) r → Accepted d
unfolding datum_rules basics
written_accepted labels r d few w =
    record { fits = all_fit; within = all_within; early = none_early; parses = parse_encode d all_fit }
  where
    all_fit : datum_fits d ≡ true
    all_fit = every_weaker (node_fine (length labels)) node_fits (fine_fits (length labels)) (nodes d) w.fine

    few_labels : length (distinct (join label_of (nodes d))) ≤ length labels
    few_labels =
        distinct_below (length labels) (join label_of (nodes d))
        (every_join (λ l. ltb l (length labels)) label_of (nodes d)
        (every_weaker (node_fine (length labels)) (λ n. every (λ l. ltb l (length labels)) (label_of n)) (fine_labels (length labels)) (nodes d) w.fine))

    all_within : within_limits d ≡ true
    all_within =
        both_true (le-leb (length (nodes d)) most_nodes (omega (arith, w.spent)))
        (both_true (le-leb (length (distinct (join label_of (nodes d)))) most_labels (omega (arith, few_labels, few)))
        (every_weaker (node_fine (length labels)) node_within (fine_within (length labels)) (nodes d) w.fine))

    none_early : early_reference d ≡ false
    none_early = ap (refers_early []) (sym (append-nil (nodes d))) ∙ w.early []

pub reading_accepted : (h : Heap) → Good h → Narrow h → (v : Value) → value_fits v ≡ true → (d : Datum) → reading h v ≡ some d → Accepted d
unfolding reading
reading_accepted h g n v f d e = go (leb (length (labels_for h v)) most_labels) refl e
  where
    start : Room
    start = record { left = most_nodes; begun = [] }

    by : length (labels_for h v) ≤ most_labels → (o : Option (Built Datum)) → build most_nodes h (labels_for h v) v start ≡ o → reading_of o ≡ some d → Accepted d
    by few none q e = absurd (none_some e)
    by few (some b) q e =
        subst (λ (x : Datum). Accepted x) (some_value e)
        (written_accepted (labels_for h v) b.room b.made few (build_written h g n (labels_for h v) few most_nodes v start b f q))

    go : (b : Bool) → leb (length (labels_for h v)) most_labels ≡ b → elim b as (λ b. Option Datum) [ false ↦ none | true ↦ reading_of (build most_nodes h (labels_for h v) v start) ] ≡ some d → Accepted d
    go false q e = absurd (none_some e)
    go true q e = by (leb-true (length (labels_for h v)) most_labels q) (build most_nodes h (labels_for h v) v start) refl e
