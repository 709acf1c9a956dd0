-- A datum taken out of the bytes is the rules' datum. Assumes nothing.
use mathlib.Core.Path.{◌≡◌, refl, sym, ap, ◌∙◌, subst}
use mathlib.Core.List.{List, [], ◌∷◌, ◌++◌, append_assoc}
use mathlib.Core.Option.{Option, some}
use Prim.Native.Nat.{ℕ, zero, suc, ◌+◌, ◌-◌, ◌≤◌, ◌<◌}
use native.Mathlib.Omega.{arith}
use lib.ListN.{length, get_or, take, drop, length-append}
use lib.Seq.{sets, sets-eq, length-sets, take-append_seam, drop-append-add}
use Rattle.laws.specs.Basics.{join, basics}
use Rattle.laws.proofs.Stores.{sets_in}
use Rattle.rules.specs.Sheet as rules
use Rattle.text_numbers.specs.Answers.{answers}
use Rattle.sheet_parse.specs.declared.Sheet as code
use Rattle.std.specs.Prelude as std
use Rattle.sheet_parse.specs.Parsed.{totals, data_in, bytes_of, ends_of, Parsed, place_before, Within, part_of, parsed_words}
use Rattle.sheet_parse.proofs.SheetLaws.{length-totals}

-- ---- one datum

pub start_first : (ends : List ℕ) (i : ℕ) → i ≡ 0 → 0 ≡ place_before ends i
unfolding parsed_words
start_first ends i e = sym (ap (place_before ends) e)

pub start_later : (ends : List ℕ) (i : ℕ) → (i ≡ 0 → ⊥) → get_or ends (i - 1) 0 ≡ place_before ends i
unfolding parsed_words
start_later ends zero d = absurd (d refl)
start_later ends (suc i) d = let e : suc i - 1 ≡ i = omega arith in ap (λ (n : ℕ). get_or ends n 0) e

pub part_is : (out ends : List ℕ) (i start : ℕ) → start ≡ place_before ends i → take (get_or ends i 0 - start) (drop start out) ≡ part_of out ends i
unfolding parsed_words
part_is out ends i start e = ap (λ (n : ℕ). take (get_or ends i 0 - n) (drop n out)) e

-- ---- the data one behind the other

unfoldable begins : List (List ℕ) → ℕ → ℕ
begins [] i = 0
begins (d ∷ ds) zero = 0
begins (d ∷ ds) (suc i) = length d + begins ds i

ends_at : (at : ℕ) (ds : List (List ℕ)) (i : ℕ) → i < length ds → get_or (totals at ds) i 0 ≡ at + begins ds i + length (get_or ds i [])
unfolding begins parsed_words
ends_at at [] i h = absurd (omega arith)
ends_at at (d ∷ ds) zero h = omega arith
ends_at at (d ∷ ds) (suc i) h = omega (arith, ends_at (at + length d) ds i (omega arith))

begins_at : (at : ℕ) (ds : List (List ℕ)) (i : ℕ) → suc i < length ds → get_or (totals at ds) i 0 ≡ at + begins ds (suc i)
unfolding begins parsed_words
begins_at at [] i h = absurd (omega arith)
begins_at at (d ∷ []) i h = absurd (omega arith)
begins_at at (d ∷ e ∷ ds) zero h = omega arith
begins_at at (d ∷ e ∷ ds) (suc i) h = omega (arith, begins_at (at + length d) (e ∷ ds) i (omega arith))

begins_inside : (ds : List (List ℕ)) (i : ℕ) → i < length ds → begins ds i + length (get_or ds i []) ≤ length (join (λ d. d) ds)
unfolding begins basics
begins_inside [] i h = absurd (omega arith)
begins_inside (d ∷ ds) zero h = omega (arith, length-append d (join (λ d. d) ds))
begins_inside (d ∷ ds) (suc i) h = omega (arith, length-append d (join (λ d. d) ds), begins_inside ds i (omega arith))

datum_in : (ds : List (List ℕ)) (i : ℕ) (rest : List ℕ) → i < length ds → take (length (get_or ds i [])) (drop (begins ds i) (join (λ d. d) ds ++ rest)) ≡ get_or ds i []
unfolding begins basics
datum_in [] i rest h = absurd (omega arith)
datum_in (d ∷ ds) zero rest h =
    ap (take (length d)) (append_assoc d (join (λ d. d) ds) rest) ∙ take-append_seam d (join (λ d. d) ds ++ rest)
datum_in (d ∷ ds) (suc i) rest h =
    ap (take (length (get_or ds i [])))
    (ap (drop (length d + begins ds i)) (append_assoc d (join (λ d. d) ds) rest) ∙ drop-append-add d (join (λ d. d) ds ++ rest) (begins ds i))
    ∙ datum_in ds i rest (omega arith)

begins_first : (ds : List (List ℕ)) → begins ds 0 ≡ 0
unfolding begins
begins_first [] = refl
begins_first (d ∷ ds) = refl

-- ---- as they stand in the two rooms

module _ (out₀ ends₀ : List ℕ) (ds : List (List ℕ)) (room : length (join (λ d. d) ds) ≤ length out₀) (few : length ds ≤ length ends₀) (i : ℕ) (h : i < length ds) where
  end_kept : (k : ℕ) → k < length ds → get_or (sets ends₀ 0 (totals 0 ds)) k 0 ≡ get_or (totals 0 ds) k 0
  end_kept k q =
      let same = length-totals 0 ds in
      let place : k ≡ 0 + k = omega arith in
      ap (λ (n : ℕ). get_or (sets ends₀ 0 (totals 0 ds)) n 0) place ∙ sets_in ends₀ 0 (totals 0 ds) k (omega arith) (omega arith)

  end_is : get_or (sets ends₀ 0 (totals 0 ds)) i 0 ≡ begins ds i + length (get_or ds i [])
  end_is = omega (arith, end_kept i h, ends_at 0 ds i h)

  start_is : place_before (sets ends₀ 0 (totals 0 ds)) i ≡ begins ds i
  unfolding parsed_words
  start_is = by i h
    where
      by : (i : ℕ) → i < length ds → place_before (sets ends₀ 0 (totals 0 ds)) i ≡ begins ds i
      by zero h = sym (begins_first ds)
      by (suc i) h = end_kept i (omega arith) ∙ begins_at 0 ds i h ∙ (let z : 0 + begins ds (suc i) ≡ begins ds (suc i) = omega arith in z)

  within : Within (sets out₀ 0 (join (λ d. d) ds)) (sets ends₀ 0 (totals 0 ds)) i
  within =
      record {
        known = omega (arith, length-sets ends₀ 0 (totals 0 ds));
        rises = omega (arith, start_is, end_is);
        inside = omega (arith, end_is, begins_inside ds i h, length-sets out₀ 0 (join (λ d. d) ds));
      }

  part : part_of (sets out₀ 0 (join (λ d. d) ds)) (sets ends₀ 0 (totals 0 ds)) i ≡ get_or ds i []
  unfolding parsed_words
  part =
      let all = join (λ (d : List ℕ). d) ds in
      let size : get_or (sets ends₀ 0 (totals 0 ds)) i 0 - place_before (sets ends₀ 0 (totals 0 ds)) i ≡ length (get_or ds i []) = omega (arith, start_is, end_is) in
      (λ j. take (size j) (drop (start_is j) (sets-eq all out₀ 0 (omega arith) j))) ∙ datum_in ds i (drop (0 + length all) out₀) h

-- ---- what a caller may use: on what a parse left, each datum of the sheet is found

module _ {t out₀ ends₀ out ends : List ℕ} {r : std.Option code.Sheet} (p : Parsed t out₀ ends₀ out ends r) (s : rules.Sheet) (e : rules.sheet t ≡ some s) (i : ℕ) (h : i < length (rules.data_of s)) where
  room_of : length (join (λ d. d) (rules.data_of s)) ≤ length out₀
  unfolding parsed_words
  room_of = omega (arith, p.room, ap (λ (x : Option rules.Sheet). length (join (λ d. d) (data_in x))) e)

  few_of : length (rules.data_of s) ≤ length ends₀
  unfolding parsed_words
  few_of = omega (arith, p.few, ap (λ (x : Option rules.Sheet). length (data_in x)) e)

  out_is : out ≡ sets out₀ 0 (join (λ d. d) (rules.data_of s))
  unfolding parsed_words answers
  out_is = p.bytes ∙ ap (bytes_of out₀) e

  ends_is : ends ≡ sets ends₀ 0 (totals 0 (rules.data_of s))
  unfolding parsed_words answers
  ends_is = p.places ∙ ap (ends_of ends₀) e

  pub datum_within : Within out ends i
  datum_within =
      subst (λ (o : List ℕ). Within o ends i) (sym out_is)
      (subst (λ (n : List ℕ). Within (sets out₀ 0 (join (λ d. d) (rules.data_of s))) n i) (sym ends_is) (within out₀ ends₀ (rules.data_of s) room_of few_of i h))

  pub datum_is : part_of out ends i ≡ get_or (rules.data_of s) i []
  datum_is = (λ j. part_of (out_is j) (ends_is j) i) ∙ part out₀ ends₀ (rules.data_of s) room_of few_of i h
