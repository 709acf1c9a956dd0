-- The first two lines and the lines of the data make the rules' sheet, and what is left are its data. Assumes nothing.
use mathlib.Core.Path.{◌≡◌, refl, sym, ap, ◌∙◌}
use mathlib.Core.Bool.{Bool, true, false}
use mathlib.Core.List.{List, [], ◌∷◌, ◌++◌, append_assoc}
use mathlib.Core.Option.{Option, none, some}
use Prim.Native.Nat.{ℕ, zero, suc, ◌+◌, ◌-◌, ◌≤◌}
use native.Mathlib.Omega.{arith}
use borrow.Author.Tests.{eq-eqb, ne_eqb}
use lib.ListN.{length, take, drop, length-append}
use Rattle.laws.specs.Basics.{ascii, join, zeros, basics}
use Rattle.rules.specs.Sheet as rules
use Rattle.rules.specs.Sheet.{Line, lines, then_read, node_lines, header_line, of_lines, sheet, data_from, sheet_rules}
use Rattle.text_numbers.specs.Answers.{written}
use Rattle.sheet_keys.specs.Places.{first_from}
use Rattle.sheet_keys.proofs.LineLaws.{and_line, only_empty, line_found, line_missing}
use Rattle.sheet_nodes.proofs.NodeLaws.{then_none, then_some}
use Rattle.sheet_parse.specs.declared.Sheet as code
use Rattle.sheet_parse.specs.declared.Front as code_front
use Rattle.sheet_parse.specs.declared.Nodes.{Nodes}
use Rattle.std.specs.Prelude as std
use Rattle.std.specs.Prelude.{None, Some}
use Rattle.sheet_parse.specs.Parsed.{sheet_of, totals, data_in, answer_of, bytes_of, ends_of, Parsed, parsed_words}
use Rattle.sheet_parse.specs.Steps.{Numbered, line_number, header_at, Front, slots_after, front_of, FrontRead, begun_at, nodes_from, ends_from, bytes_from, Outcome, come_to, nodes_of, outcome, count_of, used_of, NodesRead, steps_words}

-- ---- the sheet

unfoldable with_nodes : List ℕ → Front → Option rules.Sheet
with_nodes t f =
    then_read (nodes_from t f.next) (λ ls. some (record { chunk = f.chunk; slots = f.slots; nodes = ls }))

-- no second line
one_line : (t : List ℕ) → then_read (only_empty t) of_lines ≡ none
unfolding only_empty sheet_rules
one_line [] = refl
one_line (c ∷ cs) = refl

two_lines : (a t : List ℕ) → then_read (and_line a (only_empty t)) of_lines ≡ none
unfolding only_empty and_line sheet_rules
two_lines a [] = refl
two_lines a (c ∷ cs) = refl

no_front : (o : Option ℕ) (t : List ℕ) (n : ℕ) → header_at (ascii "slots=") t n ≡ none → then_read (then_read (then_read o (λ c. some (record { number = c; next = n }))) (slots_after t)) (with_nodes t) ≡ none
unfolding sheet_rules steps_words
no_front none t n e = refl
no_front (some c) t n e =
    ap (λ (x : Option Numbered). then_read (then_read x (λ b. some (record { chunk = c; slots = b.number; next = b.next }))) (with_nodes t)) e

-- chunk and slots are read, then the nodes
in_order : (t : List ℕ) (n m : ℕ) (x y : Option ℕ) → header_at (ascii "slots=") t n ≡ then_read y (λ s. some (record { number = s; next = m })) → then_read (then_read (then_read x (λ c. some (record { number = c; next = n }))) (slots_after t)) (with_nodes t) ≡ then_read x (λ c. then_read y (λ s. with_nodes t (record { chunk = c; slots = s; next = m })))
unfolding sheet_rules steps_words
in_order t n m none y e = refl
in_order t n m (some c) y e =
    ap (λ (x : Option Numbered). then_read (then_read x (λ b. some (record { chunk = c; slots = b.number; next = b.next }))) (with_nodes t)) e
    ∙ by y
  where
    by : (y : Option ℕ) → then_read (then_read (then_read y (λ s. some (record { number = s; next = m }))) (λ (b : Numbered). some (record { chunk = c; slots = b.number; next = b.next }))) (with_nodes t) ≡ then_read y (λ s. with_nodes t (record { chunk = c; slots = s; next = m }))
    by none = refl
    by (some s) = refl

all_lines : (t a b : List ℕ) (m : ℕ) → then_read (and_line a (and_line b (lines (drop m t)))) of_lines ≡ then_read (header_line (ascii "chunk=") a) (λ c. then_read (header_line (ascii "slots=") b) (λ s. with_nodes t (record { chunk = c; slots = s; next = m })))
unfolding and_line with_nodes sheet_rules steps_words
all_lines t a b m = by (lines (drop m t)) (header_line (ascii "chunk=") a) (header_line (ascii "slots=") b) refl refl
  where
    by : (o : Option (List (List ℕ))) (x y : Option ℕ) → header_line (ascii "chunk=") a ≡ x → header_line (ascii "slots=") b ≡ y → then_read (and_line a (and_line b o)) of_lines ≡ then_read x (λ c. then_read y (λ s. then_read (then_read o node_lines) (λ ls. some (record { chunk = c; slots = s; nodes = ls }))))
    by none none y p q = refl
    by none (some c) none p q = refl
    by none (some c) (some s) p q = refl
    by (some ts) x y p q = λ j. then_read (p j) (λ c. then_read (q j) (λ s. then_read (node_lines ts) (λ ls. some (record { chunk = c; slots = s; nodes = ls }))))

sheet_told : (t : List ℕ) → sheet t ≡ then_read (front_of t) (with_nodes t)
unfolding sheet_rules steps_words
sheet_told t = by (first_from 10 0 t) refl
  where
    by_second : (e : ℕ) → first_from 10 0 t ≡ some e → (o : Option ℕ) → first_from 10 (e + 1) (drop (e + 1) t) ≡ o → sheet t ≡ then_read (front_of t) (with_nodes t)
    by_second e q none k =
        let a = take (e - 0) t in
        ap (λ (o : Option (List (List ℕ))). then_read o of_lines) (line_found t 0 e q ∙ ap (and_line a) (line_missing t (e + 1) k))
        ∙ two_lines a (drop (e + 1) t)
        ∙ sym
        (ap (λ (x : Option Numbered). then_read (then_read x (slots_after t)) (with_nodes t)) (then_some (line_number (ascii "chunk=") t 0) q)
        ∙ no_front (header_line (ascii "chunk=") a) t (e + 1) (then_none (line_number (ascii "slots=") t (e + 1)) k))
    by_second e q (some d) k =
        let a = take (e - 0) t in
        let b = take (d - (e + 1)) (drop (e + 1) t) in
        ap (λ (o : Option (List (List ℕ))). then_read o of_lines) (line_found t 0 e q ∙ ap (and_line a) (line_found t (e + 1) d k))
        ∙ all_lines t a b (d + 1)
        ∙ sym
        (ap (λ (x : Option Numbered). then_read (then_read x (slots_after t)) (with_nodes t)) (then_some (line_number (ascii "chunk=") t 0) q)
        ∙ in_order t (e + 1) (d + 1) (header_line (ascii "chunk=") a) (header_line (ascii "slots=") b) (then_some (line_number (ascii "slots=") t (e + 1)) k))

    by : (o : Option ℕ) → first_from 10 0 t ≡ o → sheet t ≡ then_read (front_of t) (with_nodes t)
    by none q =
        ap (λ (o : Option (List (List ℕ))). then_read o of_lines) (line_missing t 0 q) ∙ one_line t
        ∙ sym (ap (λ (x : Option Numbered). then_read (then_read x (slots_after t)) (with_nodes t)) (then_none (line_number (ascii "chunk=") t 0) q))
    by (some e) q = by_second e q (first_from 10 (e + 1) (drop (e + 1) t)) refl

-- ---- the data

data_bytes : (begun : List ℕ) (wants : ℕ) (ls : List Line) → join (λ d. d) (data_from begun wants ls) ≡ begun ++ bytes_from ls
unfolding sheet_rules steps_words basics
data_bytes [] wants [] = refl
data_bytes (b ∷ bs) wants [] = refl
data_bytes begun wants (l ∷ ls) = by (wants - 1 + l.follow) (data_bytes [] 1 ls) (λ n. data_bytes (begun ++ l.node) (suc n) ls)
  where
    by : (w : ℕ) → join (λ d. d) (data_from [] 1 ls) ≡ bytes_from ls → ((n : ℕ) → join (λ d. d) (data_from (begun ++ l.node) (suc n) ls) ≡ (begun ++ l.node) ++ bytes_from ls) → join (λ (d : List ℕ). d) (elim w [ zero ↦ (begun ++ l.node) ∷ data_from [] 1 ls | suc n ↦ data_from (begun ++ l.node) (suc n) ls ]) ≡ begun ++ (l.node ++ bytes_from ls)
    by zero ended on = ap (λ (x : List ℕ). (begun ++ l.node) ++ x) ended ∙ append_assoc begun l.node (bytes_from ls)
    by (suc n) ended on = on n ∙ append_assoc begun l.node (bytes_from ls)

data_ends : (start : ℕ) (begun : List ℕ) (wants : ℕ) (ls : List Line) → totals start (data_from begun wants ls) ≡ ends_from start (start + length begun) wants ls
unfolding sheet_rules steps_words parsed_words
data_ends start [] wants [] =
    let e : start ≡ start + 0 = omega arith in
    sym (ap (λ (b : Bool). elim b [ true ↦ [] | false ↦ (start + 0) ∷ [] ]) (eq-eqb start (start + 0) e))
data_ends start (b ∷ bs) wants [] =
    let d : start ≡ start + suc (length bs) → ⊥ = λ q. omega arith in
    sym (ap (λ (c : Bool). elim c [ true ↦ [] | false ↦ (start + suc (length bs)) ∷ [] ]) (ne_eqb start (start + suc (length bs)) d))
data_ends start begun wants (l ∷ ls) =
    by (wants - 1 + l.follow) (data_ends (start + length (begun ++ l.node)) [] 1 ls) (λ n. data_ends start (begun ++ l.node) (suc n) ls)
  where
    by : (w : ℕ) → totals (start + length (begun ++ l.node)) (data_from [] 1 ls) ≡ ends_from (start + length (begun ++ l.node)) (start + length (begun ++ l.node) + 0) 1 ls → ((n : ℕ) → totals start (data_from (begun ++ l.node) (suc n) ls) ≡ ends_from start (start + length (begun ++ l.node)) (suc n) ls) → totals start (elim w [ zero ↦ (begun ++ l.node) ∷ data_from [] 1 ls | suc n ↦ data_from (begun ++ l.node) (suc n) ls ]) ≡ elim w [ zero ↦ (start + length begun + length l.node) ∷ ends_from (start + length begun + length l.node) (start + length begun + length l.node) 1 ls | suc n ↦ ends_from start (start + length begun + length l.node) (suc n) ls ]
    by zero ended on =
        let here : start + length (begun ++ l.node) ≡ start + length begun + length l.node = omega (arith, length-append begun l.node) in
        let there : start + length (begun ++ l.node) + 0 ≡ start + length begun + length l.node = omega (arith, length-append begun l.node) in
        λ j. here j ∷ (ended ∙ (λ i. ends_from (here i) (there i) 1 ls)) j
    by (suc n) ended on =
        let here : start + length (begun ++ l.node) ≡ start + length begun + length l.node = omega (arith, length-append begun l.node) in
        on n ∙ ap (λ (u : ℕ). ends_from start u (suc n) ls) here

pub length-totals : (at : ℕ) (ds : List (List ℕ)) → length (totals at ds) ≡ length ds
unfolding parsed_words
length-totals at [] = refl
length-totals at (d ∷ ds) = ap suc (length-totals (at + length d) ds)

-- ---- the answer

module _ {t out₀ ends₀ out ends : List ℕ} {r : std.Option code.Sheet} where
  parsed_as : (x : Option rules.Sheet) → sheet t ≡ x → r ≡ answer_of x → out ≡ bytes_of out₀ x → ends ≡ ends_of ends₀ x → length (join (λ d. d) (data_in x)) ≤ length out₀ → length (data_in x) ≤ length ends₀ → Parsed t out₀ ends₀ out ends r
  parsed_as x e a b c d f =
      record {
        answer = a ∙ sym (ap answer_of e);
        bytes = b ∙ sym (ap (bytes_of out₀) e);
        places = c ∙ sym (ap (ends_of ends₀) e);
        room = omega (arith, d, ap (λ (x : Option rules.Sheet). length (join (λ d. d) (data_in x))) e);
        few = omega (arith, f, ap (λ (x : Option rules.Sheet). length (data_in x)) e);
      }

module _ {t out₀ ends₀ out ends : List ℕ} where
  pub parsed_bad : sheet t ≡ none → out ≡ zeros (length out₀) → ends ≡ zeros (length ends₀) → Parsed t out₀ ends₀ out ends None
  unfolding parsed_words basics
  parsed_bad e o p = parsed_as none e refl o p (omega arith) (omega arith)

module _ (t out₀ ends₀ : List ℕ) where
  pub front_bad : FrontRead t None → sheet t ≡ none
  front_bad h = sheet_told t ∙ then_none (with_nodes t) (sym h.is)

  module _ (f : code_front.Front) (h : FrontRead t (Some f)) where
    front_good : sheet t ≡ then_read (nodes_from t f.next) (λ ls. some (record { chunk = f.chunk; slots = f.slots; nodes = ls }))
    unfolding with_nodes
    front_good = sheet_told t ∙ then_some (with_nodes t) (sym h.is)

    module _ (out ends : List ℕ) where
      pub nodes_bad : NodesRead t f.next out₀ ends₀ out ends None → Parsed t out₀ ends₀ out ends None
      unfolding steps_words
      nodes_bad d = by (nodes_from t f.next) refl d.is
        where
          by : (o : Option (List Line)) → nodes_from t f.next ≡ o → come_to None out ends ≡ outcome out₀ ends₀ (begun_at f.next) o → Parsed t out₀ ends₀ out ends None
          by none k w = parsed_bad (front_good ∙ then_none _ k) (ap (λ (x : Outcome). x.bytes) w) (ap (λ (x : Outcome). x.ends) w)
          by (some ls) k w =
              let a : None ≡ nodes_of _ _ = ap (λ (x : Outcome). x.answer) w in
              let z : ◌≡◌ {A = ℕ} 0 1 = cc in
              absurd (omega arith)

      pub nodes_good : (n : Nodes) → NodesRead t f.next out₀ ends₀ out ends (Some n) → Parsed t out₀ ends₀ out ends (sheet_of f.chunk f.slots n.count)
      unfolding steps_words parsed_words sheet_rules
      nodes_good n d = by (nodes_from t f.next) refl d.is
        where
          by : (o : Option (List Line)) → nodes_from t f.next ≡ o → come_to (Some n) out ends ≡ outcome out₀ ends₀ (begun_at f.next) o → Parsed t out₀ ends₀ out ends (sheet_of f.chunk f.slots n.count)
          by none k w =
              let a : Some n ≡ None = ap (λ (x : Outcome). x.answer) w in
              let z : ◌≡◌ {A = ℕ} 0 1 = cc in
              absurd (omega arith)
          by (some ls) k w =
              let number : n.count ≡ 0 + length (ends_from 0 0 1 ls) = ap (λ (x : Outcome). count_of x.answer) w in
              let size : n.used ≡ 0 + length (bytes_from ls) = ap (λ (x : Outcome). used_of x.answer) w in
              let ds = data_from [] 1 ls in
              let bytes : join (λ d. d) ds ≡ bytes_from ls = data_bytes [] 1 ls in
              let places : totals 0 ds ≡ ends_from 0 0 1 ls = data_ends 0 [] 1 ls in
              let all : n.count ≡ length ds = omega (arith, number, ap length places, length-totals 0 ds) in
              parsed_as (some (record { chunk = f.chunk; slots = f.slots; nodes = ls }))
              (front_good ∙ then_some _ k)
              (ap (sheet_of f.chunk f.slots) all)
              (ap (λ (x : Outcome). x.bytes) w ∙ sym (ap (written out₀ 0) bytes))
              (ap (λ (x : Outcome). x.ends) w ∙ sym (ap (written ends₀ 0) places))
              (omega (arith, ap length bytes, size, d.room))
              (omega (arith, all, d.few))

-- ---- what a caller may use

-- the text is a sheet, told by these numbers
pub record IsSheet (t : List ℕ) (chunk slots count : ℕ) : Type 0 where
  pub of : rules.Sheet
  pub is : sheet t ≡ some of
  pub chunk_is : chunk ≡ of.chunk
  pub slots_is : slots ≡ of.slots
  pub count_is : count ≡ length (rules.data_of of)

module _ {t out₀ ends₀ out ends : List ℕ} {r : std.Option code.Sheet} (p : Parsed t out₀ ends₀ out ends r) where
  pub bad_sheet : r ≡ None → sheet t ≡ none
  unfolding parsed_words
  bad_sheet e = by (sheet t) (sym e ∙ p.answer)
    where
      by : (x : Option rules.Sheet) → None ≡ answer_of x → x ≡ none
      by none a = refl
      by (some s) a = let z : ◌≡◌ {A = ℕ} 0 1 = cc in absurd (omega arith)

  pub good_sheet : (c s n : ℕ) → r ≡ sheet_of c s n → IsSheet t c s n
  unfolding parsed_words
  good_sheet c s n e = by (sheet t) refl (sym e ∙ p.answer)
    where
      by : (x : Option rules.Sheet) → sheet t ≡ x → sheet_of c s n ≡ answer_of x → IsSheet t c s n
      by none q a = let z : ◌≡◌ {A = ℕ} 0 1 = cc in absurd (omega arith)
      by (some x) q a =
          let same : ◌≡◌ {A = code.Sheet} (record { chunk = c; slots = s; count = n }) (record { chunk = x.chunk; slots = x.slots; count = length (rules.data_of x) }) = cc in
          record {
            of = x;
            is = q;
            chunk_is = ap (λ (s : code.Sheet). s.chunk) same;
            slots_is = ap (λ (s : code.Sheet). s.slots) same;
            count_is = ap (λ (s : code.Sheet). s.count) same;
          }
