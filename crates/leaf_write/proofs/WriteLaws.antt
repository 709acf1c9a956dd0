-- Bytes stored as far as the output reaches, turn by turn, and the nodes that they make. Assumes nothing.
use mathlib.Core.Path.{◌≡◌, refl, sym, ap, ◌∙◌}
use mathlib.Core.Bool.{Bool}
use mathlib.Core.List.{List, [], ◌∷◌}
use Prim.Native.Nat.{ℕ, zero, suc, ◌+◌, ◌-◌, ◌/◌, ◌%◌, ◌≤◌, ◌<◌}
use native.Mathlib.Omega.{arith}
use borrow.Author.Tests.{eq-eqb, ne_eqb}
use lib.ListN.{length, set, take, drop}
use Rattle.std.specs.Prelude.{Option, Some, None, min}
use Rattle.std.specs.Int.{to_le_bytes, w64}
use lib.Seq.{sets, set_out}
use Rattle.laws.specs.Basics.{choose, little, basics}
use Rattle.laws.proofs.Bytes.{length-little}
use Rattle.laws.proofs.Writing.{sets_append}
use Rattle.rules.specs.Cells.{Scalar, undefined, nil, eof, void, bool, char, number, bit}
use Rattle.rules.specs.Layout.{scalar_words, layout_rules}
use Rattle.rules.specs.Nodes.{write_text, write_scalar, nodes_rules}
use Rattle.leaf_rooms.specs.Rooms.{stored}
use Rattle.leaf_write.specs.declared.Page.{Page}
use Rattle.leaf_write.specs.Pages.{noted, Noted}

-- ---- past the end nothing is stored

sets_past : (l : List ℕ) (at : ℕ) (t : List ℕ) → length l ≤ at → sets l at t ≡ l
sets_past l at [] h = refl
sets_past l at (x ∷ t) h =
    ap (λ (m : List ℕ). sets m (suc at) t) (set_out l at x h) ∙ sets_past l (suc at) t (omega arith)

pub stored_past : (l : List ℕ) (at : ℕ) (t : List ℕ) → length l ≤ at → stored l at t ≡ l
unfolding stored
stored_past l at t h = sets_past l at t h

-- what has no place can be left out
pub stored_part : (l : List ℕ) (at : ℕ) (t : List ℕ) (n : ℕ) → n ≡ min (length t) (length l - at) → stored l at (take n t) ≡ stored l at t
unfolding stored
stored_part l at [] zero e = refl
stored_part l at [] (suc n) e = refl
stored_part l at (x ∷ t) zero e = sym (sets_past l at (x ∷ t) (omega arith))
stored_part l at (x ∷ t) (suc n) e =
    stored_part (set l at x) (suc at) t n (omega (arith, lib.ListN.length-set l at x))

-- ---- a number's bytes: what was to write is what is left to write

pub little_start : (l : List ℕ) (at w n : ℕ) → stored l (at + 0) (little (w - 0) n) ≡ stored l at (little w n)
little_start l at w n =
    let a : at + 0 ≡ at = omega arith in
    let b : w - 0 ≡ w = omega arith in
    λ j. stored l (a j) (little (b j) n)

pub little_on : (l : List ℕ) (at w i m : ℕ) → i < w → stored (set l (at + i) (m % 256)) (at + (i + 1)) (little (w - (i + 1)) (m / 256)) ≡ stored l (at + i) (little (w - i) m)
unfolding stored basics
little_on l at w i m h =
    let a : at + (i + 1) ≡ suc (at + i) = omega arith in
    let b : suc (w - (i + 1)) ≡ w - i = omega arith in
    ap (λ (k : ℕ). sets (set l (at + i) (m % 256)) k (little (w - (i + 1)) (m / 256))) a
    ∙ ap (λ (k : ℕ). sets l (at + i) (little k m)) b

pub little_done : (l : List ℕ) (at w i m : ℕ) → w ≤ i → l ≡ stored l (at + i) (little (w - i) m)
unfolding stored basics
little_done l at w i m h =
    let b : 0 ≡ w - i = omega arith in
    ap (λ (k : ℕ). sets l (at + i) (little k m)) b

-- the same of all eight bytes

take_little : (w k n : ℕ) → w ≤ k → take w (little k n) ≡ little w n
unfolding little
take_little zero k n h = refl
take_little (suc w) zero n h = absurd (omega arith)
take_little (suc w) (suc k) n h = ap (λ (l : List ℕ). n % 256 ∷ l) (take_little w k (n / 256) (omega arith))

all_bytes : (n : ℕ) → to_le_bytes w64 n ≡ little 8 n
unfolding little
all_bytes n =
    let b : n / 256 / 256 ≡ n / 65536 = omega arith in
    let c : n / 65536 / 256 ≡ n / 16777216 = omega arith in
    let d : n / 16777216 / 256 ≡ n / 4294967296 = omega arith in
    let e : n / 4294967296 / 256 ≡ n / 1099511627776 = omega arith in
    let f : n / 1099511627776 / 256 ≡ n / 281474976710656 = omega arith in
    let g : n / 281474976710656 / 256 ≡ n / 72057594037927936 = omega arith in
    grind (arith, b, c, d, e, f, g)

pub low_bytes : (w n : ℕ) (l : List ℕ) → w ≤ 8 → l ≡ to_le_bytes w64 n → take w l ≡ little w n
low_bytes w n l h e = ap (λ (l : List ℕ). take w l) (e ∙ all_bytes n) ∙ take_little w 8 n h

-- ---- nodes

-- none is left
pub noted_none : (out bs : List ℕ) (p : Page) {r : Option Page} → p.left ≡ 0 → r ≡ None → Noted out bs p out r
unfolding noted
noted_none out bs p e none =
    let b = sym (eq-eqb p.left 0 e) in
    record {
      page_is =
          none ∙ ap (λ (t : Bool). choose t None (Some (record { left = p.left - 1; at = p.at + length bs }))) b;
      out_is = ap (λ (t : Bool). choose t out (stored out p.at bs)) b;
    }

-- one is spent
pub noted_one : (out bs : List ℕ) (p : Page) (after : List ℕ) (left k : ℕ) → (1 ≤ p.left) × (left ≡ p.left - 1) → after ≡ stored out p.at bs → k ≡ length bs → Noted out bs p after (Some (record { left = left; at = p.at + k }))
unfolding noted
noted_one out bs p after left k (some_left, less) e size =
    let b = sym (ne_eqb p.left 0 (λ q. omega (arith, some_left, q))) in
    record {
      page_is =
          (λ i. Some (record { left = less i; at = p.at + size i }))
          ∙ ap (λ (t : Bool). choose t None (Some (record { left = p.left - 1; at = p.at + length bs }))) b;
      out_is = e ∙ ap (λ (t : Bool). choose t out (stored out p.at bs)) b;
    }

pub field_stored : (out : List ℕ) (at kind w n : ℕ) → stored (set out at kind) (at + 1) (little w n) ≡ stored out at (kind ∷ little w n)
unfolding stored
field_stored out at kind w n =
    let a : at + 1 ≡ suc at = omega arith in
    ap (λ (k : ℕ). sets (set out at kind) k (little w n)) a

pub field_size : (kind w n : ℕ) → 1 + w ≡ length (kind ∷ little w n)
field_size kind w n = omega (arith, length-little w n)

pub text_stored : (out : List ℕ) (at kind : ℕ) (t : List ℕ) → stored (stored (set out at kind) (at + 1) (little 4 (length t))) (at + 5) t ≡ stored out at (kind ∷ write_text t)
unfolding stored nodes_rules
text_stored out at kind t =
    let a : at + 1 ≡ suc at = omega arith in
    let b : at + 5 ≡ suc at + length (little 4 (length t)) = omega (arith, length-little 4 (length t)) in
    (λ i. sets (sets (set out at kind) (a i) (little 4 (length t))) (b i) t) ∙ sets_append (set out at kind) (suc at) (little 4 (length t)) t

pub text_size : (kind : ℕ) (t : List ℕ) → 5 + length t ≡ length (kind ∷ write_text t)
unfolding nodes_rules
text_size kind t = omega (arith, lib.ListN.length-append (little 4 (length t)) t, length-little 4 (length t))

-- ---- a scalar by its words

module _ (k a b : ℕ) where
  abbrev words : List ℕ
  words = k ∷ a ∷ b ∷ []

  pub kind_small : (x : Scalar) → words ≡ scalar_words x → k < 7
  unfolding layout_rules
  kind_small undefined e = let q : k ≡ 0 = cc in omega arith
  kind_small nil e = let q : k ≡ 1 = cc in omega arith
  kind_small eof e = let q : k ≡ 2 = cc in omega arith
  kind_small void e = let q : k ≡ 3 = cc in omega arith
  kind_small (bool t) e = let q : k ≡ 4 = cc in omega arith
  kind_small (char n) e = let q : k ≡ 5 = cc in omega arith
  kind_small (number n) e = let q : k ≡ 6 = cc in omega arith

  pub scalar_bare : (x : Scalar) → words ≡ scalar_words x → k < 4 → k ∷ little 0 a ≡ write_scalar x
  unfolding layout_rules nodes_rules basics
  scalar_bare undefined e h = let q : k ≡ 0 = cc in ap (λ (n : ℕ). n ∷ []) q
  scalar_bare nil e h = let q : k ≡ 1 = cc in ap (λ (n : ℕ). n ∷ []) q
  scalar_bare eof e h = let q : k ≡ 2 = cc in ap (λ (n : ℕ). n ∷ []) q
  scalar_bare void e h = let q : k ≡ 3 = cc in ap (λ (n : ℕ). n ∷ []) q
  scalar_bare (bool t) e h = let q : k ≡ 4 = cc in absurd (omega arith)
  scalar_bare (char n) e h = let q : k ≡ 5 = cc in absurd (omega arith)
  scalar_bare (number n) e h = let q : k ≡ 6 = cc in absurd (omega arith)

  pub scalar_short : (x : Scalar) → words ≡ scalar_words x → 4 ≤ k → k < 6 → k ∷ little 4 a ≡ write_scalar x
  unfolding layout_rules nodes_rules
  scalar_short undefined e l h = let q : k ≡ 0 = cc in absurd (omega arith)
  scalar_short nil e l h = let q : k ≡ 1 = cc in absurd (omega arith)
  scalar_short eof e l h = let q : k ≡ 2 = cc in absurd (omega arith)
  scalar_short void e l h = let q : k ≡ 3 = cc in absurd (omega arith)
  scalar_short (bool t) e l h = let q : k ≡ 4 = cc in let r : a ≡ bit t = cc in λ i. q i ∷ little 4 (r i)
  scalar_short (char n) e l h = let q : k ≡ 5 = cc in let r : a ≡ n = cc in λ i. q i ∷ little 4 (r i)
  scalar_short (number n) e l h = let q : k ≡ 6 = cc in absurd (omega arith)

  pub scalar_long : (x : Scalar) → words ≡ scalar_words x → 6 ≤ k → k ∷ little 8 a ≡ write_scalar x
  unfolding layout_rules nodes_rules
  scalar_long undefined e l = let q : k ≡ 0 = cc in absurd (omega arith)
  scalar_long nil e l = let q : k ≡ 1 = cc in absurd (omega arith)
  scalar_long eof e l = let q : k ≡ 2 = cc in absurd (omega arith)
  scalar_long void e l = let q : k ≡ 3 = cc in absurd (omega arith)
  scalar_long (bool t) e l = let q : k ≡ 4 = cc in absurd (omega arith)
  scalar_long (char n) e l = let q : k ≡ 5 = cc in absurd (omega arith)
  scalar_long (number n) e l = let q : k ≡ 6 = cc in let r : a ≡ n = cc in λ i. q i ∷ little 8 (r i)

pub noted_as : {bs cs : List ℕ} (out : List ℕ) (p : Page) (after : List ℕ) (r : Option Page) → bs ≡ cs → Noted out bs p after r → Noted out cs p after r
noted_as out p after r e n = mathlib.Core.Path.subst (λ (x : List ℕ). Noted out x p after r) e n
