-- A node's bytes as they are written. Assumes nothing.
use mathlib.Core.Path.{◌≡◌, refl, sym, ap, ◌∙◌, subst}
use mathlib.Core.Bool.{true, false}
use mathlib.Core.List.{List, [], ◌∷◌, ◌++◌}
use mathlib.Core.Option.{Option, none, some}
use Prim.Native.Nat.{ℕ, suc, ◌+◌, ◌/◌, ◌%◌, ◌≤◌, ◌<◌, zero}
use native.Mathlib.Numerals.{add-one}
use native.Mathlib.Omega.{arith}
use lib.ListN.{length, set, take, length-append}
use lib.Seq.{sets}
use Rattle.laws.specs.Basics.{little, basics}
use Rattle.laws.proofs.Bytes.{length-little}
use Rattle.laws.proofs.Writing.{sets_append}
use Rattle.rules.specs.Nodes.{write_text, nodes_rules}
use Rattle.rules.specs.Text.{unsigned32, signed64}
use Rattle.rules.specs.Sheet.{Line, then_read, bare, numbered, hexed, signed_number, sheet_rules}
use Rattle.std.specs.Prelude as std
use Rattle.std.specs.Prelude.{Some, None}
use Rattle.std.specs.Int.{to_le_bytes}
use Rattle.std.proofs.Common.{w64}
use Rattle.text_decimals.specs.Reads.{shown}
use Rattle.text_numbers.specs.Answers.{is_hex, unhexed, written, answers}
use Rattle.text_numbers.proofs.HexLaws.{unhexed_is, unhexed_not, length-unhexed}
use Rattle.sheet_nodes.specs.declared.Node.{Node}
use Rattle.sheet_nodes.specs.Written.{follow_of, Lined, TextWritten, written_words}

-- ---- bytes

pub written_first : (l : List ℕ) (at x : ℕ) (t : List ℕ) → written (set l at x) (at + 1) t ≡ written l at (x ∷ t)
unfolding answers
written_first l at x t = ap (λ (n : ℕ). sets (set l at x) n t) (add-one at)

pub written_next : (l : List ℕ) (at k : ℕ) (a b : List ℕ) → length a ≡ k → written (written l at a) (at + k) b ≡ written l at (a ++ b)
unfolding answers
written_next l at k a b e = ap (λ (n : ℕ). sets (sets l at a) (at + n) b) (sym e) ∙ sets_append l at a b

-- the lowest bytes, as std gives them
little_some : (w k n : ℕ) → w ≤ k → take w (little k n) ≡ little w n
unfolding basics
little_some zero k n h = refl
little_some (suc w) zero n h = absurd (omega arith)
little_some (suc w) (suc k) n h = ap (λ (l : List ℕ). n % 256 ∷ l) (little_some w k (n / 256) (omega arith))

std_little : (n : ℕ) → to_le_bytes w64 n ≡ little 8 n
unfolding basics
std_little n =
    let d2 : n / 256 / 256 ≡ n / 65536 = omega arith in
    let d3 : n / 256 / 256 / 256 ≡ n / 16777216 = omega arith in
    let d4 : n / 256 / 256 / 256 / 256 ≡ n / 4294967296 = omega arith in
    let d5 : n / 256 / 256 / 256 / 256 / 256 ≡ n / 1099511627776 = omega arith in
    let d6 : n / 256 / 256 / 256 / 256 / 256 / 256 ≡ n / 281474976710656 = omega arith in
    let d7 : n / 256 / 256 / 256 / 256 / 256 / 256 / 256 ≡ n / 72057594037927936 = omega arith in
    sym
    (λ j.
    n % 256
    ∷ n / 256 % 256 ∷ d2 j % 256 ∷ d3 j % 256 ∷ d4 j % 256 ∷ d5 j % 256 ∷ d6 j % 256 ∷ d7 j % 256 ∷ [])

pub lowest : (w n : ℕ) → w ≤ 8 → take w (to_le_bytes w64 n) ≡ little w n
lowest w n h = ap (take w) (std_little n) ∙ little_some w 8 n h

-- ---- texts

pub text_written : (l : List ℕ) (at : ℕ) (t a b : List ℕ) → is_hex t ≡ true → a ≡ written l at (little 4 (length t / 2)) → b ≡ written a (at + 4) (unhexed t) → TextWritten l at (unhexed t) b (length t / 2 + 4)
unfolding nodes_rules
text_written l at t a b h p q =
    let size = length-unhexed t h in
    record {
      is =
          q ∙ ap (λ (a : List ℕ). written a (at + 4) (unhexed t)) p
          ∙ written_next l at 4 (little 4 (length t / 2)) (unhexed t) (length-little 4 (length t / 2))
          ∙ ap (λ (n : ℕ). written l at (little 4 n ++ unhexed t)) (sym size);
      size = omega (arith, size, length-append (little 4 (length (unhexed t))) (unhexed t), length-little 4 (length (unhexed t)));
    }

pub text_size : {l after : List ℕ} {at n : ℕ} (t : List ℕ) → is_hex t ≡ true → TextWritten l at (unhexed t) after n → n ≡ length t / 2 + 4
unfolding nodes_rules
text_size t h w =
    omega (arith, w.size, length-unhexed t h, length-append (little 4 (length (unhexed t))) (unhexed t), length-little 4 (length (unhexed t)))

-- ---- lines

-- what is read further
module _ {A B : Type 0} (f : A → Option B) {o : Option A} where
  pub then_none : o ≡ none → then_read o f ≡ none
  unfolding sheet_rules
  then_none e = ap (λ (o : Option A). then_read o f) e

  pub then_some : {a : A} → o ≡ some a → then_read o f ≡ f a
  unfolding sheet_rules
  then_some e = ap (λ (o : Option A). then_read o f) e

module _ {before : List ℕ} {at : ℕ} {x : Option Line} where
  pub lined_bad : x ≡ none → Lined before at x before None
  unfolding written_words
  lined_bad e = subst (λ (x : Option Line). Lined before at x before None) (sym e) (record { answer = refl; bytes = refl; room = omega arith })

  pub lined_good : {after : List ℕ} (n : Line) (size follow : ℕ) → x ≡ some n → size ≡ length n.node → follow ≡ n.follow → after ≡ written before at n.node → at + size ≤ length before → Lined before at x after (Some (record { size = size; follow = follow }))
  unfolding written_words
  lined_good {after} n size follow e s f b h =
      subst (λ (x : Option Line). Lined before at x after (Some (record { size = size; follow = follow }))) (sym e)
      (record { answer = λ j. Some (record { size = s j; follow = f j }); bytes = b; room = omega arith })

  pub lined_same : {after : List ℕ} {r : std.Option Node} {y : Option Line} → x ≡ y → Lined before at x after r → Lined before at y after r
  lined_same {after} {r} e l = subst (λ (x : Option Line). Lined before at x after r) e l

-- ---- bare

pub bare_good : (before t : List ℕ) (at kind n : ℕ) → length t ≡ 0 → at < length before → Lined before at (bare kind n t) (set before at kind) (Some (record { size = 1; follow = n }))
unfolding sheet_rules answers
bare_good before [] at kind n h k = lined_good (record { node = kind ∷ []; follow = n }) 1 n refl refl refl refl (omega arith)
bare_good before (c ∷ cs) at kind n h k = absurd (omega arith)

pub bare_bad : (before t : List ℕ) (at kind n : ℕ) → (length t ≡ 0 → ⊥) → Lined before at (bare kind n t) before None
unfolding sheet_rules
bare_bad before [] at kind n h = absurd (h refl)
bare_bad before (c ∷ cs) at kind n h = lined_bad refl

-- ---- numbers

-- a kind, then the bytes of a number
pub field_written : (before after : List ℕ) (at kind w n : ℕ) → after ≡ written (set before at kind) (at + 1) (little w n) → after ≡ written before at (kind ∷ little w n)
field_written before after at kind w n e = e ∙ written_first before at kind (little w n)

module _ (before t : List ℕ) (at kind : ℕ) (r : std.Option ℕ) (e : shown r ≡ unsigned32 t) where
  pub no_number : r ≡ None → Lined before at (numbered kind (follow_of kind) t) before None
  unfolding sheet_rules
  no_number b = lined_bad (then_none _ (sym e ∙ ap shown b))

  pub a_number : (after : List ℕ) (n follow : ℕ) → r ≡ Some n → follow ≡ follow_of kind n → after ≡ written (set before at kind) (at + 1) (little 4 n) → at + 5 ≤ length before → Lined before at (numbered kind (follow_of kind) t) after (Some (record { size = 5; follow = follow }))
  unfolding sheet_rules
  a_number after n follow g f w h =
      lined_good (record { node = kind ∷ little 4 n; follow = follow_of kind n }) 5 follow
      (then_some _ (sym e ∙ ap shown g)) (sym (ap suc (length-little 4 n))) f
      (field_written before after at kind 4 n w) h

module _ (before t : List ℕ) (at : ℕ) (r : std.Option ℕ) (e : shown r ≡ signed64 t) where
  pub no_signed : r ≡ None → Lined before at (signed_number t) before None
  unfolding sheet_rules
  no_signed b = lined_bad (then_none _ (sym e ∙ ap shown b))

  pub a_signed : (after : List ℕ) (n : ℕ) → r ≡ Some n → after ≡ written (set before at 6) (at + 1) (little 8 n) → at + 9 ≤ length before → Lined before at (signed_number t) after (Some (record { size = 9; follow = 0 }))
  unfolding sheet_rules
  a_signed after n g w h =
      lined_good (record { node = 6 ∷ little 8 n; follow = 0 }) 9 0
      (then_some _ (sym e ∙ ap shown g)) (sym (ap suc (length-little 8 n))) refl
      (field_written before after at 6 8 n w) h

-- ---- hex

module _ (before t front : List ℕ) (at : ℕ) where
  pub no_hex : is_hex t ≡ false → Lined before at (hexed front t) before None
  unfolding sheet_rules
  no_hex h = lined_bad (then_none _ (unhexed_not t h))

  -- the front, then the text
  pub a_hex : (mid after : List ℕ) (k n : ℕ) → is_hex t ≡ true → length front ≡ k → mid ≡ written before at front → TextWritten mid (at + k) (unhexed t) after n → at + k + 4 + length t / 2 ≤ length before → Lined before at (hexed front t) after (Some (record { size = n + k; follow = 0 }))
  unfolding sheet_rules
  a_hex mid after k n h f m w room =
      lined_good (record { node = front ++ write_text (unhexed t); follow = 0 }) (n + k) 0
      (then_some _ (unhexed_is t h))
      (omega (arith, w.size, length-append front (write_text (unhexed t))))
      refl
      (w.is ∙ ap (λ (l : List ℕ). written l (at + k) (write_text (unhexed t))) m ∙ written_next before at k front (write_text (unhexed t)) f)
      (omega (arith, text_size t h w))

pub one_written : (l : List ℕ) (at x : ℕ) → set l at x ≡ written l at (x ∷ [])
unfolding answers
one_written l at x = refl

pub length-field : (x n : ℕ) → length (x ∷ little 4 n) ≡ 5
length-field x n = ap suc (length-little 4 n)
