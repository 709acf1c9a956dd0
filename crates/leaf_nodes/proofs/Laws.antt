-- Fields, texts and kinds at the start of a list of bytes, as the code finds them. Assumes nothing.
use mathlib.Core.Path.{◌≡◌, refl, sym, ap, ◌∙◌, subst}
use mathlib.Core.Bool.{true, false}
use mathlib.Core.List.{List, [], ◌∷◌, ◌++◌}
use Prim.Native.Nat.{ℕ, zero, suc, ◌+◌, ◌-◌, ◌≤◌, ◌<◌}
use native.Mathlib.Omega.{arith}
use borrow.Author.Tests.{lt-ltb, le-ltb}
use lib.ListN.{length, get_or, take, drop, length-drop, length-append, get_or-eq_default}
use Rattle.std.proofs.lemmas.List.{take_all}
use lib.Seq.{drop-drop, length-take-le}
use Rattle.laws.specs.Basics.{big, basics}
use Rattle.laws.proofs.Tests.{true≢false, both_true}
use Rattle.rules.specs.Refusals.{bad_bool, bad_char, unknown_kind}
use Rattle.rules.specs.Utf8.{utf8, scalar_value, utf8_rules}
use Rattle.rules.specs.Cells.{char, scalar}
use Rattle.rules.specs.Nodes.{plain, ref, atom, Reading, reads, faulty, part, field, checked_text, text, bool_node, char_node, kinds, read_node, write_node, node_fits, bytes, nodes_rules}
use Rattle.rules.specs.Nodes as rules
use Rattle.rules.proofs.Nodes.{choose_true, choose_false, was_written, write_positive}
use Rattle.leaf_cells.specs.declared.Value.{Value}
use Rattle.leaf_cells.specs.declared.Value.TheVariants as value
use Rattle.leaf_cells.specs.Elements.{value_of}
use Rattle.leaf_nodes.specs.declared.Fault.{Fault}
use Rattle.leaf_nodes.specs.declared.Fault.TheVariants.{CutShort, BadUtf8}
use Rattle.leaf_nodes.specs.declared.Node.{Node}
use Rattle.leaf_nodes.specs.declared.Node.TheVariants.{Plain, String, Symbol, Ident, Ref, Pair, Vector, Def}
use Rattle.leaf_nodes.specs.declared.Read.{Read}
use Rattle.leaf_nodes.specs.Reads.{fault_of, scalar_of, is_scalar, shown, text_length, text_of, as_read, in_order, Placed, ReadAs, FieldRead, text_reading, TextRead, reads_rules}
use Rattle.std.specs.Prelude.{Result, Ok, Err, IfOk}
use Rattle.std.proofs.Common.{Fits, w8}
use Rattle.std.specs.Int.{w32, w64, from_le_bytes}

-- ---- fields

four : (bs : List ℕ) → length bs ≡ 4 → from_le_bytes w32 bs ≡ big bs
unfolding basics
four [] h = absurd (omega arith)
four (a ∷ []) h = absurd (omega arith)
four (a ∷ b ∷ []) h = absurd (omega arith)
four (a ∷ b ∷ c ∷ []) h = absurd (omega arith)
four (a ∷ b ∷ c ∷ d ∷ []) h = omega arith
four (a ∷ b ∷ c ∷ d ∷ e ∷ l) h = absurd (omega arith)

eight : (bs : List ℕ) → length bs ≡ 8 → from_le_bytes w64 bs ≡ big bs
unfolding basics
eight [] h = absurd (omega arith)
eight (a ∷ []) h = absurd (omega arith)
eight (a ∷ b ∷ []) h = absurd (omega arith)
eight (a ∷ b ∷ c ∷ []) h = absurd (omega arith)
eight (a ∷ b ∷ c ∷ d ∷ []) h = absurd (omega arith)
eight (a ∷ b ∷ c ∷ d ∷ e ∷ []) h = absurd (omega arith)
eight (a ∷ b ∷ c ∷ d ∷ e ∷ f ∷ []) h = absurd (omega arith)
eight (a ∷ b ∷ c ∷ d ∷ e ∷ f ∷ g ∷ []) h = absurd (omega arith)
eight (a ∷ b ∷ c ∷ d ∷ e ∷ f ∷ g ∷ i ∷ []) h = omega arith
eight (a ∷ b ∷ c ∷ d ∷ e ∷ f ∷ g ∷ i ∷ j ∷ l) h = absurd (omega arith)

module _ (bs part : List ℕ) where
  pub field_of_4 : part ≡ take 4 bs → 4 ≤ length bs → from_le_bytes w32 part ≡ big (take 4 bs)
  field_of_4 e h = four part (ap length e ∙ length-take-le 4 bs h) ∙ ap big e

  pub field_of_8 : part ≡ take 8 bs → 8 ≤ length bs → from_le_bytes w64 part ≡ big (take 8 bs)
  field_of_8 e h = eight part (ap length e ∙ length-take-le 8 bs h) ∙ ap big e

module _ (w : ℕ) (bs : List ℕ) where
  pub field_cut : length bs < w → FieldRead w bs (Err CutShort)
  unfolding nodes_rules
  field_cut h = record { is = λ next. choose_true _ _ _ (lt-ltb (length bs) w h); inside = tt }

  pub field_there : (n : ℕ) → w ≤ length bs → n ≡ big (take w bs) → FieldRead w bs (Ok n)
  unfolding nodes_rules
  field_there n h e =
      record {
        is = λ next. choose_false _ _ _ (le-ltb (length bs) w h) ∙ ap (λ (n : ℕ). next n (drop w bs)) (sym e);
        inside = h;
      }

-- ---- texts

pub text_fault : (bs : List ℕ) (f : Fault) {r : Result ℕ Fault} → r ≡ Err f → FieldRead 4 bs (Err f) → TextRead bs r
unfolding nodes_rules
text_fault bs f e r = subst (λ (r : Result ℕ Fault). TextRead bs r) (sym e) (record { is = λ made. r.is (λ n. part n (checked_text made)); inside = tt })

-- the part from a place on
from_place : (d : ℕ) (l : List ℕ) → take (length l - d) (drop d l) ≡ drop d l
from_place d l = take_all (length l - d) (drop d l) (omega (arith, length-drop d l))

-- a text was read from a place on
pub text_from : (d : ℕ) (bs : List ℕ) (r : Result ℕ Fault) (made : List ℕ → rules.Node) → TextRead (take (length bs - d) (drop d bs)) r → text made (drop d bs) ≡ text_reading r made (drop d bs)
text_from d bs r made t = subst (λ (l : List ℕ). text made l ≡ text_reading r made l) (from_place d bs) (t.is made)

-- the bytes behind a text's length
module _ (bs : List ℕ) (n : ℕ) (left : List ℕ) (behind : left ≡ take (length bs - 4) (drop 4 bs)) (r : FieldRead 4 bs (Ok n)) where
  past_size : (made : List ℕ → rules.Node) → text made bs ≡ part n (checked_text made) left
  unfolding nodes_rules
  past_size made =
      r.is (λ n. part n (checked_text made))
      ∙ ap (λ (l : List ℕ). part n (checked_text made) l) (sym (behind ∙ from_place 4 bs))

  pub text_cut : length left < n → TextRead bs (Err CutShort)
  unfolding nodes_rules
  text_cut h = record { is = λ made. past_size made ∙ choose_true _ _ _ (lt-ltb (length left) n h); inside = tt }

  module _ (h : n ≤ length left) where
    past_text : (made : List ℕ → rules.Node) → text made bs ≡ checked_text made (take n left) (drop n left)
    unfolding nodes_rules
    past_text made = past_size made ∙ choose_false _ _ _ (le-ltb (length left) n h)

    pub text_bad : utf8 (take n left) ≡ false → TextRead bs (Err BadUtf8)
    unfolding nodes_rules
    text_bad u = record { is = λ made. past_text made ∙ choose_false _ _ _ u; inside = tt }

    pub text_good : utf8 (take n left) ≡ true → TextRead bs (Ok n)
    unfolding nodes_rules
    text_good u =
        let e : left ≡ drop 4 bs = behind ∙ from_place 4 bs in
        record {
          is =
              λ made.
              past_text made ∙ choose_true _ _ _ u
              ∙ (λ i. reads (made (take n (e i))) ((ap (λ (l : List ℕ). drop n l) e ∙ drop-drop n 4 bs) i));
          inside = omega (arith, ap length e, length-drop 4 bs, r.inside);
        }

-- ---- kinds

module _ (n : ℕ) (rest : List ℕ) where
  pub char_is : scalar_value n ≡ true → reads (atom (plain (char n))) rest ≡ char_node n rest
  unfolding nodes_rules utf8_rules
  char_is e = sym (choose_true _ _ _ e)

  pub char_bad : scalar_value n ≡ false → faulty bad_char ≡ char_node n rest
  unfolding nodes_rules utf8_rules
  char_bad e = sym (choose_false _ _ _ e)

-- no Bool's number
pub bool_bad : (n : ℕ) (rest : List ℕ) → 1 < n → faulty bad_bool ≡ bool_node n rest
unfolding nodes_rules
bool_bad zero rest h = absurd (omega arith)
bool_bad (suc zero) rest h = absurd (omega arith)
bool_bad (suc (suc n)) rest h = refl

-- how the bytes behind a kind are read
abbrev pub behind : ℕ → List ℕ → Reading rules.Node
behind k bs = get_or kinds k (λ b. faulty unknown_kind) bs

pub no_kind : (k : ℕ) (bs : List ℕ) → 14 ≤ k → behind k bs ≡ faulty unknown_kind
unfolding nodes_rules
no_kind k bs h = ap (λ (f : List ℕ → Reading rules.Node). f bs) (get_or-eq_default kinds (λ b. faulty unknown_kind) h)

-- every element is a byte
pub all_small : (bs : List ℕ) → ((i : ℕ) → get_or bs i 0 < 256) → bytes bs ≡ true
unfolding nodes_rules basics
all_small [] h = refl
all_small (b ∷ bs) h = both_true (lt-ltb b 256 (h 0)) (all_small bs (λ i. h (suc i)))

pub read_none : (bs : List ℕ) → length bs ≡ 0 → ReadAs bs (Err CutShort)
unfolding nodes_rules reads_rules
read_none [] h = record { is = refl; placed = tt; all = refl }
read_none (b ∷ bs) h = absurd (omega arith)

-- a kind and the bytes behind it
module _ {bs rest : List ℕ} {k j : ℕ} (e : bs ≡ k ∷ rest) (is : k ≡ j) (small : (i : ℕ) → Fits w8 (get_or bs i 0)) where
  whole : bs ≡ j ∷ rest
  whole = e ∙ ap (λ (k : ℕ). k ∷ rest) is

  read_behind : (r : Result Read Fault) → as_read (j ∷ rest) r ≡ behind j rest → IfOk r (Placed (j ∷ rest)) → ReadAs bs r
  unfolding nodes_rules
  read_behind r q p = subst (λ (l : List ℕ). bytes l ≡ true → ReadAs l r) (sym whole) (λ a. record { is = q; placed = p; all = a }) (all_small bs (λ i. omega (arith, small i)))

  pub read_fault : (f : Fault) {r : Result Read Fault} → r ≡ Err f → behind j rest ≡ faulty (fault_of f) → ReadAs bs r
  unfolding reads_rules
  read_fault f a q = subst (λ (r : Result Read Fault). ReadAs bs r) (sym a) (read_behind (Err f) (sym q) tt)

  pub read_good : (n : Node) (size : ℕ) {r : Read} → r ≡ record { node = n; size = size } → behind j rest ≡ shown n (take (text_length n) (drop (size - text_length n) (j ∷ rest))) (drop size (j ∷ rest)) → in_order n ≡ true → size ≤ length (j ∷ rest) → text_length n ≤ size → ReadAs bs (Ok r)
  unfolding reads_rules
  read_good n size a q o i t =
      subst (λ (r : Read). ReadAs bs (Ok r)) (sym a)
      (read_behind (Ok (record { node = n; size = size })) (sym q) (record { order = o; inside = i; texts = t }))

-- a text's part of the bytes behind a kind, where its length stands at a place of them
pub text_shown : (d j : ℕ) (rest : List ℕ) (n : ℕ) (made : List ℕ → rules.Node) → reads (made (take n (drop 4 (drop d rest)))) (drop (4 + n) (drop d rest)) ≡ reads (made (take n (drop (n + (5 + d) - n) (j ∷ rest)))) (drop (n + (5 + d)) (j ∷ rest))
text_shown d j rest n made =
    let from : n + (5 + d) - n ≡ suc (d + 4) = omega arith in
    let to : n + (5 + d) ≡ suc (d + (4 + n)) = omega arith in
    λ i. reads (made (take n ((drop-drop 4 d rest ∙ ap (λ (k : ℕ). drop k (j ∷ rest)) (sym from)) i)))
    ((drop-drop (4 + n) d rest ∙ ap (λ (k : ℕ). drop k (j ∷ rest)) (sym to)) i)

-- ---- what a caller may use of a node that was read

pub record NodeAt (bs : List ℕ) (r : Read) (n : rules.Node) : Type 0 where
  pub reading : read_node bs ≡ reads n (drop r.size bs)
  pub written : bs ≡ write_node n ++ drop r.size bs
  pub fits : node_fits n ≡ true
  pub some : 1 ≤ r.size
  pub left : bytes (drop r.size bs) ≡ true

pub node_at : (bs : List ℕ) (r : Read) (n : rules.Node) → ReadAs bs (Ok r) → as_read bs (Ok r) ≡ reads n (drop r.size bs) → NodeAt bs r n
unfolding nodes_rules
node_at bs r n a e =
    let p = sym a.is ∙ e in
    let w = was_written bs n (drop r.size bs) a.all p in
    record {
      reading = p;
      written = w.written;
      fits = w.fits;
      some =
          omega
          (arith, write_positive n, a.placed.inside, length-drop r.size bs, ap length w.written ∙ length-append (write_node n) (drop r.size bs));
      left = w.left;
    }

-- what is read where the case is known
pub as_shown : (bs : List ℕ) (r : Read) (x : Node) → r.node ≡ x → as_read bs (Ok r) ≡ shown x (text_of bs x r.size) (drop r.size bs)
unfolding reads_rules
as_shown bs r x e = ap (λ (x : Node). shown x (text_of bs x r.size) (drop r.size bs)) e

-- a text's length is the node's
pub text_long : (bs : List ℕ) (r : Read) → ReadAs bs (Ok r) → length (text_of bs r.node r.size) ≡ text_length r.node
unfolding reads_rules
text_long bs r a =
    length-take-le (text_length r.node) (drop (r.size - text_length r.node) bs)
    (omega (arith, a.placed.inside, a.placed.texts, length-drop (r.size - text_length r.node) bs))

-- some node is read, and the bytes behind it are left
pub good_node : (x : Node) (t rest : List ℕ) → (n : rules.Node) × (shown x t rest ≡ reads n rest)
good_node (Plain v) t rest = (_, refl)
good_node (String n) t rest = (_, refl)
good_node (Symbol n) t rest = (_, refl)
good_node (Ident s n) t rest = (_, refl)
good_node (Ref l) t rest = (_, refl)
good_node Pair t rest = (_, refl)
good_node (Vector n) t rest = (_, refl)
good_node (Def l) t rest = (_, refl)

-- the value of a plain node is its scalar
pub plain_value : (v : Value) → is_scalar v ≡ true → value_of v ≡ scalar (scalar_of v)
plain_value (value.Slot s) h = absurd (true≢false (sym h))
plain_value value.Undefined h = refl
plain_value value.Nil h = refl
plain_value value.Eof h = refl
plain_value value.Void h = refl
plain_value (value.Bool b) h = refl
plain_value (value.Char n) h = refl
plain_value (value.Number n) h = refl
