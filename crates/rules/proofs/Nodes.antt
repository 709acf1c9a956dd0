-- A node's bytes read back as that node, and what is read is written back as the same bytes. Assumes nothing.
use mathlib.Core.Path.{◌≡◌, refl, sym, ap, ◌∙◌, subst}
use mathlib.Core.Bool.{Bool, true, false}
use mathlib.Core.List.{List, [], ◌∷◌, ◌++◌, append_assoc}
use Prim.Native.Nat.{ℕ, zero, suc, ◌^◌, ◌≤◌, ◌<◌}
use native.Mathlib.Omega.{arith}
use mathlib.Core.Logic.{⊎_elim}
use borrow.Author.Tests.{leb-true, ltb-true, ltb-false, lt-ltb, le-ltb}
use lib.Dec.{leb, ltb}
use lib.ListN.{length, get_or, take, drop, length-append, take-append-drop}
use lib.Seq.{take_at, drop_at, length-take-le}
use Rattle.laws.specs.Basics.{choose, every, little, big}
use Rattle.laws.proofs.Tests.{both_left, both_right, both_true, either_cases, every_front, every_back}
use Rattle.laws.proofs.Bytes.{all_bytes, length-little, big_little, little_big, big_bound}
use Rattle.rules.specs.Numbers.{bits32}
use Rattle.rules.specs.Refusals.{Fault, cut_short, unknown_kind, bad_char, bad_utf8}
use Rattle.rules.specs.Utf8.{utf8, scalar_value, utf8_rules}
use Rattle.rules.specs.Cells.{Scalar, undefined, nil, eof, void, bool, char, number}
use Rattle.rules.specs.Nodes.{Atom, plain, string, symbol, ident, ref, Node, atom, pair, vector, def, Reading, reads, faulty, part, field, checked_text, text, bool_node, char_node, kinds, read_node, write_text, write_scalar, write_atom, write_node, text_fits, scalar_fits, node_fits, nodes_rules}

-- ---- a choice whose test is known

pub choose_true {ℓ} : {A : Type ℓ} (t : Bool) (a b : A) → t ≡ true → choose t a b ≡ a
choose_true t a b e = ap (λ (x : Bool). choose x a b) e

pub choose_false {ℓ} : {A : Type ℓ} (t : Bool) (a b : A) → t ≡ false → choose t a b ≡ b
choose_false t a b e = ap (λ (x : Bool). choose x a b) e

-- ---- written, then read

module _ {A : Type 0} where
  pub part_of_append : (w : ℕ) (next : List ℕ → List ℕ → Reading A) (a rest : List ℕ) → length a ≡ w → part w next (a ++ rest) ≡ next a rest
  unfolding nodes_rules
  part_of_append w next a rest h =
      choose_false _ _ _ (le-ltb (length (a ++ rest)) w (omega (arith, length-append a rest)))
      ∙ (λ i. next (take_at a rest w h i) (drop_at a rest w h i))

  pub field_of_little : (w : ℕ) (next : ℕ → List ℕ → Reading A) (n : ℕ) (rest : List ℕ) → n < 256 ^ w → field w next (little w n ++ rest) ≡ next n rest
  unfolding nodes_rules
  field_of_little w next n rest h =
      part_of_append w (λ b. next (big b)) (little w n) rest (length-little w n) ∙ ap (λ (x : ℕ). next x rest) (big_little w n h)

  pub text_of_written : (made : List ℕ → A) (t rest : List ℕ) → text_fits t ≡ true → text made (write_text t ++ rest) ≡ reads (made t) rest
  unfolding nodes_rules
  text_of_written made t rest h =
      ap (λ (l : List ℕ). text made l) (append_assoc (little 4 (length t)) t rest)
      ∙ field_of_little 4 (λ n. part n (checked_text made)) (length t) (t ++ rest) (ltb-true _ _ (both_left (ltb (length t) bits32) _ h))
      ∙ part_of_append (length t) (checked_text made) t rest refl
      ∙ choose_true (utf8 t) (reads (made t) rest) (faulty bad_utf8) (both_right (every (λ b. ltb b 256) t) _ (both_right (ltb (length t) bits32) _ h))

pub scalar_value_bound : (n : ℕ) → scalar_value n ≡ true → n < 0x110000
unfolding utf8_rules
scalar_value_bound n h =
    ⊎_elim (λ p. omega (arith, leb-true n 0xd7ff p)) (λ p. omega (arith, leb-true n 0x10ffff (both_right (leb 0xe000 n) _ p)))
    (either_cases (leb n 0xd7ff) _ h)

read_scalar : (s : Scalar) (rest : List ℕ) → scalar_fits s ≡ true → read_node (write_scalar s ++ rest) ≡ reads (atom (plain s)) rest
unfolding nodes_rules utf8_rules
read_scalar undefined rest h = refl
read_scalar nil rest h = refl
read_scalar eof rest h = refl
read_scalar void rest h = refl
read_scalar (bool true) rest h = field_of_little 4 bool_node 1 rest (omega arith)
read_scalar (bool false) rest h = field_of_little 4 bool_node 0 rest (omega arith)
read_scalar (char n) rest h = field_of_little 4 char_node n rest (omega (arith, scalar_value_bound n h)) ∙ choose_true (scalar_value n) _ _ h
read_scalar (number n) rest h = field_of_little 8 (λ n. reads (atom (plain (number n)))) n rest (ltb-true _ _ h)

read_atom : (a : Atom) (rest : List ℕ) → node_fits (atom a) ≡ true → read_node (write_atom a ++ rest) ≡ reads (atom a) rest
unfolding nodes_rules
read_atom (plain s) rest h = read_scalar s rest h
read_atom (string t) rest h = text_of_written (λ t. atom (string t)) t rest h
read_atom (symbol t) rest h = text_of_written (λ t. atom (symbol t)) t rest h
read_atom (ident s t) rest h =
    ap (λ (l : List ℕ). field 4 (λ s. text (λ t. atom (ident s t))) l) (append_assoc (little 4 s) (write_text t) rest)
    ∙ field_of_little 4 (λ s. text (λ t. atom (ident s t))) s (write_text t ++ rest) (ltb-true _ _ (both_left (ltb s bits32) _ h))
    ∙ text_of_written (λ t. atom (ident s t)) t rest (both_right (ltb s bits32) _ h)
read_atom (ref l) rest h = field_of_little 4 (λ l. reads (atom (ref l))) l rest (ltb-true _ _ h)

-- "The encoding .. parses back", for a node
pub read_written : (n : Node) (rest : List ℕ) → node_fits n ≡ true → read_node (write_node n ++ rest) ≡ reads n rest
unfolding nodes_rules
read_written (atom a) rest h = read_atom a rest h
read_written pair rest h = refl
read_written (vector n) rest h = field_of_little 4 (λ n. reads (vector n)) n rest (ltb-true _ _ h)
read_written (def l) rest h = field_of_little 4 (λ l. reads (def l)) l rest (ltb-true _ _ h)

-- ---- read, then written

-- what a list of bytes was, where a node was read off it
pub record Was (bs : List ℕ) (n : Node) (rest : List ℕ) : Type 0 where
  pub written : bs ≡ write_node n ++ rest
  pub fits : node_fits n ≡ true
  pub left : all_bytes rest ≡ true

reads_faulty : {A : Type 0} {a : A} {rest : List ℕ} {x : Fault} → faulty x ≡ reads a rest → ⊥
reads_faulty e = let z : ◌≡◌ {A = ℕ} 0 1 = cc in omega arith

-- a part was there, and what was done with it
record Part {A : Type 0} (w : ℕ) (next : List ℕ → List ℕ → Reading A) (bs : List ℕ) (a : A) (rest : List ℕ) : Type 0 where
  front : List ℕ
  back : List ℕ
  whole : bs ≡ front ++ back
  size : length front ≡ w
  then : next front back ≡ reads a rest

part_inv : {A : Type 0} (w : ℕ) (next : List ℕ → List ℕ → Reading A) (bs : List ℕ) (a : A) (rest : List ℕ) → part w next bs ≡ reads a rest → Part w next bs a rest
unfolding nodes_rules
part_inv w next bs a rest e = go (ltb (length bs) w) refl e
  where
    go : (t : Bool) → ltb (length bs) w ≡ t → choose t (faulty cut_short) (next (take w bs) (drop w bs)) ≡ reads a rest → Part w next bs a rest
    go true q e = absurd (reads_faulty e)
    go false q e =
        record {
          front = take w bs;
          back = drop w bs;
          whole = sym (take-append-drop w bs);
          size = length-take-le w bs (ltb-false _ _ q);
          then = e;
        }

-- a field was there: its number, which is in its width, and what was done with it
record Field {A : Type 0} (w : ℕ) (next : ℕ → List ℕ → Reading A) (bs : List ℕ) (a : A) (rest : List ℕ) : Type 0 where
  value : ℕ
  back : List ℕ
  whole : bs ≡ little w value ++ back
  small : value < 256 ^ w
  bytes : all_bytes back ≡ true
  then : next value back ≡ reads a rest

field_inv : {A : Type 0} (w : ℕ) (next : ℕ → List ℕ → Reading A) (bs : List ℕ) (a : A) (rest : List ℕ) → all_bytes bs ≡ true → field w next bs ≡ reads a rest → Field w next bs a rest
unfolding nodes_rules
field_inv w next bs a rest h e = of (part_inv w (λ b. next (big b)) bs a rest e)
  where
    of : Part w (λ b. next (big b)) bs a rest → Field w next bs a rest
    of p =
        let all : all_bytes (p.front ++ p.back) ≡ true = subst (λ (l : List ℕ). all_bytes l ≡ true) p.whole h in
        let mine = every_front (λ b. ltb b 256) p.front p.back all in
        record {
          value = big p.front;
          back = p.back;
          whole =
              p.whole
              ∙ ap (λ (l : List ℕ). l ++ p.back)
              (sym (little_big p.front mine) ∙ ap (λ (n : ℕ). little n (big p.front)) p.size);
          small = subst (λ (n : ℕ). big p.front < 256 ^ n) p.size (big_bound p.front mine);
          bytes = every_back (λ b. ltb b 256) p.front p.back all;
          then = p.then;
        }

-- a text was there
record Texted {A : Type 0} (made : List ℕ → A) (bs : List ℕ) (a : A) (rest : List ℕ) : Type 0 where
  value : List ℕ
  whole : bs ≡ write_text value ++ rest
  fits : text_fits value ≡ true
  bytes : all_bytes rest ≡ true
  is : made value ≡ a

reads_value : {A : Type 0} {a b : A} {r s : List ℕ} → reads a r ≡ reads b s → a ≡ b
reads_value e = cc

reads_rest : {A : Type 0} {a b : A} {r s : List ℕ} → reads a r ≡ reads b s → r ≡ s
reads_rest e = cc

checked_inv : {A : Type 0} (made : List ℕ → A) (t back : List ℕ) (a : A) (rest : List ℕ) → checked_text made t back ≡ reads a rest → (utf8 t ≡ true) × (made t ≡ a) × (back ≡ rest)
unfolding nodes_rules
checked_inv made t back a rest e = go (utf8 t) refl e
  where
    go : (x : Bool) → utf8 t ≡ x → choose x (reads (made t) back) (faulty bad_utf8) ≡ reads a rest → (utf8 t ≡ true) × (made t ≡ a) × (back ≡ rest)
    go true q e = (q, reads_value e, reads_rest e)
    go false q e = absurd (reads_faulty e)

text_inv : {A : Type 0} (made : List ℕ → A) (bs : List ℕ) (a : A) (rest : List ℕ) → all_bytes bs ≡ true → text made bs ≡ reads a rest → Texted made bs a rest
unfolding nodes_rules
text_inv made bs a rest h e = of (field_inv 4 (λ n. part n (checked_text made)) bs a rest h e)
  where
    of : Field 4 (λ n. part n (checked_text made)) bs a rest → Texted made bs a rest
    of f = with_part (part_inv f.value (checked_text made) f.back a rest f.then)
      where
        with_part : Part f.value (checked_text made) f.back a rest → Texted made bs a rest
        with_part p =
            let c = checked_inv made p.front p.back a rest p.then in
            let all : all_bytes (p.front ++ p.back) ≡ true = subst (λ (l : List ℕ). all_bytes l ≡ true) p.whole f.bytes in
            record {
              value = p.front;
              whole =
                  f.whole
                  ∙ (λ i. little 4 (sym p.size i) ++ (p.whole ∙ ap (λ (l : List ℕ). p.front ++ l) c.2) i)
                  ∙ sym (append_assoc (little 4 (length p.front)) p.front rest);
              fits =
                  both_true (lt-ltb _ _ (subst (λ (n : ℕ). n < 256 ^ 4) (sym p.size) f.small))
                  (both_true (every_front (λ b. ltb b 256) p.front p.back all) c.0);
              bytes = subst (λ (l : List ℕ). all_bytes l ≡ true) c.2 (every_back (λ b. ltb b 256) p.front p.back all);
              is = c.1;
            }

-- what was read is what was written, once the node and its rest are known
finish : (bs : List ℕ) (m n : Node) (back rest : List ℕ) → reads m back ≡ reads n rest → bs ≡ write_node m ++ back → node_fits m ≡ true → all_bytes back ≡ true → Was bs n rest
finish bs m n back rest e w f b =
    record {
      written = w ∙ (λ i. write_node (reads_value e i) ++ reads_rest e i);
      fits = subst (λ (x : Node). node_fits x ≡ true) (reads_value e) f;
      left = subst (λ (l : List ℕ). all_bytes l ≡ true) (reads_rest e) b;
    }

behind : (k : ℕ) {xs ys : List ℕ} → xs ≡ ys → k ∷ xs ≡ k ∷ ys
behind k e = λ i. k ∷ e i

was_bool : (v : ℕ) (bs back : List ℕ) (n : Node) (rest : List ℕ) → bs ≡ little 4 v ++ back → all_bytes back ≡ true → bool_node v back ≡ reads n rest → Was (4 ∷ bs) n rest
unfolding nodes_rules
was_bool zero bs back n rest w b e = finish _ (atom (plain (bool false))) n back rest e (behind 4 w) refl b
was_bool (suc zero) bs back n rest w b e = finish _ (atom (plain (bool true))) n back rest e (behind 4 w) refl b
was_bool (suc (suc v)) bs back n rest w b e = absurd (reads_faulty e)

was_char : (v : ℕ) (bs back : List ℕ) (n : Node) (rest : List ℕ) → bs ≡ little 4 v ++ back → all_bytes back ≡ true → char_node v back ≡ reads n rest → Was (5 ∷ bs) n rest
unfolding nodes_rules
was_char v bs back n rest w b e = go (scalar_value v) refl e
  where
    go : (x : Bool) → scalar_value v ≡ x → choose x (reads (atom (plain (char v))) back) (faulty bad_char) ≡ reads n rest → Was (5 ∷ bs) n rest
    go true q e = finish _ (atom (plain (char v))) n back rest e (behind 5 w) q b
    go false q e = absurd (reads_faulty e)

was_ident : (v : ℕ) (bs back : List ℕ) (n : Node) (rest : List ℕ) → bs ≡ little 4 v ++ back → v < 256 ^ 4 → all_bytes back ≡ true → text (λ t. atom (ident v t)) back ≡ reads n rest → Was (11 ∷ bs) n rest
unfolding nodes_rules
was_ident v bs back n rest w small b e = of (text_inv (λ t. atom (ident v t)) back n rest b e)
  where
    of : Texted (λ t. atom (ident v t)) back n rest → Was (11 ∷ bs) n rest
    of t =
        finish _ (atom (ident v t.value)) n rest rest (ap (λ (x : Node). reads x rest) t.is)
        (behind 11 (w ∙ ap (λ (l : List ℕ). little 4 v ++ l) t.whole ∙ sym (append_assoc (little 4 v) (write_text t.value) rest)))
        (both_true (lt-ltb v bits32 small) t.fits)
        t.bytes

-- by the kind's number
was_kind : (k : ℕ) (bs : List ℕ) (n : Node) (rest : List ℕ) → all_bytes bs ≡ true → get_or kinds k (λ b. faulty unknown_kind) bs ≡ reads n rest → Was (k ∷ bs) n rest
unfolding nodes_rules
was_kind zero bs n rest h e = finish _ (atom (plain undefined)) n bs rest e refl refl h
was_kind (suc zero) bs n rest h e = finish _ (atom (plain nil)) n bs rest e refl refl h
was_kind (suc (suc zero)) bs n rest h e = finish _ (atom (plain eof)) n bs rest e refl refl h
was_kind (suc (suc (suc zero))) bs n rest h e = finish _ (atom (plain void)) n bs rest e refl refl h
was_kind (suc (suc (suc (suc zero)))) bs n rest h e =
    let f = field_inv 4 bool_node bs n rest h e in
    was_bool f.value bs f.back n rest f.whole f.bytes f.then
was_kind (suc (suc (suc (suc (suc zero))))) bs n rest h e =
    let f = field_inv 4 char_node bs n rest h e in
    was_char f.value bs f.back n rest f.whole f.bytes f.then
was_kind (suc (suc (suc (suc (suc (suc zero)))))) bs n rest h e =
    let f = field_inv 8 (λ n. reads (atom (plain (number n)))) bs n rest h e in
    finish _ (atom (plain (number f.value))) n f.back rest f.then (behind 6 f.whole) (lt-ltb _ _ f.small) f.bytes
was_kind (suc (suc (suc (suc (suc (suc (suc zero))))))) bs n rest h e =
    let t = text_inv (λ t. atom (string t)) bs n rest h e in
    finish _ (atom (string t.value)) n rest rest (ap (λ (x : Node). reads x rest) t.is) (behind 7 t.whole) t.fits t.bytes
was_kind (suc (suc (suc (suc (suc (suc (suc (suc zero)))))))) bs n rest h e =
    let t = text_inv (λ t. atom (symbol t)) bs n rest h e in
    finish _ (atom (symbol t.value)) n rest rest (ap (λ (x : Node). reads x rest) t.is) (behind 8 t.whole) t.fits t.bytes
was_kind (suc (suc (suc (suc (suc (suc (suc (suc (suc zero))))))))) bs n rest h e = finish _ pair n bs rest e refl refl h
was_kind (suc (suc (suc (suc (suc (suc (suc (suc (suc (suc zero)))))))))) bs n rest h e =
    let f = field_inv 4 (λ n. reads (vector n)) bs n rest h e in
    finish _ (vector f.value) n f.back rest f.then (behind 10 f.whole) (lt-ltb _ _ f.small) f.bytes
was_kind (suc (suc (suc (suc (suc (suc (suc (suc (suc (suc (suc zero))))))))))) bs n rest h e =
    let f = field_inv 4 (λ s. text (λ t. atom (ident s t))) bs n rest h e in
    was_ident f.value bs f.back n rest f.whole f.small f.bytes f.then
was_kind (suc (suc (suc (suc (suc (suc (suc (suc (suc (suc (suc (suc zero)))))))))))) bs n rest h e =
    let f = field_inv 4 (λ l. reads (def l)) bs n rest h e in
    finish _ (def f.value) n f.back rest f.then (behind 12 f.whole) (lt-ltb _ _ f.small) f.bytes
was_kind (suc (suc (suc (suc (suc (suc (suc (suc (suc (suc (suc (suc (suc zero))))))))))))) bs n rest h e =
    let f = field_inv 4 (λ l. reads (atom (ref l))) bs n rest h e in
    finish _ (atom (ref f.value)) n f.back rest f.then (behind 13 f.whole) (lt-ltb _ _ f.small) f.bytes
was_kind (suc (suc (suc (suc (suc (suc (suc (suc (suc (suc (suc (suc (suc (suc k)))))))))))))) bs n rest h e = absurd (reads_faulty e)

-- "what parses encodes back to the same bytes", for a node
pub was_written : (bs : List ℕ) (n : Node) (rest : List ℕ) → all_bytes bs ≡ true → read_node bs ≡ reads n rest → Was bs n rest
unfolding nodes_rules
was_written [] n rest h e = absurd (reads_faulty e)
was_written (k ∷ bs) n rest h e = was_kind k bs n rest (both_right (ltb k 256) _ h) e

-- every node takes a byte
pub write_positive : (n : Node) → 1 ≤ length (write_node n)
unfolding nodes_rules
write_positive (atom (plain undefined)) = omega arith
write_positive (atom (plain nil)) = omega arith
write_positive (atom (plain eof)) = omega arith
write_positive (atom (plain void)) = omega arith
write_positive (atom (plain (bool b))) = omega arith
write_positive (atom (plain (char n))) = omega arith
write_positive (atom (plain (number n))) = omega arith
write_positive (atom (string t)) = omega arith
write_positive (atom (symbol t)) = omega arith
write_positive (atom (ident s t)) = omega arith
write_positive (atom (ref l)) = omega arith
write_positive pair = omega arith
write_positive (vector n) = omega arith
write_positive (def l) = omega arith
