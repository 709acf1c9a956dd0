-- "The encoding of a datum parses back to it; what parses encodes back to the same bytes." Assumes nothing.
use mathlib.Core.Path.{◌≡◌, refl, sym, ap, ◌∙◌, subst, subst₃}
use mathlib.Core.Bool.{true}
use mathlib.Core.List.{List, [], ◌∷◌, ◌++◌, append_assoc, append-nil}
use Prim.Native.Nat.{ℕ, zero, suc, ◌+◌, ◌*◌, ◌≤◌, ◌<◌}
use native.Mathlib.Omega.{arith}
use lib.ListN.{length, length-append}
use Rattle.laws.specs.Basics.{every, join, basics}
use Rattle.laws.proofs.Tests.{both_left, both_right, both_true, every_append, every_front, every_back, join_append}
use Rattle.laws.proofs.Bytes.{all_bytes}
use Rattle.rules.specs.Refusals.{Fault}
use Rattle.rules.specs.Nodes.{Node, Reading, reads, faulty, read_node, write_node, node_fits}
use Rattle.rules.specs.Datum.{Datum, Data, atom, pair, vector, def, end, more, how_many, nodes, all_nodes, encode, Parsed, parsed, fault, then, of_node, datum_at, data_at, good, bad, whole, parse, datum_fits, datum_rules}
use Rattle.rules.proofs.Nodes.{read_written, was_written, Was, write_positive}

-- the bytes of a list of nodes
abbrev written : List Node → List ℕ
written ns = join write_node ns

written_append : (xs ys : List Node) (rest : List ℕ) → written (xs ++ ys) ++ rest ≡ written xs ++ (written ys ++ rest)
written_append xs ys rest =
    ap (λ (l : List ℕ). l ++ rest) (join_append write_node xs ys) ∙ append_assoc (written xs) (written ys) rest

written_length : (xs ys : List Node) → length (written (xs ++ ys)) ≡ length (written xs) + length (written ys)
written_length xs ys = ap length (join_append write_node xs ys) ∙ length-append (written xs) (written ys)

-- a datum takes a byte at least
nodes_positive : (d : Datum) → 1 ≤ length (written (nodes d))
unfolding datum_rules basics
nodes_positive (atom a) = omega (arith, write_positive (Node.atom a), length-append (write_node (Node.atom a)) [])
nodes_positive (pair a d) =
    omega (arith, write_positive Node.pair, length-append (write_node Node.pair) (written (nodes a ++ nodes d)))
nodes_positive (vector ds) =
    omega (arith, write_positive (Node.vector (how_many ds)), length-append (write_node (Node.vector (how_many ds))) (written (all_nodes ds)))
nodes_positive (def l d) =
    omega (arith, write_positive (Node.def l), length-append (write_node (Node.def l)) (written (nodes d)))

-- ---- written, then parsed

-- the first node, once it is known
datum_step : (f : ℕ) (bs : List ℕ) (k : ℕ) (n : Node) (rest : List ℕ) → read_node bs ≡ reads n rest → datum_at (suc f) bs k ≡ of_node (λ bs k. datum_at f bs k) (λ n bs k. data_at f n bs k) n rest (suc k)
unfolding datum_rules
datum_step f bs k n rest e =
    ap {B = Parsed Datum}
    (λ (r : Reading Node).
    elim r [ reads n rest ↦ of_node (λ bs k. datum_at f bs k) (λ n bs k. data_at f n bs k) n rest (suc k) | faulty x ↦ fault x k ])
    e

-- a node at the head of what was written
step_written : (f k : ℕ) (n : Node) (ns : List Node) (rest : List ℕ) → node_fits n ≡ true → datum_at (suc f) (written (n ∷ ns) ++ rest) k ≡ of_node (λ bs k. datum_at f bs k) (λ n bs k. data_at f n bs k) n (written ns ++ rest) (suc k)
unfolding basics
step_written f k n ns rest h =
    datum_step f (written (n ∷ ns) ++ rest) k n (written ns ++ rest)
    (ap read_node (append_assoc (write_node n) (written ns) rest) ∙ read_written n (written ns ++ rest) h)

then_parsed : {A B : Type 0} {p : Parsed A} {a : A} {bs : List ℕ} {k : ℕ} (next : A → List ℕ → ℕ → Parsed B) → p ≡ parsed a bs k → then p next ≡ next a bs k
unfolding datum_rules
then_parsed next e = ap (λ p. then p next) e

mutual
  unfolding datum_rules basics

  parse_datum : (d : Datum) (f : ℕ) (rest : List ℕ) (k : ℕ) → every node_fits (nodes d) ≡ true → 2 * length (written (nodes d)) < f → datum_at f (written (nodes d) ++ rest) k ≡ parsed d rest (k + length (nodes d))
  parse_datum (atom a) zero rest k h fuel = absurd (omega arith)
  parse_datum (atom a) (suc f) rest k h fuel =
      step_written f k (Node.atom a) [] rest (both_left (node_fits (Node.atom a)) _ h)
      ∙ (λ i. parsed (atom a) rest (count i))
    where
      count : suc k ≡ k + 1
      count = omega arith
  parse_datum (pair a d) zero rest k h fuel = absurd (omega arith)
  parse_datum (pair a d) (suc f) rest k h fuel =
      let size = written_length (nodes a) (nodes d) in
      step_written f k Node.pair (nodes a ++ nodes d) rest refl
      ∙ ap (λ (l : List ℕ). of_node (λ bs k. datum_at f bs k) (λ n bs k. data_at f n bs k) Node.pair l (suc k)) (written_append (nodes a) (nodes d) rest)
      ∙ then_parsed _ (parse_datum a f (written (nodes d) ++ rest) (suc k) (every_front node_fits (nodes a) (nodes d) h) (omega arith))
      ∙ then_parsed _ (parse_datum d f rest (suc k + length (nodes a)) (every_back node_fits (nodes a) (nodes d) h) (omega arith))
      ∙ (λ i. parsed (pair a d) rest (count i))
    where
      count : suc k + length (nodes a) + length (nodes d) ≡ k + suc (length (nodes a ++ nodes d))
      count = omega (arith, length-append (nodes a) (nodes d))
  parse_datum (vector ds) zero rest k h fuel = absurd (omega arith)
  parse_datum (vector ds) (suc f) rest k h fuel =
      step_written f k (Node.vector (how_many ds)) (all_nodes ds) rest (both_left (node_fits (Node.vector (how_many ds))) _ h)
      ∙ then_parsed _ (parse_data ds f rest (suc k) (both_right (node_fits (Node.vector (how_many ds))) _ h) (omega arith))
      ∙ (λ i. parsed (vector ds) rest (count i))
    where
      count : suc k + length (all_nodes ds) ≡ k + suc (length (all_nodes ds))
      count = omega arith
  parse_datum (def l d) zero rest k h fuel = absurd (omega arith)
  parse_datum (def l d) (suc f) rest k h fuel =
      step_written f k (Node.def l) (nodes d) rest (both_left (node_fits (Node.def l)) _ h)
      ∙ then_parsed _ (parse_datum d f rest (suc k) (both_right (node_fits (Node.def l)) _ h) (omega arith))
      ∙ (λ i. parsed (def l d) rest (count i))
    where
      count : suc k + length (nodes d) ≡ k + suc (length (nodes d))
      count = omega arith

  parse_data : (ds : Data) (f : ℕ) (rest : List ℕ) (k : ℕ) → every node_fits (all_nodes ds) ≡ true → 2 * length (written (all_nodes ds)) + 1 < f → data_at f (how_many ds) (written (all_nodes ds) ++ rest) k ≡ parsed ds rest (k + length (all_nodes ds))
  parse_data end zero rest k h fuel = absurd (omega arith)
  parse_data end (suc f) rest k h fuel = λ i. parsed end rest (count i)
    where
      count : k ≡ k + 0
      count = omega arith
  parse_data (more d ds) zero rest k h fuel = absurd (omega arith)
  parse_data (more d ds) (suc f) rest k h fuel =
      let size = written_length (nodes d) (all_nodes ds) in
      let some = nodes_positive d in
      ap (λ (l : List ℕ). data_at (suc f) (suc (how_many ds)) l k) (written_append (nodes d) (all_nodes ds) rest)
      ∙ then_parsed _ (parse_datum d f (written (all_nodes ds) ++ rest) k (every_front node_fits (nodes d) (all_nodes ds) h) (omega arith))
      ∙ then_parsed _ (parse_data ds f rest (k + length (nodes d)) (every_back node_fits (nodes d) (all_nodes ds) h) (omega arith))
      ∙ (λ i. parsed (more d ds) rest (count i))
    where
      count : k + length (nodes d) + length (all_nodes ds) ≡ k + length (nodes d ++ all_nodes ds)
      count = omega (arith, length-append (nodes d) (all_nodes ds))

-- "The encoding of a datum parses back to it", where its fields are in their widths and keep 11's rules
pub parse_encode : (d : Datum) → datum_fits d ≡ true → parse (encode d) ≡ good d
unfolding datum_rules
parse_encode d h =
    let e = parse_datum d (2 * length (encode d) + 2) [] 0 h (omega arith) in
    ap whole (ap (λ (l : List ℕ). datum_at (2 * length (encode d) + 2) l 0) (sym (append-nil (encode d))) ∙ e)

-- ---- parsed, then written

-- what the bytes were, where nodes were parsed off them at node k
record Were (bs : List ℕ) (k : ℕ) (ns : List Node) (rest : List ℕ) (next : ℕ) : Type 0 where
  bytes : bs ≡ written ns ++ rest
  fits : every node_fits ns ≡ true
  left : all_bytes rest ≡ true
  count : next ≡ k + length ns

were_both : (bs : List ℕ) (k : ℕ) (xs ys : List Node) (mid rest : List ℕ) (i j : ℕ) → Were bs k xs mid i → Were mid i ys rest j → Were bs k (xs ++ ys) rest j
were_both bs k xs ys mid rest i j a b =
    record {
      bytes = a.bytes ∙ ap (λ (l : List ℕ). written xs ++ l) b.bytes ∙ sym (written_append xs ys rest);
      fits = every_append node_fits xs ys a.fits b.fits;
      left = b.left;
      count = omega (arith, a.count, b.count, length-append xs ys);
    }

were_node : (bs : List ℕ) (k : ℕ) (n : Node) (ns : List Node) (mid rest : List ℕ) (j : ℕ) → Was bs n mid → Were mid (suc k) ns rest j → Were bs k (n ∷ ns) rest j
unfolding basics
were_node bs k n ns mid rest j a b =
    record {
      bytes = a.written ∙ ap (λ (l : List ℕ). write_node n ++ l) b.bytes ∙ sym (append_assoc (write_node n) (written ns) rest);
      fits = both_true a.fits b.fits;
      left = b.left;
      count = omega (arith, b.count);
    }

were_none : (bs : List ℕ) (k : ℕ) → all_bytes bs ≡ true → Were bs k [] bs k
unfolding basics
were_none bs k h = record { bytes = refl; fits = refl; left = h; count = omega arith }

-- the datum that was read, in place of one equal to it
were_cast : {bs : List ℕ} {k : ℕ} {ns ms : List Node} {rest end : List ℕ} {i j : ℕ} → ns ≡ ms → rest ≡ end → i ≡ j → Were bs k ns rest i → Were bs k ms end j
were_cast {bs} {k} p q r w = subst₃ (λ (ns : List Node) (l : List ℕ) (i : ℕ). Were bs k ns l i) p q r w

fault_parsed : {A : Type 0} {a : A} {bs : List ℕ} {k j : ℕ} {x : Fault} → fault x k ≡ parsed a bs j → ⊥
fault_parsed e = let z : ◌≡◌ {A = ℕ} 0 1 = cc in omega arith

-- a `then` that was parsed: both its parts were
record Then {A B : Type 0} (p : Parsed A) (next : A → List ℕ → ℕ → Parsed B) (b : B) (rest : List ℕ) (j : ℕ) : Type 0 where
  value : A
  bytes : List ℕ
  at : ℕ
  first : p ≡ parsed value bytes at
  second : next value bytes at ≡ parsed b rest j

then_inv : {A B : Type 0} (p : Parsed A) (next : A → List ℕ → ℕ → Parsed B) (b : B) (rest : List ℕ) (j : ℕ) → then p next ≡ parsed b rest j → Then p next b rest j
unfolding datum_rules
then_inv (parsed a bs k) next b rest j e = record { value = a; bytes = bs; at = k; first = refl; second = e }
then_inv (fault x k) next b rest j e = absurd (fault_parsed e)

parsed_value : {A : Type 0} {a b : A} {r s : List ℕ} {i j : ℕ} → parsed a r i ≡ parsed b s j → a ≡ b
parsed_value e = cc

parsed_rest : {A : Type 0} {a b : A} {r s : List ℕ} {i j : ℕ} → parsed a r i ≡ parsed b s j → r ≡ s
parsed_rest e = cc

parsed_at : {A : Type 0} {a b : A} {r s : List ℕ} {i j : ℕ} → parsed a r i ≡ parsed b s j → i ≡ j
parsed_at e = cc

-- the node's own part: what follows it is parsed by `one` and `some`, of which the laws are given
module _ (f : ℕ)
    (one : (bs : List ℕ) (k : ℕ) (d : Datum) (rest : List ℕ) (j : ℕ) → all_bytes bs ≡ true → datum_at f bs k ≡ parsed d rest j → Were bs k (nodes d) rest j)
    (some : (n : ℕ) (bs : List ℕ) (k : ℕ) (ds : Data) (rest : List ℕ) (j : ℕ) → all_bytes bs ≡ true → data_at f n bs k ≡ parsed ds rest j → (n ≡ how_many ds) × Were bs k (all_nodes ds) rest j) where
  node_inv : (n : Node) (bs mid : List ℕ) (k : ℕ) (d : Datum) (rest : List ℕ) (j : ℕ) → Was bs n mid → of_node (λ bs k. datum_at f bs k) (λ n bs k. data_at f n bs k) n mid (suc k) ≡ parsed d rest j → Were bs k (nodes d) rest j
  unfolding datum_rules
  node_inv (Node.atom a) bs mid k d rest j w e =
      were_cast (ap nodes (parsed_value e)) (parsed_rest e) (parsed_at e)
      (were_node bs k (Node.atom a) [] mid mid (suc k) w (were_none mid (suc k) w.left))
  node_inv Node.pair bs mid k d rest j w e =
      let x = then_inv (datum_at f mid (suc k)) (λ a bs k. then (datum_at f bs k) (λ d. parsed (pair a d))) d rest j e in
      let y = then_inv (datum_at f x.bytes x.at) (λ d. parsed (pair x.value d)) d rest j x.second in
      let car = one mid (suc k) x.value x.bytes x.at w.left x.first in
      let cdr = one x.bytes x.at y.value y.bytes y.at car.left y.first in
      were_cast (ap nodes (parsed_value y.second)) (parsed_rest y.second) (parsed_at y.second)
      (were_node bs k Node.pair (nodes x.value ++ nodes y.value) mid y.bytes y.at w
      (were_both mid (suc k) (nodes x.value) (nodes y.value) x.bytes y.bytes x.at y.at car cdr))
  node_inv (Node.vector n) bs mid k d rest j w e =
      let x = then_inv (data_at f n mid (suc k)) (λ ds. parsed (vector ds)) d rest j e in
      let s = some n mid (suc k) x.value x.bytes x.at w.left x.first in
      were_cast (ap (λ (m : ℕ). Node.vector m ∷ all_nodes x.value) s.0 ∙ ap nodes (parsed_value x.second))
      (parsed_rest x.second)
      (parsed_at x.second)
      (were_node bs k (Node.vector n) (all_nodes x.value) mid x.bytes x.at w s.1)
  node_inv (Node.def l) bs mid k d rest j w e =
      let x = then_inv (datum_at f mid (suc k)) (λ d. parsed (def l d)) d rest j e in
      let s = one mid (suc k) x.value x.bytes x.at w.left x.first in
      were_cast (ap nodes (parsed_value x.second)) (parsed_rest x.second) (parsed_at x.second)
      (were_node bs k (Node.def l) (nodes x.value) mid x.bytes x.at w s)

  -- a datum's first node was read, or there was a fault
  first_inv : (r : Reading Node) (bs : List ℕ) (k : ℕ) (d : Datum) (rest : List ℕ) (j : ℕ) → all_bytes bs ≡ true → read_node bs ≡ r → elim r as (λ r. Parsed Datum) [ reads n mid ↦ of_node (λ bs k. datum_at f bs k) (λ n bs k. data_at f n bs k) n mid (suc k) | faulty x ↦ fault x k ] ≡ parsed d rest j → Were bs k (nodes d) rest j
  unfolding datum_rules
  first_inv (reads n mid) bs k d rest j h q e = node_inv n bs mid k d rest j (was_written bs n mid h q) e
  first_inv (faulty x) bs k d rest j h q e = absurd (fault_parsed e)

  -- one more datum of several
  more_inv : (n : ℕ) (bs : List ℕ) (k : ℕ) (ds : Data) (rest : List ℕ) (j : ℕ) → all_bytes bs ≡ true → then (datum_at f bs k) (λ d bs k. then (data_at f n bs k) (λ ds. parsed (more d ds))) ≡ parsed ds rest j → (suc n ≡ how_many ds) × Were bs k (all_nodes ds) rest j
  unfolding datum_rules
  more_inv n bs k ds rest j h e =
      let x = then_inv (datum_at f bs k) (λ d bs k. then (data_at f n bs k) (λ ds. parsed (more d ds))) ds rest j e in
      let y = then_inv (data_at f n x.bytes x.at) (λ ds. parsed (more x.value ds)) ds rest j x.second in
      let a = one bs k x.value x.bytes x.at h x.first in
      let b = some n x.bytes x.at y.value y.bytes y.at a.left y.first in (
        ap suc b.0 ∙ ap how_many (parsed_value y.second),
        were_cast (ap all_nodes (parsed_value y.second)) (parsed_rest y.second) (parsed_at y.second)
            (were_both bs k (nodes x.value) (all_nodes y.value) x.bytes y.bytes x.at y.at a b.1),
      )

no_more_inv : (bs : List ℕ) (k : ℕ) (ds : Data) (rest : List ℕ) (j : ℕ) → all_bytes bs ≡ true → parsed end bs k ≡ parsed ds rest j → (0 ≡ how_many ds) × Were bs k (all_nodes ds) rest j
unfolding datum_rules
no_more_inv bs k ds rest j h e =
    (ap how_many (parsed_value e), were_cast (ap all_nodes (parsed_value e)) (parsed_rest e) (parsed_at e) (were_none bs k h))

mutual
  unfolding datum_rules

  datum_inv : (f : ℕ) (bs : List ℕ) (k : ℕ) (d : Datum) (rest : List ℕ) (j : ℕ) → all_bytes bs ≡ true → datum_at f bs k ≡ parsed d rest j → Were bs k (nodes d) rest j
  datum_inv zero bs k d rest j h e = absurd (fault_parsed e)
  datum_inv (suc f) bs k d rest j h e =
      first_inv f (λ bs k d rest j h e. datum_inv f bs k d rest j h e) (λ n bs k ds rest j h e. data_inv f n bs k ds rest j h e)
      (read_node bs) bs k d rest j h refl e

  data_inv : (f n : ℕ) (bs : List ℕ) (k : ℕ) (ds : Data) (rest : List ℕ) (j : ℕ) → all_bytes bs ≡ true → data_at f n bs k ≡ parsed ds rest j → (n ≡ how_many ds) × Were bs k (all_nodes ds) rest j
  data_inv zero zero bs k ds rest j h e = no_more_inv bs k ds rest j h e
  data_inv zero (suc n) bs k ds rest j h e = absurd (fault_parsed e)
  data_inv (suc f) zero bs k ds rest j h e = no_more_inv bs k ds rest j h e
  data_inv (suc f) (suc n) bs k ds rest j h e =
      more_inv f (λ bs k d rest j h e. datum_inv f bs k d rest j h e) (λ n bs k ds rest j h e. data_inv f n bs k ds rest j h e)
      n bs k ds rest j h e

-- what is left after a datum: fewer bytes
pub record Rest (bs rest : List ℕ) : Type 0 where
  pub short : length rest < length bs
  pub bytes : all_bytes rest ≡ true

pub datum_rest : (f : ℕ) (bs : List ℕ) (k : ℕ) (d : Datum) (rest : List ℕ) (j : ℕ) → all_bytes bs ≡ true → datum_at f bs k ≡ parsed d rest j → Rest bs rest
datum_rest f bs k d rest j h e =
    let w = datum_inv f bs k d rest j h e in
    record {
      short = omega (arith, nodes_positive d, ap length w.bytes ∙ length-append (written (nodes d)) rest);
      bytes = w.left;
    }

-- as many data were read as were wanted
pub data_count : (f n : ℕ) (bs : List ℕ) (k : ℕ) (ds : Data) (rest : List ℕ) (j : ℕ) → all_bytes bs ≡ true → data_at f n bs k ≡ parsed ds rest j → n ≡ how_many ds
data_count f n bs k ds rest j h e = (data_inv f n bs k ds rest j h e).0

-- what was parsed from the whole list
record ParsedGood (bs : List ℕ) (d : Datum) : Type 0 where
  bytes : bs ≡ encode d
  fits : datum_fits d ≡ true

pub good_value : {d e : Datum} → good d ≡ good e → d ≡ e
good_value e = cc

bad_good : {d : Datum} {x : Fault} {k : ℕ} → bad x k ≡ good d → ⊥
bad_good e = let z : ◌≡◌ {A = ℕ} 0 1 = cc in omega arith

whole_inv : (p : Parsed Datum) (bs : List ℕ) (d : Datum) → all_bytes bs ≡ true → datum_at (2 * length bs + 2) bs 0 ≡ p → whole p ≡ good d → ParsedGood bs d
unfolding datum_rules
whole_inv (parsed c [] k) bs d h q e =
    let w = datum_inv (2 * length bs + 2) bs 0 c [] k h q in
    record {
      bytes = w.bytes ∙ append-nil (encode c) ∙ ap encode (good_value e);
      fits = subst (λ (x : Datum). datum_fits x ≡ true) (good_value e) w.fits;
    }
whole_inv (parsed c (b ∷ rest) k) bs d h q e = absurd (bad_good e)
whole_inv (fault x k) bs d h q e = absurd (bad_good e)

-- "what parses encodes back to the same bytes"
pub encode_parse : (bs : List ℕ) (d : Datum) → all_bytes bs ≡ true → parse bs ≡ good d → encode d ≡ bs
unfolding datum_rules
encode_parse bs d h e = sym (whole_inv (datum_at (2 * length bs + 2) bs 0) bs d h refl e).bytes

-- and has its fields in their widths, by 11's rules
pub parse_fits : (bs : List ℕ) (d : Datum) → all_bytes bs ≡ true → parse bs ≡ good d → datum_fits d ≡ true
unfolding datum_rules
parse_fits bs d h e = (whole_inv (datum_at (2 * length bs + 2) bs 0) bs d h refl e).fits
