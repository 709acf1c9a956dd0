-- The parse as one pass over the nodes: a count of the data still wanted takes the place of the tree. What the pass finds
-- is what `datum_at` finds, fault and node too. Assumes nothing.
use mathlib.Core.Path.{◌≡◌, refl, sym, ap, ◌∙◌}
use mathlib.Core.Bool.{true}
use mathlib.Core.List.{List, [], ◌∷◌, ◌++◌, append_assoc, append-nil}
use Prim.Native.Nat.{ℕ, zero, suc, ◌+◌, ◌*◌, ◌≤◌, ◌<◌}
use native.Mathlib.Omega.{arith}
use native.Mathlib.Nat.{zero-add, suc-add}
use lib.ListN.{length, length-append}
use Rattle.laws.proofs.Bytes.{all_bytes}
use Rattle.rules.specs.Refusals.{cut_short}
use Rattle.rules.specs.Nodes.{Node, Reading, reads, faulty, read_node, write_node}
use Rattle.rules.specs.Datum.{Datum, Data, end, more, nodes, all_nodes, Parsed, parsed, fault, then, of_node, datum_at, data_at, datum_rules}
use Rattle.rules.proofs.Nodes.{was_written, write_positive}
use Rattle.rules.proofs.Datum.{datum_rest, data_count}

-- how many data follow a node
unfoldable pub follow : Node → ℕ
follow (Node.atom a) = 0
follow Node.pair = 2
follow (Node.vector n) = n
follow (Node.def l) = 1

-- the nodes of as many data as are wanted; the first number only bounds the steps
unfoldable pub flat : ℕ → ℕ → List ℕ → ℕ → Parsed (List Node)
unfolding follow datum_rules
flat zero w bs k = elim w [ zero ↦ parsed [] bs k | suc v ↦ fault cut_short k ]
flat (suc f) zero bs k = parsed [] bs k
flat (suc f) (suc w) bs k =
    elim (read_node bs)
    [ reads n rest ↦ then (flat f (follow n + w) rest (suc k)) (λ ns. parsed (n ∷ ns)) | faulty x ↦ fault x k ]

-- ---- `then`

module _ {A B : Type 0} where
  then_same : (p : Parsed A) (f g : A → List ℕ → ℕ → Parsed B) → ((a : A) (bs : List ℕ) (k : ℕ) → p ≡ parsed a bs k → f a bs k ≡ g a bs k) → then p f ≡ then p g
  unfolding datum_rules
  then_same (parsed a bs k) f g h = h a bs k refl
  then_same (fault x k) f g h = refl

then_then : {A B C : Type 0} (p : Parsed A) (f : A → List ℕ → ℕ → Parsed B) (g : B → List ℕ → ℕ → Parsed C) → then (then p f) g ≡ then p (λ a bs k. then (f a bs k) g)
unfolding datum_rules
then_then (parsed a bs k) f g = refl
then_then (fault x k) f g = refl

-- ---- a node takes a byte at least

pub shorter : (bs : List ℕ) (n : Node) (rest : List ℕ) → all_bytes bs ≡ true → read_node bs ≡ reads n rest → length rest < length bs
shorter bs n rest h e =
    let w = was_written bs n rest h e in
    omega (arith, write_positive n, ap length w.written ∙ length-append (write_node n) rest)

-- what is left is bytes too
pub still_bytes : (bs : List ℕ) (n : Node) (rest : List ℕ) → all_bytes bs ≡ true → read_node bs ≡ reads n rest → all_bytes rest ≡ true
still_bytes bs n rest h e = (was_written bs n rest h e).left

-- ---- enough steps are enough

-- the next step, by what was read
after_read : ℕ → ℕ → ℕ → Reading Node → Parsed (List Node)
after_read f w k r = elim r [ reads n rest ↦ then (flat f (follow n + w) rest (suc k)) (λ ns. parsed (n ∷ ns)) | faulty x ↦ fault x k ]

module _ (f g w k : ℕ) (bs : List ℕ) (h : all_bytes bs ≡ true) (again : (w : ℕ) (rest : List ℕ) (k : ℕ) → all_bytes rest ≡ true → length rest < length bs → flat f w rest k ≡ flat g w rest k) where
  enough_read : (r : Reading Node) → read_node bs ≡ r → after_read f w k r ≡ after_read g w k r
  unfolding after_read
  enough_read (reads n rest) e =
      ap (λ (p : Parsed (List Node)). then p (λ ns. parsed (n ∷ ns)))
      (again (follow n + w) rest (suc k) (still_bytes bs n rest h e) (shorter bs n rest h e))
  enough_read (faulty x) e = refl

pub enough : (f g w : ℕ) (bs : List ℕ) (k : ℕ) → all_bytes bs ≡ true → length bs < f → length bs < g → flat f w bs k ≡ flat g w bs k
unfolding flat after_read
enough zero g w bs k h p q = absurd (omega arith)
enough (suc f) zero w bs k h p q = absurd (omega arith)
enough (suc f) (suc g) zero bs k h p q = refl
enough (suc f) (suc g) (suc w) bs k h p q =
    enough_read f g w k bs h (λ v rest j b l. enough f g v rest j b (omega arith) (omega arith)) (read_node bs) refl

-- ---- the same as the tree's parse

-- what a tree's parse gives, as nodes, and then as many more as are wanted
and_flat : ℕ → ℕ → Parsed Datum → Parsed (List Node)
and_flat g w p = then p (λ d bs k. then (flat g w bs k) (λ ns. parsed (nodes d ++ ns)))

and_flat_all : ℕ → ℕ → Parsed Data → Parsed (List Node)
and_flat_all g w p = then p (λ ds bs k. then (flat g w bs k) (λ ns. parsed (all_nodes ds ++ ns)))

module _ (F : ℕ)
    (one : (bs : List ℕ) (k w f g : ℕ) → all_bytes bs ≡ true → 2 * length bs < F → length bs < f → length bs ≤ g → flat f (suc w) bs k ≡ and_flat g w (datum_at F bs k))
    (some : (n : ℕ) (bs : List ℕ) (k w f g : ℕ) → all_bytes bs ≡ true → 2 * length bs + 1 < F → length bs < f → length bs < g → flat f (n + w) bs k ≡ and_flat_all g w (data_at F n bs k)) where
  module _ (w f g k : ℕ) (bs rest : List ℕ) (b : all_bytes rest ≡ true) (l : length rest < length bs) (fuel : 2 * length bs < suc F) (p : length bs < suc f) (q : length bs ≤ g) where
    node_flat : (n : Node) → then (flat f (follow n + w) rest (suc k)) (λ ns. parsed (n ∷ ns)) ≡ and_flat g w (of_node (λ bs k. datum_at F bs k) (λ n bs k. data_at F n bs k) n rest (suc k))
    unfolding datum_rules follow and_flat and_flat_all
    node_flat (Node.atom a) =
        ap (λ (p : Parsed (List Node)). then p (λ ns. parsed (Node.atom a ∷ ns)))
        (ap (λ (v : ℕ). flat f v rest (suc k)) (zero-add w) ∙ enough f g w rest (suc k) b (omega arith) (omega arith))
    node_flat Node.pair =
        ap (λ (p : Parsed (List Node)). then p (λ ns. parsed (Node.pair ∷ ns)))
        (ap (λ (v : ℕ). flat f v rest (suc k)) two ∙ one rest (suc k) (suc w) f g b (omega arith) (omega arith) (omega arith))
        ∙ then_then (datum_at F rest (suc k)) _ _
        ∙ then_same (datum_at F rest (suc k)) _ _
        (λ a bs' j e.
        let s = datum_rest F rest (suc k) a bs' j b e in
        ap {B = Parsed (List Node)} (λ (p : Parsed (List Node)). then (then p (λ ns. parsed (nodes a ++ ns))) (λ ns. parsed (Node.pair ∷ ns)))
        (one bs' j w g g s.bytes (omega (arith, s.short)) (omega (arith, s.short)) (omega (arith, s.short)))
        ∙ ap {B = Parsed (List Node)} (λ (p : Parsed (List Node)). then p (λ ns. parsed (Node.pair ∷ ns))) (then_then (datum_at F bs' j) _ _)
        ∙ then_then (datum_at F bs' j) _ _
        ∙ then_same (datum_at F bs' j) _ _
        (λ d bs'' i e'.
        ap {B = Parsed (List Node)} (λ (p : Parsed (List Node)). then p (λ ns. parsed (Node.pair ∷ ns))) (then_then (flat g w bs'' i) _ _)
        ∙ then_then (flat g w bs'' i) _ _
        ∙ then_same (flat g w bs'' i) _ _
        (λ ns r m e''. ap (λ (l : List Node). parsed (Node.pair ∷ l) r m) (sym (append_assoc (nodes a) (nodes d) ns))))
        ∙ sym (then_then (datum_at F bs' j) _ _))
        ∙ sym (then_then (datum_at F rest (suc k)) _ _)
      where
        two : 2 + w ≡ suc (suc w)
        two = omega arith
    node_flat (Node.vector n) =
        ap (λ (p : Parsed (List Node)). then p (λ ns. parsed (Node.vector n ∷ ns)))
        (some n rest (suc k) w f g b (omega arith) (omega arith) (omega arith))
        ∙ then_then (data_at F n rest (suc k)) _ _
        ∙ then_same (data_at F n rest (suc k)) _ _
        (λ ds bs' j e.
        then_then (flat g w bs' j) _ _
        ∙ then_same (flat g w bs' j) _ _
        (λ ns r m e'. ap (λ (x : ℕ). parsed (Node.vector x ∷ (all_nodes ds ++ ns)) r m) (data_count F n rest (suc k) ds bs' j b e)))
        ∙ sym (then_then (data_at F n rest (suc k)) _ _)
    node_flat (Node.def m) =
        ap (λ (p : Parsed (List Node)). then p (λ ns. parsed (Node.def m ∷ ns)))
        (ap (λ (v : ℕ). flat f v rest (suc k)) one_more ∙ one rest (suc k) w f g b (omega arith) (omega arith) (omega arith))
        ∙ then_then (datum_at F rest (suc k)) _ _
        ∙ then_same (datum_at F rest (suc k)) _ _ (λ d bs' j e. then_then (flat g w bs' j) _ _)
        ∙ sym (then_then (datum_at F rest (suc k)) _ _)
      where
        one_more : 1 + w ≡ suc w
        one_more = omega arith

  -- a datum's first node was read, or there was a fault
  read_flat : (w f g k : ℕ) (bs : List ℕ) → all_bytes bs ≡ true → 2 * length bs < suc F → length bs < suc f → length bs ≤ g → (r : Reading Node) → read_node bs ≡ r → after_read f w k r ≡ and_flat g w (elim r as (λ r. Parsed Datum) [ reads n rest ↦ of_node (λ bs k. datum_at F bs k) (λ n bs k. data_at F n bs k) n rest (suc k) | faulty x ↦ fault x k ])
  unfolding after_read and_flat datum_rules
  read_flat w f g k bs h fuel p q (reads n rest) e =
      node_flat w f g k bs rest (still_bytes bs n rest h e) (shorter bs n rest h e) fuel p q n
  read_flat w f g k bs h fuel p q (faulty x) e = refl

  -- one datum, and the rest of several
  more_flat : (n w f g k : ℕ) (bs : List ℕ) → all_bytes bs ≡ true → 2 * length bs < F → length bs < f → length bs < g → flat f (suc (n + w)) bs k ≡ and_flat_all g w (then (datum_at F bs k) (λ d bs k. then (data_at F n bs k) (λ ds. parsed (more d ds))))
  unfolding and_flat and_flat_all datum_rules
  more_flat n w f g k bs h fuel p q =
      one bs k (n + w) f g h fuel p (omega arith)
      ∙ then_same (datum_at F bs k) _ _
      (λ d bs' j e.
      let s = datum_rest F bs k d bs' j h e in
      ap {B = Parsed (List Node)} (λ (p : Parsed (List Node)). then p (λ ns. parsed (nodes d ++ ns)))
      (some n bs' j w g g s.bytes (omega (arith, s.short)) (omega (arith, s.short)) (omega (arith, s.short)))
      ∙ then_then (data_at F n bs' j) _ _
      ∙ then_same (data_at F n bs' j) _ _
      (λ ds bs'' i e'.
      then_then (flat g w bs'' i) _ _
      ∙ then_same (flat g w bs'' i) _ _
      (λ ns r m e''. ap (λ (l : List Node). parsed l r m) (sym (append_assoc (nodes d) (all_nodes ds) ns))))
      ∙ sym (then_then (data_at F n bs' j) _ _))
      ∙ sym (then_then (datum_at F bs k) _ _)

-- no more data, and then what is wanted: the same
none_flat : (w f g k : ℕ) (bs : List ℕ) → all_bytes bs ≡ true → length bs < f → length bs < g → flat f (0 + w) bs k ≡ and_flat_all g w (parsed end bs k)
unfolding and_flat_all datum_rules
none_flat w f g k bs h p q = ap (λ (v : ℕ). flat f v bs k) (zero-add w) ∙ enough f g w bs k h p q ∙ same (flat g w bs k)
  where
    same : (p : Parsed (List Node)) → p ≡ then p (λ ns. parsed ns)
    same (parsed ns bs k) = refl
    same (fault x k) = refl

mutual
  unfolding flat after_read datum_rules

  datum_flat : (F : ℕ) (bs : List ℕ) (k w f g : ℕ) → all_bytes bs ≡ true → 2 * length bs < F → length bs < f → length bs ≤ g → flat f (suc w) bs k ≡ and_flat g w (datum_at F bs k)
  datum_flat zero bs k w f g h fuel p q = absurd (omega arith)
  datum_flat (suc F) bs k w zero g h fuel p q = absurd (omega arith)
  datum_flat (suc F) bs k w (suc f) g h fuel p q =
      read_flat F (λ bs k w f g h fuel p q. datum_flat F bs k w f g h fuel p q)
      (λ n bs k w f g h fuel p q. data_flat F n bs k w f g h fuel p q)
      w f g k bs h fuel p q (read_node bs) refl

  data_flat : (F n : ℕ) (bs : List ℕ) (k w f g : ℕ) → all_bytes bs ≡ true → 2 * length bs + 1 < F → length bs < f → length bs < g → flat f (n + w) bs k ≡ and_flat_all g w (data_at F n bs k)
  data_flat zero n bs k w f g h fuel p q = absurd (omega arith)
  data_flat (suc F) zero bs k w f g h fuel p q = none_flat w f g k bs h p q
  data_flat (suc F) (suc n) bs k w f g h fuel p q =
      ap (λ (v : ℕ). flat f v bs k) (suc-add n w)
      ∙ more_flat F (λ bs k w f g h fuel p q. datum_flat F bs k w f g h fuel p q)
      (λ n bs k w f g h fuel p q. data_flat F n bs k w f g h fuel p q)
      n w f g k bs h (omega arith) p q

-- ---- the whole datum

-- the pass gives the nodes of the tree that the parse gives, or the same fault
pub one_pass : (bs : List ℕ) (f : ℕ) → all_bytes bs ≡ true → length bs < f → flat f 1 bs 0 ≡ then (datum_at (2 * length bs + 2) bs 0) (λ d. parsed (nodes d))
unfolding and_flat datum_rules flat
one_pass bs f h p =
    datum_flat (2 * length bs + 2) bs 0 0 f f h (omega arith) p (omega arith)
    ∙ then_same (datum_at (2 * length bs + 2) bs 0) _ _ (λ d rest j e. stop f d rest j)
  where
    stop : (f : ℕ) (d : Datum) (rest : List ℕ) (j : ℕ) → then (flat f 0 rest j) (λ ns. parsed (nodes d ++ ns)) ≡ parsed (nodes d) rest j
    stop zero d rest j = ap (λ (l : List Node). parsed l rest j) (append-nil (nodes d))
    stop (suc f) d rest j = ap (λ (l : List Node). parsed l rest j) (append-nil (nodes d))
