-- The pass over the bytes: what was to do is what is left to do. Assumes nothing.
use mathlib.Core.Path.{◌≡◌, refl, sym, ap, ◌∙◌, subst}
use mathlib.Core.Bool.{Bool, true, false}
use mathlib.Core.List.{List, [], ◌∷◌, ◌++◌}
use mathlib.Core.Option.{Option, some}
use Prim.Native.Nat.{ℕ, zero, suc, ◌+◌, ◌-◌, ◌*◌, ◌≤◌, ◌<◌}
use native.Mathlib.Omega.{arith}
use borrow.Author.Tests.{ltb-true}
use lib.Dec.{ltb}
use lib.ListN.{length, get_or, take, drop, length-drop}
use lib.Seq.{drop-drop, take_all}
use Rattle.laws.specs.Basics.{choose, either, member}
use Rattle.laws.proofs.Bytes.{all_bytes}
use Rattle.rules.specs.Refusals.{Refusal, malformed, left_over}
use Rattle.rules.specs.Nodes.{Atom, Node, Reading, reads, faulty, read_node, nodes_rules}
use Rattle.rules.specs.Datum.{Datum, nodes, Parsed, parsed, fault, then, datum_at, good, bad, whole, within_limits, early_reference, datum_rules}
use Rattle.rules.proofs.Flat.{follow, flat, enough, one_pass, shorter, still_bytes}
use Rattle.leaf_nodes.specs.declared.Fault.{Fault}
use Rattle.leaf_nodes.specs.declared.Fault.TheVariants.{LeftOver}
use Rattle.leaf_nodes.specs.declared.Read.{Read}
use Rattle.leaf_nodes.specs.Reads.{fault_of, text_of, as_read, ReadAs, reads_rules}
use Rattle.leaf_nodes.proofs.Laws.{NodeAt, node_at, text_long, good_node, all_small}
use Rattle.heap_tally.specs.declared.Tally as code
use Rattle.refusals.specs.declared.Refusal as code_refusal
use Rattle.refusals.specs.declared.Refusal.TheVariants.{Malformed}
use Rattle.std.specs.Prelude.{Result, Ok, Err}
use Rattle.heap_tally.specs.Pass.{limits}
use Rattle.heap_check.specs.Verdict.{verdict, checked_of}
use Rattle.heap_tally.specs.Pass.{Tally, tally, mentioned, counted, stepped, judged, capped, tally_of, Shown, pass_rules}
use Rattle.std.proofs.Common.{Fits, w8}
use Rattle.heap_tally.proofs.TallyLaws.{run_on, tally_datum}

-- what is answered where the nodes that are left are these
unfoldable pub after : Tally → Parsed (List Node) → Option Refusal
after t (parsed ns [] k) = judged (run_on t ns)
after t (parsed ns (b ∷ bs) k) = some (malformed left_over k)
after t (fault x k) = some (malformed x k)

-- what is answered with this tally so far, where so many data are wanted from these bytes
unfoldable pub pass : Tally → ℕ → List ℕ → Option Refusal
unfolding after
pass t w bs = after t (flat (suc (length bs)) w bs t.nodes)

-- ---- begin

pub begins : (bs : List ℕ) → all_bytes bs ≡ true → verdict bs ≡ pass (tally 0 false false []) 1 bs
unfolding pass after verdict datum_rules
begins bs h =
    go (datum_at (2 * length bs + 2) bs 0)
    ∙ sym (ap (λ (p : Parsed (List Node)). after (tally 0 false false []) p) (one_pass bs (suc (length bs)) h (omega arith)))
  where
    go : (p : Parsed Datum) → elim (whole p) as (λ p. Option Refusal) [ good d ↦ limits (within_limits d) (early_reference d) | bad f n ↦ some (malformed f n) ] ≡ after (tally 0 false false []) (then p (λ d. parsed (nodes d)))
    go (parsed d [] k) = sym (tally_datum d)
    go (parsed d (b ∷ bs) k) = refl
    go (fault x k) = refl

-- ---- a node

-- the next step, by what was read
looked : ℕ → ℕ → ℕ → Reading Node → Parsed (List Node)
looked f w k r = elim r [ reads n rest ↦ then (flat f (follow n + w) rest (suc k)) (λ ns. parsed (n ∷ ns)) | faulty x ↦ fault x k ]

pub faults : (t : Tally) (w : ℕ) (bs : List ℕ) (x : _) → 0 < w → read_node bs ≡ faulty x → pass t w bs ≡ some (malformed x t.nodes)
unfolding pass after looked flat
faults t zero bs x h e = absurd (omega arith)
faults t (suc w) bs x h e = ap (λ (r : Reading Node). after t (looked (length bs) w t.nodes r)) e

mentioned_nodes : (refers : Bool) (l : ℕ) (t : Tally) → (mentioned refers l t).nodes ≡ t.nodes
unfolding pass_rules
mentioned_nodes refers l t = go (member l t.labels) (ltb (length t.labels) 64)
  where
    go : (a b : Bool) → (choose a t (choose b (tally t.nodes t.over (either refers t.early) (t.labels ++ (l ∷ []))) (tally t.nodes true t.early t.labels))).nodes ≡ t.nodes
    go true b = refl
    go false true = refl
    go false false = refl

pub stepped_nodes : (t : Tally) (n : Node) → (stepped t n).nodes ≡ suc t.nodes
unfolding pass_rules datum_rules
stepped_nodes t (Node.atom (Atom.plain s)) = refl
stepped_nodes t (Node.atom (Atom.string x)) = refl
stepped_nodes t (Node.atom (Atom.symbol x)) = refl
stepped_nodes t (Node.atom (Atom.ident s x)) = refl
stepped_nodes t (Node.atom (Atom.ref l)) = mentioned_nodes true l (counted true t)
stepped_nodes t Node.pair = refl
stepped_nodes t (Node.vector n) = refl
stepped_nodes t (Node.def l) = mentioned_nodes false l (counted true t)

after_node : (t : Tally) (n : Node) (p : Parsed (List Node)) → after t (then p (λ ns. parsed (n ∷ ns))) ≡ after (stepped t n) p
unfolding after datum_rules run_on
after_node t n (parsed ns [] k) = refl
after_node t n (parsed ns (b ∷ bs) k) = refl
after_node t n (fault x k) = refl

pub steps : (t : Tally) (w : ℕ) (bs : List ℕ) (n : Node) (rest : List ℕ) → all_bytes bs ≡ true → read_node bs ≡ reads n rest → 0 < w → pass t w bs ≡ pass (stepped t n) (follow n + (w - 1)) rest
unfolding pass after looked flat
steps t zero bs n rest h e p = absurd (omega arith)
steps t (suc w) bs n rest h e p =
    let less : w ≡ suc w - 1 = omega arith in
    ap (λ (r : Reading Node). after t (looked (length bs) w t.nodes r)) e
    ∙ after_node t n (flat (length bs) (follow n + w) rest (suc t.nodes))
    ∙ ap (λ (q : Parsed (List Node)). after (stepped t n) q)
    (enough (length bs) (suc (length rest)) (follow n + w) rest (suc t.nodes) (still_bytes bs n rest h e) (shorter bs n rest h e) (omega arith)
    ∙ (λ i. flat (suc (length rest)) (follow n + less i) rest (sym (stepped_nodes t n) i)))

-- ---- more data wanted than bytes are left

module _ (f w v k : ℕ) (bs : List ℕ) (h : all_bytes bs ≡ true) (again : (w v : ℕ) (rest : List ℕ) (k : ℕ) → all_bytes rest ≡ true → length rest < length bs → length rest < w → length rest < v → flat f w rest k ≡ flat f v rest k) (p : length bs ≤ w) (q : length bs ≤ v) where
  many_read : (r : Reading Node) → read_node bs ≡ r → looked f w k r ≡ looked f v k r
  unfolding looked
  many_read (reads n rest) e =
      ap (λ (p : Parsed (List Node)). then p (λ ns. parsed (n ∷ ns)))
      (again (follow n + w) (follow n + v) rest (suc k) (still_bytes bs n rest h e) (shorter bs n rest h e) (omega (arith, shorter bs n rest h e)) (omega (arith, shorter bs n rest h e)))
  many_read (faulty x) e = refl

many : (f w v : ℕ) (bs : List ℕ) (k : ℕ) → all_bytes bs ≡ true → length bs < f → length bs < w → length bs < v → flat f w bs k ≡ flat f v bs k
unfolding looked flat
many zero w v bs k h l p q = absurd (omega arith)
many (suc f) zero v bs k h l p q = absurd (omega arith)
many (suc f) (suc w) zero bs k h l p q = absurd (omega arith)
many (suc f) (suc w) (suc v) bs k h l p q =
    many_read f w v k bs h (λ w v rest k b s p q. many f w v rest k b (omega arith) p q) (omega arith) (omega arith) (read_node bs) refl

pub caps : (t : Tally) (w : ℕ) (bs : List ℕ) → all_bytes bs ≡ true → pass t w bs ≡ pass t (capped (length bs) w) bs
unfolding pass pass_rules
caps t w bs h = go (ltb (length bs) w) refl
  where
    go : (b : Bool) → ltb (length bs) w ≡ b → pass t w bs ≡ pass t (choose b (suc (length bs)) w) bs
    go true e =
        ap (λ (p : Parsed (List Node)). after t p)
        (many (suc (length bs)) w (suc (length bs)) bs t.nodes h (omega arith) (ltb-true _ _ e) (omega arith))
    go false e = refl

-- ---- end

pub ends_over : (t : Tally) (bs : List ℕ) → 0 < length bs → pass t 0 bs ≡ some (malformed left_over t.nodes)
unfolding pass after flat
ends_over t [] h = absurd (omega arith)
ends_over t (b ∷ bs) h = refl

pub ends_well : (t : Tally) (bs : List ℕ) → length bs ≡ 0 → pass t 0 bs ≡ judged t
unfolding pass after flat run_on
ends_well t [] h = refl
ends_well t (b ∷ bs) h = absurd (omega arith)

-- ---- as the code has it

module _ (bs : List ℕ) (at w : ℕ) (t : Tally) (h : 0 < w) (whole : verdict bs ≡ pass t w (drop at bs)) where
  pub stops : (f : Fault) → ReadAs (drop at bs) (Err f) → checked_of (Err (Malformed f t.nodes)) ≡ verdict bs
  unfolding reads_rules
  stops f a = sym (whole ∙ faults t w (drop at bs) (fault_of f) h (sym a.is))

  module _ (r : Read) (a : ReadAs (drop at bs) (Ok r)) where
    found : (n : Node) × (as_read (drop at bs) (Ok r) ≡ reads n (drop r.size (drop at bs)))
    unfolding reads_rules
    found = good_node r.node (text_of (drop at bs) r.node r.size) (drop r.size (drop at bs))

    -- the rules' node that was read
    pub the_node : Node
    the_node = found.0

    pub node_here : NodeAt (drop at bs) r the_node
    unfolding the_node
    node_here = node_at (drop at bs) r found.0 a found.1

    pub node_shown : Shown r.node the_node
    unfolding the_node reads_rules
    node_shown =
        record {
          text = text_of (drop at bs) r.node r.size;
          rest = drop r.size (drop at bs);
          long = text_long (drop at bs) r a;
          is = found.1;
        }

    pub goes_on : (next : Tally) (more wanted : ℕ) → next ≡ stepped t the_node → more ≡ follow the_node → wanted ≡ capped (length bs - (at + r.size)) (more + (w - 1)) → verdict bs ≡ pass next wanted (drop (at + r.size) bs)
    unfolding nodes_rules
    goes_on next more wanted e m q =
        whole
        ∙ steps t w (drop at bs) the_node (drop r.size (drop at bs)) a.all node_here.reading h
        ∙ caps (stepped t the_node) (follow the_node + (w - 1)) (drop r.size (drop at bs)) node_here.left
        ∙ (λ i. pass (sym e i) (capped (left i) (sym m i + (w - 1))) (drop-drop r.size at bs i))
        ∙ ap (λ (w : ℕ). pass next w (drop (at + r.size) bs)) (sym q)
      where
        left : length (drop r.size (drop at bs)) ≡ length bs - (at + r.size)
        left = ap length (drop-drop r.size at bs) ∙ length-drop (at + r.size) bs

-- what holds at each turn: the answer is that of the pass from here on
pub record Going (bs : List ℕ) (t : code.Tally) (at wanted : ℕ) : Type 0 where
  pub within : at ≤ length bs
  pub counted : t.nodes ≤ at
  pub whole : verdict bs ≡ pass (tally_of t) wanted (drop at bs)

pub going_begins : (bs : List ℕ) (t : code.Tally) → ((i : ℕ) → Fits w8 (get_or bs i 0)) → tally_of t ≡ tally 0 false false [] → Going bs t 0 1
unfolding nodes_rules
going_begins bs t small told =
    record {
      within = omega arith;
      counted = omega (arith, ap (λ (t : Tally). t.nodes) told);
      whole = begins bs (all_small bs (λ i. omega (arith, small i))) ∙ ap (λ (t : Tally). pass t 1 bs) (sym told);
    }

module _ (bs : List ℕ) (at wanted : ℕ) (t : code.Tally) (g : Going bs t at wanted) (h : 0 < wanted) where
  here : {r s : Result Read Fault} → ReadAs (take (length bs - at) (drop at bs)) r → r ≡ s → ReadAs (drop at bs) s
  here {s = s} part e =
      subst (λ (l : List ℕ). ReadAs l s)
      (take_all (length bs - at) (drop at bs) (omega (arith, length-drop at bs)))
      (subst (λ (r : Result Read Fault). ReadAs (take (length bs - at) (drop at bs)) r) e part)

  module _ {r : Result Read Fault} (part : ReadAs (take (length bs - at) (drop at bs)) r) where
    pub turn_stops : (f : Fault) → r ≡ Err f → checked_of (Err (Malformed f t.nodes)) ≡ verdict bs
    turn_stops f e = stops bs at wanted (tally_of t) h g.whole f (here part e)

    module _ (read : Read) (e : r ≡ Ok read) where
      pub turn_inside : (1 ≤ read.size) × (at + read.size ≤ length bs)
      turn_inside = (
        (node_here bs at wanted (tally_of t) h g.whole read (here part e)).some,
        omega (arith, (here part e).placed.inside, length-drop at bs, g.within),
      )

      pub turn_goes : (next : code.Tally) (more w : ℕ) → ((n : Node) → Shown read.node n → tally_of next ≡ stepped (tally_of t) n) → ((n : Node) → Shown read.node n → more ≡ follow n) → w ≡ capped (length bs - (at + read.size)) (more + (wanted - 1)) → Going bs next (at + read.size) w
      turn_goes next more w told follows q =
          let n = the_node bs at wanted (tally_of t) h g.whole read (here part e) in
          let s = node_shown bs at wanted (tally_of t) h g.whole read (here part e) in
          record {
            within = turn_inside.1;
            counted =
                omega
                (arith, g.counted, turn_inside.0, ap (λ (t : Tally). t.nodes) (told n s) ∙ stepped_nodes (tally_of t) n);
            whole = goes_on bs at wanted (tally_of t) h g.whole read (here part e) (tally_of next) more w (told n s) (follows n s) q;
          }

module _ (bs : List ℕ) (at wanted : ℕ) (t : code.Tally) (g : Going bs t at wanted) (none : wanted ≡ 0) where
  at_end : verdict bs ≡ pass (tally_of t) 0 (drop at bs)
  at_end = g.whole ∙ ap (λ (w : ℕ). pass (tally_of t) w (drop at bs)) none

  pub turn_over : at < length bs → checked_of (Err (Malformed LeftOver t.nodes)) ≡ verdict bs
  turn_over h = sym (at_end ∙ ends_over (tally_of t) (drop at bs) (omega (arith, length-drop at bs)))

  pub turn_judged : (r : Result (Unit {0}) code_refusal.Refusal) → length bs ≤ at → checked_of r ≡ judged (tally_of t) → checked_of r ≡ verdict bs
  turn_judged r h e = e ∙ sym (at_end ∙ ends_well (tally_of t) (drop at bs) (omega (arith, length-drop at bs)))
