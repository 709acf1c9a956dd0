-- The tally over a datum's nodes answers what the rules' tests on the whole datum answer. Assumes nothing.
use mathlib.Core.Path.{◌≡◌, refl, sym, ap, ◌∙◌}
use mathlib.Core.Bool.{Bool, true, false, not}
use mathlib.Core.List.{List, [], ◌∷◌, ◌++◌}
use mathlib.Core.Option.{some}
use Prim.Native.Nat.{ℕ, suc, ◌+◌, ◌≤◌, ◌<◌}
use native.Mathlib.Omega.{arith}
use native.Mathlib.Nat.{zero-add}
use borrow.Author.Tests.{ltb-true, ltb-false, le-leb, lt-leb}
use lib.Dec.{eqb, leb, ltb}
use lib.ListN.{length, length-append}
use Rattle.laws.specs.Basics.{choose, both, either, every, join, member, basics}
use Rattle.laws.proofs.Tests.{true≢false, either_false}
use Rattle.laws.proofs.Members.{add, adds, add_known, add_new, adds_distinct, adds_longer, member_end, member_of}
use Rattle.rules.specs.Refusals.{over_limit}
use Rattle.rules.specs.Nodes.{Atom, Node}
use Rattle.rules.specs.Datum.{Datum, nodes, node_within, label_of, within_limits, refers_early, early_reference, datum_rules}
use Rattle.heap_tally.specs.Pass.{limits}
use Rattle.heap_tally.specs.Pass.{Tally, tally, counted, mentioned, labelled, stepped, judged, pass_rules}

-- the tally after a list of nodes
unfoldable pub run_on : Tally → List Node → Tally
run_on t [] = t
run_on t (n ∷ ns) = run_on (stepped t n) ns

-- ---- once over, always over

mentioned_over : (refers : Bool) (l : ℕ) (t : Tally) → t.over ≡ true → (mentioned refers l t).over ≡ true
unfolding pass_rules
mentioned_over refers l t h = go (member l t.labels) (ltb (length t.labels) 64)
  where
    go : (a b : Bool) → (choose a t (choose b (tally t.nodes t.over (either refers t.early) (t.labels ++ (l ∷ []))) (tally t.nodes true t.early t.labels))).over ≡ true
    go true b = h
    go false true = h
    go false false = refl

labelled_over : (n : Node) (t : Tally) → t.over ≡ true → (labelled n t).over ≡ true
unfolding pass_rules
labelled_over (Node.atom (Atom.plain s)) t h = h
labelled_over (Node.atom (Atom.string x)) t h = h
labelled_over (Node.atom (Atom.symbol x)) t h = h
labelled_over (Node.atom (Atom.ident s x)) t h = h
labelled_over (Node.atom (Atom.ref l)) t h = mentioned_over true l t h
labelled_over Node.pair t h = h
labelled_over (Node.vector n) t h = h
labelled_over (Node.def l) t h = mentioned_over false l t h

stepped_over : (t : Tally) (n : Node) → t.over ≡ true → (stepped t n).over ≡ true
unfolding pass_rules
stepped_over t n h = labelled_over n (counted (node_within n) t) (go (node_within n))
  where
    go : (w : Bool) → either (not w) t.over ≡ true
    go true = h
    go false = refl

over_judged : (t : Tally) → t.over ≡ true → judged t ≡ some over_limit
unfolding pass_rules limits
over_judged t h =
    ap (λ (o : Bool). limits (both (leb t.nodes 4096) (not o)) t.early) h ∙ go (leb t.nodes 4096)
  where
    go : (b : Bool) → limits (both b false) t.early ≡ some over_limit
    go true = refl
    go false = refl

over_runs : (ns : List Node) (t : Tally) → t.over ≡ true → judged (run_on t ns) ≡ some over_limit
unfolding run_on
over_runs [] t h = over_judged t h
over_runs (n ∷ ns) t h = over_runs ns (stepped t n) (stepped_over t n h)

-- ---- the tally so far, and the rules' tests on the nodes that are left

-- the numbers hold for so many nodes and these labels before, and these nodes to come
abbrev fits : ℕ → List ℕ → List Node → Bool
fits k ls ns = both (leb (k + length ns) 4096) (both (leb (length (adds ls (join label_of ns))) 64) (every node_within ns))

-- nothing is over yet; up to the first early reference the labels mentioned are those begun
record Ready (t : Tally) (begun : List ℕ) : Type 0 where
  clean : t.over ≡ false
  room : length t.labels ≤ 64
  same : t.early ≡ false → (l : ℕ) → member l t.labels ≡ member l begun

Whole : Tally → List ℕ → List Node → Type 0
Whole t begun ns = judged (run_on t ns) ≡ limits (fits t.nodes t.labels ns) (either t.early (refers_early begun ns))

both_last : (a b : Bool) → both a (both b false) ≡ false
both_last true true = refl
both_last true false = refl
both_last false b = refl

both_mid : (a b : Bool) → both a (both false b) ≡ false
both_mid true b = refl
both_mid false b = refl

none_left : (t : Tally) (begun : List ℕ) → Ready t begun → Whole t begun []
unfolding Whole run_on pass_rules datum_rules basics adds
none_left t begun r =
    (λ i. limits (both (leb (count i) 4096) (not (r.clean i))) t.early)
    ∙ (λ i. limits (both (leb (t.nodes + 0) 4096) (sym labels i)) (sym (either_false t.early) i))
  where
    count : t.nodes ≡ t.nodes + 0
    count = omega arith

    labels : both (leb (length t.labels) 64) true ≡ true
    labels = ap (λ (b : Bool). both b true) (le-leb (length t.labels) 64 r.room)

-- a node that breaks its own number
broken_now : (t : Tally) (n : Node) → node_within n ≡ false → (stepped t n).over ≡ true
unfolding pass_rules
broken_now t n h = labelled_over n (counted (node_within n) t) (ap (λ (w : Bool). either (not w) t.over) h)

broken : (t : Tally) (begun : List ℕ) (n : Node) (ns : List Node) → node_within n ≡ false → Whole t begun (n ∷ ns)
unfolding Whole run_on basics limits
broken t begun n ns h =
    over_runs ns (stepped t n) (broken_now t n h)
    ∙ sym
    (ap (λ (b : Bool). limits b (either t.early (refers_early begun (n ∷ ns))))
    (ap (λ (w : Bool). both (leb (t.nodes + suc (length ns)) 4096) (both (leb (length (adds t.labels (join label_of (n ∷ ns)))) 64) (both w (every node_within ns)))) h
    ∙ both_last (leb (t.nodes + suc (length ns)) 4096) (leb (length (adds t.labels (join label_of (n ∷ ns)))) 64)))

-- one more of so many nodes
one_more : (k m : ℕ) → suc k + m ≡ k + suc m
one_more k m = omega arith

-- a node with no label
quiet : (t : Tally) (begun : List ℕ) (n : Node) (ns : List Node) → Ready t begun → ((u : Tally) → labelled n u ≡ u) → label_of n ≡ [] → refers_early begun (n ∷ ns) ≡ refers_early begun ns → ((u : Tally) → Ready u begun → Whole u begun ns) → Whole t begun (n ∷ ns)
unfolding Whole run_on basics pass_rules
quiet t begun n ns r stays bare early again = go (node_within n) refl
  where
    go : (w : Bool) → node_within n ≡ w → Whole t begun (n ∷ ns)
    go true h =
        ap (λ (u : Tally). judged (run_on u ns)) (stays (counted (node_within n) t) ∙ ap (λ (w : Bool). counted w t) h)
        ∙ again (counted true t) (record { clean = r.clean; room = r.room; same = r.same })
        ∙ (λ i. limits (both (leb (one_more t.nodes (length ns) i) 4096) (both (leb (length (adds t.labels (sym bare i ++ join label_of ns))) 64) (both (sym h i) (every node_within ns)))) (either t.early (sym early i)))
    go false h = broken t begun n ns h

-- a node with a label
module _ (n : Node) (l : ℕ) (lab : label_of n ≡ l ∷ []) (ok : node_within n ≡ true) (k : ℕ) (ls : List ℕ) (ns : List Node) where
  fits_add : (new : List ℕ) → add ls l ≡ new → fits (suc k) new ns ≡ fits k ls (n ∷ ns)
  unfolding basics adds
  fits_add new e =
      λ i. both (leb (one_more k (length ns) i) 4096) (both (leb (length (part i)) 64) (both (sym ok i) (every node_within ns)))
    where
      part : adds new (join label_of ns) ≡ adds ls (label_of n ++ join label_of ns)
      part =
          ap (λ (s : List ℕ). adds s (join label_of ns)) (sym e)
          ∙ ap (λ (x : List ℕ). adds ls (x ++ join label_of ns)) (sym lab)

  fits_full : member l ls ≡ false → 64 ≤ length ls → fits k ls (n ∷ ns) ≡ false
  fits_full h full =
      sym (fits_add (ls ++ (l ∷ [])) (add_new ls l h))
      ∙ ap (λ (b : Bool). both (leb (suc k + length ns) 4096) (both b (every node_within ns)))
      (lt-leb (length (adds (ls ++ (l ∷ [])) (join label_of ns))) 64 (omega (arith, adds_longer (ls ++ (l ∷ [])) (join label_of ns), length-append ls (l ∷ []))))
      ∙ both_mid (leb (suc k + length ns) 4096) (every node_within ns)

-- the tally after a node, ready for the rest, and 13 as before
record Next (t : Tally) (begun : List ℕ) (n : Node) (ns : List Node) (u : Tally) (after : List ℕ) : Type 0 where
  ready : Ready u after
  early : either u.early (refers_early after ns) ≡ either t.early (refers_early begun (n ∷ ns))

-- the labels with a new one, and whether a reference came early
grown : Bool → ℕ → Tally → Tally
grown refers l t = tally (suc t.nodes) t.over (either refers t.early) (t.labels ++ (l ∷ []))

module _ (t : Tally) (begun : List ℕ) (n : Node) (ns : List Node) (refers : Bool) (l : ℕ) (after : List ℕ) where
  label_step : label_of n ≡ l ∷ [] → node_within n ≡ true → ((u : Tally) → labelled n u ≡ mentioned refers l u) → Ready t begun → (member l t.labels ≡ true → Next t begun n ns (counted true t) after) → (member l t.labels ≡ false → length t.labels < 64 → Next t begun n ns (grown refers l t) after) → ((u : Tally) → Ready u after → Whole u after ns) → Whole t begun (n ∷ ns)
  unfolding Whole run_on pass_rules grown limits
  label_step lab ok is r known new again = go (member l t.labels) (ltb (length t.labels) 64) refl refl
    where
      u : Tally
      u = counted true t

      made : Bool → Bool → Tally
      made a b =
          choose a u
          (choose b (tally (suc t.nodes) t.over (either refers t.early) (t.labels ++ (l ∷ []))) (tally (suc t.nodes) true t.early t.labels))

      now : (a b : Bool) → member l t.labels ≡ a → ltb (length t.labels) 64 ≡ b → stepped t n ≡ made a b
      now a b p q = is (counted (node_within n) t) ∙ ap (λ (w : Bool). mentioned refers l (counted w t)) ok ∙ (λ i. made (p i) (q i))

      go : (a b : Bool) → member l t.labels ≡ a → ltb (length t.labels) 64 ≡ b → Whole t begun (n ∷ ns)
      go true b p q =
          let x = known p in
          ap (λ (u : Tally). judged (run_on u ns)) (now true b p q) ∙ again u x.ready
          ∙ (λ i. limits (fits_add n l lab ok t.nodes t.labels ns t.labels (add_known t.labels l p) i) (x.early i))
      go false true p q =
          let x = new p (ltb-true _ _ q) in
          ap (λ (u : Tally). judged (run_on u ns)) (now false true p q) ∙ again (grown refers l t) x.ready
          ∙ (λ i. limits (fits_add n l lab ok t.nodes t.labels ns (t.labels ++ (l ∷ [])) (add_new t.labels l p) i) (x.early i))
      go false false p q =
          over_runs ns (stepped t n) (ap (λ (u : Tally). u.over) (now false false p q))
          ∙ sym
          (ap (λ (b : Bool). limits b (either t.early (refers_early begun (n ∷ ns))))
          (fits_full n l lab ok t.nodes t.labels ns p (ltb-false _ _ q)))

-- a reference: early where its label is new
module _ (t : Tally) (begun : List ℕ) (l : ℕ) (ns : List Node) (r : Ready t begun) where
  ref_known : member l t.labels ≡ true → Next t begun (Node.atom (Atom.ref l)) ns (counted true t) begun
  unfolding datum_rules pass_rules
  ref_known h =
      record {
        ready = record { clean = r.clean; room = r.room; same = r.same };
        early = go t.early (λ e. sym (r.same e l) ∙ h);
      }
    where
      go : (e : Bool) → (e ≡ false → member l begun ≡ true) → either e (refers_early begun ns) ≡ either e (either (not (member l begun)) (refers_early begun ns))
      go true m = refl
      go false m = ap (λ (b : Bool). either (not b) (refers_early begun ns)) (sym (m refl))

  ref_new : member l t.labels ≡ false → length t.labels < 64 → Next t begun (Node.atom (Atom.ref l)) ns (grown true l t) begun
  unfolding datum_rules grown
  ref_new h small =
      record {
        ready =
            record {
              clean = r.clean;
              room = omega (arith, length-append t.labels (l ∷ []));
              same = λ e. absurd (true≢false e);
            };
        early = go t.early (λ e. sym (r.same e l) ∙ h);
      }
    where
      go : (e : Bool) → (e ≡ false → member l begun ≡ false) → true ≡ either e (either (not (member l begun)) (refers_early begun ns))
      go true m = refl
      go false m = ap (λ (b : Bool). either (not b) (refers_early begun ns)) (sym (m refl))

  -- a definition: its label has begun
  def_known : member l t.labels ≡ true → Next t begun (Node.def l) ns (counted true t) (l ∷ begun)
  unfolding datum_rules pass_rules basics
  def_known h =
      record {
        ready =
            record {
              clean = r.clean;
              room = r.room;
              same = λ e x. go x (eqb x l) refl ∙ ap (λ (b : Bool). either (eqb x l) b) (r.same e x);
            };
        early = refl;
      }
    where
      go : (x : ℕ) (b : Bool) → eqb x l ≡ b → member x t.labels ≡ either b (member x t.labels)
      go x true q = member_of x l t.labels h q
      go x false q = refl

  def_new : member l t.labels ≡ false → length t.labels < 64 → Next t begun (Node.def l) ns (grown false l t) (l ∷ begun)
  unfolding datum_rules grown basics
  def_new h small =
      record {
        ready =
            record {
              clean = r.clean;
              room = omega (arith, length-append t.labels (l ∷ []));
              same = λ e x. member_end x t.labels l ∙ ap (λ (b : Bool). either (eqb x l) b) (r.same e x);
            };
        early = refl;
      }

tally_whole : (ns : List Node) (t : Tally) (begun : List ℕ) → Ready t begun → Whole t begun ns
unfolding pass_rules datum_rules
tally_whole [] t begun r = none_left t begun r
tally_whole (Node.atom (Atom.plain s) ∷ ns) t begun r =
    quiet t begun (Node.atom (Atom.plain s)) ns r (λ u. refl) refl refl (λ u q. tally_whole ns u begun q)
tally_whole (Node.atom (Atom.string x) ∷ ns) t begun r =
    quiet t begun (Node.atom (Atom.string x)) ns r (λ u. refl) refl refl (λ u q. tally_whole ns u begun q)
tally_whole (Node.atom (Atom.symbol x) ∷ ns) t begun r =
    quiet t begun (Node.atom (Atom.symbol x)) ns r (λ u. refl) refl refl (λ u q. tally_whole ns u begun q)
tally_whole (Node.atom (Atom.ident s x) ∷ ns) t begun r =
    quiet t begun (Node.atom (Atom.ident s x)) ns r (λ u. refl) refl refl (λ u q. tally_whole ns u begun q)
tally_whole (Node.atom (Atom.ref l) ∷ ns) t begun r =
    label_step t begun (Node.atom (Atom.ref l)) ns true l begun refl refl (λ u. refl) r (ref_known t begun l ns r) (ref_new t begun l ns r) (λ u q. tally_whole ns u begun q)
tally_whole (Node.pair ∷ ns) t begun r =
    quiet t begun Node.pair ns r (λ u. refl) refl refl (λ u q. tally_whole ns u begun q)
tally_whole (Node.vector n ∷ ns) t begun r =
    quiet t begun (Node.vector n) ns r (λ u. refl) refl refl (λ u q. tally_whole ns u begun q)
tally_whole (Node.def l ∷ ns) t begun r =
    label_step t begun (Node.def l) ns false l (l ∷ begun) refl refl (λ u. refl) r (def_known t begun l ns r) (def_new t begun l ns r) (λ u q. tally_whole ns u (l ∷ begun) q)

-- over a whole datum: 12 and 13 as the rules have them
pub tally_datum : (d : Datum) → judged (run_on (tally 0 false false []) (nodes d)) ≡ limits (within_limits d) (early_reference d)
unfolding Whole datum_rules basics
tally_datum d =
    tally_whole (nodes d) (tally 0 false false []) [] (record { clean = refl; room = omega arith; same = λ e l. refl })
    ∙ (λ i. limits (both (leb (zero-add (length (nodes d)) i) 4096) (both (leb (length (adds_distinct (join label_of (nodes d)) i)) 64) (every node_within (nodes d)))) (refers_early [] (nodes d)))
