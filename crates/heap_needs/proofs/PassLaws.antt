-- One node of the pass: what was to do is what is left to do. The awaited datum on top is taken apart, its node's needs are
-- counted, and the data that follow the node are awaited in its place. Assumes nothing.
use mathlib.Core.Path.{◌≡◌, refl, sym, ap, ◌∙◌, subst}
use mathlib.Core.Bool.{Bool, true, false}
use mathlib.Core.List.{List, [], ◌∷◌, ◌++◌, append_assoc, append-nil}
use Prim.Native.Nat.{ℕ, suc, ◌+◌, ◌-◌, ◌≤◌, ◌<◌}
use native.Mathlib.Omega.{arith}
use lib.Dec.{eqb}
use lib.ListN.{length, get_or, take, drop, set, replicate, length-append, length-drop, length-replicate}
use lib.Seq.{drop-drop, take-length}
use Rattle.laws.specs.Basics.{every, join, basics}
use Rattle.laws.proofs.Tests.{both_left, both_right}
use Rattle.rules.specs.Nodes.{Node, reads, faulty, read_node, write_node, node_fits}
use Rattle.rules.specs.Datum.{Datum, Data, end, more, how_many, nodes, all_nodes, encode, parse, datum_fits, datum_rules}
use Rattle.rules.proofs.Nodes.{read_written, write_positive}
use Rattle.rules.proofs.Datum.{parse_encode, good_value}
use Rattle.leaf_nodes.specs.declared.Node as leaf
use Rattle.leaf_nodes.specs.declared.Node.TheVariants.{Plain, String, Symbol, Ident, Ref, Pair, Vector, Def}
use Rattle.leaf_nodes.specs.declared.Read.{Read}
use Rattle.leaf_nodes.specs.declared.Fault.{Fault}
use Rattle.std.specs.Prelude.{Result, Ok, Err}
use Rattle.leaf_nodes.specs.Reads.{fault_of, shown, text_length, ReadAs, reads_rules}
use Rattle.heap_needs.specs.declared.Name as code_name
use Rattle.heap_needs.specs.declared.Tally.{Tally}
use Rattle.heap_needs.specs.Needs.{Needs, no_needs, node_needs, need, need_all, needs_rules}
use Rattle.heap_needs.specs.Pass.{names_in, needs_in, node_of, following, flags, Countable, Counted, stack_of, Pushed, forest, Doing, Going, Turned, Started, DatumThere, pass_rules}
use Rattle.heap_needs.proofs.StackLaws.{pop_head, pop_rest}

-- ---- a datum taken apart

unfoldable root : Datum → Node
unfolding datum_rules
root (Datum.atom a) = Node.atom a
root (Datum.pair a d) = Node.pair
root (Datum.vector ds) = Node.vector (how_many ds)
root (Datum.def l d) = Node.def l

unfoldable before : Data → Data → Data
before end rest = rest
before (more d ds) rest = more d (before ds rest)

-- the data that follow its node, before others
unfoldable apart : Datum → Data → Data
unfolding before
apart (Datum.atom a) rest = rest
apart (Datum.pair a d) rest = more a (more d rest)
apart (Datum.vector ds) rest = before ds rest
apart (Datum.def l d) rest = more d rest

all_before : (ds rest : Data) → all_nodes (before ds rest) ≡ all_nodes ds ++ all_nodes rest
unfolding before datum_rules
all_before end rest = refl
all_before (more d ds) rest = ap (λ (l : List Node). nodes d ++ l) (all_before ds rest) ∙ sym (append_assoc (nodes d) (all_nodes ds) (all_nodes rest))

all_apart : (d : Datum) (rest : Data) → all_nodes (more d rest) ≡ root d ∷ all_nodes (apart d rest)
unfolding root apart datum_rules
all_apart (Datum.atom a) rest = refl
all_apart (Datum.pair a d) rest = ap (λ (l : List Node). Node.pair ∷ l) (append_assoc (nodes a) (nodes d) (all_nodes rest))
all_apart (Datum.vector ds) rest = ap (λ (l : List Node). Node.vector (how_many ds) ∷ l) (sym (all_before ds rest))
all_apart (Datum.def l d) rest = refl

many_before : (ds rest : Data) → how_many (before ds rest) ≡ how_many ds + how_many rest
unfolding before datum_rules
many_before end rest = omega arith
many_before (more d ds) rest = omega (arith, many_before ds rest)

many_apart : (d : Datum) (rest : Data) → how_many (apart d rest) ≡ length (flags (root d)) + how_many rest
unfolding root apart datum_rules pass_rules
many_apart (Datum.atom a) rest = omega arith
many_apart (Datum.pair a d) rest = omega arith
many_apart (Datum.vector ds) rest = omega (arith, many_before ds rest, length-replicate {A = ℕ} (how_many ds) 0)
many_apart (Datum.def l d) rest = omega arith

-- each datum has a node
some_nodes : (d : Datum) → 1 ≤ length (nodes d)
unfolding datum_rules
some_nodes (Datum.atom a) = omega arith
some_nodes (Datum.pair a d) = omega arith
some_nodes (Datum.vector ds) = omega arith
some_nodes (Datum.def l d) = omega arith

many_nodes : (ds : Data) → how_many ds ≤ length (all_nodes ds)
unfolding datum_rules
many_nodes end = omega arith
many_nodes (more d ds) = omega (arith, many_nodes ds, some_nodes d, length-append (nodes d) (all_nodes ds))

-- ---- what is left to do

module _ (known : List ℕ → ℕ → Bool) where
  forest_before : (ds rest : Data) (fs : List ℕ) (t : Needs) → forest known fs rest (need_all known ds t) ≡ forest known (replicate (how_many ds) 0 ++ fs) (before ds rest) t
  unfolding before pass_rules needs_rules datum_rules
  forest_before end rest fs t = refl
  forest_before (more d ds) rest fs t = forest_before ds rest fs (need known false d t)

  forest_apart : (d : Datum) (rest : Data) (f : ℕ) (fs : List ℕ) (t : Needs) → forest known (f ∷ fs) (more d rest) t ≡ forest known (flags (root d) ++ fs) (apart d rest) (node_needs known (eqb f 1) (root d) t)
  unfolding root apart pass_rules needs_rules datum_rules
  forest_apart (Datum.atom a) rest f fs t = refl
  forest_apart (Datum.pair a d) rest f fs t = refl
  forest_apart (Datum.vector ds) rest f fs t = forest_before ds rest fs (node_needs known (eqb f 1) (Node.vector (how_many ds)) t)
  forest_apart (Datum.def l d) rest f fs t = refl

-- ---- the node that was read

record SameReading (x : leaf.Node) (t rest : List ℕ) (n : Node) (rest' : List ℕ) : Type 0 where
  node : node_of x t ≡ n
  left : rest ≡ rest'

reads_same : {n n' : Node} {rest rest' : List ℕ} (x : leaf.Node) (t : List ℕ) → node_of x t ≡ n → reads n rest ≡ reads n' rest' → SameReading x t rest n' rest'
reads_same x t p e = record { node = p ∙ (cc); left = (cc) }

same_reading : (x : leaf.Node) (t rest : List ℕ) (n : Node) (rest' : List ℕ) → shown x t rest ≡ reads n rest' → SameReading x t rest n rest'
same_reading (Plain v) t rest n rest' e = reads_same (Plain v) t refl e
same_reading (String k) t rest n rest' e = reads_same (String k) t refl e
same_reading (Symbol k) t rest n rest' e = reads_same (Symbol k) t refl e
same_reading (Ident s k) t rest n rest' e = reads_same (Ident s k) t refl e
same_reading (Ref l) t rest n rest' e = reads_same (Ref l) t refl e
same_reading Pair t rest n rest' e = reads_same Pair t refl e
same_reading (Vector k) t rest n rest' e = reads_same (Vector k) t refl e
same_reading (Def l) t rest n rest' e = reads_same (Def l) t refl e

flags_any : (x : leaf.Node) (t u : List ℕ) → flags (node_of x t) ≡ flags (node_of x u)
unfolding pass_rules
flags_any (Plain v) t u = refl
flags_any (String k) t u = refl
flags_any (Symbol k) t u = refl
flags_any (Ident s k) t u = refl
flags_any (Ref l) t u = refl
flags_any Pair t u = refl
flags_any (Vector k) t u = refl
flags_any (Def l) t u = refl

flags_many : (x : leaf.Node) (t : List ℕ) → length (flags (node_of x t)) ≡ following x
unfolding pass_rules
flags_many (Plain v) t = refl
flags_many (String k) t = refl
flags_many (Symbol k) t = refl
flags_many (Ident s k) t = refl
flags_many (Ref l) t = refl
flags_many Pair t = refl
flags_many (Vector k) t = length-replicate k 0
flags_many (Def l) t = refl

-- ---- a turn

-- the text of the node that was read, by where it ends in the datum
abbrev text_there : List ℕ → ℕ → Read → List ℕ
text_there datum at read =
    take (text_length read.node) (drop (at + read.size - text_length read.node) datum)

-- the part from a place on is the rest
pub read_rest : (datum : List ℕ) (at : ℕ) (r : Result Read Fault) → ReadAs (take (length datum - at) (drop at datum)) r → ReadAs (drop at datum) r
read_rest datum at r a =
    subst (λ (l : List ℕ). ReadAs l r)
    (ap (λ (n : ℕ). take n (drop at datum)) (sym (length-drop at datum)) ∙ take-length (drop at datum)) a

-- what a turn may ask
pub record First (names : List code_name.Name) (datum stack : List ℕ) (t : Tally) (read : Read) : Type 0 where
  pub top : t.top ≤ 4096
  pub some : 1 ≤ read.size
  pub inside : t.at + read.size ≤ length datum
  pub countable : Countable names datum t (text_length read.node) (t.at + read.size)
  pub few : t.top - 1 + following read.node ≤ 4096

-- the tally that goes on
abbrev pub on_at : Tally → ℕ → ℕ → Tally
on_at u at top =
    record { slots = u.slots; bytes = u.bytes; elements = u.elements; at = at; top = top }

module _ (known : List ℕ → ℕ → Bool) (datum : List ℕ) (names : List code_name.Name) (stack : List ℕ) (t : Tally) (read : Read) (a : ReadAs (drop t.at datum) (Ok read)) where
  module _ (d : Datum) (ds : Data) (whole : Needs) (go : Doing known datum names stack t (more d ds) whole) where
    left_nodes : List Node
    left_nodes = all_nodes (apart d ds)

    there : drop t.at datum ≡ write_node (root d) ++ join write_node left_nodes
    unfolding basics left_nodes
    there = go.left ∙ ap (join write_node) (all_apart d ds)

    fits_here : every node_fits (root d ∷ left_nodes) ≡ true
    unfolding left_nodes
    fits_here = ap (every node_fits) (sym (all_apart d ds)) ∙ go.fits

    root_fits : node_fits (root d) ≡ true
    unfolding basics
    root_fits = both_left (node_fits (root d)) _ fits_here

    rest_fits : every node_fits left_nodes ≡ true
    unfolding basics
    rest_fits = both_right (node_fits (root d)) _ fits_here

    was_read : SameReading read.node (text_there datum t.at read) (drop read.size (drop t.at datum)) (root d) (join write_node left_nodes)
    unfolding reads_rules
    was_read =
        let tl = text_length read.node in
        let e : t.at + (read.size - tl) ≡ t.at + read.size - tl = omega (arith, a.placed.texts) in
        let same_text : take tl (drop (read.size - tl) (drop t.at datum)) ≡ text_there datum t.at read = ap (take tl) (drop-drop (read.size - tl) t.at datum ∙ ap (λ (k : ℕ). drop k datum) e) in
        same_reading read.node (text_there datum t.at read) (drop read.size (drop t.at datum)) (root d) (join write_node left_nodes)
        (ap (λ (x : List ℕ). shown read.node x (drop read.size (drop t.at datum))) (sym same_text)
        ∙ a.is ∙ ap read_node there ∙ read_written (root d) (join write_node left_nodes) root_fits)

    size_some : 1 ≤ read.size
    size_some =
        omega (
          arith,
          ap length there ∙ length-append (write_node (root d)) (join write_node left_nodes),
          ap length was_read.left,
          length-drop read.size (drop t.at datum),
          write_positive (root d),
          a.placed.inside,
        )

    size_inside : t.at + read.size ≤ length datum
    size_inside = omega (arith, a.placed.inside, length-drop t.at datum, go.inside)

    nodes_less : length (all_nodes (more d ds)) ≡ suc (length left_nodes)
    unfolding left_nodes
    nodes_less = ap length (all_apart d ds)

    many : how_many (apart d ds) ≡ following read.node + how_many ds
    many =
        many_apart d ds
        ∙ ap (λ (n : ℕ). n + how_many ds)
        (ap (λ (n : Node). length (flags n)) (sym was_read.node) ∙ flags_many read.node (text_there datum t.at read))

    many_left : how_many (apart d ds) ≤ length left_nodes
    unfolding left_nodes
    many_left = many_nodes (apart d ds)

    top_is : t.top ≡ suc (how_many ds)
    unfolding datum_rules
    top_is = go.awaited

    first : First names datum stack t read
    first =
        record {
          top = omega (arith, top_is, many_left, many, nodes_less, go.slots, many_nodes (more d ds), go.awaited);
          some = size_some;
          inside = size_inside;
          countable =
              record {
                rows = go.rows;
                names_few = omega (arith, go.names_few, nodes_less);
                slots = omega (arith, go.slots);
                elements = omega (arith, go.elements);
                bytes = omega (arith, go.bytes, a.placed.texts);
                inside = size_inside;
              };
          few = omega (arith, top_is, many, many_left, nodes_less, go.slots);
        }

    module _ (names' : List code_name.Name) (stack' : List ℕ) (u : Tally) (p : ℕ)
        (counted : Counted names names' datum t u (text_length read.node) (following read.node) (node_needs known (eqb (get_or stack (t.top - 1) 0) 1) (node_of read.node (text_there datum t.at read)) (needs_in names datum t)))
        (pushed : Pushed (set stack (t.top - 1) 0) stack' (t.top - 1) p (flags (node_of read.node [])))
        (some : 0 < t.top) where
      abbrev r : Tally
      r = on_at u (t.at + read.size) p

      goal_on : forest known (stack_of stack' p) (apart d ds) (needs_in names' datum u) ≡ whole
      goal_on =
          let f = get_or stack (t.top - 1) 0 in
          let fs = stack_of stack (t.top - 1) in
          let n = needs_in names datum t in
          (λ j. forest known (pushed.stack j) (apart d ds) (counted.is j))
          ∙ (λ j.
          forest known ((flags_any read.node [] (text_there datum t.at read) ∙ ap flags was_read.node) j ++ pop_rest stack t.top go.clear some j) (apart d ds)
          (node_needs known (eqb f 1) (was_read.node j) n))
          ∙ sym (forest_apart known d ds f fs n)
          ∙ ap (λ (l : List ℕ). forest known l (more d ds) n) (sym (pop_head stack t.top go.clear some))
          ∙ go.goal

      doing_on : Doing known datum names' stack' r (apart d ds) whole
      unfolding left_nodes
      doing_on =
          let flag_count = flags_many read.node [] in
          record {
            left = sym (drop-drop read.size t.at datum) ∙ was_read.left;
            inside = size_inside;
            fits = rest_fits;
            awaited = omega (arith, pushed.top_is, flag_count, many, top_is);
            clear = pushed.clear;
            rows = counted.rows;
            goal = goal_on;
            slots = omega (arith, counted.slots, nodes_less, go.slots);
            names_few = omega (arith, counted.names_more, nodes_less, go.names_few);
            bytes = omega (arith, counted.bytes, a.placed.texts, go.bytes);
            elements = omega (arith, counted.elements, nodes_less, go.elements, many, many_left, go.slots);
          }

  pub first_of : 0 < t.top → Going known datum names stack t → First names datum stack t read
  unfolding datum_rules
  first_of some g = by g.awaits g.doing
    where
      by : (ds : Data) → Doing known datum names stack t ds g.whole → First names datum stack t read
      by end go = absurd (omega (arith, go.awaited))
      by (more d ds) go = first d ds g.whole go

  pub turned : (names' : List code_name.Name) (stack' : List ℕ) (u : Tally) (p : ℕ) → 0 < t.top → Going known datum names stack t
      → Counted names names' datum t u (text_length read.node) (following read.node) (node_needs known (eqb (get_or stack (t.top - 1) 0) 1) (node_of read.node (text_there datum t.at read)) (needs_in names datum t))
      → Pushed (set stack (t.top - 1) 0) stack' (t.top - 1) p (flags (node_of read.node []))
      → Turned known datum names stack names' stack' t (on_at u (t.at + read.size) p)
  unfolding datum_rules
  turned names' stack' u p some g c q =
      let f = first_of some g in
      record { on = omega (arith, f.some); inside = f.inside; goes = λ ds whole go. by ds whole go }
    where
      by : (ds : Data) (whole : Needs) → Doing known datum names stack t ds whole → (ds' : Data) × Doing known datum names' stack' (on_at u (t.at + read.size) p) ds' whole
      by end whole go = absurd (omega (arith, go.awaited))
      by (more d ds) whole go = (apart d ds, doing_on d ds whole go names' stack' u p c q some)

-- where data are awaited a node can be read
pub never_faulty : (known : List ℕ → ℕ → Bool) (datum : List ℕ) (names : List code_name.Name) (stack : List ℕ) (t : Tally) (f : Fault) → ReadAs (drop t.at datum) (Err f) → 0 < t.top → Going known datum names stack t → ⊥
unfolding datum_rules reads_rules basics
never_faulty known datum names stack t f a some g = by g.awaits g.doing
  where
    by : (ds : Data) → Doing known datum names stack t ds g.whole → ⊥
    by end go = absurd (omega (arith, go.awaited))
    by (more d ds) go =
        let there : drop t.at datum ≡ write_node (root d) ++ join write_node (all_nodes (apart d ds)) = go.left ∙ ap (join write_node) (all_apart d ds) in
        let fits : node_fits (root d) ≡ true = both_left (node_fits (root d)) _ (ap (every node_fits) (sym (all_apart d ds)) ∙ go.fits) in
        let e : faulty (fault_of f) ≡ reads (root d) (join write_node (all_nodes (apart d ds))) = a.is ∙ ap read_node there ∙ read_written (root d) (join write_node (all_nodes (apart d ds))) fits in
        absurd (let z : ◌≡◌ {A = ℕ} 0 1 = cc in omega arith)

-- no more data are awaited than there are nodes
pub going_top : {known : List ℕ → ℕ → Bool} {datum : List ℕ} {names : List code_name.Name} {stack : List ℕ} {t : Tally} → Going known datum names stack t → t.top ≤ 4096
going_top g = omega (arith, g.doing.awaited, many_nodes g.awaits, g.doing.slots)

-- ---- the whole datum

-- the tree that is counted, and what is left of it
pub record Under (known : List ℕ → ℕ → Bool) (datum : List ℕ) (names : List code_name.Name) (stack : List ℕ) (t : Tally) : Type 0 where
  pub tree : Datum
  pub written : datum ≡ encode tree
  pub fits : datum_fits tree ≡ true
  pub awaits : Data
  pub doing : Doing known datum names stack t awaits (need known true tree no_needs)

module _ (known : List ℕ → ℕ → Bool) (datum : List ℕ) where
  pub under_begins : (names : List code_name.Name) (stack : List ℕ) (t : Tally) → DatumThere datum → names ≡ [] → Started stack t → Under known datum names stack t
  unfolding datum_rules pass_rules
  under_begins names stack t there none s =
      subst (λ (t : Tally). Under known datum names stack t) (sym s.is)
      (record {
        tree = there.tree;
        written = there.written;
        fits = there.fits;
        awaits = more there.tree end;
        doing =
            record {
              left = there.written ∙ ap (join write_node) (sym (append-nil (nodes there.tree)));
              inside = omega arith;
              fits = ap (every node_fits) (append-nil (nodes there.tree)) ∙ there.fits;
              awaited = refl;
              clear = s.clear;
              rows = record { few = omega (arith, ap length none); within = λ i d l. absurd (omega (arith, ap length none)) };
              goal =
                  (λ i. forest known (s.stack_is i) (more there.tree end) (record { slots = 0; bytes = 0; elements = 0; names = names_in (none i) datum }));
              slots = omega (arith, few);
              names_few = omega (arith, few, ap length none);
              bytes = omega arith;
              elements = omega (arith, few);
            };
      })
    where
      few : length (nodes there.tree ++ []) ≤ 4096
      few = omega (arith, there.few, ap length (append-nil (nodes there.tree)))

  pub under_going : {names : List code_name.Name} {stack : List ℕ} {t : Tally} → Under known datum names stack t → Going known datum names stack t
  under_going u = record { awaits = u.awaits; whole = need known true u.tree no_needs; doing = u.doing }

  pub under_on : {names : List code_name.Name} {stack : List ℕ} {names' : List code_name.Name} {stack' : List ℕ} {t r : Tally} → Under known datum names stack t → Turned known datum names stack names' stack' t r → Under known datum names' stack' r
  under_on u w =
      let x = w.goes u.awaits (need known true u.tree no_needs) u.doing in
      record { tree = u.tree; written = u.written; fits = u.fits; awaits = x.0; doing = x.1 }

  -- a datum's tree is known by its bytes
  one_tree : (a b : Datum) → encode a ≡ encode b → datum_fits a ≡ true → datum_fits b ≡ true → a ≡ b
  one_tree a b e f g = good_value (sym (parse_encode a f) ∙ ap parse e ∙ parse_encode b g)

  pub under_ends : {names : List code_name.Name} {stack : List ℕ} {t : Tally} → Under known datum names stack t → t.top ≡ 0 → (d : Datum) → datum ≡ encode d → datum_fits d ≡ true → needs_in names datum t ≡ need known true d no_needs
  unfolding pass_rules
  under_ends {names} {stack} {t} u e d w f =
      ap (λ (n : ℕ). forest known (stack_of stack n) u.awaits (needs_in names datum t)) (sym e)
      ∙ u.doing.goal
      ∙ ap (λ (x : Datum). need known true x no_needs) (one_tree u.tree d (sym u.written ∙ w) u.fits f)
