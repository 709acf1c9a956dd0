-- The lines of the data one by one: what was to do is what is left to do. Assumes nothing.
use mathlib.Core.Path.{◌≡◌, refl, sym, ap, ◌∙◌, subst}
use mathlib.Core.Bool.{Bool, true, false}
use mathlib.Core.List.{List, [], ◌∷◌, ◌++◌}
use mathlib.Core.Option.{Option, none, some}
use Prim.Native.Nat.{ℕ, zero, suc, ◌+◌, ◌-◌, ◌*◌, ◌≤◌, ◌<◌}
use native.Mathlib.Omega.{arith}
use borrow.Author.Tests.{eq-eqb, ne_eqb, eqb-true, eqb-false}
use lib.Dec.{eqb}
use lib.ListN.{length, set, take, drop, length-append, length-set, length-drop}
use lib.Seq.{length-sets, length-take-le}
use Rattle.laws.specs.Basics.{ascii, choose, same, zeros, basics}
use Rattle.laws.proofs.Tests.{same_equal}
use Rattle.rules.specs.Sheet.{Line, lines, then_read, node_line, node_lines, sheet_rules}
use Rattle.text_numbers.specs.Answers.{written, answers}
use Rattle.sheet_keys.specs.Places.{first_from}
use Rattle.sheet_keys.proofs.LineLaws.{and_line, only_empty, line_found, line_missing}
use Rattle.sheet_nodes.proofs.NodeLaws.{written_first, written_next}
use Rattle.sheet_nodes.specs.declared.Node.{Node}
use Rattle.sheet_parse.specs.declared.Reading.{Reading}
use Rattle.sheet_parse.specs.declared.Reading.TheVariants as reading
use Rattle.std.specs.Prelude as std
use Rattle.std.specs.Prelude.{None, Some}
use Rattle.sheet_parse.specs.declared.Progress.{Progress}
use Rattle.sheet_parse.specs.Steps.{Told, bad, last, node, told_at, reading_of, node_read, nodes_of, read_bytes, LineRead, begun_at, Roomy, stepped_to, stepped_ends_to, stepped, stepped_ends, last_end, finished, finished_ends, nodes_from, ends_from, bytes_from, Outcome, come_to, outcome, NodesRead, steps_words}
use Rattle.sheet_parse.proofs.SizeLaws.{line_fits}
use Rattle.sheet_parse.proofs.ReadLaws.{Between, between, told_none, told_some}

-- ---- one step of the progress

module _ (p : Progress) (size follow next : ℕ) (ends : List ℕ) where
  pub datum_ended : p.wants - 1 + follow ≡ 0 → (record { at = next; used = p.used + size; start = p.used + size; wants = 1; count = p.count + 1 } ≡ stepped p size follow next) × (set ends p.count (p.used + size) ≡ stepped_ends ends p size follow)
  unfolding steps_words
  datum_ended e = (sym (ap (stepped_to p next (p.used + size)) e), sym (ap (stepped_ends_to ends p (p.used + size)) e))

  wants_more : (w : ℕ) → (w ≡ 0 → ⊥) → (record { at = next; used = p.used + size; start = p.start; wants = w; count = p.count } ≡ stepped_to p next (p.used + size) w) × (ends ≡ stepped_ends_to ends p (p.used + size) w)
  unfolding steps_words
  wants_more zero d = absurd (d refl)
  wants_more (suc n) d = (refl, refl)

  pub datum_goes_on : (p.wants - 1 + follow ≡ 0 → ⊥) → (record { at = next; used = p.used + size; start = p.start; wants = p.wants - 1 + follow; count = p.count } ≡ stepped p size follow next) × (ends ≡ stepped_ends ends p size follow)
  unfolding steps_words
  datum_goes_on d = wants_more (p.wants - 1 + follow) d

module _ (p : Progress) (ends : List ℕ) where
  pub none_begun : p.start ≡ p.used → (p.count ≡ finished p) × (ends ≡ finished_ends ends p)
  unfolding steps_words answers
  none_begun e =
      let nothing : last_end p.start p.used ≡ [] = ap (λ (b : Bool). elim b [ true ↦ [] | false ↦ p.used ∷ [] ]) (eq-eqb p.start p.used e) in
      (omega (arith, ap length nothing), sym (ap (written ends p.count) nothing))

  pub one_begun : (p.start ≡ p.used → ⊥) → (p.count + 1 ≡ finished p) × (set ends p.count p.used ≡ finished_ends ends p)
  unfolding steps_words answers
  one_begun d =
      let one : last_end p.start p.used ≡ p.used ∷ [] = ap (λ (b : Bool). elim b [ true ↦ [] | false ↦ p.used ∷ [] ]) (ne_eqb p.start p.used d) in
      (omega (arith, ap length one), sym (ap (written ends p.count) one))

-- ---- what the answers tell

is_bad : (x : Told) → None ≡ reading_of x → x ≡ bad
unfolding steps_words
is_bad bad e = refl
is_bad last e = let z : ◌≡◌ {A = ℕ} 0 1 = cc in absurd (omega arith)
is_bad (node l n) e = let z : ◌≡◌ {A = ℕ} 0 1 = cc in absurd (omega arith)

is_last : (x : Told) → Some reading.Last ≡ reading_of x → x ≡ last
unfolding steps_words
is_last bad e = let z : ◌≡◌ {A = ℕ} 0 1 = cc in absurd (omega arith)
is_last last e = refl
is_last (node l n) e = let z : ◌≡◌ {A = ℕ} 0 1 = cc in absurd (omega arith)

record IsNode (x : Told) (size follow next : ℕ) : Type 0 where
  pub line : Line
  pub is : x ≡ node line next
  pub size_is : length line.node ≡ size
  pub follow_is : line.follow ≡ follow

is_node : (x : Told) (size follow next : ℕ) → node_read size follow next ≡ reading_of x → IsNode x size follow next
unfolding steps_words
is_node bad size follow next e = let z : ◌≡◌ {A = ℕ} 0 1 = cc in absurd (omega arith)
is_node last size follow next e = let z : ◌≡◌ {A = ℕ} 0 1 = cc in absurd (omega arith)
is_node (node l n) size follow next e =
    let there : n ≡ next = cc in
    let same : ◌≡◌ {A = Node} (record { size = length l.node; follow = l.follow }) (record { size = size; follow = follow }) = cc in
    record { line = l; is = ap (node l) there; size_is = ap (λ (n : Node). n.size) same; follow_is = ap (λ (n : Node). n.follow) same }

-- ---- a line of the text against the rules' lines

-- the nodes from a line on, by what it is told to be
unfoldable meaning : List ℕ → Told → Option (List Line)
meaning t bad = none
meaning t last = some []
meaning t (node l next) = then_read (nodes_from t next) (λ ls. some (l ∷ ls))

-- no line more
alone : Option (List (List ℕ)) → Option (List Line)
alone none = none
alone (some []) = some []
alone (some (u ∷ us)) = none

alone_and : (l : List ℕ) (o : Option (List (List ℕ))) → alone (and_line l o) ≡ none
unfolding alone and_line
alone_and l none = refl
alone_and l (some ls) = refl

more_lines : (x : List ℕ) → 0 < length x → alone (lines x) ≡ none
unfolding alone only_empty
more_lines [] h = absurd (omega arith)
more_lines (c ∷ cs) h = by (first_from 10 0 (c ∷ cs)) refl
  where
    by : (o : Option ℕ) → first_from 10 0 (c ∷ cs) ≡ o → alone (lines (c ∷ cs)) ≡ none
    by none q = ap alone (line_missing (c ∷ cs) 0 q)
    by (some e) q = ap alone (line_found (c ∷ cs) 0 e q) ∙ alone_and (take (e - 0) (c ∷ cs)) (lines (drop (e + 1) (c ∷ cs)))

no_lines : (x : List ℕ) → length x ≡ 0 → alone (lines x) ≡ some []
unfolding alone sheet_rules
no_lines [] h = refl
no_lines (c ∷ cs) h = absurd (omega arith)

only_no_nodes : (x : List ℕ) → then_read (only_empty x) node_lines ≡ none
unfolding only_empty sheet_rules
only_no_nodes [] = refl
only_no_nodes (c ∷ cs) = refl

-- a line and the lines behind it
unfoldable line_then : List ℕ → Option (List (List ℕ)) → Bool → Option (List Line)
unfolding alone
line_then l o b = elim b [ true ↦ alone o | false ↦ then_read (node_line l) (λ n. then_read (then_read o node_lines) (λ ls. some (n ∷ ls))) ]

first_line : (l : List ℕ) (o : Option (List (List ℕ))) → then_read (and_line l o) node_lines ≡ line_then l o (same l (ascii "end="))
unfolding line_then and_line alone sheet_rules
first_line l none = by (same l (ascii "end=")) (node_line l)
  where
    by : (b : Bool) (x : Option Line) → ◌≡◌ {A = Option (List Line)} none (elim b [ true ↦ none | false ↦ then_read x (λ n. none) ])
    by true x = refl
    by false none = refl
    by false (some n) = refl
first_line l (some []) = refl
first_line l (some (u ∷ us)) = refl

-- a line, the next at n
told_line : (t l : List ℕ) (n : ℕ) → n ≤ length t → (b : Bool) → line_then l (lines (drop n t)) b ≡ meaning t (elim b [ true ↦ choose (eqb n (length t)) last bad | false ↦ elim (node_line l) [ none ↦ bad | some m ↦ node m n ] ])
unfolding line_then meaning alone sheet_rules steps_words
told_line t l n h true = by (eqb n (length t)) refl
  where
    by : (b : Bool) → eqb n (length t) ≡ b → alone (lines (drop n t)) ≡ meaning t (choose b last bad)
    by true e =
        let full : n ≡ length t = eqb-true n (length t) e in
        no_lines (drop n t) (omega (arith, length-drop n t))
    by false e =
        let short : n ≡ length t → ⊥ = eqb-false n (length t) e in
        more_lines (drop n t) (omega (arith, length-drop n t))
told_line t l n h false = by (node_line l)
  where
    by : (x : Option Line) → then_read x (λ m. then_read (then_read (lines (drop n t)) node_lines) (λ ls. some (m ∷ ls))) ≡ meaning t (elim x [ none ↦ bad | some m ↦ node m n ])
    by none = refl
    by (some m) = refl

nodes_told : (t : List ℕ) (at : ℕ) → nodes_from t at ≡ meaning t (told_at t at)
unfolding steps_words meaning
nodes_told t at = by (first_from 10 at (drop at t)) refl
  where
    by : (o : Option ℕ) → first_from 10 at (drop at t) ≡ o → nodes_from t at ≡ meaning t (told_at t at)
    by none q =
        ap (λ (o : Option (List (List ℕ))). then_read o node_lines) (line_missing t at q) ∙ only_no_nodes (drop at t)
        ∙ sym (ap (meaning t) (told_none t at q))
    by (some e) q =
        let l = take (e - at) (drop at t) in
        ap (λ (o : Option (List (List ℕ))). then_read o node_lines) (line_found t at e q)
        ∙ first_line l (lines (drop (e + 1) t))
        ∙ told_line t l (e + 1) (omega (arith, (between t at e q).inside)) (same l (ascii "end="))
        ∙ sym (ap (meaning t) (told_some t at e q))

-- ---- how far a line goes

record Goes (t : List ℕ) (at : ℕ) (l : Line) (next : ℕ) : Type 0 where
  pub from : at + 5 ≤ next
  pub inside : next ≤ length t
  pub size : length l.node ≤ 2 * (next - at)
  pub few : l.follow < 4294967296

line_node : (n : ℕ) (c b : Bool) (x : Option Line) (l : Line) (next : ℕ) → ◌≡◌ {A = Told} (elim b [ true ↦ choose c last bad | false ↦ elim x [ none ↦ bad | some m ↦ node m n ] ]) (node l next) → (x ≡ some l) × (n ≡ next)
line_node n true true x l next e = let z : ◌≡◌ {A = ℕ} 0 1 = cc in absurd (omega arith)
line_node n false true x l next e = let z : ◌≡◌ {A = ℕ} 0 1 = cc in absurd (omega arith)
line_node n c false none l next e = let z : ◌≡◌ {A = ℕ} 0 1 = cc in absurd (omega arith)
line_node n c false (some m) l next e = (cc, cc)

line_last : (b c : Bool) (n : ℕ) (x : Option Line) → ◌≡◌ {A = Told} (elim b [ true ↦ choose c last bad | false ↦ elim x [ none ↦ bad | some m ↦ node m n ] ]) last → b ≡ true
line_last true c n x e = refl
line_last false c n none e = let z : ◌≡◌ {A = ℕ} 0 1 = cc in absurd (omega arith)
line_last false c n (some m) e = let z : ◌≡◌ {A = ℕ} 0 1 = cc in absurd (omega arith)

pub line_size : (t : List ℕ) (at e : ℕ) → Between at e (length t) → length (take (e - at) (drop at t)) ≡ e - at
line_size t at e b =
    let room : e - at ≤ length (drop at t) = omega (arith, b.from, b.inside, length-drop at t) in
    length-take-le (e - at) (drop at t) room

node_goes : (t : List ℕ) (at : ℕ) (l : Line) (next : ℕ) → told_at t at ≡ node l next → Goes t at l next
unfolding steps_words
node_goes t at l next e = by (first_from 10 at (drop at t)) refl
  where
    by : (o : Option ℕ) → first_from 10 at (drop at t) ≡ o → Goes t at l next
    by none q =
        let f : bad ≡ node l next = sym (told_none t at q) ∙ e in
        let z : ◌≡◌ {A = ℕ} 0 1 = cc in
        absurd (omega arith)
    by (some k) q =
        let s = take (k - at) (drop at t) in
        let b = between t at k q in
        let r = line_node (k + 1) (eqb (k + 1) (length t)) (same s (ascii "end=")) (node_line s) l next (sym (told_some t at k q) ∙ e) in
        let f = line_fits s l r.0 in
        let size = line_size t at k b in
        record {
          from = omega (arith, f.long, size, r.1, b.from);
          inside = omega (arith, r.1, b.inside);
          size = omega (arith, f.size, size, r.1, b.from);
          few = f.few;
        }

last_goes : (t : List ℕ) (at : ℕ) → told_at t at ≡ last → at + 5 ≤ length t
unfolding steps_words basics
last_goes t at e = by (first_from 10 at (drop at t)) refl
  where
    by : (o : Option ℕ) → first_from 10 at (drop at t) ≡ o → at + 5 ≤ length t
    by none q =
        let f : bad ≡ last = sym (told_none t at q) ∙ e in
        let z : ◌≡◌ {A = ℕ} 0 1 = cc in
        absurd (omega arith)
    by (some k) q =
        let s = take (k - at) (drop at t) in
        let b = between t at k q in
        let r = line_last (same s (ascii "end=")) (eqb (k + 1) (length t)) (k + 1) (node_line s) (sym (told_some t at k q) ∙ e) in
        omega (arith, line_size t at k b, ap length (same_equal s (ascii "end=") r), b.from, b.inside)

-- ---- what a progress comes to

length-ends : (ends : List ℕ) (p : Progress) (used w : ℕ) → length (stepped_ends_to ends p used w) ≡ length ends
unfolding steps_words
length-ends ends p used zero = length-set ends p.count used
length-ends ends p used (suc n) = refl

last_one : (start used : ℕ) → length (last_end start used) ≤ 1
unfolding steps_words
last_one start used = by (eqb start used)
  where
    by : (b : Bool) → length {A = ℕ} (elim b [ true ↦ [] | false ↦ used ∷ [] ]) ≤ 1
    by true = omega arith
    by false = omega arith

module _ (t out ends : List ℕ) (p : Progress) where
  stop_bad : told_at t p.at ≡ bad → come_to None (zeros (length out)) (zeros (length ends)) ≡ outcome out ends p (nodes_from t p.at)
  unfolding steps_words meaning
  stop_bad e = sym (ap (outcome out ends p) (nodes_told t p.at ∙ ap (meaning t) e))

  stop_last : told_at t p.at ≡ last → come_to (nodes_of (finished p) p.used) out (finished_ends ends p) ≡ outcome out ends p (nodes_from t p.at)
  unfolding steps_words meaning answers basics
  stop_last e =
      let full : p.used ≡ p.used + 0 = omega arith in
      ap (λ (n : ℕ). come_to (nodes_of (finished p) n) out (finished_ends ends p)) full
      ∙ sym (ap (outcome out ends p) (nodes_told t p.at ∙ ap (meaning t) e))

  module _ (l : Line) (next : ℕ) where
    length-out : length (written out p.used l.node) ≡ length out
    unfolding answers
    length-out = length-sets out p.used l.node

    turn_by : (ls : List Line) (w : ℕ) → ◌≡◌ {A = Outcome} (let es : List ℕ = elim w [ zero ↦ (p.used + length l.node) ∷ ends_from (p.used + length l.node) (p.used + length l.node) 1 ls | suc n ↦ ends_from p.start (p.used + length l.node) (suc n) ls ] in come_to (nodes_of (p.count + length es) (p.used + length (l.node ++ bytes_from ls))) (written out p.used (l.node ++ bytes_from ls)) (written ends p.count es)) (outcome (written out p.used l.node) (stepped_ends_to ends p (p.used + length l.node) w) (stepped_to p next (p.used + length l.node) w) (some ls))
    unfolding steps_words
    turn_by ls zero =
        let used = p.used + length l.node in
        let es = ends_from used used 1 ls in
        let c : p.count + suc (length es) ≡ p.count + 1 + length es = omega arith in
        let u : p.used + length (l.node ++ bytes_from ls) ≡ used + length (bytes_from ls) = omega (arith, length-append l.node (bytes_from ls)) in
        λ j. come_to (nodes_of (c j) (u j)) (sym (written_next out p.used (length l.node) l.node (bytes_from ls) refl) j) (sym (written_first ends p.count used es) j)
    turn_by ls (suc n) =
        let used = p.used + length l.node in
        let es = ends_from p.start used (suc n) ls in
        let u : p.used + length (l.node ++ bytes_from ls) ≡ used + length (bytes_from ls) = omega (arith, length-append l.node (bytes_from ls)) in
        λ j. come_to (nodes_of (p.count + length es) (u j)) (sym (written_next out p.used (length l.node) l.node (bytes_from ls) refl) j) (written ends p.count es)

    turn_with : (o : Option (List Line)) → outcome out ends p (then_read o (λ ls. some (l ∷ ls))) ≡ outcome (written out p.used l.node) (stepped_ends ends p (length l.node) l.follow) (stepped p (length l.node) l.follow next) o
    unfolding steps_words sheet_rules basics
    turn_with none =
        λ j. come_to None (zeros (sym length-out j)) (zeros (sym (length-ends ends p (p.used + length l.node) (p.wants - 1 + l.follow)) j))
    turn_with (some ls) = turn_by ls (p.wants - 1 + l.follow)

    turn : told_at t p.at ≡ node l next → outcome out ends p (nodes_from t p.at) ≡ outcome (written out p.used l.node) (stepped_ends ends p (length l.node) l.follow) (stepped p (length l.node) l.follow next) (nodes_from t next)
    unfolding meaning
    turn e = ap (outcome out ends p) (nodes_told t p.at ∙ ap (meaning t) e) ∙ turn_with (nodes_from t next)

-- ---- the loop

-- a progress within its bounds: the room that the text read so far may take
pub record Bounds (n : ℕ) (p : Progress) : Type 0 where
  pub inside : p.at ≤ n
  pub used : p.used ≤ 2 * p.at
  pub wanted : 1 ≤ p.wants
  pub wants : p.wants ≤ 1 + 4294967295 * p.at
  pub few : 5 * p.count ≤ p.at

step_bounds : (n : ℕ) (p : Progress) (next used w : ℕ) → Bounds n p → p.at + 5 ≤ next → next ≤ n → used ≤ 2 * next → w ≤ 4294967295 * next → Bounds n (stepped_to p next used w)
unfolding steps_words
step_bounds n p next used zero b f i u h =
    record { inside = i; used = u; wanted = omega arith; wants = omega arith; few = omega (arith, b.few) }
step_bounds n p next used (suc w) b f i u h =
    record { inside = i; used = u; wanted = omega arith; wants = omega arith; few = omega (arith, b.few) }

step_at : (p : Progress) (next used w : ℕ) → (stepped_to p next used w).at ≡ next
unfolding steps_words
step_at p next used zero = refl
step_at p next used (suc w) = refl

-- what was to do is what is left to do
pub record Going (t out₀ ends₀ : List ℕ) (from : ℕ) (p : Progress) (out ends : List ℕ) : Type 0 where
  pub is : outcome out ends p (nodes_from t p.at) ≡ outcome out₀ ends₀ (begun_at from) (nodes_from t from)
  pub bounds : Bounds (length t) p
  pub same_out : length out ≡ length out₀
  pub same_ends : length ends ≡ length ends₀

pub going_begins : (t out ends : List ℕ) (from : ℕ) → from ≤ length t → Going t out ends from (begun_at from) out ends
going_begins t out ends from h =
    record {
      is = refl;
      bounds = record { inside = h; used = omega arith; wanted = omega arith; wants = omega arith; few = omega arith };
      same_out = refl;
      same_ends = refl;
    }

module _ {t out₀ ends₀ out ends : List ℕ} {from : ℕ} {p : Progress} (g : Going t out₀ ends₀ from p out ends) where
  pub going_room : 2 * length t + 9 ≤ length out₀ → p.used + 9 + (length t - p.at) ≤ length out
  going_room h = let b = g.bounds in omega (arith, b.inside, b.used, g.same_out)

  module _ (mid : List ℕ) (r : std.Option Reading) (read : LineRead out p.used (told_at t p.at) mid r) where
    pub going_bad : (a b : List ℕ) → r ≡ None → a ≡ zeros (length mid) → b ≡ zeros (length ends) → NodesRead t from out₀ ends₀ a b None
    unfolding steps_words
    going_bad a b e q s =
        let x = is_bad (told_at t p.at) (sym e ∙ read.answer) in
        let kept : mid ≡ out = read.bytes ∙ ap (read_bytes out p.used) x in
        record {
          is = (λ j. come_to None ((q ∙ ap (λ (l : List ℕ). zeros (length l)) kept) j) (s j)) ∙ stop_bad t out ends p x ∙ g.is;
          room = omega arith;
          few = omega arith;
        }

    module _ (e : r ≡ Some reading.Last) (h : length t ≤ 5 * length ends₀) where
      the_last : told_at t p.at ≡ last
      the_last = is_last (told_at t p.at) (sym e ∙ read.answer)

      pub last_place : p.count < length ends
      last_place = omega (arith, last_goes t p.at the_last, g.bounds.few, g.same_ends)

      pub going_last : (n : ℕ) (b : List ℕ) → n ≡ finished p → b ≡ finished_ends ends p → 2 * length t + 9 ≤ length out₀ → NodesRead t from out₀ ends₀ mid b (nodes_of n p.used)
      unfolding steps_words
      going_last n b q s k =
          let kept : mid ≡ out = read.bytes ∙ ap (read_bytes out p.used) the_last in
          record {
            is = (λ j. come_to (nodes_of (q j) p.used) (kept j) (s j)) ∙ stop_last t out ends p the_last ∙ g.is;
            room = omega (arith, g.bounds.used, g.bounds.inside);
            few = omega (arith, q, last_place, g.same_ends, last_one p.start p.used);
          }

    module _ (size follow next : ℕ) (e : r ≡ node_read size follow next) where
      the_node : IsNode (told_at t p.at) size follow next
      the_node = is_node (told_at t p.at) size follow next (sym e ∙ read.answer)

      goes : Goes t p.at the_node.line next
      goes = node_goes t p.at the_node.line next the_node.is

      pub going_roomy : length t ≤ 32768 → length t ≤ 5 * length ends₀ → Roomy p size follow (length ends)
      going_roomy h k =
          let b = g.bounds in
          record {
            wanted = b.wanted;
            sized = omega (arith, b.used, goes.size, goes.inside, goes.from, the_node.size_is);
            followed = omega (arith, b.wants, b.inside, goes.few, the_node.follow_is);
            place = omega (arith, b.few, goes.from, goes.inside, g.same_ends);
          }

      module _ (q : Progress) (s : q ≡ stepped p size follow next) where
        at_next : q.at ≡ next
        unfolding steps_words
        at_next = ap (λ (q : Progress). q.at) s ∙ step_at p next (p.used + size) (p.wants - 1 + follow)

        pub going_less : length t - q.at < length t - p.at
        going_less = omega (arith, at_next, goes.from, goes.inside)

        pub going_on : (b : List ℕ) → b ≡ stepped_ends ends p size follow → Going t out₀ ends₀ from q mid b
        unfolding steps_words answers
        going_on b k =
            let n = the_node in
            let l = n.line in
            let o : mid ≡ written out p.used l.node = read.bytes ∙ ap (read_bytes out p.used) n.is in
            record {
              is =
                  (λ j. outcome (o j) ((k ∙ (λ i. stepped_ends ends p (sym n.size_is i) (sym n.follow_is i))) j) ((s ∙ (λ i. stepped p (sym n.size_is i) (sym n.follow_is i) next)) j) (nodes_from t (at_next j)))
                  ∙ sym (turn t out ends p l next n.is) ∙ g.is;
              bounds =
                  subst (λ (q : Progress). Bounds (length t) q) (sym s)
                  (step_bounds (length t) p next (p.used + size) (p.wants - 1 + follow) g.bounds goes.from goes.inside
                  (omega (arith, g.bounds.used, goes.size, goes.from, n.size_is))
                  (omega (arith, g.bounds.wants, goes.few, goes.from, n.follow_is)));
              same_out = ap length o ∙ length-sets out p.used l.node ∙ g.same_out;
              same_ends = ap length k ∙ length-ends ends p (p.used + size) (p.wants - 1 + follow) ∙ g.same_ends;
            }
