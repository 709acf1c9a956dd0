-- What each small function of the pass finds, from its tests. Assumes nothing.
use mathlib.Core.Path.{◌≡◌, refl, sym, ap, ◌∙◌}
use mathlib.Core.Bool.{Bool, true, false, not}
use mathlib.Core.List.{List, [], ◌∷◌, ◌++◌}
use mathlib.Core.Option.{some}
use Prim.Native.Nat.{ℕ, suc, ◌+◌, ◌≤◌, ◌<◌}
use native.Mathlib.Omega.{arith}
use native.Mathlib.Numerals.{add-one}
use borrow.Author.Tests.{ltb-true, ltb-false, lt-ltb, le-ltb, lt-leb, le-leb}
use lib.Dec.{leb, ltb}
use lib.ListN.{length, take, set}
use lib.Seq.{length-take-le, take-suc-set}
use Rattle.laws.specs.Basics.{choose, both, either, member, basics}
use Rattle.laws.proofs.Members.{eqb_sym}
use Rattle.rules.proofs.Nodes.{choose_true, choose_false}
use mathlib.Core.Logic.{◌⊎◌, inl, inr}
use Rattle.std.specs.List.{list_any}
use Rattle.std.specs.Prelude.{nat_eq, ◌||◌, min}
use Rattle.rules.specs.Refusals.{over_limit}
use Rattle.rules.specs.Nodes.{Node, reads}
use Rattle.rules.specs.Datum.{node_within, datum_rules}
use Rattle.rules.proofs.Flat.{follow}
use Rattle.leaf_nodes.specs.declared.Node as leaf
use Rattle.leaf_nodes.specs.declared.Node.TheVariants.{Plain, String, Symbol, Ident, Ref, Pair, Vector, Def}
use Rattle.heap_tally.specs.Pass.{limits}
use Rattle.heap_tally.specs.Pass.{Tally, tally, counted, mentioned, labelled, stepped, judged, capped, Shown, pass_rules}

-- ---- mention

-- the library's search for a number is the rules' membership
pub member_any : (label : ℕ) (ls : List ℕ) → list_any (λ x. nat_eq x label) ls ≡ member label ls
unfolding basics
member_any label [] = refl
member_any label (l ∷ ls) = λ i. either (eqb_sym l label i) (member_any label ls i)

either_or : (a b : Bool) → (a || b) ≡ either b a
either_or true true = refl
either_or true false = refl
either_or false true = refl
either_or false false = refl

-- the labels kept are as many as are known, and one more is behind them
pub kept_size : (n : ℕ) (xs : List ℕ) → length xs ≡ 64 → n ≤ 64 → length (take n xs) ≡ n
kept_size n xs e h = length-take-le n xs (omega arith)

pub kept_grown : (n : ℕ) (xs : List ℕ) (x : ℕ) → length xs ≡ 64 → n < 64 → take (n + 1) (set xs n x) ≡ take n xs ++ (x ∷ [])
kept_grown n xs x e h = ap (λ (k : ℕ). take k (set xs n x)) (add-one n) ∙ take-suc-set xs n x (omega arith)

module _ (t : Tally) (refers : Bool) (label : ℕ) where
  pub mention_known : member label t.labels ≡ true → t ≡ mentioned refers label t
  unfolding pass_rules
  mention_known h = sym (choose_true _ _ _ h)

  module _ (h : member label t.labels ≡ false) where
    pub mention_full : length t.labels ≡ 64 → tally t.nodes true t.early t.labels ≡ mentioned refers label t
    unfolding pass_rules
    mention_full e = sym (choose_false _ _ _ h ∙ choose_false _ _ _ (le-ltb (length t.labels) 64 (omega arith)))

    pub mention_new : length t.labels < 64 → tally t.nodes t.over (t.early || refers) (t.labels ++ (label ∷ [])) ≡ mentioned refers label t
    unfolding pass_rules
    mention_new e =
        ap (λ (b : Bool). tally t.nodes t.over b (t.labels ++ (label ∷ []))) (either_or t.early refers)
        ∙ sym (choose_false _ _ _ h ∙ choose_true _ _ _ (lt-ltb (length t.labels) 64 e))

-- ---- step

pub counted_is : (t : Tally) (within : Bool) → tally (t.nodes + 1) (t.over || not within) t.early t.labels ≡ counted within t
unfolding pass_rules
counted_is t within = λ i. tally (add-one t.nodes i) (either_or t.over (not within) i) t.early t.labels

-- ---- by the node

node_is : {n m : Node} {rest more : List ℕ} → reads m rest ≡ reads n more → m ≡ n
node_is e = cc

-- the code's answers, by the node by value
abbrev pub within_by : leaf.Node → Bool
within_by (Plain v) = true
within_by (String k) = leb k 4096
within_by (Symbol k) = leb k 255
within_by (Ident s k) = leb k 255
within_by (Ref l) = true
within_by Pair = true
within_by (Vector k) = leb k 1024
within_by (Def l) = true

abbrev pub follow_by : leaf.Node → ℕ
follow_by (Plain v) = 0
follow_by (String k) = 0
follow_by (Symbol k) = 0
follow_by (Ident s k) = 0
follow_by (Ref l) = 0
follow_by Pair = 2
follow_by (Vector k) = k
follow_by (Def l) = 1

abbrev pub label_by : leaf.Node → Tally → Tally
label_by (Plain v) t = t
label_by (String k) t = t
label_by (Symbol k) t = t
label_by (Ident s k) t = t
label_by (Ref l) t = mentioned true l t
label_by Pair t = t
label_by (Vector k) t = t
label_by (Def l) t = mentioned false l t

no_node : {n : Node} {x : _} {rest : List ℕ} → Rattle.rules.specs.Nodes.faulty x ≡ reads n rest → ⊥
no_node e = let z : ◌≡◌ {A = ℕ} 0 1 = cc in omega arith

pub within_shown : (x : leaf.Node) (n : Node) → Shown x n → within_by x ≡ node_within n
unfolding datum_rules
within_shown (Plain v) n s = ap node_within (node_is s.is)
within_shown (String k) n s = ap (λ (k : ℕ). leb k 4096) (sym s.long) ∙ ap node_within (node_is s.is)
within_shown (Symbol k) n s = ap (λ (k : ℕ). leb k 255) (sym s.long) ∙ ap node_within (node_is s.is)
within_shown (Ident c k) n s = ap (λ (k : ℕ). leb k 255) (sym s.long) ∙ ap node_within (node_is s.is)
within_shown (Ref l) n s = ap node_within (node_is s.is)
within_shown Pair n s = ap node_within (node_is s.is)
within_shown (Vector k) n s = ap node_within (node_is s.is)
within_shown (Def l) n s = ap node_within (node_is s.is)

pub follow_shown : (x : leaf.Node) (n : Node) → Shown x n → follow_by x ≡ follow n
unfolding follow
follow_shown (Plain v) n s = ap follow (node_is s.is)
follow_shown (String k) n s = ap follow (node_is s.is)
follow_shown (Symbol k) n s = ap follow (node_is s.is)
follow_shown (Ident c k) n s = ap follow (node_is s.is)
follow_shown (Ref l) n s = ap follow (node_is s.is)
follow_shown Pair n s = ap follow (node_is s.is)
follow_shown (Vector k) n s = ap follow (node_is s.is)
follow_shown (Def l) n s = ap follow (node_is s.is)

label_shown : (x : leaf.Node) (n : Node) (t : Tally) → Shown x n → label_by x t ≡ labelled n t
unfolding pass_rules
label_shown (Plain v) n t s = ap (λ (n : Node). labelled n t) (node_is s.is)
label_shown (String k) n t s = ap (λ (n : Node). labelled n t) (node_is s.is)
label_shown (Symbol k) n t s = ap (λ (n : Node). labelled n t) (node_is s.is)
label_shown (Ident c k) n t s = ap (λ (n : Node). labelled n t) (node_is s.is)
label_shown (Ref l) n t s = ap (λ (n : Node). labelled n t) (node_is s.is)
label_shown Pair n t s = ap (λ (n : Node). labelled n t) (node_is s.is)
label_shown (Vector k) n t s = ap (λ (n : Node). labelled n t) (node_is s.is)
label_shown (Def l) n t s = ap (λ (n : Node). labelled n t) (node_is s.is)

-- an answer for the case that a node is
pub as_within : {x y : leaf.Node} → x ≡ y → (n : Node) → Shown x n → within_by y ≡ node_within n
as_within {x} e n s = ap within_by (sym e) ∙ within_shown x n s

pub as_follow : {x y : leaf.Node} → x ≡ y → (n : Node) → Shown x n → follow_by y ≡ follow n
as_follow {x} e n s = ap follow_by (sym e) ∙ follow_shown x n s

pub as_step : {x y : leaf.Node} (t : Tally) (w : Bool) (n : Node) → x ≡ y → Shown x n → w ≡ node_within n → label_by y (counted w t) ≡ stepped t n
unfolding pass_rules
as_step {x} {y} t w n e s q =
    ap (λ (y : leaf.Node). label_by y (counted w t)) (sym e) ∙ ap (λ (w : Bool). label_by x (counted w t)) q
    ∙ label_shown x n (counted (node_within n) t) s

-- a name, a symbol's or an identifier's
pub as_name : (x : leaf.Node) (n : Node) (k : ℕ) → (x ≡ Symbol k) ⊎ ((i : ℕ) × (x ≡ Ident i k)) → Shown x n → leb k 255 ≡ node_within n
as_name x n k (inl e) s = as_within e n s
as_name x n k (inr (i, e)) s = as_within e n s

-- what is none of these keeps no number
pub all_within : (x : leaf.Node) (n : Node) → ((k : ℕ) → x ≡ String k → ⊥) → ((k : ℕ) → x ≡ Symbol k → ⊥) → ((s k : ℕ) → x ≡ Ident s k → ⊥) → ((k : ℕ) → x ≡ Vector k → ⊥) → Shown x n → true ≡ node_within n
all_within (Plain v) n a b c d s = within_shown (Plain v) n s
all_within (String k) n a b c d s = absurd (a k refl)
all_within (Symbol k) n a b c d s = absurd (b k refl)
all_within (Ident i k) n a b c d s = absurd (c i k refl)
all_within (Ref l) n a b c d s = within_shown (Ref l) n s
all_within Pair n a b c d s = within_shown Pair n s
all_within (Vector k) n a b c d s = absurd (d k refl)
all_within (Def l) n a b c d s = within_shown (Def l) n s

-- what is none of these is followed by none
pub none_follow : (x : leaf.Node) (n : Node) → (x ≡ Pair → ⊥) → ((k : ℕ) → x ≡ Vector k → ⊥) → ((l : ℕ) → x ≡ Def l → ⊥) → Shown x n → 0 ≡ follow n
none_follow (Plain v) n a b c s = follow_shown (Plain v) n s
none_follow (String k) n a b c s = follow_shown (String k) n s
none_follow (Symbol k) n a b c s = follow_shown (Symbol k) n s
none_follow (Ident i k) n a b c s = follow_shown (Ident i k) n s
none_follow (Ref l) n a b c s = follow_shown (Ref l) n s
none_follow Pair n a b c s = absurd (a refl)
none_follow (Vector k) n a b c s = absurd (b k refl)
none_follow (Def l) n a b c s = absurd (c l refl)

-- what is none of these mentions no label
pub label_stays : (x : leaf.Node) (t : Tally) (w : Bool) (n : Node) → ((l : ℕ) → x ≡ Ref l → ⊥) → ((l : ℕ) → x ≡ Def l → ⊥) → Shown x n → w ≡ node_within n → counted w t ≡ stepped t n
label_stays (Plain v) t w n a b s q = as_step t w n refl s q
label_stays (String k) t w n a b s q = as_step t w n refl s q
label_stays (Symbol k) t w n a b s q = as_step t w n refl s q
label_stays (Ident i k) t w n a b s q = as_step t w n refl s q
label_stays (Ref l) t w n a b s q = absurd (a l refl)
label_stays Pair t w n a b s q = as_step t w n refl s q
label_stays (Vector k) t w n a b s q = as_step t w n refl s q
label_stays (Def l) t w n a b s q = absurd (b l refl)

-- ---- the data wanted

-- the smaller of a number and one more than the bytes left
pub capped_is : (left w : ℕ) → min w (left + 1) ≡ capped left w
unfolding pass_rules
capped_is left w = go (ltb left w) refl
  where
    go : (b : Bool) → ltb left w ≡ b → min w (left + 1) ≡ choose b (suc left) w
    go true e = let h : left < w = ltb-true _ _ e in omega arith
    go false e = let h : w ≤ left = ltb-false _ _ e in omega arith

-- ---- the verdict

module _ (t : Tally) where
  pub judged_many : 4096 < t.nodes → some over_limit ≡ judged t
  unfolding pass_rules limits
  judged_many h = sym (ap (λ (b : Bool). limits (both b (not t.over)) t.early) (lt-leb t.nodes 4096 h))

  pub judged_rest : (o e : Bool) → t.nodes ≤ 4096 → t.over ≡ o → t.early ≡ e → limits (not o) e ≡ judged t
  unfolding pass_rules limits
  judged_rest o e h p q = sym (λ i. limits (both (le-leb t.nodes 4096 h i) (not (p i))) (q i))
