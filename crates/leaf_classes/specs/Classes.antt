-- Classes of slots in a list with a word for each: 0 not met, else one more than its link, the slot itself (a root) or a higher
-- one of its class. Two slots are together where both are met and lead to one root: what was taken as equal is not asked again,
-- for document 01's "The answer is false exactly when a finite chain of such steps fails." Assumes nothing.
use Rattle.std.specs.Prelude.{◌≡◌, Bool, true, false, not, List, ℕ, zero, suc, ◌+◌, ◌-◌, ◌≤◌, eqb, ltb, length, get_or, set}
use Rattle.laws.specs.Basics.{choose, both}
use Rattle.laws.proofs.Sums.{sum_below}

unfoldable pub met : List ℕ → ℕ → Bool
met l s = ltb 0 (get_or l s 0)

unfoldable pub link : List ℕ → ℕ → ℕ
link l s = get_or l s 0 - 1

-- n links on
unfoldable pub follow : ℕ → List ℕ → ℕ → ℕ
unfolding link
follow zero l s = s
follow (suc n) l s = follow n l (link l s)

-- a root links to itself, so that as many links as there are slots are enough
unfoldable pub root_of : List ℕ → ℕ → ℕ
unfolding follow
root_of l s = follow (length l) l s

unfoldable pub together : List ℕ → ℕ → ℕ → Bool
unfolding met root_of
together l s t = both (met l s) (both (met l t) (eqb (root_of l s) (root_of l t)))

abbrev pub Together : List ℕ → ℕ → ℕ → Type 0
Together l s t = together l s t ≡ true

-- links rise, and lead to slots that are met
pub record Rises (l : List ℕ) : Type 0 where
  pub up : (s : ℕ) → met l s ≡ true → s ≤ link l s
  pub known : (s : ℕ) → met l s ≡ true → met l (link l s) ≡ true

-- how far the classes have come: 0 for a slot not met, 1 for a root, 2 for a linked one
unfoldable pub slot_weight : List ℕ → ℕ → ℕ
unfolding met link
slot_weight l s = choose (met l s) (choose (eqb (link l s) s) 1 2) 0

unfoldable pub weight : List ℕ → ℕ
unfolding slot_weight
weight l = sum_below (length l) (slot_weight l)

-- ---- finding the root, with each passed link set to the next but one

pub record Found : Type 0 where
  pub root : ℕ
  pub links : List ℕ

abbrev pub finding : List ℕ → ℕ → Found
finding l s = record { root = s; links = l }

unfoldable pub halved : ℕ → List ℕ → ℕ → Found
unfolding link
halved zero l s = finding l s
halved (suc n) l s =
    elim (eqb (link l s) s)
    [ true ↦ finding l s | false ↦ halved n (set l s (get_or l (link l s) 0)) (link l (link l s)) ]

unfoldable pub found : List ℕ → ℕ → Found
unfolding halved
found l s = halved (length l) l s

pub record Finds (l : List ℕ) (s : ℕ) (l' : List ℕ) (r : ℕ) : Type 0 where
  pub root_is : r ≡ (found l s).root
  pub links_are : l' ≡ (found l s).links

-- ---- joining two classes

-- a slot not met yet becomes a class of its own
unfoldable pub meeting : List ℕ → ℕ → List ℕ
unfolding met
meeting l s = choose (met l s) l (set l s (s + 1))

-- the lower of two roots linked to the higher
unfoldable pub tied : List ℕ → ℕ → ℕ → List ℕ
tied l a b = choose (eqb a b) l (choose (ltb a b) (set l a (b + 1)) (set l b (a + 1)))

pub record Joined : Type 0 where
  pub widened : Bool
  pub links : List ℕ

-- two slots in one class; whether they were not yet
unfoldable pub joined : List ℕ → ℕ → ℕ → Joined
unfolding meeting found tied met
joined l s t =
    let f = found (meeting (meeting l s) t) s in
    let g = found f.links t in
    record { widened = choose (eqb f.root g.root) (not (met l s)) true; links = tied g.links f.root g.root }

pub record Joins (l : List ℕ) (s t : ℕ) (l' : List ℕ) (r : Bool) : Type 0 where
  pub answer_is : r ≡ (joined l s t).widened
  pub links_are : l' ≡ (joined l s t).links

unfoldable pub class_rules : Unit {0}
unfolding met link follow root_of together slot_weight weight halved found meeting tied joined
class_rules = tt
