-- What the comparison keeps in the scratch, and what each of its functions does to it: the run is that of the goals at hand and
-- of those that the pairs on the stack stand for. Document 01, "Equality": "The answer is false exactly when a finite chain of
-- such steps fails"; "On return scratch is all zero". Assumes nothing.
use Rattle.std.specs.Prelude.{◌≡◌, Bool, true, false, List, [], ◌∷◌, ◌++◌, ℕ, ◌+◌, ◌*◌, ◌≤◌, ◌<◌, length, take, drop, set}
use Rattle.laws.specs.Basics.{zeros}
use Rattle.rules.specs.Numbers.{scratch_words}
use Rattle.rules.specs.Cells.{Value}
use Rattle.rules.specs.Heap.{Heap, capacity, in_use}
use Rattle.rules.specs.Layout.{Lent, heap_of}
use Rattle.rules.specs.Sound.{sound}
use Rattle.rules.specs.Equal.{Goal, alike, walks, Fails, Equal}
use Rattle.rules.specs.Calls.{value_in_use, cleared}
use Rattle.equal_laws.specs.Runs.{Run}
use Rattle.leaf_classes.specs.Classes.{Together, Rises, weight, joined}
use Rattle.leaf_cells.specs.Elements.{loaded_element}
use Rattle.std.specs.Prelude.{Some, None}
use Rattle.std.specs.Prelude as code
use Rattle.heap_equal.specs.declared.Walked.{Walked}
use Rattle.heap_equal.specs.declared.Walked.TheVariants as walked
use Rattle.heap_equal.specs.Parts.{first_of, second_of, pending}

-- ---- two slots of one class

pub record CanJoinAlike (c : ℕ) (scratch : List ℕ) (s t : ℕ) : Type 0 where
  pub room : 8 * c + 128 ≤ length scratch
  pub rising : Rises (take c scratch)
  pub first : s < c
  pub second : t < c

-- the classes joined, all else as it was
pub record AlikeJoined (c : ℕ) (scratch : List ℕ) (s t : ℕ) (scratch' : List ℕ) (r : Bool) : Type 0 where
  pub answer_is : r ≡ (joined (take c scratch) s t).widened
  pub scratch_is : scratch' ≡ (joined (take c scratch) s t).links ++ drop c scratch

-- ---- two slots of the walk

pub record CanJoin (c : ℕ) (scratch : List ℕ) (s t : ℕ) : Type 0 where
  pub room : 8 * c + 128 ≤ length scratch
  pub rising : Rises (take c (drop c scratch))
  pub first : s < c
  pub second : t < c

-- the walk's classes joined, all else as it was
pub record WalksJoined (c : ℕ) (scratch : List ℕ) (s t : ℕ) (scratch' : List ℕ) (r : Bool) : Type 0 where
  pub answer_is : r ≡ (joined (take c (drop c scratch)) s t).widened
  pub scratch_is : scratch' ≡ take c scratch ++ ((joined (take c (drop c scratch)) s t).links ++ drop (c + c) scratch)

-- ---- two slots on the stack

unfoldable pub stacked : ℕ → List ℕ → ℕ → ℕ → ℕ → List ℕ
stacked c scratch top s t = set (set scratch (2 * c + 2 * top) s) (2 * c + 2 * top + 1) t

pub record PairPushed (c : ℕ) (scratch : List ℕ) (top s t : ℕ) (scratch' : List ℕ) (r : ℕ) : Type 0 where
  pub height_is : r ≡ top + 1
  pub scratch_is : scratch' ≡ stacked c scratch top s t

-- ---- the comparison's state

-- c words of classes, c words of the walk's classes, and the stack: no higher than the classes have grown
pub record Shape (h : Heap) (c : ℕ) (scratch : List ℕ) (top : ℕ) : Type 0 where
  pub slots : c ≡ capacity h
  pub room : 8 * c + 128 ≤ length scratch
  pub alike_rise : Rises (take c scratch)
  pub walks_rise : Rises (take c (drop c scratch))
  pub height : top ≤ weight (take c scratch)
  pub first_used : (i : ℕ) → i < top → in_use h (first_of c scratch i) ≡ true
  pub second_used : (i : ℕ) → i < top → in_use h (second_of c scratch i) ≡ true

-- these goals are at hand
pub record Board (h : Heap) (first : Goal) (c : ℕ) (scratch : List ℕ) (top : ℕ) (goals : List Goal) : Type 0 where
  pub run : Run h first (Together (take c scratch)) (Together (take c (drop c scratch))) (goals ++ pending h c scratch top)

-- the goals at hand gave way to others; the stack grew no more than the classes did
pub record Moved (h : Heap) (c : ℕ) (goals : List Goal) (scratch : List ℕ) (top : ℕ) (goals' : List Goal) (scratch' : List ℕ) (top' : ℕ) : Type 0 where
  pub shape : Shape h c scratch' top'
  pub gain : top' + weight (take c scratch) ≤ top + weight (take c scratch')
  pub walk_gain : weight (take c (drop c scratch)) ≤ weight (take c (drop c scratch'))
  pub runs : (first : Goal) (rest : List Goal) → Board h first c scratch top (goals ++ rest) → Board h first c scratch' top' (goals' ++ rest)

-- one of the goals at hand fails
pub record Refuted (h : Heap) (c : ℕ) (goals : List Goal) (scratch : List ℕ) (top : ℕ) : Type 0 where
  pub refuted : (first : Goal) (rest : List Goal) → Board h first c scratch top (goals ++ rest) → Fails h first

-- ---- what is asked and promised

pub record Ready (l : Lent) (c : ℕ) (scratch : List ℕ) (top : ℕ) : Type 0 where
  pub lists_sound : sound l ≡ true
  pub shape : Shape (heap_of l) c scratch top

-- two values, one of which is a scalar
unfoldable pub by_eqv : Bool → ℕ → code.Option ℕ
by_eqv true top = Some top
by_eqv false top = None

unfoldable pub NextTold : Heap → ℕ → List Goal → List ℕ → ℕ → List ℕ → code.Option ℕ → Type 0
NextTold h c goals scratch top scratch' (Some n) = Moved h c goals scratch top [] scratch' n
NextTold h c goals scratch top scratch' None = Refuted h c goals scratch top

-- two vectors' elements: they lie in the arena, and their slots are in use
pub record Elements (l : Lent) (p q n : ℕ) : Type 0 where
  pub first_inside : 3 * (p + n) ≤ length l.elems
  pub second_inside : 3 * (q + n) ≤ length l.elems
  pub first_used : (j : ℕ) → j < n → value_in_use (heap_of l) (loaded_element l.elems (p + j)) ≡ true
  pub second_used : (j : ℕ) → j < n → value_in_use (heap_of l) (loaded_element l.elems (q + j)) ≡ true

pub record UsedSlots (h : Heap) (s t : ℕ) : Type 0 where
  pub first_used : in_use h s ≡ true
  pub second_used : in_use h t ≡ true

-- the walk goes on from d and e
pub record GoesOn (h : Heap) (c : ℕ) (s t : ℕ) (scratch : List ℕ) (top : ℕ) (scratch' : List ℕ) (top' d e : ℕ) : Type 0 where
  pub moved : Moved h c (walks s t ∷ []) scratch top (walks d e ∷ []) scratch' top'
  pub used : UsedSlots h d e
  pub more_walked : weight (take c (drop c scratch)) + 1 ≤ weight (take c (drop c scratch'))

unfoldable pub WalkTold : Heap → ℕ → ℕ → ℕ → List ℕ → ℕ → List ℕ → Walked → Type 0
WalkTold h c s t scratch top scratch' (walked.On n d e) = GoesOn h c s t scratch top scratch' n d e
WalkTold h c s t scratch top scratch' walked.Ends = Moved h c (walks s t ∷ []) scratch top [] scratch' top
WalkTold h c s t scratch top scratch' walked.Differs = Refuted h c (walks s t ∷ []) scratch top

-- the answer is right for whatever two values the run began with
pub record Decides (h : Heap) (c : ℕ) (scratch : List ℕ) (top : ℕ) (r : Bool) : Type 0 where
  pub decided : (v w : Value) → Board h (alike v w) c scratch top [] → Equal h v w r

-- scratch of the length that the formula gives
pub record Room (l : Lent) (scratch : List ℕ) : Type 0 where
  pub long : scratch_words (capacity (heap_of l)) ≤ length scratch

pub record Clear (scratch : List ℕ) : Type 0 where
  pub all_zero : scratch ≡ zeros (length scratch)

-- `equal`, and "On return scratch is all zero"
pub record Answered (h : Heap) (scratch : List ℕ) (v w : Value) (scratch' : List ℕ) (r : Bool) : Type 0 where
  pub answer : Equal h v w r
  pub scratch_is : scratch' ≡ cleared scratch
