-- What a run keeps that decides `equal` by taking each pair of slots once: which pairs of slots it took for `equal` and for a
-- pair walk that holds, the goals still to do, and the goal that it began with. Document 01, "Equality": "The answer is
-- false exactly when a finite chain of such steps fails." Assumes nothing.
use Rattle.std.specs.Prelude.{◌≡◌, true, ℕ, suc}
use mathlib.Core.List.{List, Memᴰ}
use Rattle.rules.specs.Cells.{slot}
use Rattle.rules.specs.Heap.{Heap}
use Rattle.rules.specs.Equal.{Goal, alike, walks, Fails}
use Rattle.equal_laws.specs.Levels.{holds}

-- all that was taken and all that is to do holds up to n steps
pub record Holding (n : ℕ) (h : Heap) (A W : ℕ → ℕ → Type 0) (todo : List Goal) : Type 0 where
  pub taken_alike : (s t : ℕ) → A s t → holds n h (alike (slot s) (slot t)) ≡ true
  pub taken_walks : (s t : ℕ) → W s t → holds n h (walks s t) ≡ true
  pub waiting : (g : Goal) → Memᴰ g todo → holds n h g ≡ true

-- a goal to do fails only if the first does; and if all holds up to n steps, what was taken holds one step further, and the
-- first goal up to n
pub record Run (h : Heap) (first : Goal) (A W : ℕ → ℕ → Type 0) (todo : List Goal) : Type 0 where
  pub fair : (g : Goal) → Memᴰ g todo → Fails h g → Fails h first
  pub alike_rises : (n : ℕ) → Holding n h A W todo → (s t : ℕ) → A s t → holds (suc n) h (alike (slot s) (slot t)) ≡ true
  pub walks_rises : (n : ℕ) → Holding n h A W todo → (s t : ℕ) → W s t → holds (suc n) h (walks s t) ≡ true
  pub covers : (n : ℕ) → Holding n h A W todo → holds n h first ≡ true

-- A' is at most what follows from A and one pair more, by symmetry and transitivity, and at least these
pub record Widened (A A' : ℕ → ℕ → Type 0) (s t : ℕ) : Type 1 where
  pub keeps : (x y : ℕ) → A x y → A' x y
  pub adds : A' s t
  pub least : (Q : ℕ → ℕ → Type 0) → ((x y : ℕ) → Q x y → Q y x) → ((x y z : ℕ) → Q x y → Q y z → Q x z) → ((x y : ℕ) → A x y → Q x y) → Q s t → (x y : ℕ) → A' x y → Q x y
