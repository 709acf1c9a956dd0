-- Two slots joined in a part of the scratch. Assumes nothing.
use mathlib.Core.Path.{◌≡◌, sym, ap, ◌∙◌, subst}
use mathlib.Core.Bool.{Bool}
use mathlib.Core.List.{List, ◌++◌}
use Prim.Native.Nat.{ℕ, ◌+◌, ◌-◌, ◌<◌}
use native.Mathlib.Omega.{arith}
use lib.ListN.{length, take, drop}
use lib.Seq.{drop-drop}
use Rattle.leaf_classes.specs.Classes.{Rises, Joins}
use Rattle.heap_equal.specs.Boards.{CanJoinAlike, AlikeJoined, CanJoin, WalksJoined}
use Rattle.heap_equal.proofs.Scratch.{front_size, walks_size}

module _ (c : ℕ) (sc : List ℕ) (s t : ℕ) (pre : CanJoinAlike c sc s t) where
  pub part_size : c ≡ length (take c sc)
  part_size = sym (front_size c sc pre.room)

  pub alike_ask : Rises (take c sc) × ((s < length (take c sc)) × (t < length (take c sc)))
  alike_ask = (pre.rising, (omega (arith, part_size, pre.first), omega (arith, part_size, pre.second)))

  pub alike_joined : (l : List ℕ) (r : Bool) → Joins (take c sc) s t l r → AlikeJoined c sc s t (l ++ drop c sc) r
  alike_joined l r told =
      record { answer_is = told.answer_is; scratch_is = ap (λ (m : List ℕ). m ++ drop c sc) told.links_are }

module _ (c : ℕ) (sc : List ℕ) (s t : ℕ) (pre : CanJoin c sc s t) where
  once : c + c - c ≡ c
  once = omega arith

  pub walks_ask : Rises (take (c + c - c) (drop c sc)) × ((s < length (take (c + c - c) (drop c sc))) × (t < length (take (c + c - c) (drop c sc))))
  walks_ask =
      subst (λ (n : ℕ). Rises (take n (drop c sc)) × ((s < length (take n (drop c sc))) × (t < length (take n (drop c sc))))) (sym once)
      (pre.rising, (omega (arith, walks_size c sc pre.room, pre.first), omega (arith, walks_size c sc pre.room, pre.second)))

  pub walks_joined : (l : List ℕ) (r : Bool) → Joins (take (c + c - c) (drop c sc)) s t l r → WalksJoined c sc s t (take c sc ++ (l ++ drop (c + c - c) (drop c sc))) r
  walks_joined l r told =
      let told' : Joins (take c (drop c sc)) s t l r = subst (λ (n : ℕ). Joins (take n (drop c sc)) s t l r) once told in
      record {
        answer_is = told'.answer_is;
        scratch_is =
            ap (λ (n : ℕ). take c sc ++ (l ++ drop n (drop c sc))) once
            ∙ ap (λ (m : List ℕ). take c sc ++ (l ++ m)) (drop-drop c c sc)
            ∙ ap (λ (m : List ℕ). take c sc ++ (m ++ drop (c + c) sc)) told'.links_are;
      }
