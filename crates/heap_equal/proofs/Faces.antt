-- The elements of two vectors, one pair after the other: what was to compare is what is left. Assumes nothing.
use mathlib.Core.Path.{◌≡◌, refl, sym, ap, ◌∙◌, subst}
use mathlib.Core.List.{List, [], ◌∷◌}
use Prim.Native.Nat.{ℕ, suc, ◌+◌, ◌-◌, ◌≤◌, ◌<◌}
use native.Mathlib.Omega.{arith}
use lib.ListN.{length}
use Rattle.rules.specs.Cells.{Value}
use Rattle.rules.specs.Heap.{Heap}
use Rattle.rules.specs.Layout.{Lent, heap_of}
use Rattle.rules.specs.Equal.{Goal, alike}
use Rattle.rules.specs.Calls.{value_in_use}
use Rattle.leaf_cells.specs.Elements.{loaded_element}
use Rattle.heap_eqv.specs.Eqv.{Comparable}
use Rattle.std.specs.Prelude.{Some, None}
use Rattle.std.specs.Prelude as code
use Rattle.heap_equal.specs.Parts.{facing}
use Rattle.heap_equal.specs.Boards.{Shape, Ready, Moved, Elements, NextTold}
use Rattle.heap_equal.proofs.Moves.{stay, moved_then, moved_before, refuted_then, refuted_before}

-- j pairs of elements are done
pub record Along (h : Heap) (c : ℕ) (elems : List ℕ) (p q n : ℕ) (sc₀ : List ℕ) (top : ℕ) (sc : List ℕ) (height j : ℕ) : Type 0 where
  pub size : length sc ≡ length sc₀
  pub low : j ≤ n
  pub moved : Moved h c (facing elems p q n) sc₀ top (facing elems (p + j) (q + j) (n - j)) sc height

pub along_begins : (h : Heap) (c : ℕ) (elems : List ℕ) (p q n : ℕ) (sc : List ℕ) (top : ℕ) → Shape h c sc top → Along h c elems p q n sc top sc top 0
along_begins h c elems p q n sc top sh =
    let a : p ≡ p + 0 = omega arith in
    let b : q ≡ q + 0 = omega arith in
    let d : n ≡ n - 0 = omega arith in
    record {
      size = refl;
      low = omega arith;
      moved =
          subst (λ (g : List Goal). Moved h c (facing elems p q n) sc top g sc top) (λ i. facing elems (a i) (b i) (d i))
          (stay h c sc top (facing elems p q n) sh);
    }

module _ (l : Lent) (c p q n : ℕ) (sc₀ : List ℕ) (top : ℕ) (pre : Ready l c sc₀ top × Elements l p q n) (sc : List ℕ) (height j : ℕ)
    (a : Along (heap_of l) c l.elems p q n sc₀ top sc height j) where
  abbrev h : Heap
  h = heap_of l

  pub along_ends : n ≤ j → NextTold h c (facing l.elems p q n) sc₀ top sc (Some height)
  unfolding NextTold facing
  along_ends le =
      let z : n - j ≡ 0 = omega (arith, a.low) in
      subst (λ (m : ℕ). Moved h c (facing l.elems p q n) sc₀ top (facing l.elems (p + j) (q + j) m) sc height) z a.moved

  module _ (on : j < n) (v w : Value) (v_is : v ≡ loaded_element l.elems (p + j)) (w_is : w ≡ loaded_element l.elems (q + j)) where
    pub next_asks : Ready l c sc height × Comparable l v w
    next_asks = (
      record { lists_sound = pre.0.lists_sound; shape = a.moved.shape },
      record {
        lists_sound = pre.0.lists_sound;
        first = ap (value_in_use h) v_is ∙ pre.1.first_used j on;
        second = ap (value_in_use h) w_is ∙ pre.1.second_used j on;
      },
    )

    abbrev later : List Goal
    later = facing l.elems (p + (j + 1)) (q + (j + 1)) (n - (j + 1))

    split : facing l.elems (p + j) (q + j) (n - j) ≡ alike v w ∷ later
    unfolding facing
    split =
        let m : n - j ≡ suc (n - (j + 1)) = omega arith in
        let x : p + j + 1 ≡ p + (j + 1) = omega arith in
        let y : q + j + 1 ≡ q + (j + 1) = omega arith in
        ap (facing l.elems (p + j) (q + j)) m
        ∙ (λ i. alike (sym v_is i) (sym w_is i) ∷ facing l.elems (x i) (y i) (n - (j + 1)))

    so_far : Moved h c (facing l.elems p q n) sc₀ top (alike v w ∷ later) sc height
    so_far = subst (λ (g : List Goal). Moved h c (facing l.elems p q n) sc₀ top g sc height) split a.moved

    module _ (sc' : List ℕ) (r : code.Option ℕ) (told : NextTold h c (alike v w ∷ []) sc height sc' r) where
      pub along_on : (k : ℕ) → r ≡ Some k → length sc' ≡ length sc → Along h c l.elems p q n sc₀ top sc' k (j + 1)
      unfolding NextTold
      along_on k e same =
          record {
            size = same ∙ a.size;
            low = omega arith;
            moved =
                moved_then h c (facing l.elems p q n) (alike v w ∷ later) later sc₀ sc sc' top height k so_far
                (moved_before h c (alike v w ∷ []) [] later sc sc' height k (subst (λ (x : code.Option ℕ). NextTold h c (alike v w ∷ []) sc height sc' x) e told));
          }

      pub along_stops : r ≡ None → NextTold h c (facing l.elems p q n) sc₀ top sc' None
      unfolding NextTold
      along_stops e =
          refuted_then h c (facing l.elems p q n) (alike v w ∷ later) sc₀ sc top height so_far
          (refuted_before h c (alike v w ∷ []) later sc height (subst (λ (x : code.Option ℕ). NextTold h c (alike v w ∷ []) sc height sc' x) e told))
