-- What is in which part of the scratch after a change of one part. Assumes nothing.
use mathlib.Core.Path.{◌≡◌, refl, sym, ap, ◌∙◌}
use mathlib.Core.List.{List, ◌++◌}
use Prim.Native.Nat.{ℕ, zero, suc, ◌+◌, ◌-◌, ◌*◌, ◌≤◌, ◌<◌}
use native.Mathlib.Omega.{arith}
use native.Mathlib.Numerals.{add-one}
use lib.ListN.{length, get_or, take, drop, set, length-set, length-append, length-drop}
use lib.Seq.{length-take-le, take_at, drop_at, get_or-drop, get_or-set_same, get_or-set_other, take-set-le, drop-set-add, drop-drop}
use Rattle.rules.specs.Heap.{Heap, in_use}
use Rattle.leaf_classes.specs.Classes.{Rises, weight}
use Rattle.heap_equal.specs.Parts.{first_of, second_of, wanted, pending}
use Rattle.heap_equal.specs.Boards.{stacked, Shape}

-- the stack's words up to a height are the same
pub record Beneath (c top : ℕ) (sc sc' : List ℕ) : Type 0 where
  pub size : length sc' ≡ length sc
  pub entries : (n : ℕ) → 2 * c ≤ n → n < 2 * c + 2 * top → get_or sc' n 0 ≡ get_or sc n 0

module _ (c top : ℕ) (sc sc' : List ℕ) (same : Beneath c top sc sc') where
  pub first_same : (i : ℕ) → i < top → first_of c sc' i ≡ first_of c sc i
  first_same i h = same.entries (2 * c + 2 * i) (omega arith) (omega arith)

  pub second_same : (i : ℕ) → i < top → second_of c sc' i ≡ second_of c sc i
  second_same i h = same.entries (2 * c + 2 * i + 1) (omega arith) (omega arith)

  pub pending_same : (h : Heap) (n : ℕ) → n ≤ top → pending h c sc' n ≡ pending h c sc n
  unfolding pending
  pending_same h zero le = refl
  pending_same h (suc n) le =
      λ i. wanted h (first_same n (omega arith) i) (second_same n (omega arith) i) ++ pending_same h n (omega arith) i

  pub shape_kept : (h : Heap) → Shape h c sc top → Rises (take c sc') → Rises (take c (drop c sc')) → weight (take c sc) ≤ weight (take c sc') → Shape h c sc' top
  shape_kept h sh a w more =
      record {
        slots = sh.slots;
        room = omega (arith, sh.room, same.size);
        alike_rise = a;
        walks_rise = w;
        height = omega (arith, sh.height, more);
        first_used = λ i l. ap (in_use h) (first_same i l) ∙ sh.first_used i l;
        second_used = λ i l. ap (in_use h) (second_same i l) ∙ sh.second_used i l;
      }

-- ---- the first part changed

module _ (c : ℕ) (sc : List ℕ) (long : 8 * c + 128 ≤ length sc) where
  pub front_size : length (take c sc) ≡ c
  front_size = length-take-le c sc (omega arith)

  pub walks_size : length (take c (drop c sc)) ≡ c
  walks_size = length-take-le c (drop c sc) (omega (arith, length-drop c sc))

  module _ (k : List ℕ) (same : length k ≡ c) where
    pub new_front : take c (k ++ drop c sc) ≡ k
    new_front = take_at k (drop c sc) c same

    pub old_back : drop c (k ++ drop c sc) ≡ drop c sc
    old_back = drop_at k (drop c sc) c same

    front_length : length (k ++ drop c sc) ≡ length sc
    front_length = omega (arith, length-append k (drop c sc), length-drop c sc)

    behind : (n : ℕ) → c ≤ n → get_or (k ++ drop c sc) n 0 ≡ get_or sc n 0
    behind n le =
        let e : c + (n - c) ≡ n = omega arith in
        ap (λ (x : ℕ). get_or (k ++ drop c sc) x 0) (sym e)
        ∙ sym (get_or-drop c (k ++ drop c sc) (n - c) 0)
        ∙ ap (λ (l : List ℕ). get_or l (n - c) 0) old_back
        ∙ get_or-drop c sc (n - c) 0
        ∙ ap (λ (x : ℕ). get_or sc x 0) e

    pub front_beneath : (top : ℕ) → Beneath c top sc (k ++ drop c sc)
    front_beneath top = record { size = front_length; entries = λ n le l. behind n (omega arith) }

-- ---- two words on the stack

module _ (c : ℕ) (sc : List ℕ) (top s t : ℕ) (room : 2 * c + 2 * top + 1 < length sc) where
  abbrev at : ℕ
  at = 2 * c + 2 * top

  abbrev one : List ℕ
  one = set sc at s

  abbrev two : List ℕ
  two = stacked c sc top s t

  pub pushed_front : take c two ≡ take c sc
  unfolding stacked
  pushed_front = take-set-le c one (at + 1) t (omega arith) ∙ take-set-le c sc at s (omega arith)

  walks_past : (l : List ℕ) (i x : ℕ) → c + c ≤ i → take c (drop c (set l i x)) ≡ take c (drop c l)
  walks_past l i x le =
      let e : c + (i - c) ≡ i = omega arith in
      ap (λ (n : ℕ). take c (drop c (set l n x))) (sym e)
      ∙ ap (take c) (drop-set-add c l (i - c) x)
      ∙ take-set-le c (drop c l) (i - c) x (omega arith)

  pub pushed_walks : take c (drop c two) ≡ take c (drop c sc)
  unfolding stacked
  pushed_walks = walks_past one (at + 1) t (omega arith) ∙ walks_past sc at s (omega arith)

  pub pushed_beneath : Beneath c top sc two
  unfolding stacked
  pushed_beneath =
      record {
        size = length-set one (at + 1) t ∙ length-set sc at s;
        entries = λ n le l. get_or-set_other one (at + 1) n t 0 (λ e. omega arith) ∙ get_or-set_other sc at n s 0 (λ e. omega arith);
      }

  pub pushed_first : first_of c two top ≡ s
  unfolding stacked
  pushed_first = get_or-set_other one (at + 1) at t 0 (λ e. omega arith) ∙ get_or-set_same sc at s 0 (omega arith)

  pub pushed_second : second_of c two top ≡ t
  unfolding stacked
  pushed_second = get_or-set_same one (at + 1) t 0 (omega (arith, length-set sc at s))

  pub pushed_pending : (h : Heap) → pending h c two (top + 1) ≡ wanted h s t ++ pending h c sc top
  unfolding pending
  pushed_pending h =
      ap (pending h c two) (add-one top)
      ∙ (λ i. wanted h (pushed_first i) (pushed_second i) ++ pending_same c top sc two pushed_beneath h top (omega arith) i)

-- ---- the second part changed

module _ (c : ℕ) (sc : List ℕ) (long : 8 * c + 128 ≤ length sc) (k : List ℕ) (same : length k ≡ c) where
  abbrev mid : List ℕ
  mid = take c sc ++ (k ++ drop (c + c) sc)

  mid_front_size : length (take c sc) ≡ c
  mid_front_size = length-take-le c sc (omega arith)

  pub mid_front : take c mid ≡ take c sc
  mid_front = take_at (take c sc) (k ++ drop (c + c) sc) c mid_front_size

  mid_back : drop c mid ≡ k ++ drop (c + c) sc
  mid_back = drop_at (take c sc) (k ++ drop (c + c) sc) c mid_front_size

  pub mid_walks : take c (drop c mid) ≡ k
  mid_walks = ap (take c) mid_back ∙ take_at k (drop (c + c) sc) c same

  mid_past : drop (c + c) mid ≡ drop (c + c) sc
  mid_past =
      sym (drop-drop c c mid) ∙ ap (drop c) mid_back ∙ drop_at k (drop (c + c) sc) c same

  mid_length : length mid ≡ length sc
  mid_length =
      omega (
        arith,
        length-append (take c sc) (k ++ drop (c + c) sc),
        mid_front_size,
        length-append k (drop (c + c) sc),
        length-drop (c + c) sc,
      )

  pub mid_beneath : (top : ℕ) → Beneath c top sc mid
  mid_beneath top =
      record {
        size = mid_length;
        entries = λ n le l.
            let e : (c + c) + (n - (c + c)) ≡ n = omega arith in
            ap (λ (x : ℕ). get_or mid x 0) (sym e)
            ∙ sym (get_or-drop (c + c) mid (n - (c + c)) 0)
            ∙ ap (λ (m : List ℕ). get_or m (n - (c + c)) 0) mid_past
            ∙ get_or-drop (c + c) sc (n - (c + c)) 0
            ∙ ap (λ (x : ℕ). get_or sc x 0) e;
      }
