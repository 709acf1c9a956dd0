-- A block written at the start of a list's tail. Assumes nothing.
use mathlib.Core.Path.{◌≡◌, refl, sym, ap, ◌∙◌}
use mathlib.Core.Bool.{Bool}
use mathlib.Core.List.{List, [], ◌∷◌, ◌++◌, append-nil}
use Prim.Native.Nat.{ℕ, zero, suc, ◌+◌, ◌-◌, ◌*◌, ◌≤◌, ◌<◌}
use native.Mathlib.Omega.{arith}
use native.Mathlib.Nat.{zero-add}
use borrow.Author.Tests.{eq-eqb, ne_eqb}
use borrow.Rule.Slice.PartMut.{put_mid, mid_of}
use lib.ListN.{length, get_or, take, drop, set, length-drop}
use lib.Seq.{sets-eq, drop-drop, take_all}
use Rattle.laws.specs.Basics.{choose}
use Rattle.laws.proofs.Pointwise.{length_part}
use Rattle.rules.specs.Cells.{block}
use Rattle.rules.specs.Heap.{part_of}
use Rattle.leaf_rooms.specs.Rooms.{stored}
use Rattle.heap_pack.specs.Moves.{new_or, TextMoved, ElementsMoved}

drop_all : {A : Type 0} (n : ℕ) (l : List A) → length l ≤ n → drop n l ≡ []
drop_all zero [] h = refl
drop_all zero (x ∷ l) h = absurd (omega arith)
drop_all (suc n) [] h = refl
drop_all (suc n) (x ∷ l) h = drop_all n l (omega arith)

-- the tail that was lent on begins with the part
pub tail_written : (l part ys : List ℕ) (at : ℕ) → at + length part ≤ length l → ys ≡ stored (mid_of at (length l - at) l) 0 part → put_mid at (length l - at) l ys ≡ take at l ++ (part ++ drop (at + length part) l)
unfolding stored
tail_written l part ys at h e =
    let whole : take (length l - at) (drop at l) ≡ drop at l = take_all (length l - at) (drop at l) (omega (arith, length-drop at l)) in
    let nothing : drop (length l - at) (drop at l) ≡ [] = drop_all (length l - at) (drop at l) (omega (arith, length-drop at l)) in
    ap (λ (x : List ℕ). take at l ++ (ys ++ x)) nothing
    ∙ ap (λ (x : List ℕ). take at l ++ x) (append-nil ys ∙ e ∙ ap (λ (x : List ℕ). stored x 0 part) whole ∙ sets-eq part (drop at l) 0 (omega (arith, length-drop at l)))
    ∙ ap (λ (x : List ℕ). take at l ++ (part ++ x)) (ap (λ (k : ℕ). drop k (drop at l)) (zero-add (length part)) ∙ drop-drop (length part) at l)

-- ---- the two cases of a move

module _ {A : Type 0} (table : List ℕ) (place : ℕ) (x y : A) where
  pub is_new : get_or table place 0 ≡ 0 → x ≡ new_or table place x y
  is_new e = sym (ap (λ (b : Bool). choose b x y) (eq-eqb (get_or table place 0) 0 e))

  pub is_known : 0 < get_or table place 0 → y ≡ new_or table place x y
  is_known h = sym (ap (λ (b : Bool). choose b x y) (ne_eqb (get_or table place 0) 0 (λ e. omega (arith, e))))

pub text_known : (bytes old table : List ℕ) (at place size : ℕ) → 0 < get_or table place 0 → TextMoved bytes old table at place size bytes table (record { to = get_or table place 0 - 1; at = at })
text_known bytes old table at place size h =
    record {
      to = is_known table place _ _ h;
      end = is_known table place _ _ h;
      bytes_are = is_known table place _ _ h;
      table_is = is_known table place _ _ h;
    }

pub text_new : (bytes old table : List ℕ) (at place size : ℕ) (ys : List ℕ) → get_or table place 0 ≡ 0 → place + size ≤ length old → at + size ≤ length bytes → ys ≡ stored (mid_of at (length bytes - at) bytes) 0 (mid_of place (place + size - place) old) → TextMoved bytes old table at place size (put_mid at (length bytes - at) bytes ys) (set table place (at + 1)) (record { to = at; at = at + size })
text_new bytes old table at place size ys e inside fits w =
    let n : place + size - place ≡ size = omega arith in
    let p : mid_of place (place + size - place) old ≡ part_of old (block place size) = ap (λ (k : ℕ). take k (drop place old)) n in
    let long : length (part_of old (block place size)) ≡ size = length_part old place size inside in
    record {
      to = is_new table place _ _ e;
      end = is_new table place _ _ e;
      bytes_are =
          tail_written bytes (part_of old (block place size)) ys at (omega (arith, long)) (w ∙ ap (stored (mid_of at (length bytes - at) bytes) 0) p)
          ∙ ap (λ (k : ℕ). take at bytes ++ (part_of old (block place size) ++ drop (at + k) bytes)) long
          ∙ is_new table place _ _ e;
      table_is = is_new table place _ _ e;
    }

pub part_fits : (bytes old : List ℕ) (at place size : ℕ) → place + size ≤ length old → at + size ≤ length bytes → 0 + length (mid_of place (place + size - place) old) ≤ length (mid_of at (length bytes - at) bytes)
part_fits bytes old at place size inside fits =
    let n : place + size - place ≡ size = omega arith in
    omega (
      arith,
      ap (λ (k : ℕ). length (take k (drop place old))) n,
      length_part old place size inside,
      ap length (take_all (length bytes - at) (drop at bytes) (omega (arith, length-drop at bytes))),
      length-drop at bytes,
    )

-- ---- the same of elements

pub elements_known : (elems old table : List ℕ) (at place size : ℕ) → 0 < get_or table place 0 → ElementsMoved elems old table at place size elems table (record { to = get_or table place 0 - 1; at = at })
elements_known elems old table at place size h =
    record {
      to = is_known table place _ _ h;
      end = is_known table place _ _ h;
      elems_are = is_known table place _ _ h;
      table_is = is_known table place _ _ h;
    }

pub elements_new : (elems old table : List ℕ) (at place size : ℕ) (ys : List ℕ) → get_or table place 0 ≡ 0 → 3 * place + 3 * size ≤ length old → 3 * at + 3 * size ≤ length elems → ys ≡ stored (mid_of (3 * at) (length elems - 3 * at) elems) 0 (mid_of (3 * place) (3 * place + 3 * size - 3 * place) old) → ElementsMoved elems old table at place size (put_mid (3 * at) (length elems - 3 * at) elems ys) (set table place (at + 1)) (record { to = at; at = at + size })
elements_new elems old table at place size ys e inside fits w =
    let n : 3 * place + 3 * size - 3 * place ≡ 3 * size = omega arith in
    let part : List ℕ = part_of old (block (3 * place) (3 * size)) in
    let p : mid_of (3 * place) (3 * place + 3 * size - 3 * place) old ≡ part = ap (λ (k : ℕ). take k (drop (3 * place) old)) n in
    let long : length part ≡ 3 * size = length_part old (3 * place) (3 * size) inside in
    let next : 3 * at + length part ≡ 3 * (at + size) = omega (arith, long) in
    record {
      to = is_new table place _ _ e;
      end = is_new table place _ _ e;
      elems_are =
          tail_written elems part ys (3 * at) (omega (arith, long)) (w ∙ ap (stored (mid_of (3 * at) (length elems - 3 * at) elems) 0) p)
          ∙ ap (λ (k : ℕ). take (3 * at) elems ++ (part ++ drop k elems)) next
          ∙ is_new table place _ _ e;
      table_is = is_new table place _ _ e;
    }
