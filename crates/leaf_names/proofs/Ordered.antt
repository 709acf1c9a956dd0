-- The order of names and keys is total: level exactly where the two are equal, turned round by turning the two round, and
-- what stands before stands before what follows. Assumes nothing.
use mathlib.Core.Path.{◌≡◌, refl, sym, ap, ◌∙◌}
use mathlib.Core.Bool.{Bool, true, false}
use mathlib.Core.List.{List, [], ◌∷◌}
use mathlib.Core.Logic.{◌⊎◌, inl, inr}
use Prim.Native.Nat.{ℕ, ◌<◌}
use native.Mathlib.Omega.{arith}
use borrow.Author.Tests.{ltb-true, ltb-false, lt-ltb, le-ltb, eq-eqb, ne_eqb}
use lib.Dec.{ltb, eqb}
use Rattle.laws.specs.Basics.{same, basics}
use Rattle.laws.proofs.Tests.{true≢false, same_refl, same_equal}
use Rattle.leaf_names.specs.Ordering.{Standing, before, level, after, flip, then, is_level, not_after, number_compare, name_compare, Key, key_compare}

-- ---- standings

pub level_is : (s : Standing) → is_level s ≡ true → s ≡ level
level_is before e = absurd (true≢false (sym e))
level_is level e = refl
level_is after e = absurd (true≢false (sym e))

pub not_level_is : (s : Standing) → is_level s ≡ false → s ≡ level → ⊥
not_level_is s e l = true≢false (sym (ap is_level l) ∙ e)

pub after_is : (s : Standing) → not_after s ≡ false → s ≡ after
after_is before e = absurd (true≢false e)
after_is level e = absurd (true≢false e)
after_is after e = refl

flip_then : (s t : Standing) → flip (then s t) ≡ then (flip s) (flip t)
flip_then before t = refl
flip_then level t = refl
flip_then after t = refl

then_level_left : (s t : Standing) → then s t ≡ level → s ≡ level
then_level_left before t e = e
then_level_left level t e = refl
then_level_left after t e = e

then_level_right : (s t : Standing) → then s t ≡ level → t ≡ level
then_level_right before t e = absurd (not_level_is before refl e)
then_level_right level t e = e
then_level_right after t e = absurd (not_level_is after refl e)

-- two steps that are not back make one: before where either is, else level
abbrev pub Chain : Standing → Standing → Standing → Type 0
Chain p q r = not_after p ≡ true → not_after q ≡ true → r ≡ then p q

back : {A : Type 0} {s : Standing} → s ≡ after → not_after s ≡ true → A
back e h = absurd (true≢false (sym h ∙ ap not_after e))

chain_then : (p q r s t u : Standing) → Chain p q r → Chain s t u → Chain (then p s) (then q t) (then r u)
chain_then before before r s t u c d h k = ap (λ (x : Standing). then x u) (c refl refl)
chain_then before level r s t u c d h k = ap (λ (x : Standing). then x u) (c refl refl)
chain_then before after r s t u c d h k = back refl k
chain_then level before r before t u c d h k = ap (λ (x : Standing). then x u) (c refl refl)
chain_then level before r level t u c d h k = ap (λ (x : Standing). then x u) (c refl refl)
chain_then level before r after t u c d h k = back refl h
chain_then level level r s t u c d h k = ap (λ (x : Standing). then x u) (c refl refl) ∙ d h k
chain_then level after r s t u c d h k = back refl k
chain_then after q r s t u c d h k = back refl h

-- ---- numbers

pub data Trichotomy (x y : ℕ) : Type 0 where
  less : x < y → Trichotomy x y
  equal : x ≡ y → Trichotomy x y
  more : y < x → Trichotomy x y

pub trichotomy : (x y : ℕ) → Trichotomy x y
trichotomy x y = by (ltb x y) (ltb y x) refl refl
  where
    by : (b c : Bool) → ltb x y ≡ b → ltb y x ≡ c → Trichotomy x y
    by true c e f = less (ltb-true x y e)
    by false true e f = more (ltb-true y x f)
    by false false e f = equal (omega (arith, ltb-false x y e, ltb-false y x f))

module _ (x y : ℕ) where
  pub number_before : x < y → number_compare x y ≡ before
  unfolding number_compare
  number_before h = rw (lt-ltb x y h)

  pub number_level : x ≡ y → number_compare x y ≡ level
  unfolding number_compare
  number_level e = rw (le-ltb x y (omega arith), le-ltb y x (omega arith))

  pub number_after : y < x → number_compare x y ≡ after
  unfolding number_compare
  number_after h = rw (le-ltb x y (omega arith), lt-ltb y x h)

pub number_level_is : (x y : ℕ) → number_compare x y ≡ level → x ≡ y
number_level_is x y e =
    elim (trichotomy x y) [
      | less h ↦ absurd (not_level_is before refl (sym (number_before x y h) ∙ e))
      | equal h ↦ h
      | more h ↦ absurd (not_level_is after refl (sym (number_after x y h) ∙ e))
    ]

pub number_same : (x y : ℕ) → eqb x y ≡ is_level (number_compare x y)
number_same x y =
    elim (trichotomy x y) [
      | less h ↦ rw (number_before x y h, ne_eqb x y (λ e. omega arith))
      | equal h ↦ rw (number_level x y h, eq-eqb x y h)
      | more h ↦ rw (number_after x y h, ne_eqb x y (λ e. omega arith))
    ]

pub number_flip : (x y : ℕ) → number_compare y x ≡ flip (number_compare x y)
number_flip x y =
    elim (trichotomy x y) [
      | less h ↦ rw (number_before x y h, number_after y x h)
      | equal h ↦ rw (number_level x y h, number_level y x (sym h))
      | more h ↦ rw (number_after x y h, number_before y x h)
    ]

pub number_chain : (x y z : ℕ) → Chain (number_compare x y) (number_compare y z) (number_compare x z)
number_chain x y z h k =
    elim (trichotomy x y) [
      | less p ↦
          elim (trichotomy y z) [
            | less q ↦ rw (number_before x y p, number_before x z (omega arith))
            | equal q ↦ rw (number_before x y p, number_before x z (omega arith))
            | more q ↦ back (number_after y z q) k
          ]
      | equal p ↦ rw (number_level x y p) (ap (λ (n : ℕ). number_compare n z) p)
      | more p ↦ back (number_after x y p) h
    ]

-- ---- names

pub name_flip : (xs ys : List ℕ) → name_compare ys xs ≡ flip (name_compare xs ys)
unfolding name_compare
name_flip [] [] = refl
name_flip [] (y ∷ ys) = refl
name_flip (x ∷ xs) [] = refl
name_flip (x ∷ xs) (y ∷ ys) =
    (λ i. then (number_flip x y i) (name_flip xs ys i)) ∙ sym (flip_then (number_compare x y) (name_compare xs ys))

pub name_chain : (xs ys zs : List ℕ) → Chain (name_compare xs ys) (name_compare ys zs) (name_compare xs zs)
unfolding name_compare
name_chain [] [] zs h k = refl
name_chain [] (y ∷ ys) [] h k = back refl k
name_chain [] (y ∷ ys) (z ∷ zs) h k = refl
name_chain (x ∷ xs) [] zs h k = back refl h
name_chain (x ∷ xs) (y ∷ ys) [] h k = back refl k
name_chain (x ∷ xs) (y ∷ ys) (z ∷ zs) h k =
    chain_then (number_compare x y) (number_compare y z) (number_compare x z) (name_compare xs ys) (name_compare ys zs)
    (name_compare xs zs) (number_chain x y z) (name_chain xs ys zs) h k

-- level exactly where `same` is true
pub same_level : (xs ys : List ℕ) → same xs ys ≡ is_level (name_compare xs ys)
unfolding name_compare basics
same_level [] [] = refl
same_level [] (y ∷ ys) = refl
same_level (x ∷ xs) [] = refl
same_level (x ∷ xs) (y ∷ ys) =
    elim (trichotomy x y) [
      | less h ↦ rw (number_before x y h, ne_eqb x y (λ e. omega arith))
      | equal h ↦ rw (number_level x y h, eq-eqb x y h) (same_level xs ys)
      | more h ↦ rw (number_after x y h, ne_eqb x y (λ e. omega arith))
    ]

pub name_level : (xs : List ℕ) → name_compare xs xs ≡ level
name_level xs = level_is (name_compare xs xs) (sym (same_level xs xs) ∙ same_refl xs)

pub name_level_is : (xs ys : List ℕ) → name_compare xs ys ≡ level → xs ≡ ys
name_level_is xs ys e = same_equal xs ys (same_level xs ys ∙ ap is_level e)

-- one of the two does not stand after the other
pub total : (s : Standing) → (not_after s ≡ true) ⊎ (not_after (flip s) ≡ true)
total before = inl refl
total level = inl refl
total after = inr refl

pub name_total : (xs ys : List ℕ) → (not_after (name_compare xs ys) ≡ true) ⊎ (not_after (name_compare ys xs) ≡ true)
name_total xs ys = rw (name_flip xs ys) (total (name_compare xs ys))

-- what stands before stands before what follows
pub name_before : (xs ys zs : List ℕ) → name_compare xs ys ≡ before → name_compare ys zs ≡ before → name_compare xs zs ≡ before
name_before xs ys zs e f =
    name_chain xs ys zs (ap not_after e) (ap not_after f) ∙ (λ i. then (e i) (f i))

-- ---- keys: name, then scope

module _ (k l : Key) where
  pub key_flip : key_compare l k ≡ flip (key_compare k l)
  unfolding key_compare
  key_flip =
      (λ i. then (name_flip k.name l.name i) (number_flip k.scope l.scope i))
      ∙ sym (flip_then (name_compare k.name l.name) (number_compare k.scope l.scope))

  pub key_level : k ≡ l → key_compare k l ≡ level
  unfolding key_compare
  key_level e =
      ap (λ (m : Key). key_compare k m) (sym e)
      ∙ (λ i. then (name_level k.name i) (number_level k.scope k.scope refl i))

  pub key_level_is : key_compare k l ≡ level → k ≡ l
  unfolding key_compare
  key_level_is e =
      let n = name_level_is k.name l.name (then_level_left (name_compare k.name l.name) (number_compare k.scope l.scope) e) in
      let s = number_level_is k.scope l.scope (then_level_right (name_compare k.name l.name) (number_compare k.scope l.scope) e) in
      λ i. record { name = n i; scope = s i }

  pub key_total : (not_after (key_compare k l) ≡ true) ⊎ (not_after (key_compare l k) ≡ true)
  key_total = rw key_flip (total (key_compare k l))

pub key_chain : (k l m : Key) → Chain (key_compare k l) (key_compare l m) (key_compare k m)
unfolding key_compare
key_chain k l m h j =
    chain_then (name_compare k.name l.name) (name_compare l.name m.name) (name_compare k.name m.name)
    (number_compare k.scope l.scope) (number_compare l.scope m.scope) (number_compare k.scope m.scope)
    (name_chain k.name l.name m.name) (number_chain k.scope l.scope m.scope) h j

pub key_before : (k l m : Key) → key_compare k l ≡ before → key_compare l m ≡ before → key_compare k m ≡ before
key_before k l m e f = key_chain k l m (ap not_after e) (ap not_after f) ∙ (λ i. then (e i) (f i))

-- neither after the other: the same key
pub key_antisym : (k l : Key) → not_after (key_compare k l) ≡ true → not_after (key_compare l k) ≡ true → k ≡ l
key_antisym k l h j = by (key_compare k l) refl
  where
    by : (s : Standing) → key_compare k l ≡ s → k ≡ l
    by before e = back (key_flip k l ∙ ap flip e) j
    by level e = key_level_is k l e
    by after e = back e h

pub then_not_after : (s t : Standing) → not_after s ≡ true → not_after t ≡ true → not_after (then s t) ≡ true
then_not_after before t h k = refl
then_not_after level t h k = k
then_not_after after t h k = h
