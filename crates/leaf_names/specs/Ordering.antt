-- The order of names: "ordered by name bytes, a shorter name before a longer one that begins with it, then by scope".
-- Assumes nothing.
use Rattle.std.specs.Prelude.{Bool, true, false, List, [], ◌∷◌, ℕ, ltb}
use Rattle.laws.specs.Basics.{choose}
use Rattle.std.specs.declared.cmp.Ordering.{Ordering}
use Rattle.std.specs.declared.cmp.Ordering.TheVariants.{Less, Equal, Greater}

-- how one thing stands to another
pub data Standing : Type 0 where
  before : Standing
  level : Standing
  after : Standing

-- an answer of the code as the standing that it means
abbrev pub shown : Ordering → Standing
shown Less = before
shown Equal = level
shown Greater = after

-- the other way round
abbrev pub flip : Standing → Standing
flip before = after
flip level = level
flip after = before

-- the first decides, and where it is level the second does
abbrev pub then : Standing → Standing → Standing
then before s = before
then level s = s
then after s = after

abbrev pub is_level : Standing → Bool
is_level before = false
is_level level = true
is_level after = false

abbrev pub not_after : Standing → Bool
not_after before = true
not_after level = true
not_after after = false

unfoldable pub number_compare : ℕ → ℕ → Standing
number_compare x y = choose (ltb x y) before (choose (ltb y x) after level)

-- by the first byte that differs; a shorter name before a longer one that begins with it
unfoldable pub name_compare : List ℕ → List ℕ → Standing
unfolding number_compare
name_compare [] [] = level
name_compare [] (y ∷ ys) = before
name_compare (x ∷ xs) [] = after
name_compare (x ∷ xs) (y ∷ ys) = then (number_compare x y) (name_compare xs ys)

-- what a table's entry is found under
pub record Key : Type 0 where
  pub name : List ℕ
  pub scope : ℕ

-- "by name bytes, .. then by scope"
unfoldable pub key_compare : Key → Key → Standing
unfolding number_compare name_compare
key_compare k l = then (name_compare k.name l.name) (number_compare k.scope l.scope)

-- every word above opens by this one name
unfoldable pub ordering : Unit {0}
unfolding number_compare name_compare key_compare
ordering = tt
