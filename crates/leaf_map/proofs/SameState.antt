-- Two states are the same where their numbers are. Assumes nothing.
use mathlib.Core.Path.{◌≡◌, refl, sym, ap, ◌∙◌}
use mathlib.Core.Bool.{Bool, true, false}
use Prim.Native.Nat.{ℕ}
use lib.Dec.{eqb}
use borrow.Author.Tests.{eqb-true, eqb-false}
use denote.Enum.Bare.{sameb}
use Rattle.leaf_map.specs.contracts.State.{the_type}
use Rattle.leaf_map.specs.declared.State.{State}
use Rattle.leaf_map.specs.declared.State.TheVariants.{Free, Allocated, Used, Three}
use Rattle.leaf_map.specs.States.{number_of}

pub same_number : (s t : State) → sameb the_type s t ≡ eqb (number_of s) (number_of t)
same_number Free Free = refl
same_number Free Allocated = refl
same_number Free Used = refl
same_number Free Three = refl
same_number Allocated Free = refl
same_number Allocated Allocated = refl
same_number Allocated Used = refl
same_number Allocated Three = refl
same_number Used Free = refl
same_number Used Allocated = refl
same_number Used Used = refl
same_number Used Three = refl
same_number Three Free = refl
same_number Three Allocated = refl
same_number Three Used = refl
same_number Three Three = refl

-- what `==` says of a state whose number is n
module _ {r : Bool} {n : ℕ} (s t : State) (e : r ≡ sameb the_type s t) (is : number_of s ≡ n) where
  tested : r ≡ eqb n (number_of t)
  tested = e ∙ same_number s t ∙ ap (λ (m : ℕ). eqb m (number_of t)) is

  pub is_state : r ≡ true → n ≡ number_of t
  is_state p = eqb-true n (number_of t) (sym tested ∙ p)

  pub other_state : r ≡ false → n ≡ number_of t → ⊥
  other_state p = eqb-false n (number_of t) (sym tested ∙ p)
