-- Texts of lists, one item at a time. Assumes nothing.
use Rattle.std.proofs.Common.{◌≡◌, ℕ, ◌+◌, ◌<◌, List, [], ◌∷◌, ◌++◌, length, take, get_or, Option, Some, None, refl, sym, ap, ◌∙◌, rules}
use Rattle.std.proofs.lemmas.List.{append_assoc, take_more, flat_map_more}
use Rattle.std.specs.Fmt.{◌++?◌}
use Rattle.stored_cases.specs.Shown.{spaced, two_digits, hexed}

pub hexed_more : (bs : List ℕ) (i : ℕ) → i < length bs → hexed (take i bs) ++ two_digits (get_or bs i 0) ≡ hexed (take (i + 1) bs)
hexed_more bs i p = flat_map_more two_digits [] (take i bs) (get_or bs i 0) ∙ ap hexed (sym (take_more bs i 0 p))

then_assoc : (a b c : Option (List ℕ)) → (a ++? b) ++? c ≡ a ++? (b ++? c)
then_assoc None b c = refl
then_assoc (Some a) None c = refl
then_assoc (Some a) (Some b) None = refl
then_assoc (Some a) (Some b) (Some c) = ap Some (append_assoc a b c)

then_nothing : (o : Option (List ℕ)) → o ++? Some [] ≡ o
then_nothing None = refl
then_nothing (Some a) = ap Some (search rules)

nothing_then : (o : Option (List ℕ)) → Some [] ++? o ≡ o
nothing_then None = refl
nothing_then (Some a) = refl

module _ {X : Type 0} (text : X → Option (List ℕ)) where
  spaced_push : (xs : List X) (x : X) → spaced text (xs ++ x ∷ []) ≡ spaced text xs ++? (text x ++? Some (32 ∷ []))
  spaced_push [] x = ap (λ o. text x ++? o) (then_nothing (Some (32 ∷ []))) ∙ sym (nothing_then _)
  spaced_push (y ∷ xs) x =
      ap (λ o. text y ++? (Some (32 ∷ []) ++? o)) (spaced_push xs x)
      ∙ ap (λ o. text y ++? o) (sym (then_assoc (Some (32 ∷ [])) (spaced text xs) _))
      ∙ sym (then_assoc (text y) (Some (32 ∷ []) ++? spaced text xs) _)

  pub spaced_more : (xs : List X) (i : ℕ) (x : X) → i < length xs → x ≡ get_or xs i x → spaced text (take (i + 1) xs) ≡ spaced text (take i xs) ++? (text x ++? Some (32 ∷ []))
  spaced_more xs i x p is = ap (spaced text) (take_more xs i x p ∙ ap (λ y. take i xs ++ y ∷ []) (sym is)) ∙ spaced_push (take i xs) x
