-- What a comparison does behind its first tests: the rules' own text of the call, from where what was given is a value. Assumes
-- nothing.
use Rattle.std.specs.Prelude.{◌≡◌, Bool, not, List, [], ◌∷◌, ℕ}
use Rattle.laws.specs.Basics.{both}
use Rattle.rules.specs.Refusals.{no_such_slot, Answer, accepted, refused, ◌⇒◌, unless, refusals}
use Rattle.rules.specs.Cells.{Value}
use Rattle.rules.specs.Heap.{Heap}
use Rattle.rules.specs.Layout.{Lent, heap_of}
use Rattle.rules.specs.Equal.{eqv}
use Rattle.rules.specs.Calls.{given_value, of_answer, value_in_use, cleared, EqualLeft, EqualValues}

-- `eqv` behind 20 and 11: 14
unfoldable pub eqv_behind : Lent → Value → Value → Answer Bool
unfolding refusals
eqv_behind l v w =
    let h = heap_of l in
    unless ((not (both (value_in_use h v) (value_in_use h w)) ⇒ no_such_slot) ∷ []) (accepted (eqv h v w)) (λ r. refused r)

-- `eqv` behind 20 and the first value's 11: the second's 11, 14
unfoldable pub second_behind : Lent → Value → ℕ → ℕ → Answer Bool
unfolding eqv_behind of_answer
second_behind l v kind a = of_answer (given_value kind a) (λ w. eqv_behind l v w) (λ r. refused r)

-- `equal` behind 20, 19 and the first value's 11: the second's 11, 14
unfoldable pub EqualSecond : Heap → List ℕ → Value → ℕ → ℕ → EqualLeft → Type 0
unfolding of_answer
EqualSecond h scratch v kind a r =
    of_answer (given_value kind a) (λ w. EqualValues h scratch v w r)
    (λ n. r ≡ record { answer = refused n; scratch = cleared scratch })
