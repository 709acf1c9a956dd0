-- `unhex`: one pair more.
use Rattle.std.proofs.Common.{◌≡◌, ℕ, ◌+◌, ◌*◌, Some, slice_index, slice_set, rules, arith, ⊎_elim, ap, subst, sym, ◌∙◌}
use Rattle.std.proofs.lemmas.Bool.{cases_lt}
use Rattle.std.proofs.lemmas.List.{get_or-set_same, get_or-set_other}
use Rattle.stored_cases.specs.Digits.{pair_of}
use Rattle.stored_cases.proofs.unhex.Goals as goal

pub loop-n-preserved : goal.loop-n-preserved
loop-n-preserved c = λ k p.
    let n = c.loop-n.n in
    let b = c.in-Some.byte in
    let P : ℕ → Type 0 = λ j. pair_of (slice_index c.args.text.now (2 * j)) (slice_index c.args.text.now (2 * j + 1)) ≡ Some (slice_index (slice_set c.loop-n.bytes n b) j) in
    ⊎_elim
    (λ before. c.loop-n.invariant k before ∙ ap Some (sym (get_or-set_other c.loop-n.bytes n k b 0 (omega arith))))
    (λ last. let this : n ≡ k = omega arith in subst P this (search (rules, get_or-set_same)))
    (cases_lt k n)
