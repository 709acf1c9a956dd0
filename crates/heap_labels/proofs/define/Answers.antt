-- `heap_labels::define`: a label that is there gets its new slot, another is added behind the rest. Assumes nothing.
use Rattle.std.proofs.Common.{◌≡◌, ◌<◌, ◌≤◌, ℕ, Option, Some, None, IfSome, is_some, unwrap_or, true, false, sym, ◌∙◌, arith}
use Rattle.laws.proofs.Tests.{true≢false}
use Rattle.heap_labels.proofs.LabelLaws.{defined_old, defined_new}
use Rattle.heap_labels.proofs.define.Goals as goal

below_some : (o : Option ℕ) (n : ℕ) → is_some o ≡ true → IfSome o (λ i. i < n) → unwrap_or o n < n
below_some (Some i) n e h = h
below_some None n e h = absurd (true≢false (sym e))

end_none : (o : Option ℕ) (n : ℕ) → is_some o ≡ false → n ≤ unwrap_or o n
end_none (Some i) n e = absurd (true≢false e)
end_none None n e = omega arith

pub returns-then-is_some : goal.returns-then-is_some
returns-then-is_some c =
    let p = c.place_of-place in
    defined_old _ _ _ _ _ c.requires (c.unwrap_or-i.ensures ∙ p.ensures.place)
    (omega (arith, c.unwrap_or-i.ensures, below_some p.result c.args.count (sym c.is_some.ensures ∙ c.if-is_some.true) p.ensures.within))

pub returns-else-is_some : goal.returns-else-is_some
returns-else-is_some c =
    let p = c.place_of-place in
    defined_new _ _ _ _ _ c.requires (c.unwrap_or-i.ensures ∙ p.ensures.place)
    (omega (arith, c.unwrap_or-i.ensures, end_none p.result c.args.count (sym c.is_some.ensures ∙ c.if-is_some.false)))
