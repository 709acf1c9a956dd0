-- `heap_tally::Tally::step`: one more node, then its label if it has one. Assumes nothing.
use Rattle.std.proofs.Common.{true, false, ap, ◌∙◌}
use Rattle.heap_tally.specs.Pass.{tally_of, mentioned}
use Rattle.heap_tally.proofs.StepLaws.{counted_is, as_step, label_stays}
use Rattle.heap_tally.proofs.tallied.Tally.step.Goals as goal

pub returns-in-Ref : goal.returns-in-Ref
returns-in-Ref c =
    let t = tally_of c.args.self.now in
    let w = c.within.result in
    λ n s.
    c.mention.ensures ∙ ap (mentioned true c.in-Ref.label) (counted_is t w)
    ∙ as_step t w n c.in-Ref.is s (c.within.ensures n s)

pub returns-in-Def : goal.returns-in-Def
returns-in-Def c =
    let t = tally_of c.args.self.now in
    let w = c.within.result in
    λ n s.
    c.mention-in-Def.ensures ∙ ap (mentioned false c.in-Def.label) (counted_is t w)
    ∙ as_step t w n c.in-Def.is s (c.within.ensures n s)

pub returns-in_default : goal.returns-in_default
returns-in_default c =
    let t = tally_of c.args.self.now in
    let w = c.within.result in
    λ n s.
    counted_is t w
    ∙ label_stays c.args.node t w n c.in_default.not-Ref c.in_default.not-Def s (c.within.ensures n s)
