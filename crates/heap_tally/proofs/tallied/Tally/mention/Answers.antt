-- `heap_tally::Tally::mention`: a label that is known, one too many, or new. Assumes nothing.
use Rattle.std.proofs.Common.{sym, ap, ◌∙◌, rules, arith, ◌||◌, ◌<◌}
use Rattle.heap_tally.specs.Pass.{tally_of, tally}
use Rattle.heap_tally.proofs.StepLaws.{member_any, mention_known, mention_full, mention_new, kept_size, kept_grown}
use Rattle.heap_tally.proofs.tallied.Tally.mention.Goals as goal

pub returns-then-contains : goal.returns-then-contains
returns-then-contains c =
    let t = tally_of c.args.self.now in
    mention_known t c.args.refers c.args.label (sym (member_any c.args.label t.labels) ∙ (cc))

pub returns-then-self-eq-LABELS : goal.returns-then-self-eq-LABELS
returns-then-self-eq-LABELS c =
    let t = tally_of c.args.self.now in
    mention_full t c.args.refers c.args.label (sym (member_any c.args.label t.labels) ∙ (cc))
    (kept_size c.args.self.now.known c.args.self.now.labels (search rules) c.args.self.now.kept ∙ c.if-self-eq-LABELS.true)

pub returns : goal.returns
returns c =
    let t = tally_of c.args.self.now in
    let below : c.args.self.now.known < 64 = omega (arith, c.args.self.now.kept, c.if-self-eq-LABELS.false) in
    ap (λ ls. tally t.nodes t.over (t.early || c.args.refers) ls) (kept_grown c.args.self.now.known c.args.self.now.labels c.args.label (search rules) below)
    ∙ mention_new t c.args.refers c.args.label (sym (member_any c.args.label t.labels) ∙ (cc))
    (omega (arith, kept_size c.args.self.now.known c.args.self.now.labels (search rules) c.args.self.now.kept))
