-- `heap_eqv::same_text`: one part, or both byte by byte. Assumes nothing.
use mathlib.Core.Path.{◌∙◌}
use Rattle.laws.specs.Basics.{same}
use Rattle.leaf_names.proofs.Shown.{same_shown}
use Rattle.heap_eqv.proofs.WordLaws.{same_part}
use Rattle.heap_eqv.proofs.same_text.Goals as goal

pub returns-then-m-n : goal.returns-then-m-n
returns-then-m-n c = same_part c.args.bytes.now c.args.p c.args.m c.args.q c.args.n c.if-p-q.true c.if-m-n.true

pub returns : goal.returns
returns c = c.eq.ensures ∙ same_shown _ _ ∙ (λ j. same (c.text.ensures j) (c.text-2.ensures j))
