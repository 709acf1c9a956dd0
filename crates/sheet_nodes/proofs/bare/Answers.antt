-- `sheet_nodes::bare`: not empty, or empty. Assumes nothing.
use borrow.Author.Tests.{eqb-true, eqb-false}
use mathlib.Core.Path.{sym, ◌∙◌}
use Rattle.sheet_nodes.proofs.NodeLaws.{bare_good, bare_bad}
use Rattle.sheet_nodes.proofs.bare.Goals as goal

pub returns-then-not-is_empty : goal.returns-then-not-is_empty
returns-then-not-is_empty c = bare_bad c.args.out.now c.args.value.now c.args.at c.args.kind c.args.follow (eqb-false _ _ (sym c.is_empty.ensures ∙ c.if-not-is_empty.true))

pub returns : goal.returns
returns c = bare_good c.args.out.now c.args.value.now c.args.at c.args.kind c.args.follow (eqb-true _ _ (sym c.is_empty.ensures ∙ c.if-not-is_empty.false)) c.requires
